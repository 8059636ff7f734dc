-- Refusals 6 and 7 of a set, by a table that has room for its declarations. Assumes nothing.
use mathlib.Core.Path.{◌≡◌, sym, ap, ◌∙◌}
use mathlib.Core.Bool.{true, false}
use mathlib.Core.List.{List}
use Prim.Native.Nat.{ℕ, ◌≤◌, ◌<◌, min}
use native.Mathlib.Omega.{arith}
use lib.Dec.{ltb}
use lib.ListN.{length}
use borrow.Author.Tests.{lt-ltb, le-ltb}
use Rattle.base.specs.Choose.{choose}
use Rattle.base.specs.Lists.{first_failing, map_length}
use Rattle.descriptor.specs.Descriptor.{Bytes}
use Rattle.descriptor.specs.Decode.{entries, parts, decode_file, decode_set}
use Rattle.name_rules.specs.Rules.{file_good}
use Rattle.name_rules.specs.Answer.{first_six, first_seven, names}
use Rattle.base.specs.declared.refusal.Refusal.{Refusal}
use Rattle.base.specs.declared.refusal.Refusal.TheVariants.{Declaration, TypeName}
use Rattle.std.specs.Prelude.{Result, Ok, Err}
use Rattle.declarations.specs.Rows.{State, has_room, declared, Became}
use Rattle.declarations.specs.Listed.{listed, listed_files}
use Rattle.declarations.specs.declared.counts.Count.{Count}
use Rattle.declarations.specs.declared.Declaration.{Declaration as Row}
use Rattle.declarations.proofs.SetLaws.{set_listed, set_room}
use Rattle.declared_types.specs.Undeclared.{first_undeclared_row}
use Rattle.declared_types.proofs.SevenLaws.{first_undeclared_is}
use Rattle.map_entries.specs.declared.Namers.{Namers}
use Rattle.map_entries.specs.Named.{naming, first_unnamed}
use Rattle.map_entries.proofs.FailingLaws.{first_six_is}
use Rattle.map_entries.proofs.UnnamedTheorem.{table_unnamed}
use Rattle.set_rules.specs.Room.{Room, row_count}

module _ (bytes : Bytes) where
  module _ (t u : List Row) (column : List Namers) (there : Room bytes t column) (c : Count) (became : Became (declared bytes t) u c) where
    fewer : (row_count bytes ≤ 65536) × (row_count bytes ≤ length t)
    fewer = let s = there.small in let w = there.wide in (omega arith, omega arith)

    lists : listed bytes u c.rows ≡ listed_files 0 0 (decode_set bytes)
    lists = ap (λ (x : State). listed bytes x.table x.rows) became.is ∙ set_listed bytes t (row_count bytes) fewer.0 fewer.1 (omega arith)

    room : (has_room u c.rows ≡ true) × (c.rows ≤ row_count bytes)
    room =
        let r = set_room bytes t (row_count bytes) there.small there.wide (omega arith) in
        (ap (λ (x : State). has_room x.table x.rows) became.is ∙ r.0, (let e = ap (λ (x : State). x.rows) became.is in let q = r.1 in omega arith))

    module _ (rows : ℕ) (rows_are : rows ≡ c.rows) where
      pub six_is : (named : List ℕ) (bad unnamed six : ℕ) → named ≡ naming bytes u rows (length column) → bad ≡ first_failing file_good (decode_set bytes)
          → unnamed ≡ first_unnamed bytes u rows named → six ≡ min bad unnamed → six ≡ first_six (decode_set bytes)
      six_is named bad unnamed six n b u_is s =
          let fit : c.rows ≤ length column = (let r = room.1 in let l = there.long in omega arith) in
          let e = u_is ∙ ap (first_unnamed bytes u rows) n ∙ rw rows_are (table_unnamed bytes t u c (length column) became room.0 lists fit) in
          s ∙ rw (b, e) (sym (first_six_is (decode_set bytes)))

      pub seven_is : (seven : ℕ) → seven ≡ first_undeclared_row bytes u rows → seven ≡ first_seven (decode_set bytes)
      seven_is seven s =
          s ∙ ap (first_undeclared_row bytes u) rows_are ∙ ap (λ (x : State). first_undeclared_row bytes x.table x.rows) became.is
          ∙ first_undeclared_is bytes t (row_count bytes) fewer.0 fewer.1 (omega arith)

  files_are : (files : ℕ) → files ≡ length (parts 1 (entries bytes)) → files ≡ length (decode_set bytes)
  unfolding decode_set
  files_are files e = e ∙ sym (map_length decode_file (parts 1 (entries bytes)))

  module _ (files six : ℕ) (counted : files ≡ length (parts 1 (entries bytes))) (six_first : six ≡ first_six (decode_set bytes)) where
    n : files ≡ length (decode_set bytes)
    n = files_are files counted

    pub answer_six : six < files → ◌≡◌ {A = Result Unit Refusal} (Err (Declaration six)) (names (decode_set bytes))
    unfolding names choose
    answer_six h = let t : ltb (first_six (decode_set bytes)) (length (decode_set bytes)) ≡ true = rw (← six_first, ← n) (lt-ltb six files h) in rw t (ap (λ (file : ℕ). Err (Declaration file)) six_first)

    module _ (past : files ≤ six) (seven : ℕ) (seven_first : seven ≡ first_seven (decode_set bytes)) where
      not_six : ltb (first_six (decode_set bytes)) (length (decode_set bytes)) ≡ false
      not_six = rw (← six_first, ← n) (le-ltb six files past)

      pub answer_seven : seven < files → ◌≡◌ {A = Result Unit Refusal} (Err (TypeName seven)) (names (decode_set bytes))
      unfolding names choose
      answer_seven h =
          let t : ltb (first_seven (decode_set bytes)) (length (decode_set bytes)) ≡ true = rw (← seven_first, ← n) (lt-ltb seven files h) in
          rw (not_six, t) (ap (λ (file : ℕ). Err (TypeName file)) seven_first)

      pub answer_good : files ≤ seven → ◌≡◌ {A = Result Unit Refusal} (Ok tt) (names (decode_set bytes))
      unfolding names choose
      answer_good h =
          let t : ltb (first_seven (decode_set bytes)) (length (decode_set bytes)) ≡ false = rw (← seven_first, ← n) (le-ltb seven files h) in
          rw (not_six, t)
