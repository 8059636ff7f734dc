-- The table of a set lists the declarations of its files in turn. Assumes nothing.
use mathlib.Core.Path.{◌≡◌, refl, sym, ap, ◌∙◌}
use mathlib.Core.Bool.{Bool, true, false}
use Rattle.std.specs.Option.{is_some}
use mathlib.Core.List.{List, [], ◌∷◌, ◌++◌, map, append-nil, append_assoc}
use mathlib.Core.Option.{some, none}
use Prim.Native.Nat.{ℕ, ◌+◌, ◌≤◌, ◌<◌}
use native.Mathlib.Omega.{arith}
use lib.ListN.{length, length-append}
use Rattle.base.specs.Choose.{choose}
use Rattle.base.specs.Lists.{map_length}
use Rattle.descriptor.specs.Descriptor.{Bytes, FileDescriptor}
use Rattle.descriptor.specs.Decode.{parts, decode_messages, decode_enum, decode_file, decode_set}
use Rattle.descriptor.specs.Decode as decode
use Rattle.declarations.specs.declared.places.Place.{Place}
use Rattle.name_rules.specs.FullNames.{◌·◌, package_scope}
use Rattle.descriptor.proofs.PartLaws.{whole_part}
use Rattle.declarations.specs.Rows.{lies, State, kind_number, has_room, bytes_at, places, push, package_of, package_row, declare_enums, declare_messages, declare_members, declare_file, declare_files, declared, no_rows}
use Rattle.declarations.specs.Listed.{name_of, full, Listed, listed_row, listed, listed_enums, listed_entries, file_entries, listed_file, listed_files}
use Rattle.declarations.specs.declared.Declaration.{Declaration as Row}
use Rattle.declarations.proofs.RoomLaws.{room_there}
use Rattle.declarations.proofs.FullLaws.{full_none}
use Rattle.declarations.proofs.PartLaws.{places_are, package_is}
use Rattle.declarations.proofs.GrownLaws.{Wide, Grown, grown_more, grown_as, has, pushed, pushed_full}
use Rattle.declarations.proofs.DecodedLaws.{enums_listed, messages_listed}

-- with at most so many rows more
pub record Within (bytes : Bytes) (cap : ℕ) (x y : State) (ls : List Listed) (m bound : ℕ) : Type 0 where
  pub count : ℕ
  pub grown : Grown bytes cap x y ls count m
  pub few : count ≤ bound

module _ (bytes : Bytes) (cap file : ℕ) (p : Place) where
  abbrev f : FileDescriptor
  f = decode_file (bytes_at bytes p)

  its_messages : decode_messages 16 (map (bytes_at bytes) (places bytes 4 p)) ≡ f.messages
  unfolding decode_file
  its_messages = ap (decode_messages 16) (places_are bytes 4 p)

  its_enums : map decode_enum (map (bytes_at bytes) (places bytes 5 p)) ≡ f.enums
  unfolding decode_file
  its_enums = ap (map decode_enum) (places_are bytes 5 p)

  module _ (x : State) (up : ℕ) (w : Wide cap x) (e : full bytes x.table up ≡ package_scope f.package_name) (h : up ≤ x.rows) where
    abbrev a : List Listed
    a = listed_entries file x.messages (file_entries f)

    abbrev b : List Listed
    b = listed_enums file (package_scope f.package_name) f.enums

    members_listed : x.rows + length (listed_file file x.messages f) ≤ cap
        → Grown bytes cap x (declare_members bytes file up p x) (listed_file file x.messages f) (length (listed_file file x.messages f)) (length (file_entries f))
    unfolding declare_members listed_file
    members_listed room =
        let sizes : length (a ++ b) ≡ length a + length b = length-append a b in
        let x₁ : State = declare_messages bytes file 16 up (places bytes 4 p) x in
        let g₁ : Grown bytes cap x x₁ a (length a) (length (file_entries f)) =
        rw its_messages at (messages_listed bytes cap file 16 up (places bytes 4 p) (package_scope f.package_name) x w e h (rw its_messages (omega arith))) in
        let i = g₁.rows in
        let g₂ : Grown bytes cap x₁ (declare_enums bytes file up (places bytes 5 p) x₁) b (length b) 0 =
        rw its_enums at (enums_listed bytes cap file up (places bytes 5 p) x₁ (package_scope f.package_name) g₁.room (g₁.kept up h ∙ e) (omega arith) (rw its_enums (omega arith))) in
        grown_as bytes cap x _ (a ++ b) (a ++ b) (length a + length b) (length (a ++ b)) (length (file_entries f) + 0) (length (file_entries f))
        (grown_more bytes cap x x₁ _ a b (length a) (length (file_entries f)) (length b) 0 g₁ g₂) refl (sym sizes) (omega arith)

  package_listed : (full : Bytes) → listed_row bytes full (package_row bytes file p) ≡ []
  unfolding listed_row package_row kind_number choose
  package_listed full = refl

  abbrev L : ℕ → List Listed
  L m = listed_file file m f

  named : package_scope f.package_name ≡ package_scope (choose (is_some (package_of bytes p)) (some (bytes_at bytes (lies (package_of bytes p)))) none)
  named = ap package_scope (sym (package_is bytes p))

  file_grown : (b : Bool) → (is_some (package_of bytes p)) ≡ b → (x : State) → Wide cap x → x.rows + 1 + length (L x.messages) ≤ cap
      → Within bytes cap x (declare_file bytes file p x) (L x.messages) (length (file_entries f)) (1 + length (L x.messages))
  unfolding declare_file choose package_row
  file_grown false given x w room =
      record {
        count = length (L x.messages);
        grown = rw given (members_listed x 0 w (full_none bytes x.table ∙ sym (named ∙ rw given)) (omega arith) (omega arith));
        few = omega arith;
      }
  file_grown true given x w room =
      let r : Row = package_row bytes file p in
      let free : x.rows < cap = omega arith in
      let g₁ : Grown bytes cap x (push r x) [] 1 0 =
      grown_as bytes cap x (push r x) _ [] 1 1 0 0 (pushed bytes cap x w free r (omega arith) 0 x.messages (omega arith)) (package_listed (full bytes x.table r.up · name_of bytes r)) refl refl in
      let scope : full bytes (push r x).table (x.rows + 1) ≡ package_scope f.package_name =
      pushed_full bytes cap x w free r (omega arith) ∙ ap (λ (s : Bytes). s · name_of bytes r) (full_none bytes x.table) ∙ sym (named ∙ rw given) in
      let g₂ = members_listed (push r x) (x.rows + 1) g₁.room scope (omega arith) (omega arith) in
      record {
        count = 1 + length (L x.messages);
        grown =
            rw (given, has bytes cap x w free r (omega arith))
            (grown_as bytes cap x _ ([] ++ L x.messages) (L x.messages) (1 + length (L x.messages)) _ (0 + length (file_entries f)) _
            (grown_more bytes cap x (push r x) _ [] (L x.messages) 1 0 (length (L x.messages)) (length (file_entries f)) g₁ g₂) refl refl (omega arith));
        few = omega arith;
      }

  file_listed : (x : State) → Wide cap x → x.rows + 1 + length (L x.messages) ≤ cap
      → Within bytes cap x (declare_file bytes file p x) (L x.messages) (length (file_entries f)) (1 + length (L x.messages))
  file_listed = file_grown (is_some (package_of bytes p)) refl

abbrev files_of : Bytes → List Place → List FileDescriptor
files_of bytes ps = map decode_file (map (bytes_at bytes) ps)

module _ (bytes : Bytes) (cap : ℕ) where
  files_listed : (file : ℕ) (ps : List Place) (x : State) → Wide cap x → x.rows + length ps + length (listed_files file x.messages (files_of bytes ps)) ≤ cap
      → listed bytes (declare_files bytes file ps x).table (declare_files bytes file ps x).rows ≡ listed bytes x.table x.rows ++ listed_files file x.messages (files_of bytes ps)
  unfolding declare_files listed_files
  files_listed file [] x w room = sym (append-nil (listed bytes x.table x.rows))
  files_listed file (p ∷ ps) x w room =
      let here : List Listed = listed_file file x.messages (decode_file (bytes_at bytes p)) in
      let m : ℕ = x.messages + length (file_entries (decode_file (bytes_at bytes p))) in
      let after : List Listed = listed_files (file + 1) m (files_of bytes ps) in
      let sizes : length (here ++ after) ≡ length here + length after = length-append here after in
      let y : State = declare_file bytes file p x in
      let one = file_listed bytes cap file p x w (omega arith) in
      let few = one.few in
      let rows = one.grown.rows in
      let same : listed_files (file + 1) y.messages (files_of bytes ps) ≡ after = ap (λ (k : ℕ). listed_files (file + 1) k (files_of bytes ps)) one.grown.messages in
      files_listed (file + 1) ps y one.grown.room (rw same (omega arith))
      ∙ ap (λ (l : List Listed). listed bytes y.table y.rows ++ l) same ∙ ap (λ (l : List Listed). l ++ after) one.grown.lists
      ∙ append_assoc (listed bytes x.table x.rows) here after

set_files : (bytes : Bytes) → files_of bytes (places bytes 1 (record { start = 0; end = length bytes })) ≡ decode_set bytes
unfolding decode_set
set_files bytes = ap (map decode_file) (places_are bytes 1 (record { start = 0; end = length bytes }) ∙ ap (λ (s : Bytes). parts 1 (decode.entries s)) (whole_part bytes))

-- the law: a table with room for a row of each file and of each declaration lists them all
pub set_listed : (bytes : Bytes) (t : List Row) (cap : ℕ) → cap ≤ 65536 → cap ≤ length t
    → length (decode_set bytes) + length (listed_files 0 0 (decode_set bytes)) ≤ cap
    → listed bytes (declared bytes t).table (declared bytes t).rows ≡ listed_files 0 0 (decode_set bytes)
unfolding declared listed
set_listed bytes t cap small wide room =
    let ps : List Place = places bytes 1 (record { start = 0; end = length bytes }) in
    let fs : files_of bytes ps ≡ decode_set bytes = set_files bytes in
    let n : length (files_of bytes ps) ≡ length ps = map_length decode_file (map (bytes_at bytes) ps) ∙ map_length (bytes_at bytes) ps in
    let k : length (files_of bytes ps) ≡ length (decode_set bytes) = ap length fs in
    let same : listed_files 0 0 (files_of bytes ps) ≡ listed_files 0 0 (decode_set bytes) = ap (listed_files 0 0) fs in
    let l = ap length same in
    files_listed bytes cap 0 ps (no_rows t) (record { small = small; wide = wide }) (omega arith) ∙ same

-- how many rows that takes
module _ (bytes : Bytes) (cap : ℕ) where
  files_few : (file : ℕ) (ps : List Place) (x : State) → Wide cap x → x.rows + length ps + length (listed_files file x.messages (files_of bytes ps)) ≤ cap
      → Wide cap (declare_files bytes file ps x) × ((declare_files bytes file ps x).rows ≤ x.rows + length ps + length (listed_files file x.messages (files_of bytes ps)))
  unfolding declare_files listed_files
  files_few file [] x w room = (w, omega arith)
  files_few file (p ∷ ps) x w room =
      let here : List Listed = listed_file file x.messages (decode_file (bytes_at bytes p)) in
      let m : ℕ = x.messages + length (file_entries (decode_file (bytes_at bytes p))) in
      let after : List Listed = listed_files (file + 1) m (files_of bytes ps) in
      let sizes : length (here ++ after) ≡ length here + length after = length-append here after in
      let y : State = declare_file bytes file p x in
      let one = file_listed bytes cap file p x w (omega arith) in
      let few = one.few in
      let rows = one.grown.rows in
      let same : listed_files (file + 1) y.messages (files_of bytes ps) ≡ after = ap (λ (k : ℕ). listed_files (file + 1) k (files_of bytes ps)) one.grown.messages in
      let long = ap length same in
      let rest = files_few (file + 1) ps y one.grown.room (omega arith) in
      (rest.0, (let r = rest.1 in omega arith))

-- a table with one row more has room for it in the end
pub set_room : (bytes : Bytes) (t : List Row) (n : ℕ) → n + 1 ≤ 65536 → n + 1 ≤ length t → length (decode_set bytes) + length (listed_files 0 0 (decode_set bytes)) ≤ n
    → (has_room (declared bytes t).table (declared bytes t).rows ≡ true) × ((declared bytes t).rows ≤ n)
unfolding declared
set_room bytes t n small wide room =
    let ps : List Place = places bytes 1 (record { start = 0; end = length bytes }) in
    let fs : files_of bytes ps ≡ decode_set bytes = set_files bytes in
    let k = ap length fs in
    let m : length (files_of bytes ps) ≡ length ps = map_length decode_file (map (bytes_at bytes) ps) ∙ map_length (bytes_at bytes) ps in
    let l = ap (λ (ds : List FileDescriptor). length (listed_files 0 0 ds)) fs in
    let f = files_few bytes (n + 1) 0 ps (no_rows t) (record { small = small; wide = wide }) (omega arith) in
    let r = f.1 in
    let w = f.0.wide in
    (room_there _ _ (omega arith) (omega arith), omega arith)
