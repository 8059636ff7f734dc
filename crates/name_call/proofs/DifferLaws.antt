-- Whether names differ, step by step; and of an accepted set, with its tables: names are found to differ exactly if the name check says yes. Assumes nothing.
use Rattle.std.specs.Prelude.{◌≡◌, refl, ℕ, Bool, true, false, ◌||◌, ◌&&◌, not, List, length, replicate}
use Rattle.std.proofs.Common.{arith}
use Rattle.std.proofs.Math.Bool.{and_assoc}
use Rattle.descriptor.specs.Descriptor.{Bytes}
use Rattle.descriptor.specs.Decode.{decode_set}
use Rattle.options.specs.Settings.{Setting}
use Rattle.text_tables.specs.Rows.{no_field}
use Rattle.text_tables.specs.declared.MessageRow.{MessageRow}
use Rattle.text_tables.specs.declared.FieldRow.{FieldRow}
use Rattle.table_says.specs.Says.{Says}
use Rattle.set_tables.specs.Filled.{message_rows, field_rows_in, field_rows}
use Rattle.set_tables.proofs.TablesSay.{tables_say, all_messages, all_fields}
use Rattle.code_generator.specs.Refusals.{overlap}
use Rattle.name_rows.specs.Rows.{rows_in}
use Rattle.package_names.specs.Packages.{packages_meet, packages_stand}
use Rattle.member_rows.specs.MemberRows.{rows_overlap, set_meets}
use Rattle.name_check.specs.NameCheck.{name_check}
use Rattle.name_call.specs.Differ.{rows_laid, places_differ, names_differ}
use Rattle.name_call.specs.NameTheorem.{names_differ_is}
use Rattle.name_call.specs.Answer.{Accepted}

not_any : (a b c : Bool) → not (a || (b || c)) ≡ (not a && (not b && not c))
not_any true b c = refl
not_any false true c = refl
not_any false false c = refl

-- s: the rows that are laid
pub places_are : (rs : List Setting) (room : ℕ) (set : List ℕ) (messages : List MessageRow) (t : List FieldRow) (s : List ℕ) → s ≡ rows_laid rs room set messages t
    → (met : Bool) → met ≡ (overlap (rows_in (length s) s) || (packages_meet set || packages_stand (length s) s set)) → not met ≡ places_differ rs room set messages t
unfolding places_differ rows_overlap
places_are rs room set messages t s laid met is =
    rw (← laid, is) (not_any (overlap (rows_in (length s) s)) (packages_meet set) (packages_stand (length s) s set))

-- ---- members last
module _ (rs : List Setting) (room : ℕ) (set : List ℕ) (messages : List MessageRow) (t : List FieldRow) (p : Bool) (is : p ≡ places_differ rs room set messages t) where
  in_two : names_differ rs room set messages t ≡ (p && not (set_meets rs room set messages t))
  unfolding names_differ places_differ
  in_two = rw (is, and_assoc, and_assoc) refl

  pub by_members : p ≡ true → (now : ℕ) → now ≡ room → (d : Bool) → d ≡ set_meets rs now set messages t → not d ≡ names_differ rs room set messages t
  by_members h now en d ed = rw (in_two, h, ← en, ← ed) refl

  pub by_places : p ≡ false → p ≡ names_differ rs room set messages t
  by_places h = rw (in_two, h) refl

pub answered : (set : Bytes) (rs : List Setting) → Accepted set → (messages : List MessageRow) (fields : List FieldRow) → messages ≡ message_rows 256 set rs → fields ≡ field_rows_in (replicate 2048 no_field) set rs
    → (room : ℕ) → room ≡ 1081344 → names_differ rs room set messages fields ≡ name_check rs (decode_set set)
unfolding field_rows
answered set rs accepted messages fields messages_are fields_are room rows =
    names_differ_is rs set messages fields accepted.limits accepted.named says room (omega arith)
  where
    says : Says rs set messages fields
    says = rw (messages_are, fields_are) (tables_say set rs accepted.limits accepted.named 256 2048 (let few = all_messages set accepted.limits in omega arith) (let room = all_fields set accepted.limits accepted.named in omega arith))
