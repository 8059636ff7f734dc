-- A worked set: bytes that meet what demand 3 asks for. Nested messages, a oneof, a map, an enum, recursion, packages a.b, a.c and x, and an
-- extern path that takes x. Assumes nothing.
use Rattle.std.specs.Prelude.{ℕ, zero, suc, ◌<◌, ◌≡◌, refl, Bool, true, false, List, [], ◌∷◌, map, length, get_or, replicate}
use Rattle.std.proofs.Common.{ap, arith}
use Rattle.std.proofs.lemmas.List.{length-replicate}
use Rattle.base.specs.Bytes.{same}
use Rattle.base.specs.Choose.{choose}
use Rattle.base.specs.Lists.{any}
use Rattle.field_types.specs.Types.{sort_of}
use Rattle.options.specs.Settings.{value_of}
use Rattle.path.specs.Forms.{before_dots, filled, prefixes, among}
use Rattle.path.specs.PathMap.{first_with, find_best}
use Rattle.extern_paths.specs.ExternPaths.{extern_paths, taken}
use Rattle.descriptor.specs.Descriptor.{Bytes, FileDescriptor}
use Rattle.descriptor.specs.Decode.{decode_set}
use Rattle.code_generator.specs.MapFields.{map_entry_of}
use Rattle.code_generator.specs.Oneofs.{plain_fields}
use Rattle.code_generator.specs.Enums.{is_used, mappings_from}
use Rattle.code_generator.specs.Generate.{file_text}
use Rattle.code_generator.specs.Refusals.{any_message, overlap, enum_overlaps, variants_overlap, default_fails, defaults_fail}
use Rattle.code_generator.specs.TreeTexts as worked
use Rattle.base.specs.Refusal.{given, returned, after}
use Rattle.calls.specs.TextCall.{file_at, by_index, by_room, by_text, text_answer, text_call}
use Rattle.calls.specs.NameCall.{yes_or_no, name_answer, name_call}
use Rattle.walks_end.specs.Walks.{group_free}
use Rattle.walks_end.proofs.Examples as names
use Rattle.joint_theorem.specs.Claim.{Accepted, Demand}
use Rattle.joint_theorem.proofs.Together.{texts_together}
use Rattle.joint_theorem.specs.WorkedBytes.{set, options, decoded, readable, laid_out, rows, valid}

-- ---- it meets the hypotheses
-- a buffer of 4,096 bytes for each file
abbrev pub buffers : ℕ → List ℕ
buffers file = replicate 4096 0

free : group_free (decode_set set) ≡ true
free = rw decoded names.free

says_yes : name_call set options ≡ given 1
unfolding name_call name_answer yes_or_no choose
says_yes = rw (laid_out, rows, valid, readable, decoded, names.good, names.says_yes) refl

of_file : (file : ℕ) → text_call set options file (length (buffers file)) ≡ returned (after (by_index file 3) (by_text worked.rs worked.set 4096 (file_at worked.set file)))
unfolding text_call text_answer
of_file file = rw (laid_out, rows, valid, readable, decoded, names.good, length-replicate {A = ℕ} 4096 0) refl

-- refusals 8 and 9 of each file
judged : map {B = Bool × Bool} (λ (f : FileDescriptor). (variants_overlap worked.rs f, defaults_fail worked.rs f)) worked.set ≡ (false, false) ∷ (false, false) ∷ (false, false) ∷ []
unfolding variants_overlap enum_overlaps overlap defaults_fail default_fails any_message any among mappings_from is_used plain_fields map_entry_of sort_of taken extern_paths value_of find_best first_with prefixes filled before_dots choose same
judged = refl

in_room : (f : FileDescriptor) (text : Bytes) → variants_overlap worked.rs f ≡ false → defaults_fail worked.rs f ≡ false → file_text worked.rs worked.set f ≡ text → (returned (by_room 4096 (length text))).number ≡ 0
    → (returned (by_text worked.rs worked.set 4096 f)).number ≡ 0
unfolding by_text choose
in_room f text o d e h = rw (o, d, e) h

pub accepted : Accepted set options buffers
unfolding by_index by_room choose
accepted = record { says_yes = says_yes; not_refused = λ file l. each file (rw decoded at l) }
  where
    each : (file : ℕ) → file < 3 → (text_call set options file (length (buffers file))).number ≡ 0
    each zero l = rw (of_file 0) (in_room (file_at worked.set 0) worked.tree_text (ap (λ (js : List (Bool × Bool)). (get_or js 0 (true, true)).0) judged) (ap (λ (js : List (Bool × Bool)). (get_or js 0 (true, true)).1) judged) (ap (λ (ts : List Bytes). get_or ts 0 []) worked.texts) refl)
    each (suc zero) l = rw (of_file 1) (in_room (file_at worked.set 1) worked.forest_text (ap (λ (js : List (Bool × Bool)). (get_or js 1 (true, true)).0) judged) (ap (λ (js : List (Bool × Bool)). (get_or js 1 (true, true)).1) judged) (ap (λ (ts : List Bytes). get_or ts 1 []) worked.texts) refl)
    each (suc (suc zero)) l = rw (of_file 2) (in_room (file_at worked.set 2) [] (ap (λ (js : List (Bool × Bool)). (get_or js 2 (true, true)).0) judged) (ap (λ (js : List (Bool × Bool)). (get_or js 2 (true, true)).1) judged) (ap (λ (ts : List Bytes). get_or ts 2 []) worked.texts) refl)
    each (suc (suc (suc file))) l = absurd (omega arith)

-- so the demand holds of it
pub demand : Demand set options buffers
demand = texts_together set options buffers free accepted
