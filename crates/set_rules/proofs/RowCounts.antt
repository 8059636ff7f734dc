-- A set within the limits has 544 files and declarations at most, and one of 300 bytes 150. Assumes nothing.
use mathlib.Core.Path.{◌≡◌, refl, sym, ap, ◌∙◌}
use mathlib.Core.List.{List, [], ◌∷◌, ◌++◌, map}
use Prim.Native.Nat.{ℕ, suc, ◌+◌, ◌*◌, ◌≤◌}
use native.Mathlib.Omega.{arith}
use lib.ListN.{length, length-append}
use Rattle.base.specs.Lists.{all_of, map_length, all_of_append}
use Rattle.limit_facts.specs.Within.{within}
use Rattle.descriptor.specs.Descriptor.{Bytes, EnumDescriptor, MessageDescriptor, FileDescriptor}
use Rattle.descriptor.specs.Decode.{decode_set}
use Rattle.descriptor.specs.Limits.{messages_in, enums_in, limit_passed}
use Rattle.name_rules.specs.FullNames.{Entry, set_entries, package_scope}
use Rattle.declarations.specs.Listed.{file_entries, listed_enums, listed_entries, listed_file, listed_files}
use Rattle.field_columns.proofs.EntryLaws.{set_messages}
use Rattle.limits.specs.Short.{short}
use Rattle.limits.proofs.Sizes.{declarations_short}
use Rattle.declarations.specs.declared.Declaration.{Declaration as Row}
use Rattle.map_entries.specs.declared.Namers.{Namers}
use Rattle.set_rules.specs.Room.{Room, row_count}

abbrev enums_of : Entry → List EnumDescriptor
enums_of e = e.message.enums

enums_length : (file : ℕ) (scope : Bytes) (es : List EnumDescriptor) → length (listed_enums file scope es) ≡ length es
unfolding listed_enums
enums_length file scope [] = refl
enums_length file scope (e ∷ es) = ap suc (enums_length file scope es)

entries_length : (file m : ℕ) (es : List Entry) → length (listed_entries file m es) ≡ length es + length (all_of enums_of es)
unfolding listed_entries all_of
entries_length file m [] = refl
entries_length file m (e ∷ es) =
    let own = enums_length file e.full e.message.enums in
    let rest = entries_length file (m + 1) es in
    let a = length-append (listed_enums file e.full e.message.enums) (listed_entries file (m + 1) es) in
    let c = length-append (enums_of e) (all_of enums_of es) in
    omega arith

files_length : (file m : ℕ) (fs : List FileDescriptor)
    → length (listed_files file m fs) ≡ length (set_entries fs) + length (all_of enums_of (set_entries fs)) + length (all_of (λ (f : FileDescriptor). f.enums) fs)
unfolding listed_files listed_file set_entries all_of
files_length file m [] = refl
files_length file m (f ∷ fs) =
    let es : List Entry = file_entries f in
    let x = entries_length file m es in
    let y = enums_length file (package_scope f.package_name) f.enums in
    let rest = files_length (file + 1) (m + length es) fs in
    let a = length-append (listed_entries file m es) (listed_enums file (package_scope f.package_name) f.enums) in
    let b = length-append (listed_entries file m es ++ listed_enums file (package_scope f.package_name) f.enums) (listed_files (file + 1) (m + length es) fs) in
    let c = length-append es (set_entries fs) in
    let d = ap length (all_of_append enums_of es (set_entries fs)) ∙ length-append (all_of enums_of es) (all_of enums_of (set_entries fs)) in
    let e = length-append f.enums (all_of (λ (g : FileDescriptor). g.enums) fs) in
    omega arith

entry_enums : (es : List Entry) → all_of enums_of es ≡ all_of (λ (m : MessageDescriptor). m.enums) (map (λ (e : Entry). e.message) es)
unfolding all_of
entry_enums [] = refl
entry_enums (e ∷ es) = ap (λ (l : List EnumDescriptor). e.message.enums ++ l) (entry_enums es)

-- the declarations are the messages and enums that limits 3 and 5 count
declarations_counted : (fs : List FileDescriptor) → length (listed_files 0 0 fs) ≡ length (messages_in fs) + length (enums_in fs)
unfolding enums_in
declarations_counted fs =
    let x = files_length 0 0 fs in
    let m = sym (map_length (λ (e : Entry). e.message) (set_entries fs)) ∙ ap length (set_messages fs) in
    let n = ap length (entry_enums (set_entries fs) ∙ ap (all_of (λ (y : MessageDescriptor). y.enums)) (set_messages fs)) in
    let e = length-append (all_of (λ (f : FileDescriptor). f.enums) fs) (all_of (λ (y : MessageDescriptor). y.enums) (messages_in fs)) in
    omega arith

pub few_rows : (set : Bytes) → limit_passed set ≡ 0 → row_count set ≤ 544
few_rows set e =
    let w = within set e in
    let files = w.files in
    let messages = w.messages in
    let enums = w.enums in
    let count = declarations_counted (decode_set set) in
    omega arith

pub short_rows : (set : Bytes) → row_count set * 2 ≤ length set
short_rows set = let all = declarations_short set in let count = declarations_counted (decode_set set) in omega arith

-- so these tables have room
pub room_within : (set : Bytes) (t : List Row) (column : List Namers) → limit_passed set ≡ 0 → 545 ≤ length t → 544 ≤ length column → Room set t column
room_within set t column e wide long = let few = few_rows set e in record { small = omega arith; wide = omega arith; long = omega arith }

pub room_short : (set : Bytes) (t : List Row) (column : List Namers) → length set ≤ short → 151 ≤ length t → 150 ≤ length column → Room set t column
room_short set t column short wide long = let few = short_rows set in record { small = omega arith; wide = omega arith; long = omega arith }
