-- The first listed declaration with refusal 7 is in the first such file. Assumes nothing.
use mathlib.Core.Path.{◌≡◌, refl, sym, ap, ◌∙◌}
use mathlib.Core.Bool.{Bool, true, false, ◌&&◌, ◌||◌, not}
use mathlib.Core.List.{List, [], ◌∷◌, ◌++◌, append-nil, append_assoc}
use Prim.Native.Nat.{ℕ, ◌+◌}
use native.Mathlib.Omega.{arith}
use lib.ListN.{length}
use Rattle.base.specs.Bytes.{same}
use Rattle.base.specs.Choose.{choose}
use Rattle.base.specs.Lists.{all, all_of, all_append, all_of_append}
use Rattle.base.specs.Tests.{same_test}
use Rattle.name_rules.proofs.AppendLaws.{declared_append}
use Rattle.descriptor.specs.Descriptor.{Bytes, FieldDescriptor, EnumDescriptor, FileDescriptor}
use Rattle.name_rules.specs.FullNames.{package_scope, Entry, Declaration, declared, fresh, type_declared, fields_of_entries, file_fields, file_declarations, first_undeclared}
use Rattle.declarations.specs.Listed.{Listed, listed_enums, listed_entries, file_entries, listed_file, listed_files, declaration_of}
use Rattle.declarations.proofs.ListedLaws.{file_declared}
use Rattle.type_names.proofs.FreshLaws.{fresh_fewer}
use Rattle.declared_types.proofs.RowLaws.{D}

abbrev pub good : List Declaration → List Declaration → Listed → Bool
good ds before l = not (declared l.full before) && all (type_declared ds) l.fields

-- the file of the first that isn't good
unfoldable pub bad_file : List Declaration → ℕ → List Declaration → List Listed → ℕ
bad_file ds files before [] = files
bad_file ds files before (l ∷ ls) = choose (good ds before l) (bad_file ds files (before ++ (declaration_of l ∷ [])) ls) l.file

abbrev InFile : ℕ → List Listed → Type 0
InFile file [] = Unit
InFile file (l ∷ ls) = (l.file ≡ file) × InFile file ls

in_append : (file : ℕ) (ls ks : List Listed) → InFile file ls → InFile file ks → InFile file (ls ++ ks)
in_append file [] ks a b = b
in_append file (l ∷ ls) ks a b = (a.0, in_append file ls ks a.1 b)

enums_in : (file : ℕ) (scope : Bytes) (es : List EnumDescriptor) → InFile file (listed_enums file scope es)
unfolding listed_enums
enums_in file scope [] = tt
enums_in file scope (e ∷ es) = (refl, enums_in file scope es)

entries_in : (file m : ℕ) (es : List Entry) → InFile file (listed_entries file m es)
unfolding listed_entries
entries_in file m [] = tt
entries_in file m (e ∷ es) = (refl, in_append file (listed_enums file e.full e.message.enums) (listed_entries file (m + 1) es) (enums_in file e.full e.message.enums) (entries_in file (m + 1) es))

file_in : (file m : ℕ) (f : FileDescriptor) → InFile file (listed_file file m f)
unfolding listed_file
file_in file m f = in_append file (listed_entries file m (file_entries f)) (listed_enums file (package_scope f.package_name) f.enums) (entries_in file m (file_entries f)) (enums_in file (package_scope f.package_name) f.enums)

-- their fields
abbrev fields_in : List Listed → List FieldDescriptor
fields_in = all_of (λ (l : Listed). l.fields)

enums_fields : (file : ℕ) (scope : Bytes) (es : List EnumDescriptor) → fields_in (listed_enums file scope es) ≡ []
unfolding listed_enums all_of
enums_fields file scope [] = refl
enums_fields file scope (e ∷ es) = enums_fields file scope es

entries_fields : (file m : ℕ) (es : List Entry) → fields_in (listed_entries file m es) ≡ fields_of_entries es
unfolding listed_entries all_of fields_of_entries
entries_fields file m [] = refl
entries_fields file m (e ∷ es) =
    ap (λ (x : List FieldDescriptor). e.message.fields ++ x)
    (all_of_append (λ (l : Listed). l.fields) (listed_enums file e.full e.message.enums) (listed_entries file (m + 1) es) ∙ rw (enums_fields file e.full e.message.enums) (entries_fields file (m + 1) es))

listed_fields : (file m : ℕ) (f : FileDescriptor) → fields_in (listed_file file m f) ≡ file_fields f
unfolding listed_file
listed_fields file m f =
    all_of_append (λ (l : Listed). l.fields) (listed_entries file m (file_entries f)) (listed_enums file (package_scope f.package_name) f.enums)
    ∙ rw (enums_fields file (package_scope f.package_name) f.enums, entries_fields file m (file_entries f)) (append-nil (file_fields f))

-- declared before: in which order does not matter
same_fresh : (b c ds : List Declaration) → ((x : Bytes) → declared x b ≡ declared x c) → fresh b ds ≡ fresh c ds
same_fresh b c ds h =
    same_test (fresh b ds) (fresh c ds) (λ e. fresh_fewer c b ds (λ x q. sym (h x) ∙ q) e) (λ e. fresh_fewer b c ds (λ x q. h x ∙ q) e)

moved : (b : List Declaration) (d : Declaration) (x : Bytes) → declared x (d ∷ b) ≡ declared x (b ++ (d ∷ []))
unfolding declared
moved b d x = swap (same d.full x) (declared x b) ∙ sym (declared_append x b (d ∷ []))
  where
    swap : (s t : Bool) → (s || t) ≡ (t || (s || false))
    swap true true = refl
    swap true false = refl
    swap false true = refl
    swap false false = refl

tests : (n a m b : Bool) (x file : ℕ) → choose (n && a) (choose (m && b) x file) file ≡ choose ((n && m) && (a && b)) x file
unfolding choose
tests true true m b x file = refl
tests true false true b x file = refl
tests true false false b x file = refl
tests false a m b x file = refl

module _ (ds : List Declaration) (files file : ℕ) where
  part_bad : (before : List Declaration) (ls ks : List Listed) → InFile file ls
      → bad_file ds files before (ls ++ ks) ≡ choose (fresh before (D ls) && all (type_declared ds) (fields_in ls)) (bad_file ds files (before ++ D ls) ks) file
  unfolding bad_file fresh all_of all choose
  part_bad before [] ks h = ap (λ (b : List Declaration). bad_file ds files b ks) (sym (append-nil before))
  part_bad before (l ∷ ls) ks h =
      ap (λ (x : ℕ). choose (good ds before l) x l.file) (part_bad (before ++ (declaration_of l ∷ [])) ls ks h.1)
      ∙ ap (choose (good ds before l) (choose (fresh (before ++ (declaration_of l ∷ [])) (D ls) && all (type_declared ds) (fields_in ls)) (bad_file ds files ((before ++ (declaration_of l ∷ [])) ++ D ls) ks) file)) h.0
      ∙ tests (not (declared l.full before)) (all (type_declared ds) l.fields) (fresh (before ++ (declaration_of l ∷ [])) (D ls)) (all (type_declared ds) (fields_in ls)) (bad_file ds files ((before ++ (declaration_of l ∷ [])) ++ D ls) ks) file
      ∙ rw (append_assoc before (declaration_of l ∷ []) (D ls), all_append (type_declared ds) l.fields (fields_in ls), same_fresh (declaration_of l ∷ before) (before ++ (declaration_of l ∷ [])) (D ls) (moved before (declaration_of l)))

pub files_bad : (ds : List Declaration) (files file m : ℕ) (before : List Declaration) (fs : List FileDescriptor) → files ≡ file + length fs
    → bad_file ds files before (listed_files file m fs) ≡ file + first_undeclared ds before fs
unfolding listed_files first_undeclared bad_file choose
files_bad ds files file m before [] e = e
files_bad ds files file m before (f ∷ fs) e =
    part_bad ds files file before (listed_file file m f) (listed_files (file + 1) (m + length (file_entries f)) fs) (file_in file m f)
    ∙ rw (file_declared file m f, listed_fields file m f, files_bad ds files (file + 1) (m + length (file_entries f)) (before ++ file_declarations f) fs (omega arith))
    (moved_in (fresh before (file_declarations f) && all (type_declared ds) (file_fields f)) (first_undeclared ds (before ++ file_declarations f) fs))
  where
    moved_in : (t : Bool) (x : ℕ) → choose t (file + 1 + x) file ≡ file + choose t (1 + x) 0
    moved_in true x = omega arith
    moved_in false x = omega arith
