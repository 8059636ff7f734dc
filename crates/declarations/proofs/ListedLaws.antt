-- What is listed is what the set declares: sorts and full names in turn, and messages by their numbers. Assumes nothing.
use mathlib.Core.Path.{◌≡◌, refl, ap, ◌∙◌}
use mathlib.Core.Bool.{true, false}
use mathlib.Core.List.{List, [], ◌∷◌, ◌++◌, map, append_assoc, map-append}
use Prim.Native.Nat.{ℕ, ◌+◌}
use native.Mathlib.Omega.{arith}
use lib.ListN.{length}
use Rattle.base.specs.Bytes.{same}
use Rattle.base.specs.Choose.{choose}
use Rattle.descriptor.specs.Descriptor.{Bytes, EnumDescriptor, FileDescriptor}
use Rattle.name_rules.specs.Accessors.{text}
use Rattle.name_rules.specs.FullNames.{◌·◌, package_scope, Entry, set_entries, Declaration, enum_declarations, entry_declarations, file_declarations, set_declarations}
use Rattle.declarations.specs.Listed.{Listed, listed_enums, listed_entries, file_entries, listed_file, listed_files, declaration_of, number_of, entry_number}

enums_declared : (file : ℕ) (scope : Bytes) (es : List EnumDescriptor) → map declaration_of (listed_enums file scope es) ≡ enum_declarations scope es
unfolding listed_enums
enums_declared file scope [] = refl
enums_declared file scope (e ∷ es) = ap (λ (ds : List Declaration). record { full = scope · text e.name; is_enumeration = true } ∷ ds) (enums_declared file scope es)

entries_declared : (file m : ℕ) (es : List Entry) → map declaration_of (listed_entries file m es) ≡ entry_declarations es
unfolding listed_entries
entries_declared file m [] = refl
entries_declared file m (e ∷ es) =
    ap (λ (ds : List Declaration). record { full = e.full; is_enumeration = false } ∷ ds)
    (map-append declaration_of (listed_enums file e.full e.message.enums) (listed_entries file (m + 1) es) ∙ rw (enums_declared file e.full e.message.enums, entries_declared file (m + 1) es))

pub file_declared : (file m : ℕ) (f : FileDescriptor) → map declaration_of (listed_file file m f) ≡ file_declarations f
unfolding listed_file file_declarations
file_declared file m f =
    map-append declaration_of (listed_entries file m (file_entries f)) (listed_enums file (package_scope f.package_name) f.enums)
    ∙ rw (entries_declared file m (file_entries f), enums_declared file (package_scope f.package_name) f.enums)

pub files_declared : (file m : ℕ) (fs : List FileDescriptor) → map declaration_of (listed_files file m fs) ≡ set_declarations fs
unfolding listed_files set_declarations
files_declared file m [] = refl
files_declared file m (f ∷ fs) =
    map-append declaration_of (listed_file file m f) (listed_files (file + 1) (m + length (file_entries f)) fs)
    ∙ rw (file_declared file m f, files_declared (file + 1) (m + length (file_entries f)) fs)

-- ---- numbers: those listed behind others
enums_numbered : (name : Bytes) (file : ℕ) (scope : Bytes) (es : List EnumDescriptor) (ks : List Listed) → number_of name (listed_enums file scope es ++ ks) ≡ number_of name ks
unfolding listed_enums number_of choose
enums_numbered name file scope [] ks = refl
enums_numbered name file scope (e ∷ es) ks = enums_numbered name file scope es ks

entries_numbered : (name : Bytes) (file m : ℕ) (es rest : List Entry) (ks : List Listed) → number_of name ks ≡ entry_number name (m + length es) rest
    → number_of name (listed_entries file m es ++ ks) ≡ entry_number name m (es ++ rest)
unfolding listed_entries number_of entry_number choose
entries_numbered name file m [] rest ks h = h ∙ ap (λ (k : ℕ). entry_number name k rest) (let z : m + 0 ≡ m = omega arith in z)
entries_numbered name file m (e ∷ es) rest ks h =
    ap (choose (same e.full name) m)
    (ap (number_of name) (append_assoc (listed_enums file e.full e.message.enums) (listed_entries file (m + 1) es) ks)
    ∙ enums_numbered name file e.full e.message.enums (listed_entries file (m + 1) es ++ ks)
    ∙ entries_numbered name file (m + 1) es rest ks (h ∙ ap (λ (k : ℕ). entry_number name k rest) (let z : m + length (e ∷ es) ≡ m + 1 + length es = omega arith in z)))

pub files_numbered : (name : Bytes) (file m : ℕ) (fs : List FileDescriptor) → number_of name (listed_files file m fs) ≡ entry_number name m (set_entries fs)
unfolding listed_files listed_file set_entries number_of entry_number
files_numbered name file m [] = refl
files_numbered name file m (f ∷ fs) =
    let enums : List Listed = listed_enums file (package_scope f.package_name) f.enums in
    let after : List Listed = listed_files (file + 1) (m + length (file_entries f)) fs in
    ap (number_of name) (append_assoc (listed_entries file m (file_entries f)) enums after)
    ∙ entries_numbered name file m (file_entries f) (set_entries fs) (enums ++ after)
    (enums_numbered name file (package_scope f.package_name) f.enums after ∙ files_numbered name (file + 1) (m + length (file_entries f)) fs)
