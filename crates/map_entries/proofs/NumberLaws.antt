-- The fields of a set by the numbers of its messages. Assumes nothing.
use mathlib.Core.Path.{◌≡◌, refl, sym, ap, ◌∙◌}
use mathlib.Core.Bool.{true, false}
use mathlib.Core.List.{List, [], ◌∷◌, ◌++◌, append-nil, append_assoc}
use Prim.Native.Nat.{ℕ, suc, ◌+◌, ◌≤◌, ◌<◌}
use native.Mathlib.Omega.{arith}
use lib.ListN.{length}
use lib.Dec.{eqb}
use borrow.Author.Tests.{eq-eqb, ne_eqb}
use Rattle.base.specs.Choose.{choose, choose_case}
use Rattle.base.specs.Lists.{all_of, all_of_append}
use Rattle.descriptor.specs.Descriptor.{Bytes, FieldDescriptor, EnumDescriptor, FileDescriptor}
use Rattle.name_rules.specs.Accessors.{text}
use Rattle.name_rules.specs.FullNames.{◌·◌, package_scope, Entry, set_entries, fields_of_entries, set_fields}
use Rattle.declarations.specs.Listed.{Listed, listed_enums, listed_entries, file_entries, listed_file, listed_files}
use Rattle.map_entries.proofs.FieldCounts.{fields_numbered, fields_listed}

-- what each listed declaration gives by a function that gives nothing of an enum
module _ (g : Listed → List FieldDescriptor) where
  module _ (empty : (l : Listed) → l.fields ≡ [] → g l ≡ []) where
    of_enums : (file : ℕ) (scope : Bytes) (es : List EnumDescriptor) → all_of g (listed_enums file scope es) ≡ []
    unfolding all_of listed_enums
    of_enums file scope [] = refl
    of_enums file scope (e ∷ es) =
        let l : Listed = record { full = scope · text e.name; is_enumeration = true; number = 0; file = file; fields = [] } in
        rw (empty l refl) (of_enums file scope es)

    -- of messages numbered from m on
    abbrev message_at : ℕ → ℕ → Entry → Listed
    message_at file m e = record { full = e.full; is_enumeration = false; number = m; file = file; fields = e.message.fields }

    unfoldable of_entries : (ℕ → Entry → List FieldDescriptor) → ℕ → List Entry → List FieldDescriptor
    of_entries h m [] = []
    of_entries h m (e ∷ es) = h m e ++ of_entries h (m + 1) es

    module _ (h : ℕ → Entry → List FieldDescriptor) (is : (file m : ℕ) (e : Entry) → g (message_at file m e) ≡ h m e) where
      entries_of : (file m : ℕ) (es : List Entry) → all_of g (listed_entries file m es) ≡ of_entries h m es
      unfolding all_of listed_entries of_entries
      entries_of file m [] = refl
      entries_of file m (e ∷ es) =
          ap (λ (fs : List FieldDescriptor). g (message_at file m e) ++ fs)
          (all_of_append g (listed_enums file e.full e.message.enums) (listed_entries file (m + 1) es) ∙ rw (of_enums file e.full e.message.enums) (entries_of file (m + 1) es))
          ∙ ap (λ (fs : List FieldDescriptor). fs ++ of_entries h (m + 1) es) (is file m e)

      entries_append : (m : ℕ) (es fs : List Entry) → of_entries h m (es ++ fs) ≡ of_entries h m es ++ of_entries h (m + length es) fs
      unfolding of_entries
      entries_append m [] fs = ap (λ (k : ℕ). of_entries h k fs) (let z : m ≡ m + 0 = omega arith in z)
      entries_append m (e ∷ es) fs =
          ap (λ (ks : List FieldDescriptor). h m e ++ ks)
          (entries_append (m + 1) es fs ∙ ap (λ (k : ℕ). of_entries h (m + 1) es ++ of_entries h k fs) (let z : m + 1 + length es ≡ m + suc (length es) = omega arith in z))
          ∙ sym (append_assoc (h m e) (of_entries h (m + 1) es) (of_entries h (m + suc (length es)) fs))

      files_of : (file m : ℕ) (fs : List FileDescriptor) → all_of g (listed_files file m fs) ≡ of_entries h m (set_entries fs)
      unfolding all_of listed_files listed_file set_entries of_entries
      files_of file m [] = refl
      files_of file m (f ∷ fs) =
          all_of_append g (listed_file file m f) (listed_files (file + 1) (m + length (file_entries f)) fs)
          ∙ rw (all_of_append g (listed_entries file m (file_entries f)) (listed_enums file (package_scope f.package_name) f.enums), of_enums file (package_scope f.package_name) f.enums, entries_of file m (file_entries f), append-nil (of_entries h m (file_entries f)), files_of (file + 1) (m + length (file_entries f)) fs)
          (sym (entries_append m (file_entries f) (set_entries fs)))

-- all of them
abbrev own_fields : ℕ → Entry → List FieldDescriptor
own_fields m e = e.message.fields

own_of : (g : Listed → List FieldDescriptor) (z : (l : Listed) → l.fields ≡ [] → g l ≡ []) (m : ℕ) (es : List Entry) → of_entries g z own_fields m es ≡ fields_of_entries es
unfolding of_entries fields_of_entries
own_of g z m [] = refl
own_of g z m (e ∷ es) = ap (λ (fs : List FieldDescriptor). e.message.fields ++ fs) (own_of g z (m + 1) es)

pub set_fields_listed : (ds : List FileDescriptor) → fields_listed (listed_files 0 0 ds) ≡ set_fields ds
set_fields_listed ds = files_of (λ (l : Listed). l.fields) (λ l e. e) own_fields (λ file m e. refl) 0 0 ds ∙ own_of (λ (l : Listed). l.fields) (λ l e. e) 0 (set_entries ds)

-- those of the message with the number k
module _ (k : ℕ) where
  abbrev g : Listed → List FieldDescriptor
  g l = choose (eqb l.number k) l.fields []

  abbrev h : ℕ → Entry → List FieldDescriptor
  h m e = choose (eqb m k) e.message.fields []

  none_of : (l : Listed) → l.fields ≡ [] → g l ≡ []
  none_of l e = choose_case (λ (fs : List FieldDescriptor). fs ≡ []) (eqb l.number k) (λ _. e) (λ _. refl)

  abbrev by_number : ℕ → List Entry → List FieldDescriptor
  by_number = of_entries g none_of h

  past : (m : ℕ) (es : List Entry) → k < m → by_number m es ≡ []
  unfolding of_entries choose
  past m [] l = refl
  past m (e ∷ es) l = rw (ne_eqb m k (λ q. omega arith)) (past (m + 1) es (omega arith))

  first_of : (m : ℕ) (e : Entry) (es : List Entry) → k ≡ m → by_number m (e ∷ es) ≡ e.message.fields
  unfolding of_entries choose
  first_of m e es q = rw (eq-eqb m k (sym q), past (m + 1) es (omega arith)) (append-nil e.message.fields)

  later_of : (m : ℕ) (e : Entry) (es : List Entry) → m < k → by_number m (e ∷ es) ≡ by_number (m + 1) es
  unfolding of_entries choose
  later_of m e es l = rw (ne_eqb m k (λ q. omega arith))

  numbered_listed : (ds : List FileDescriptor) → fields_numbered k (listed_files 0 0 ds) ≡ by_number 0 (set_entries ds)
  numbered_listed ds = files_of g none_of h (λ file m e. refl) 0 0 ds

-- the messages have these numbers
unfoldable pub At : List Listed → ℕ → List Entry → Type 0
At ls m [] = Unit
At ls m (e ∷ es) = (fields_numbered m ls ≡ e.message.fields) × At ls (m + 1) es

at_all : (ls : List Listed) (m : ℕ) (es : List Entry) → ((k : ℕ) → m ≤ k → fields_numbered k ls ≡ by_number k m es) → At ls m es
unfolding At
at_all ls m [] is = tt
at_all ls m (e ∷ es) is = (is m (omega arith) ∙ first_of m m e es refl, at_all ls (m + 1) es (λ k l. is k (omega arith) ∙ later_of k m e es (omega arith)))

pub at_set : (ds : List FileDescriptor) → At (listed_files 0 0 ds) 0 (set_entries ds)
at_set ds = at_all (listed_files 0 0 ds) 0 (set_entries ds) (λ k l. numbered_listed k ds)

pub at_left : (ls : List Listed) (m : ℕ) (es fs : List Entry) → At ls m (es ++ fs) → At ls m es
unfolding At
at_left ls m [] fs a = tt
at_left ls m (e ∷ es) fs a = (a.0, at_left ls (m + 1) es fs a.1)

pub at_right : (ls : List Listed) (m : ℕ) (es fs : List Entry) → At ls m (es ++ fs) → At ls (m + length es) fs
unfolding At
at_right ls m [] fs a = let z : m + 0 ≡ m = omega arith in rw z a
at_right ls m (e ∷ es) fs a = let z : m + suc (length es) ≡ m + 1 + length es = omega arith in rw z (at_right ls (m + 1) es fs a.1)
