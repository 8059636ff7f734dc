-- The full name of a row's message: its name in the full name of the message that the row stands in, or in its file's package. Assumes nothing.
use mathlib.Core.Path.{◌≡◌, refl, sym, ap, ◌∙◌, subst}
use mathlib.Core.List.{List, [], ◌∷◌, ◌++◌, map, map-map}
use Prim.Native.Nat.{ℕ, zero, suc, ◌+◌, ◌-◌, ◌≤◌, ◌<◌}
use native.Mathlib.Omega.{arith}
use lib.ListN.{length, length-append, get_or, get_or-append}
use lib.Seq.{get_or-append-add}
use lib.Dec.{eqb}
use borrow.Author.Tests.{ne_eqb}
use Rattle.base.specs.Choose.{choose}
use Rattle.base.specs.Lists.{map_length}
use Rattle.descriptor.specs.Descriptor.{Bytes, Forest, done, node, MessageDescriptor, FileDescriptor}
use Rattle.descriptor.specs.Decode.{entries, parts, decode_message, decode_file, decode_set}
use Rattle.name_rules.specs.Accessors.{text}
use Rattle.name_rules.specs.FullNames.{◌·◌, package_scope, Entry, set_entries}
use Rattle.name_rules.specs.FullNames as names
use Rattle.index.specs.Tree.{Place, file_forests, size, rows, rows_of, no_row, row_at}
use Rattle.index.specs.declared.Row.{Row}
use Rattle.index.proofs.TreeLaws.{rows_length}
use Rattle.index.proofs.DecodedLaws.{bytes_at, map_forest, forest_forest, nest, nest_forest, files_bytes}
use Rattle.index.proofs.SetLaws.{message_rows, decode_row, MessageTable}
use Rattle.field_columns.proofs.EntryLaws.{rows_entries}

-- items stand in a list from place i on
abbrev InList : {A : Type 0} → A → List A → ℕ → List A → Type 0
InList d all i xs = (k : ℕ) → k < length xs → get_or all (i + k) d ≡ get_or xs k d

module _ {A : Type 0} (d : A) (all : List A) where
  in_tail : (i : ℕ) (x : A) (xs : List A) → InList d all i (x ∷ xs) → InList d all (i + 1) xs
  in_tail i x xs h k l = ap (λ (n : ℕ). get_or all n d) (let e : i + 1 + k ≡ i + suc k = omega arith in e) ∙ h (suc k) (omega arith)

  in_left : (i : ℕ) (xs ys : List A) → InList d all i (xs ++ ys) → InList d all i xs
  in_left i xs ys h k l = let n = length-append xs ys in h k (omega arith) ∙ get_or-append xs ys d k l

  in_right : (i n : ℕ) (xs ys : List A) → length xs ≡ n → InList d all i (xs ++ ys) → InList d all (i + n) ys
  in_right i n xs ys e h k l =
      let m = length-append xs ys in
      ap (λ (x : ℕ). get_or all x d) (let z : i + n + k ≡ i + (length xs + k) = omega arith in z) ∙ h (length xs + k) (omega arith) ∙ get_or-append-add xs ys k d

module _ (no_file : FileDescriptor) (no_entry : Entry) (fs : List FileDescriptor) (es : List Entry) where
  -- the scope around a row: of the message that it stands in, or of its file
  unfoldable pub scope_of : ℕ → ℕ → Bytes
  scope_of file up = choose (eqb up 0) (package_scope (get_or fs file no_file).package_name) (get_or es (up - 1) no_entry).full

  abbrev Named : List Row → List Entry → Type 0
  Named [] xs = Unit {0}
  Named (r ∷ rs) [] = Unit {0}
  Named (r ∷ rs) (e ∷ xs) = (e.full ≡ scope_of r.file r.up · text e.message.name) × Named rs xs

  named_append : (rs : List Row) (xs : List Entry) (rs₂ : List Row) (xs₂ : List Entry) → length rs ≡ length xs → Named rs xs → Named rs₂ xs₂ → Named (rs ++ rs₂) (xs ++ xs₂)
  named_append [] [] rs₂ xs₂ e h i = i
  named_append [] (x ∷ xs) rs₂ xs₂ e h i = absurd (omega arith)
  named_append (r ∷ rs) [] rs₂ xs₂ e h i = absurd (omega arith)
  named_append (r ∷ rs) (x ∷ xs) rs₂ xs₂ e h i = (h.0, named_append rs xs rs₂ xs₂ (omega arith) h.1 i)

  named_at : (rs : List Row) (xs : List Entry) → length rs ≡ length xs → Named rs xs → (k : ℕ) → k < length rs → (r : Row) (e : Entry)
      → (get_or xs k e).full ≡ scope_of (get_or rs k r).file (get_or rs k r).up · text (get_or xs k e).message.name
  named_at [] xs l h k less r e = absurd (omega arith)
  named_at (x ∷ rs) [] l h k less r e = absurd (omega arith)
  named_at (x ∷ rs) (y ∷ xs) l h zero less r e = h.0
  named_at (x ∷ rs) (y ∷ xs) l h (suc k) less r e = named_at rs xs (omega arith) h.1 k (omega arith) r e

  module _ (message : Place → MessageDescriptor) where
    abbrev of_forest : Bytes → Forest Place → List Entry
    of_forest scope F = names.entries scope (map_forest message F)

    entries_length : (F : Forest Place) (scope : Bytes) → length (of_forest scope F) ≡ size F
    unfolding names.entries map_forest size
    entries_length done scope = refl
    entries_length (node p nested following) scope =
        let inner : Bytes = scope · text (message p).name in
        let a = entries_length nested inner in
        let c = entries_length following scope in
        let l = length-append (of_forest inner nested) (of_forest scope following) in
        omega arith

    -- a row's number is one less than what those nested in it have for `up`
    scope_inner : (file i : ℕ) → scope_of file (i + 1) ≡ (get_or es i no_entry).full
    unfolding scope_of choose
    scope_inner file i =
        let e : i + 1 - 1 ≡ i = omega arith in
        rw (ne_eqb (i + 1) 0 (λ z. omega arith), e)

    named_forest : (F : Forest Place) (file up i : ℕ) (scope : Bytes) → scope ≡ scope_of file up → InList no_entry es i (of_forest scope F) → Named (rows file up i F) (of_forest scope F)
    unfolding names.entries map_forest rows
    named_forest done file up i scope is there = tt
    named_forest (node p nested following) file up i scope is there =
        let inner : Bytes = scope · text (message p).name in
        let here : List Entry = of_forest inner nested in
        let next : List Entry = of_forest scope following in
        let n : length here ≡ size nested = entries_length nested inner in
        let own : get_or es i no_entry ≡ record { full = inner; message = message p } = ap (λ (k : ℕ). get_or es k no_entry) (let e : i ≡ i + 0 = omega arith in e) ∙ there 0 (omega arith) in
        let behind : InList no_entry es (i + 1) (here ++ next) = in_tail no_entry es i (record { full = inner; message = message p }) (here ++ next) there in (
          ap (λ (s : Bytes). s · text (message p).name) is,
          named_append (rows file (i + 1) (i + 1) nested) here (rows file up (i + 1 + size nested) following) next (rows_length nested file (i + 1) (i + 1) ∙ sym n)
              (named_forest nested file (i + 1) (i + 1) inner (sym (scope_inner file i ∙ ap (λ (e : Entry). e.full) own)) (in_left no_entry es (i + 1) here next behind))
              (named_forest following file up (i + 1 + size nested) scope is (in_right no_entry es (i + 1) (size nested) here next n behind)),
        )

    -- the files
    named_files : (Fs : List (Forest Place)) (gs : List FileDescriptor) (file i : ℕ) → map (λ (g : FileDescriptor). g.messages) gs ≡ map (map_forest message) Fs
        → InList no_file fs file gs → InList no_entry es i (set_entries gs) → Named (rows_of file i Fs) (set_entries gs)
    unfolding set_entries rows_of scope_of choose
    named_files [] gs file i e files there = tt
    named_files (F ∷ Fs) [] file i e files there = let z : ◌≡◌ {A = ℕ} 0 1 = cc in absurd (omega arith)
    named_files (F ∷ Fs) (g ∷ gs) file i e files there =
        let scope : Bytes = package_scope g.package_name in
        let here : List Entry = names.entries scope g.messages in
        let head : g.messages ≡ map_forest message F = cc in
        let tail : map (λ (g : FileDescriptor). g.messages) gs ≡ map (map_forest message) Fs = cc in
        let own : here ≡ of_forest scope F = ap (names.entries scope) head in
        let n : length here ≡ size F = ap length own ∙ entries_length F scope in
        let file_is : get_or fs file no_file ≡ g = ap (λ (k : ℕ). get_or fs k no_file) (let z : file ≡ file + 0 = omega arith in z) ∙ files 0 (omega arith) in
        let at_file : scope ≡ scope_of file 0 = ap (λ (f : FileDescriptor). package_scope f.package_name) (sym file_is) in
        named_append (rows file 0 i F) here (rows_of (file + 1) (i + size F) Fs) (set_entries gs) (rows_length F file 0 i ∙ sym n)
        (subst (Named (rows file 0 i F)) (sym own) (named_forest F file 0 i scope at_file (subst (InList no_entry es i) own (in_left no_entry es i here (set_entries gs) there))))
        (named_files Fs gs (file + 1) (i + size F) tail (in_tail no_file fs file g gs files) (in_right no_entry es i (size F) here (set_entries gs) n there))

-- ---- the forests of the decoded files

map_same : {A B : Type 0} (f g : A → B) → ((a : A) → f a ≡ g a) → (xs : List A) → map f xs ≡ map g xs
map_same f g same [] = refl
map_same {B} f g same (a ∷ xs) = ap (λ (b : B). b ∷ map f xs) (same a) ∙ ap (λ (l : List B). g a ∷ l) (map_same f g same xs)

module _ (set : List ℕ) (small : length set ≤ 32768) where
  abbrev pub placed : Place → MessageDescriptor
  placed p = decode_message (bytes_at set p)

  abbrev of_file : Bytes → Forest Bytes
  of_file p = nest 16 (parts 4 (entries p))

  pub files_forests : map (λ (f : FileDescriptor). f.messages) (decode_set set) ≡ map (map_forest placed) (file_forests 4 16 set)
  unfolding decode_set decode_file
  files_forests =
      map-map (λ (f : FileDescriptor). f.messages) decode_file (parts 1 (entries set))
      ∙ map_same (λ (p : Bytes). (decode_file p).messages) (λ (p : Bytes). map_forest decode_message (of_file p)) (λ p. sym (nest_forest 16 (parts 4 (entries p)))) (parts 1 (entries set))
      ∙ sym (map-map (map_forest decode_message) of_file (parts 1 (entries set)))
      ∙ ap (map (map_forest decode_message)) (sym (files_bytes 4 16 set small))
      ∙ map-map (map_forest decode_message) (map_forest (bytes_at set)) (file_forests 4 16 set)
      ∙ map_same (λ (F : Forest Place). map_forest decode_message (map_forest (bytes_at set) F)) (map_forest placed) (forest_forest decode_message (bytes_at set)) (file_forests 4 16 set)

-- entry i has the full name that row i of the table says
pub row_named : (set : List ℕ) (messages : List Row) (count : ℕ) → MessageTable set messages count → (no_file : FileDescriptor) (no_entry : Entry) (i : ℕ) → i < count
    → (get_or (set_entries (decode_set set)) i no_entry).full
    ≡ scope_of no_file no_entry (decode_set set) (set_entries (decode_set set)) (row_at messages i).file (row_at messages i).up · text (get_or (set_entries (decode_set set)) i no_entry).message.name
row_named set messages count table no_file no_entry i h =
    let fs : List FileDescriptor = decode_set set in
    let es : List Entry = set_entries fs in
    let n : count ≡ length (message_rows set) = table.counted in
    let as_many : length (message_rows set) ≡ length es =
    sym (map_length (decode_row set) (message_rows set)) ∙ ap length (rows_entries set table.small) ∙ map_length (λ (e : Entry). e.message) es in
    let row_is : row_at messages i ≡ get_or (message_rows set) i no_row = ap (row_at messages) (let e : i ≡ 0 + i = omega arith in e) ∙ table.there i (omega arith) in
    let named = named_files no_file no_entry fs es (placed set table.small) (file_forests 4 16 set) fs 0 0 (files_forests set table.small)
    (λ k l. ap (λ (x : ℕ). get_or fs x no_file) (let e : 0 + k ≡ k = omega arith in e)) (λ k l. ap (λ (x : ℕ). get_or es x no_entry) (let e : 0 + k ≡ k = omega arith in e)) in
    named_at no_file no_entry fs es (message_rows set) es as_many named i (omega arith) no_row no_entry
    ∙ ap (λ (r : Row). scope_of no_file no_entry fs es r.file r.up · text (get_or es i no_entry).message.name) (sym row_is)
