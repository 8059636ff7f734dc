-- The rows of the table of a set give refusal 7 of the set. Assumes nothing.
use mathlib.Core.Path.{◌≡◌, refl, sym, ap, ◌∙◌}
use mathlib.Core.Bool.{Bool, true, ◌&&◌, not}
use mathlib.Core.List.{List, [], ◌∷◌, ◌++◌, append-nil, map-append}
use Prim.Native.Nat.{ℕ, zero, suc, ◌+◌, ◌-◌, ◌≤◌, ◌<◌}
use native.Mathlib.Omega.{arith}
use lib.ListN.{length}
use borrow.Author.Tests.{ne_eqb}
use Rattle.base.specs.Choose.{choose, unless}
use Rattle.base.specs.Lists.{all, all_map, map_length}
use Rattle.wire.specs.Records.{part}
use Rattle.descriptor.specs.Descriptor.{Bytes, FileDescriptor}
use Rattle.descriptor.specs.Decode.{entries, parts, decode_field, decode_message, decode_file, decode_set}
use Rattle.name_rules.specs.FullNames.{Declaration, declared, type_declared, set_declarations, first_undeclared}
use Rattle.name_rules.specs.Answer.{first_seven}
use Rattle.declarations.specs.Rows.{row_at, kind_number, declared as declared_table}
use Rattle.declarations.specs.Listed.{full, Listed, listed_row, listed, listed_files, declaration_of}
use Rattle.declarations.specs.declared.Declaration.{Declaration as Row}
use Rattle.declarations.proofs.ListedLaws.{files_declared}
use Rattle.declarations.proofs.SetLaws.{set_listed}
use Rattle.declared_types.specs.Undeclared.{type_known, row_good, undeclared_from, first_undeclared_row}
use Rattle.declared_types.proofs.CountLaws.{declared_few}
use Rattle.declared_types.proofs.RowLaws.{D, listed_from, listed_all, by_kind, known_is, declared_before_is}
use Rattle.declared_types.proofs.FileLaws.{bad_file, files_bad}

all_same : {A : Type 0} (p q : A → Bool) → ((x : A) → p x ≡ q x) → (xs : List A) → all p xs ≡ all q xs
unfolding all
all_same p q h [] = refl
all_same p q h (x ∷ xs) = rw (h x, all_same p q h xs)

module _ (bytes : List ℕ) (t : List Row) (count : ℕ) (few : count ≤ 65536) where
  abbrev ds : List Declaration
  ds = D (listed bytes t count)

  abbrev files : ℕ
  files = length (parts 1 (entries bytes))

  known : (s : Bytes) → type_known bytes t count s ≡ type_declared ds (decode_field s)
  unfolding type_known
  known s = known_is bytes t count few (decode_field s)

  fields_known : (s : Bytes) → all (type_known bytes t count) (parts 2 (entries s)) ≡ all (type_declared ds) (decode_message s).fields
  unfolding decode_message
  fields_known s = all_same (type_known bytes t count) (λ (x : Bytes). type_declared ds (decode_field x)) known (parts 2 (entries s)) ∙ sym (all_map (type_declared ds) decode_field (parts 2 (entries s)))

  module _ (i : ℕ) (small : i < 65536) (ks : List Listed) where
    abbrev r : Row
    r = row_at t i

    abbrev F : Bytes
    F = full bytes t (suc i)

    abbrev before : List Declaration
    before = D (listed bytes t i)

    Step : Type 0
    Step = choose (row_good bytes t count i) (bad_file ds files (D (listed bytes t i ++ listed_row bytes F r)) ks) (row_at t i).file ≡ bad_file ds files before (listed_row bytes F r ++ ks)

    package_step : kind_number r.kind ≡ 0 → Step
    unfolding Step row_good listed_row choose
    package_step z = rw (z, append-nil (listed bytes t i))

    enum_step : kind_number r.kind ≡ 1 → Step
    unfolding Step row_good listed_row choose bad_file all
    enum_step z = rw (z, declared_before_is bytes t i small, unless (declared F before) true) (ap (λ (b : List Declaration). choose (not (declared F before) && true) (bad_file ds files b ks) (row_at t i).file) (map-append declaration_of (listed bytes t i) _))

    message_step : 2 ≤ kind_number r.kind → Step
    unfolding Step row_good listed_row choose bad_file
    message_step z =
        rw (ne_eqb (kind_number (row_at t i).kind) 0 (λ q. omega arith), ne_eqb (kind_number (row_at t i).kind) 1 (λ q. omega arith), declared_before_is bytes t i small, fields_known (part bytes (row_at t i).start ((row_at t i).end - (row_at t i).start)), unless (declared F before) (all (type_declared ds) (decode_message (part bytes (row_at t i).start ((row_at t i).end - (row_at t i).start))).fields))
        (ap (λ (b : List Declaration). choose (not (declared F before) && all (type_declared ds) (decode_message (part bytes (row_at t i).start ((row_at t i).end - (row_at t i).start))).fields) (bad_file ds files b ks) (row_at t i).file) (map-append declaration_of (listed bytes t i) _))

    row_step : Step
    row_step = by_kind (kind_number r.kind) package_step enum_step message_step

  rows_bad : (n i : ℕ) → i + n ≤ 65536 → undeclared_from bytes t count n i ≡ bad_file ds files (D (listed bytes t i)) (listed_from bytes t n i)
  unfolding undeclared_from listed_from bad_file listed Step
  rows_bad zero i h = refl
  rows_bad (suc n) i h =
      let z : i + 1 ≡ suc i = omega arith in
      ap (λ (x : ℕ). choose (row_good bytes t count i) x (row_at t i).file)
      (rows_bad n (i + 1) (omega arith) ∙ ap (λ (k : ℕ). bad_file ds files (D (listed bytes t k)) (listed_from bytes t n (i + 1))) z)
      ∙ row_step i (omega arith) (listed_from bytes t n (i + 1))

  pub first_row_is : (fs : List FileDescriptor) → files ≡ length fs → listed bytes t count ≡ listed_files 0 0 fs → first_undeclared_row bytes t count ≡ first_seven fs
  unfolding first_undeclared_row first_seven listed
  first_row_is fs n e =
      let names : ds ≡ set_declarations fs = ap D e ∙ files_declared 0 0 fs in
      rows_bad count 0 (omega arith) ∙ ap (bad_file ds files []) (sym (listed_all bytes t count) ∙ e)
      ∙ files_bad ds files 0 0 [] fs (n ∙ omega arith) ∙ (let y : 0 + first_undeclared ds [] fs ≡ first_undeclared ds [] fs = omega arith in y)
      ∙ ap (λ (x : List Declaration). first_undeclared x [] fs) names

-- refusal 7 of a set, by the table of its declarations
pub first_undeclared_is : (bytes : List ℕ) (t : List Row) (cap : ℕ) → cap ≤ 65536 → cap ≤ length t
    → length (decode_set bytes) + length (listed_files 0 0 (decode_set bytes)) ≤ cap
    → first_undeclared_row bytes (declared_table bytes t).table (declared_table bytes t).rows ≡ first_seven (decode_set bytes)
unfolding decode_set
first_undeclared_is bytes t cap small wide room =
    first_row_is bytes (declared_table bytes t).table (declared_table bytes t).rows (declared_few bytes t) (decode_set bytes) (sym (map_length decode_file (parts 1 (entries bytes)))) (set_listed bytes t cap small wide room)
