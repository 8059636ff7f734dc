-- What the pass leaves in a row is what the fields say of it. Assumes nothing.
use mathlib.Core.Path.{◌≡◌, refl, sym, ap, ◌∙◌}
use mathlib.Core.Bool.{Bool, true, false}
use mathlib.Core.List.{List, [], ◌∷◌}
use Prim.Native.Nat.{ℕ, zero, suc, ◌≤◌, ◌<◌}
use native.Mathlib.Omega.{arith}
use lib.ListN.{length, get_or, replicate, length-replicate, get_or-replicate}
use lib.Seq.{get_or-set_same, get_or-set_other}
use Rattle.base.specs.Choose.{choose, choose_case}
use Rattle.descriptor.specs.Descriptor.{Bytes}
use Rattle.declarations.specs.Listed.{listed}
use Rattle.declarations.specs.declared.Declaration.{Declaration as Row}
use Rattle.type_names.specs.LookUp.{named}
use Rattle.map_entries.specs.Named.{Use, uses, vote, joined, noted, noted_rows, tally, naming, said}
use Rattle.map_entries.proofs.CountLaws.{by_eq}
use Rattle.map_entries.proofs.PassLaws.{rows_length}

noted_same : (i v : ℕ) (who : List ℕ) → i < length who → get_or (noted i v who) i 0 ≡ joined (get_or who i 0) v
unfolding noted
noted_same i v who h = get_or-set_same who i (joined (get_or who i 0) v) 0 h

noted_other : (i v : ℕ) (who : List ℕ) (j : ℕ) → (j ≡ i → ⊥) → get_or (noted i v who) j 0 ≡ get_or who j 0
unfolding noted
noted_other i v who j ne = get_or-set_other who i j (joined (get_or who i 0) v) 0 ne

module _ (bytes : List ℕ) (t : List Row) where
  module _ (name : Bytes) (v : ℕ) (who : List ℕ) (j : ℕ) where
    rows_below : (n : ℕ) → n ≤ j → get_or (noted_rows bytes t name v n who) j 0 ≡ get_or who j 0
    unfolding noted_rows
    rows_below zero h = refl
    rows_below (suc n) h =
        choose_case (λ (w : List ℕ). get_or w j 0 ≡ get_or who j 0) (named bytes t name n)
        (λ _. noted_other n v (noted_rows bytes t name v n who) j (λ e. omega arith) ∙ rows_below n (omega arith)) (λ _. rows_below n (omega arith))

    abbrev heard : ℕ
    heard = choose (named bytes t name j) (joined (get_or who j 0) v) (get_or who j 0)

    last_row : (n : ℕ) (b : Bool) → named bytes t name n ≡ b → j ≡ n → j < length who
        → get_or (choose b (noted n v (noted_rows bytes t name v n who)) (noted_rows bytes t name v n who)) j 0 ≡ choose b (joined (get_or who j 0) v) (get_or who j 0)
    unfolding choose
    last_row n true e q h =
        let l = rows_length bytes t name v n who in
        rw q (noted_same n v (noted_rows bytes t name v n who) (omega arith) ∙ ap (λ (w : ℕ). joined w v) (ap (λ (i : ℕ). get_or (noted_rows bytes t name v n who) i 0) (sym q) ∙ rows_below n (omega arith) ∙ ap (λ (i : ℕ). get_or who i 0) q))
    last_row n false e q h = rows_below n (omega arith)

    rows_here : (n : ℕ) → j < n → j < length who → get_or (noted_rows bytes t name v n who) j 0 ≡ heard
    unfolding noted_rows
    rows_here zero h l = absurd (omega arith)
    rows_here (suc n) h l =
        by_eq j n
        (λ q. last_row n (named bytes t name n) refl q l ∙ ap (λ (i : ℕ). choose (named bytes t name i) (joined (get_or who j 0) v) (get_or who j 0)) (sym q))
        (λ q.
        choose_case (λ (w : List ℕ). get_or w j 0 ≡ heard) (named bytes t name n)
        (λ _. noted_other n v (noted_rows bytes t name v n who) j q ∙ rows_here n (less q) l) (λ _. rows_here n (less q) l))
      where
        less : (j ≡ n → ⊥) → j < n
        less q = omega arith

  module _ (n j : ℕ) (below : j < n) where
    abbrev test : Use → Bool
    test u = named bytes t u.name j

    tally_at : (us : List Use) (who : List ℕ) → j < length who → get_or (tally bytes t n us who) j 0 ≡ said test us (get_or who j 0)
    unfolding tally said
    tally_at [] who h = refl
    tally_at (u ∷ us) who h =
        let l = rows_length bytes t u.name (vote u.number u.mapping) n who in
        tally_at us (noted_rows bytes t u.name (vote u.number u.mapping) n who) (omega arith)
        ∙ ap (said test us) (rows_here u.name (vote u.number u.mapping) who j n below h)

    pub naming_at : (size : ℕ) → j < size → get_or (naming bytes t n size) j 0 ≡ said test (uses (listed bytes t n)) 0
    unfolding naming
    naming_at size h =
        let l : length (replicate {A = ℕ} size 0) ≡ size = length-replicate size 0 in
        tally_at (uses (listed bytes t n)) (replicate size 0) (omega arith) ∙ ap (said test (uses (listed bytes t n))) (get_or-replicate {A = ℕ} size j 0 0 h)
