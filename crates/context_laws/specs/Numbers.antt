-- Messages by their number and by their full name. Assumes nothing.
use Rattle.std.specs.Prelude.{◌≡◌, refl, true, false, not, List, [], ◌∷◌, ℕ, zero, suc, ◌≤◌, ◌<◌, length}
use Rattle.std.proofs.Common.{sym, ◌∙◌, ap, subst, ⊎_elim, arith}
use Rattle.base.specs.Bytes.{same, same_refl, same_sound}
use Rattle.base.specs.Choose.{choose}
use Rattle.base.specs.Lists.{any, first_failing}
use Rattle.base.specs.Tests.{bool_cases, both_ways, or_left, or_right, or_cases}
use Rattle.descriptor.specs.Descriptor.{Bytes}
use Rattle.name_rules.specs.FullNames.{Entry}
use Rattle.message_graph.specs.Limit.{messages}
use Rattle.context_laws.specs.At.{At, at_one, at_within}
use Rattle.context_laws.specs.At.At.{first, next}
use Rattle.context_laws.specs.Tables.{called, listed, number_of, Distinct}

-- an entry is listed
pub listed_at : {e : Entry} {es : List Entry} {a : ℕ} → At e es a → listed es e.full ≡ true
unfolding listed any
listed_at {e} (first {y} {xs} q) = or_left _ (ap (λ (z : Entry). same z.full e.full) (sym q) ∙ same_refl e.full)
listed_at {e} (next {y} p) = or_right (same y.full e.full) (listed_at p)

-- and what is listed is an entry's
pub record Entered (es : List Entry) (full : Bytes) : Type 0 where
  pub entry : Entry
  pub number : ℕ
  pub at : At entry es number
  pub name : entry.full ≡ full

pub find_entry : (es : List Entry) (full : Bytes) → listed es full ≡ true → Entered es full
unfolding listed any
find_entry [] full h = both_ways h refl
find_entry (e ∷ es) full h =
    ⊎_elim (λ w. record { entry = e; number = zero; at = first refl; name = same_sound e.full full w })
    (λ w. let r = find_entry es full w in record { entry = r.entry; number = suc r.number; at = next r.at; name = r.name })
    (or_cases (same e.full full) (any (called full) es) h)

place : {e : Entry} {es : List Entry} {a : ℕ} → Distinct es → At e es a → first_failing (λ g. not (called e.full g)) es ≡ a
unfolding first_failing choose
place {e} d (first {y} q) = rw (ap (λ (z : Entry). same z.full e.full) (sym q) ∙ same_refl e.full)
place {e} d (next {y} {xs} p) =
    ⊎_elim (λ w. both_ways (ap (λ (n : Bytes). listed xs n) (same_sound y.full e.full w) ∙ listed_at p) d.0)
    (λ w. rw w (let h = place d.1 p in omega arith))
    (bool_cases (same y.full e.full))

-- an entry's number is that of its full name
pub number_at : {e : Entry} {es : List Entry} {a : ℕ} → Distinct es → At e es a → number_of es e.full ≡ a
unfolding number_of choose
number_at d p = rw (listed_at p) (place d p)

pub number_entered : {es : List Entry} {full : Bytes} → Distinct es → (r : Entered es full) → number_of es full ≡ r.number
number_entered {es} d r = ap (λ (x : Bytes). number_of es x) (sym r.name) ∙ number_at d r.at

number_none : (es : List Entry) (full : Bytes) → listed es full ≡ false → number_of es full ≡ 0
unfolding number_of choose
number_none es full w = rw w

-- a full name's number is below 256
pub number_below : (es : List Entry) (full : Bytes) → Distinct es → length es ≤ messages → number_of es full < messages
number_below es full d h =
    ⊎_elim (λ w. let r = find_entry es full w in let m = at_within r.at in let n = number_entered d r in omega arith)
    (λ w. let n = number_none es full w in omega arith)
    (bool_cases (listed es full))

-- no two listed full names have one number
pub number_one : (es : List Entry) (x y : Bytes) → Distinct es → listed es x ≡ true → listed es y ≡ true → number_of es x ≡ number_of es y → x ≡ y
number_one es x y d hx hy e =
    let r = find_entry es x hx in
    let s = find_entry es y hy in
    let both : r.number ≡ s.number = sym (number_entered d r) ∙ e ∙ number_entered d s in
    sym r.name ∙ ap (λ (g : Entry). g.full) (at_one r.at (subst (λ (k : ℕ). At s.entry es k) (sym both) s.at)) ∙ s.name
