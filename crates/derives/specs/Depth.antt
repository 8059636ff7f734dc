-- The depth that an answer needs: the number of messages that a message leads to falls along a link that is in no loop, so as many
-- as there are messages are enough, and the answers are by each other as in context.rs, without a depth. Assumes nothing.
use Rattle.std.specs.Prelude.{◌≡◌, refl, Bool, true, false, cond, ◌&&◌, ◌||◌, List, eqb, get_or}
use Rattle.std.proofs.Math.Path.{sym, ap, subst}
use Rattle.std.proofs.Common.{◌∙◌, ⊎_elim, le_of_suc-le-suc, not-suc-le-zero, le_refl, eq-or-lt_of_le, arith, eq-eqb, ne_eqb}
use Rattle.std.proofs.Math.Bool.{not}
use Rattle.std.proofs.lemmas.Bool.{false≢true}
use Prim.Native.Nat.{ℕ, zero, suc, ◌+◌, ◌≤◌, ◌<◌, zero-le}
use Rattle.std.proofs.Math.Decide.{ℕ_discrete}
use Rattle.base.specs.Tests.{bool_cases, and_both, and_false}
use Rattle.message_graph.specs.Limit.{messages}
use Rattle.message_graph.specs.Fields.{Fields, size, owner_of, target_of, kind_of, label_of, link, message_at_below}
use Rattle.message_graph.specs.Leads.{leadsb}
use Rattle.message_graph.specs.Leads.Leads.{here, step}
use Rattle.message_graph.specs.Boxes.{boxed_by_loop}
use Rattle.message_graph.specs.Decided.{leads_sound, leads_complete}
use Rattle.derives.specs.declared.Derive.{Derive}
use Rattle.derives.specs.Rules.{rule}
use Rattle.derives.specs.RuleLaws.{shape, shape_same, loop_is_box}
use Rattle.derives.specs.Can.{every, field_can, entry_can, message_can, can_message_derive, can_field_derive}

-- ---- every

pub every_all : (n : ℕ) (p : ℕ → Bool) → ((k : ℕ) → k < n → p k ≡ true) → every n p ≡ true
unfolding every
every_all zero p h = refl
every_all (suc n) p h = and_both (every_all n p (λ k lt. h k (omega arith))) (h n (le_refl _))

pub every_not : (n : ℕ) (p : ℕ → Bool) (k : ℕ) → k < n → p k ≡ false → every n p ≡ false
unfolding every
every_not zero p k lt e = absurd (not-suc-le-zero lt)
every_not (suc n) p k lt e =
    ⊎_elim (λ h. and_false (every n p) (p n) (subst (λ (j : ℕ). p j ≡ false) h e)) (λ h. ap (λ (x : Bool). x && p n) (every_not n p k h e)) (eq-or-lt_of_le (le_of_suc-le-suc lt))

pub every_same : (n : ℕ) (p q : ℕ → Bool) → ((k : ℕ) → k < n → p k ≡ q k) → every n p ≡ every n q
unfolding every
every_same zero p q h = refl
every_same (suc n) p q h =
    ap (λ (x : Bool). x && p n) (every_same n p q (λ k lt. h k (omega arith))) ∙ ap (λ (x : Bool). every n q && x) (h n (le_refl _))

-- ---- at how many places below n

unfoldable pub count : ℕ → (ℕ → Bool) → ℕ
count zero p = 0
count (suc n) p = count n p + cond (p n) 1 0

one_le : (x y : Bool) → (x ≡ true → y ≡ true) → cond {A = ℕ} x 1 0 ≤ cond y 1 0
one_le true y h = subst (λ (z : Bool). 1 ≤ cond z 1 0) (sym (h refl)) (le_refl 1)
one_le false y h = zero-le

pub count_le : (n : ℕ) (p q : ℕ → Bool) → ((k : ℕ) → k < n → p k ≡ true → q k ≡ true) → count n p ≤ count n q
unfolding count
count_le zero p q h = le_refl 0
count_le (suc n) p q h =
    let less = count_le n p q (λ k lt. h k (omega arith)) in
    let one = one_le (p n) (q n) (h n (le_refl _)) in
    omega arith

pub count_lt : (n : ℕ) (p q : ℕ → Bool) → ((k : ℕ) → k < n → p k ≡ true → q k ≡ true) → (k : ℕ) → k < n → p k ≡ false → q k ≡ true → count n p < count n q
unfolding count
count_lt zero p q h k lt no' yes' = absurd (not-suc-le-zero lt)
count_lt (suc n) p q h k lt no' yes' =
    ⊎_elim
    (λ e.
    let less = count_le n p q (λ j l. h j (omega arith)) in
    let zero_p : cond {A = ℕ} (p n) 1 0 ≡ 0 = ap (λ (x : Bool). cond x 1 0) (ap p (sym e) ∙ no') in
    let one_q : cond {A = ℕ} (q n) 1 0 ≡ 1 = ap (λ (x : Bool). cond x 1 0) (ap q (sym e) ∙ yes') in
    omega arith)
    (λ l.
    let less = count_lt n p q (λ j m. h j (omega arith)) k l no' yes' in
    let one = one_le (p n) (q n) (h n (le_refl _)) in
    omega arith)
    (eq-or-lt_of_le (le_of_suc-le-suc lt))

one_most : (x : Bool) → cond {A = ℕ} x 1 0 ≤ 1
one_most true = le_refl 1
one_most false = zero-le

pub count_most : (n : ℕ) (p : ℕ → Bool) → count n p ≤ n
unfolding count
count_most zero p = le_refl 0
count_most (suc n) p =
    let h = count_most n p in
    let one = one_most (p n) in
    omega arith

count_within : (m n : ℕ) (p : ℕ → Bool) → ((k : ℕ) → p k ≡ true → k < n) → count m p ≤ n
unfolding count
count_within zero n p h = zero-le
count_within (suc m) n p h =
    let less = count_within m n p h in
    let most = count_most m p in
    ⊎_elim (λ e. let lt = h m e in let one : cond {A = ℕ} (p m) 1 0 ≡ 1 = ap (λ (x : Bool). cond x 1 0) e in omega arith)
    (λ e. let none : cond {A = ℕ} (p m) 1 0 ≡ 0 = ap (λ (x : Bool). cond x 1 0) e in omega arith)
    (bool_cases (p m))

-- ---- how many messages x leads to

unfoldable pub rank : Fields → ℕ → ℕ
rank f x = count messages (leadsb f x)

pub rank_most : (f : Fields) (x : ℕ) → rank f x ≤ messages
unfolding rank
rank_most f x = count_most messages (leadsb f x)

-- where x leads only to the first n
pub rank_within : (f : Fields) (x n : ℕ) → ((k : ℕ) → leadsb f x k ≡ true → k < n) → rank f x ≤ n
unfolding rank
rank_within f x n h = count_within messages n (leadsb f x) h

none_zero : (n : ℕ) → count n (λ k. false) ≡ 0
unfolding count
none_zero zero = refl
none_zero (suc n) = let h = none_zero n in omega arith

pub rank_some : (f : Fields) (x : ℕ) → x < messages → 0 < rank f x
unfolding rank
rank_some f x h =
    let less = count_lt messages (λ k. false) (leadsb f x) (λ k l e. absurd (false≢true e)) x h refl (leads_complete f x x here) in
    omega (arith, none_zero messages)

pub rank_falls : (f : Fields) (i : ℕ) → i < size f → link f i ≡ true → leadsb f (target_of f i) (owner_of f i) ≡ false → rank f (target_of f i) < rank f (owner_of f i)
unfolding rank
rank_falls f i lt is free =
    count_lt messages (leadsb f (target_of f i)) (leadsb f (owner_of f i))
    (λ k h e. leads_complete f (owner_of f i) k (step (record { field = i; within = lt; is = is; from = refl; to = refl }) (leads_sound f (target_of f i) k e)))
    (owner_of f i) (message_at_below f.owner i) free (leads_complete f (owner_of f i) (owner_of f i) here)

-- ---- depth

module _ (d : Derive) (f : Fields) (set : List Bool) where
  field_same : (g h : ℕ → Bool) (i : ℕ) → (link f i ≡ true → leadsb f (target_of f i) (owner_of f i) ≡ false → g (target_of f i) ≡ h (target_of f i)) → field_can d f set g i ≡ field_can d f set h i
  unfolding field_can
  field_same g h i e = shape_same (shape d (kind_of f i) (label_of f i) (leadsb f (target_of f i) (owner_of f i)) (get_or set i false)) (g (target_of f i)) (h (target_of f i)) e

  pub entry_other : (g : ℕ → Bool) (x i : ℕ) → (owner_of f i ≡ x → ⊥) → entry_can d f set g x i ≡ true
  unfolding entry_can
  entry_other g x i n = ap (λ (t : Bool). not t || field_can d f set g i) (ne_eqb (owner_of f i) x n)

  pub entry_own : (g : ℕ → Bool) (x i : ℕ) → owner_of f i ≡ x → entry_can d f set g x i ≡ field_can d f set g i
  unfolding entry_can
  entry_own g x i e = ap (λ (t : Bool). not t || field_can d f set g i) (eq-eqb (owner_of f i) x e)

  -- any depth that is not below the rank gives the same answer
  pub settled : (n e x : ℕ) → 0 < n → 0 < e → rank f x ≤ n → rank f x ≤ e → message_can d f set n x ≡ message_can d f set e x
  unfolding message_can
  settled zero e x some some' h g = absurd (not-suc-le-zero some)
  settled (suc n) zero x some some' h g = absurd (not-suc-le-zero some')
  settled (suc n) (suc e) x some some' h g =
      every_same (size f) (entry_can d f set (message_can d f set n) x) (entry_can d f set (message_can d f set e) x) (λ i lt.
      elim (ℕ_discrete (owner_of f i) x) [
        | yes own ↦ entry_own (message_can d f set n) x i own ∙ field_same (message_can d f set n) (message_can d f set e) i (λ is free.
            let less = rank_falls f i lt is free in
            let less' : rank f (target_of f i) < rank f x = subst (λ (y : ℕ). rank f (target_of f i) < rank f y) own less in
            let one = rank_some f (target_of f i) (message_at_below f.target i) in
            settled n e (target_of f i) (omega arith) (omega arith) (omega arith) (omega arith)) ∙ sym (entry_own (message_can d f set e) x i own)
        | no other ↦ entry_other (message_can d f set n) x i other ∙ sym (entry_other (message_can d f set e) x i other)
      ])

  -- a depth of as many links as there are messages is enough: more gives the same
  pub enough : (n x : ℕ) → messages ≤ n → message_can d f set n x ≡ can_message_derive d f set x
  unfolding can_message_derive
  enough n x h = let most = rank_most f x in settled n messages x (omega arith) (omega arith) (omega arith) most

  pub by_entries : (x : ℕ) → can_message_derive d f set x ≡ every (size f) (entry_can d f set (can_message_derive d f set) x)
  unfolding message_can can_message_derive
  by_entries x = sym (enough (suc messages) x (omega arith))

-- context.rs's functions by each other: a message's answer is over all its fields, a field's turns on its type's message
pub record Answers (d : Derive) (f : Fields) (set : List Bool) : Type 0 where
  pub by_fields : (x : ℕ) → can_message_derive d f set x ≡ every (size f) (λ i. not (eqb (owner_of f i) x) || can_field_derive d f set i)
  pub by_type : (i : ℕ) → can_field_derive d f set i ≡ rule d (kind_of f i) (label_of f i) (boxed_by_loop f i) (get_or set i false) (can_message_derive d f set (target_of f i))

pub answers : (d : Derive) (f : Fields) (set : List Bool) → Answers d f set
unfolding entry_can can_field_derive field_can
answers d f set = record {
  by_fields = by_entries d f set;
  by_type = λ i. sym (loop_is_box d f i (get_or set i false) (can_message_derive d f set (target_of f i)));
}
