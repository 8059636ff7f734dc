-- Boxes, Copy and Eq go by the target of a field only where its type is message or group. Assumes nothing.
use Rattle.std.specs.Prelude.{◌≡◌, Bool, true, false, ◌||◌, List, eqb, get_or}
use Rattle.std.proofs.Math.Path.{refl, ap}
use Rattle.std.proofs.Common.{sym, ◌∙◌}
use Rattle.std.proofs.Math.Bool.{not}
use Prim.Native.Nat.{ℕ, zero, suc}
use Rattle.base.specs.Tests.{and_left, or_left, and_same, same_test}
use Rattle.message_graph.specs.Limit.{messages}
use Rattle.message_graph.specs.Fields.{Fields, fields, size, message_at, owner_of, target_of, kind_of, label_of, is_link, type_message, type_group, label_repeated}
use Rattle.message_graph.specs.Leads.{Leads, leadsb}
use Rattle.message_graph.specs.Leads.Leads.{here, step}
use Rattle.message_graph.specs.Decided.{leads_sound, leads_complete}
use Rattle.message_graph.specs.Boxes.{may_loop, boxed_by_loop}
use Rattle.derives.specs.declared.Derive.{Derive}
use Rattle.derives.specs.RuleLaws.{rule_same}
use Rattle.derives.specs.Can.{field_can, entry_can, message_can, can_message_derive, can_field_derive}
use Rattle.derives.specs.Depth.{every_same}

abbrev typed : ℕ → Bool
typed kind = eqb kind type_message || eqb kind type_group

-- two columns that agree at the fields of type message or group
abbrev pub Agree : List ℕ → List ℕ → List ℕ → Type 0
Agree kind target target' = (i : ℕ) → (eqb (get_or kind i 0) type_message || eqb (get_or kind i 0) type_group) ≡ true → message_at target i ≡ message_at target' i

link_typed : (kind label : ℕ) → is_link kind label ≡ true → typed kind ≡ true
unfolding is_link
link_typed kind label is = or_left _ (and_left (eqb kind type_message) (not (eqb label label_repeated)) is)

module _ (owner kind label : List ℕ) where
  abbrev with_target : List ℕ → Fields
  with_target target = fields owner target kind label

  leads_over : (target target' : List ℕ) → Agree kind target target' → {a b : ℕ} → Leads (with_target target) a b → Leads (with_target target') a b
  leads_over target target' agree here = here
  leads_over target target' agree (step l p) =
      step (record { field = l.field; within = l.within; is = l.is; from = l.from; to = sym (agree l.field (link_typed (get_or kind l.field 0) (get_or label l.field 0) l.is)) ∙ l.to }) (leads_over target target' agree p)

  module _ (target target' : List ℕ) (agree : Agree kind target target') where
    abbrev f : Fields
    f = with_target target

    abbrev g : Fields
    g = with_target target'

    leads_same : (a b : ℕ) → leadsb f a b ≡ leadsb g a b
    leads_same a b =
        same_test (leadsb f a b) (leadsb g a b) (λ e. leads_complete g a b (leads_over target target' agree (leads_sound f a b e)))
        (λ e. leads_complete f a b (leads_over target' target (λ i h. sym (agree i h)) (leads_sound g a b e)))

    back_same : (i : ℕ) → typed (kind_of f i) ≡ true → leadsb f (target_of f i) (owner_of f i) ≡ leadsb g (target_of g i) (owner_of g i)
    back_same i h = ap (λ (x : ℕ). leadsb f x (owner_of f i)) (agree i h) ∙ leads_same (target_of g i) (owner_of g i)

    pub boxed_same : (i : ℕ) → boxed_by_loop f i ≡ boxed_by_loop g i
    unfolding boxed_by_loop may_loop
    boxed_same i =
        and_same (may_loop (kind_of f i) (label_of f i)) _ _ (λ h. back_same i (and_left (typed (kind_of f i)) (not (eqb (label_of f i) label_repeated)) h))

    module _ (d : Derive) (set : List Bool) where
      field_same : (can can' : ℕ → Bool) → ((x : ℕ) → can x ≡ can' x) → (i : ℕ) → field_can d f set can i ≡ field_can d g set can' i
      unfolding field_can
      field_same can can' same i =
          rule_same d (kind_of f i) (label_of f i) _ _ (get_or set i false) _ _ (λ is. back_same i (link_typed (kind_of f i) (label_of f i) is))
          (λ is. ap can (agree i (link_typed (kind_of f i) (label_of f i) is)) ∙ same (target_of g i))

      depth_same : (n x : ℕ) → message_can d f set n x ≡ message_can d g set n x
      unfolding message_can entry_can
      depth_same zero x = refl
      depth_same (suc n) x =
          every_same (size f) (entry_can d f set (message_can d f set n) x) (entry_can d g set (message_can d g set n) x)
          (λ i h. ap (λ (t : Bool). not (eqb (owner_of f i) x) || t) (field_same (message_can d f set n) (message_can d g set n) (depth_same n) i))

      pub message_same : (x : ℕ) → can_message_derive d f set x ≡ can_message_derive d g set x
      unfolding can_message_derive
      message_same x = depth_same messages x

      pub field_answer_same : (i : ℕ) → can_field_derive d f set i ≡ can_field_derive d g set i
      unfolding can_field_derive
      field_answer_same i = field_same (can_message_derive d f set) (can_message_derive d g set) message_same i
