-- Copy and Eq, by full names and by numbers. Assumes nothing.
use Rattle.std.specs.Prelude.{◌≡◌, Bool, ◌||◌, List, eqb, length}
use Rattle.std.proofs.Math.Path.{refl, sym, ap}
use Rattle.std.proofs.Common.{◌∙◌, subst, arith, eqb-true, eq-eqb}
use Rattle.std.proofs.Math.Bool.{true, false}
use Prim.Native.Nat.{ℕ, zero, suc, ◌<◌, ◌≤◌}
use Rattle.std.proofs.lemmas.List.{length-map}
use Rattle.base.specs.Bytes.{same, same_refl, same_sound}
use Rattle.base.specs.Choose.{choose}
use Rattle.base.specs.Lists.{all}
use Rattle.base.specs.Tests.{same_test}
use Rattle.field_types.specs.Types.{type_eq}
use Rattle.descriptor.specs.Descriptor.{Bytes, FieldDescriptor, FileDescriptor}
use Rattle.options.specs.Settings.{Setting}
use Rattle.name_rules.specs.Accessors.{type, label, is_repeated, is_message}
use Rattle.name_rules.specs.FullNames.{Entry, set_entries}
use Rattle.context.specs.MessageGraph.{fields_of, links, leads, is_nested}
use Rattle.context.specs.Context.{depth, field_copy, message_copy, can_message_derive_copy, can_field_derive_copy, field_eq, message_eq, can_message_derive_eq, can_field_derive_eq}
use Rattle.message_graph.specs.Limit.{messages}
use Rattle.message_graph.specs.Fields.{owner_of}
use Rattle.message_graph.specs.Fields as numbers
use Rattle.message_graph.specs.Leads.{Leads}
use Rattle.message_graph.specs.Leads.Leads.{here, step}
use Rattle.message_graph.specs.Decided.{leads_sound}
use Rattle.derives.specs.declared.Derive.{Derive}
use Rattle.derives.specs.declared.Derive.TheVariants.{Copy, Eq}
use Rattle.derives.specs.Rules.{rule}
use Rattle.derives.specs.Rules as rules
use Rattle.derives.specs.RuleLaws.{rule_same}
use Rattle.derives.specs.Can.{field_can, entry_can, message_can, can_message_derive, can_field_derive}
use Rattle.derives.specs.Depth.{rank_within, settled}
use Rattle.context_laws.specs.At.{At, at_within}
use Rattle.context_laws.specs.Tables.{Row, rows_of, listed, number_of, type_name_of, tables_of, is_set, settings_of, Sound}
use Rattle.context_laws.specs.Numbers.{listed_at, find_entry, number_at, number_entered, number_one}
use Rattle.context_laws.proofs.Rows.{row_listed, row_typed, row_owner, row_target, row_kind, row_label, row_set, row_link, row_at}
use Rattle.context_laws.proofs.Links.{link_typed}
use Rattle.context_laws.proofs.Boxed.{leads_back}
use Rattle.context_laws.proofs.Every.{every_is_all, of_other, own_rows}

-- ---- context's definitions, for either trait

module _ (rs : List Setting) (set : List FileDescriptor) where
  abbrev pub field_by : Derive → (Bytes → Bool) → Bytes → FieldDescriptor → Bool
  field_by Copy = field_copy rs set
  field_by Eq = field_eq set

  abbrev pub message_by : Derive → ℕ → Bytes → Bool
  message_by Copy = message_copy rs set
  message_by Eq = message_eq set

  message_none : (d : Derive) (full : Bytes) → message_by d zero full ≡ false
  unfolding message_copy message_eq
  message_none Copy full = refl
  message_none Eq full = refl

  message_fields : (d : Derive) (n : ℕ) (full : Bytes) → message_by d (suc n) full ≡ all (field_by d (message_by d n) full) (fields_of (set_entries set) full)
  unfolding message_copy message_eq
  message_fields Copy n full = refl
  message_fields Eq n full = refl

  -- a field's answer is by derives' rule
  eq_cases : (message repeated nested plain can : Bool) → choose message (choose (repeated || nested) false can) plain ≡ choose message (choose repeated false (choose nested false can)) plain
  unfolding choose
  eq_cases message true nested plain can = refl
  eq_cases message false nested plain can = refl

  field_rule : (d : Derive) (can : Bytes → Bool) (r : Row) → field_by d can r.full r.field ≡ rule d (type r.field) (label r.field) (leads (links (set_entries set)) (type_name_of r) r.full) (is_set rs r) (can (type_name_of r))
  unfolding field_copy field_eq is_nested rule rules.can_field_derive_copy rules.can_field_derive_eq
  field_rule Copy can r = refl
  field_rule Eq can r =
      eq_cases (is_message r.field) (is_repeated r.field) (leads (links (set_entries set)) (type_name_of r) r.full) (type_eq (type r.field)) (can (type_name_of r))

-- ---- depth by depth

module _ (d : Derive) (rs : List Setting) (set : List FileDescriptor) (s : Sound (set_entries set)) where
  abbrev es : List Entry
  es = set_entries set

  -- the field of the row k
  field_same : {r : Row} {k : ℕ} → At r (rows_of es) k → (can : ℕ → Bool) (can' : Bytes → Bool) → ((full : Bytes) → listed es full ≡ true → can (number_of es full) ≡ can' full) → field_can d (tables_of es) (settings_of rs es) can k ≡ field_by rs set d can' r.full r.field
  unfolding field_can numbers.is_link
  field_same {r} {k} p can can' h =
      rw (row_kind s p, row_label s p, row_set s p rs)
      (rule_same d (type r.field) (label r.field) _ _ (is_set rs r) _ (can' (type_name_of r)) (λ is. leads_back s p (link_typed r.field is))
      (λ is. ap can (row_target s p) ∙ h (type_name_of r) (row_typed s p (link_typed r.field is))))
      ∙ sym (field_rule rs set d can' r)

  own_test : {r : Row} {k : ℕ} → At r (rows_of es) k → (full : Bytes) → listed es full ≡ true → eqb (owner_of (tables_of es) k) (number_of es full) ≡ same r.full full
  own_test {r} {k} p full h =
      rw (row_owner s p) (same_test (eqb (number_of es r.full) (number_of es full)) (same r.full full)
      (λ e. subst (λ (n : Bytes). same r.full n ≡ true) (number_one es r.full full s.distinct (row_listed s p) h (eqb-true _ _ e)) (same_refl r.full))
      (λ e. eq-eqb _ _ (ap (number_of es) (same_sound r.full full e))))

  by_depth : (n : ℕ) (full : Bytes) → listed es full ≡ true → message_can d (tables_of es) (settings_of rs es) n (number_of es full) ≡ message_by rs set d n full
  unfolding message_can entry_can tables_of
  by_depth zero full h = sym (message_none rs set d full)
  by_depth (suc n) full h =
      let can = message_can d (tables_of es) (settings_of rs es) n in
      rw (length-map (rows_of es) (λ (r : Row). r.owner))
      (every_is_all (rows_of es) (entry_can d (tables_of es) (settings_of rs es) can (number_of es full)) (of_other (field_by rs set d (message_by rs set d n)) full)
      (λ r k p. rw (own_test p full h, field_same p can (message_by rs set d n) (by_depth n))))
      ∙ own_rows (field_by rs set d (message_by rs set d n)) full 0 es s.distinct
      ∙ sym (message_fields rs set d n full)

  -- ---- links go from messages of the set to such, so no message leads to more than there are

  reach : {x y : ℕ} → Leads (tables_of es) x y → x < length es → y < length es
  reach here h = h
  reach (step l p) h =
      let r = row_at es l.field l.within in
      let is = sym (row_link s r.1) ∙ l.is in
      let t = find_entry es (type_name_of r.0) (row_typed s r.1 (link_typed r.0.field is)) in
      let number = number_entered s.distinct t in
      let within = at_within t.at in
      let target = row_target s r.1 in
      let to = l.to in
      reach p (omega arith)

  deep : (n : ℕ) (full : Bytes) → listed es full ≡ true → length es ≤ n → message_can d (tables_of es) (settings_of rs es) n (number_of es full) ≡ message_can d (tables_of es) (settings_of rs es) (length es) (number_of es full)
  deep n full h le =
      let t = find_entry es full h in
      let number = number_entered s.distinct t in
      let within = at_within t.at in
      let most = rank_within (tables_of es) (number_of es full) (length es) (λ k e. reach (leads_sound (tables_of es) (number_of es full) k e) (omega arith)) in
      settled d (tables_of es) (settings_of rs es) n (length es) (number_of es full) (omega arith) (omega arith) (omega arith) most

  -- more depth than there are messages gives the same
  pub deep_enough : (n : ℕ) (full : Bytes) → listed es full ≡ true → length es ≤ n → message_by rs set d n full ≡ message_by rs set d (length es) full
  deep_enough n full h le = sym (by_depth n full h) ∙ deep n full h le ∙ by_depth (length es) full h

  named : (full : Bytes) → listed es full ≡ true → can_message_derive d (tables_of es) (settings_of rs es) (number_of es full) ≡ message_by rs set d (length es) full
  unfolding can_message_derive
  named full h = deep messages full h s.few ∙ by_depth (length es) full h

  -- the message with the number a, and the field of the row k
  pub message_by_number : {e : Entry} {a : ℕ} → At e es a → can_message_derive d (tables_of es) (settings_of rs es) a ≡ message_by rs set d (length es) e.full
  message_by_number {e} p = rw (← number_at s.distinct p) (named e.full (listed_at p))

  pub field_by_number : {r : Row} {k : ℕ} → At r (rows_of es) k → can_field_derive d (tables_of es) (settings_of rs es) k ≡ field_by rs set d (message_by rs set d (length es)) r.full r.field
  unfolding can_field_derive
  field_by_number p = field_same p (can_message_derive d (tables_of es) (settings_of rs es)) (message_by rs set d (length es)) named

-- ---- in context.rs's names

module _ (rs : List Setting) (set : List FileDescriptor) (s : Sound (set_entries set)) where
  module _ {e : Entry} {a : ℕ} (p : At e (set_entries set) a) where
    pub message_copy_by_number : can_message_derive Copy (tables_of (set_entries set)) (settings_of rs (set_entries set)) a ≡ can_message_derive_copy rs set e.full
    unfolding can_message_derive_copy
    message_copy_by_number = message_by_number Copy rs set s p

    pub message_eq_by_number : can_message_derive Eq (tables_of (set_entries set)) (settings_of rs (set_entries set)) a ≡ can_message_derive_eq set e.full
    unfolding can_message_derive_eq
    message_eq_by_number = message_by_number Eq rs set s p

  module _ {r : Row} {k : ℕ} (p : At r (rows_of (set_entries set)) k) where
    pub field_copy_by_number : can_field_derive Copy (tables_of (set_entries set)) (settings_of rs (set_entries set)) k ≡ can_field_derive_copy rs set r.full r.field
    unfolding can_field_derive_copy
    field_copy_by_number = field_by_number Copy rs set s p

    pub field_eq_by_number : can_field_derive Eq (tables_of (set_entries set)) (settings_of rs (set_entries set)) k ≡ can_field_derive_eq set r.full r.field
    unfolding can_field_derive_eq
    field_eq_by_number = field_by_number Eq rs set s p

  -- no more depth than there are messages counts, and so a message's answer is over its fields' answers, without a depth
  module _ (full : Bytes) (h : listed (set_entries set) full ≡ true) where
    pub copy_enough : (n : ℕ) → depth set ≤ n → message_copy rs set n full ≡ can_message_derive_copy rs set full
    unfolding can_message_derive_copy
    copy_enough n le = deep_enough Copy rs set s n full h le

    pub eq_enough : (n : ℕ) → depth set ≤ n → message_eq set n full ≡ can_message_derive_eq set full
    unfolding can_message_derive_eq
    eq_enough n le = deep_enough Eq rs set s n full h le

    pub copy_by_fields : can_message_derive_copy rs set full ≡ all (can_field_derive_copy rs set full) (fields_of (set_entries set) full)
    unfolding message_copy can_field_derive_copy
    copy_by_fields = sym (copy_enough (suc (depth set)) (omega arith))

    pub eq_by_fields : can_message_derive_eq set full ≡ all (can_field_derive_eq set full) (fields_of (set_entries set) full)
    unfolding message_eq can_field_derive_eq
    eq_by_fields = sym (eq_enough (suc (depth set)) (omega arith))
