-- Boxes, by full names and by numbers. Assumes nothing.
use Rattle.std.specs.Prelude.{◌≡◌, Bool, true, false, ◌&&◌, ◌||◌, not, ℕ}
use Rattle.std.proofs.Math.Path.{refl}
use Rattle.std.proofs.Common.{sym, ◌∙◌}
use mathlib.Core.List.{List, Memᴰ}
use Rattle.std.proofs.Math.Logic.{⊎_elim}
use Rattle.base.specs.Choose.{choose}
use Rattle.base.specs.Tests.{both_ways, and_left, or_left, or_cases, and_same}
use Rattle.descriptor.specs.Descriptor.{Bytes, FileDescriptor}
use Rattle.options.specs.Settings.{Setting}
use Rattle.name_rules.specs.Accessors.{text, is_repeated, is_message, is_group}
use Rattle.name_rules.specs.FullNames.{◌·◌, Entry, set_entries}
use Rattle.context.specs.MessageGraph.{is_link, links, leads, is_nested}
use Rattle.context.specs.Context.{has, should_box}
use Rattle.message_graph.specs.Fields.{owner_of, target_of, kind_of, label_of}
use Rattle.message_graph.specs.Leads.{leadsb}
use Rattle.message_graph.specs.Walks.{taken, join, around}
use Rattle.message_graph.specs.Walks.Walk.{go}
use Rattle.message_graph.specs.Boxes.{may_loop, boxed_by_loop}
use Rattle.context_laws.specs.At.{At}
use Rattle.context_laws.specs.Tables.{Row, rows_of, type_name_of, tables_of, Sound}
use Rattle.context_laws.proofs.Rows.{row_listed, row_typed, row_owner, row_target, row_kind, row_label}
use Rattle.context_laws.specs.Links.{Led}
use Rattle.context_laws.proofs.Links.{led_sound, led_complete, link_of, in_set, leads_by_number}

-- a singular field of type message or group
abbrev pub may_box : Row → Bool
may_box r = (is_message r.field || is_group r.field) && not (is_repeated r.field)

box_cases : (typed repeated nested set : Bool) → choose repeated false (choose (typed && nested) true set) ≡ choose ((typed && not repeated) && nested) true (choose repeated false set)
unfolding choose
box_cases true true nested set = refl
box_cases true false nested set = refl
box_cases false true nested set = refl
box_cases false false nested set = refl

module _ {es : List Entry} (s : Sound es) {r : Row} {k : ℕ} (p : At r (rows_of es) k) where
  -- leading back, of a field whose type is a message or group
  pub leads_back : (is_message r.field || is_group r.field) ≡ true → leadsb (tables_of es) (target_of (tables_of es) k) (owner_of (tables_of es) k) ≡ leads (links es) (type_name_of r) r.full
  leads_back h = rw (row_target s p, row_owner s p) (leads_by_number s (type_name_of r) r.full (row_typed s p h) (row_listed s p))

  may_loop_is : may_loop (kind_of (tables_of es) k) (label_of (tables_of es) k) ≡ may_box r
  unfolding may_loop
  may_loop_is = rw (row_kind s p, row_label s p)

  -- the field of the row k is boxed by a loop: it is such a field, and its type leads to its message
  pub boxed_by_names : boxed_by_loop (tables_of es) k ≡ (may_box r && leads (links es) (type_name_of r) r.full)
  unfolding boxed_by_loop
  boxed_by_names =
      rw may_loop_is (and_same (may_box r) _ _ (λ h. leads_back (and_left (is_message r.field || is_group r.field) (not (is_repeated r.field)) h)))

module _ (rs : List Setting) (set : List FileDescriptor) where
  -- `should_box_impl`: a Box by the loop, or else by the setting
  pub should_box_by_number : Sound (set_entries set) → {r : Row} {k : ℕ} → At r (rows_of (set_entries set)) k → (at : Bytes) → should_box rs set r.full at r.field ≡ choose (boxed_by_loop (tables_of (set_entries set)) k) true (choose (is_repeated r.field) false (has rs 4 (at · text r.field.name)))
  unfolding should_box is_nested
  should_box_by_number s {r} p at =
      rw (boxed_by_names s p) (box_cases (is_message r.field || is_group r.field) (is_repeated r.field) (leads (links (set_entries set)) (type_name_of r) r.full) (has rs 4 (at · text r.field.name)))

-- document 01's boxes by full names: where a walk along links comes back to the message that it started from, each of its fields has a Box;
-- and a link that has a Box without a setting is on such a walk
pub record Boxing (rs : List Setting) (set : List FileDescriptor) : Type 0 where
  pub all : (a : Bytes) (w : Led (links (set_entries set)) a a) (r : Row) (k : ℕ) → At r (rows_of (set_entries set)) k → is_link r.field ≡ true → Memᴰ (link_of r) (taken w) → (at : Bytes) → should_box rs set r.full at r.field ≡ true
  pub only : (r : Row) (k : ℕ) → At r (rows_of (set_entries set)) k → is_link r.field ≡ true → (at : Bytes) → has rs 4 (at · text r.field.name) ≡ false → should_box rs set r.full at r.field ≡ true → (w : Led (links (set_entries set)) r.full r.full) × Memᴰ (link_of r) (taken w)

-- of a link, leading back and the setting count
link_boxed : (message group repeated nested set : Bool) → (message && not repeated) ≡ true → choose repeated false (choose ((message || group) && nested) true set) ≡ (nested || set)
unfolding choose
link_boxed true group false true set is = refl
link_boxed true group false false set is = refl
link_boxed true group true nested set is = both_ways is refl
link_boxed false group repeated nested set is = both_ways is refl

module _ (rs : List Setting) (set : List FileDescriptor) where
  link_should_box : (r : Row) → is_link r.field ≡ true → (at : Bytes) → should_box rs set r.full at r.field ≡ (leads (links (set_entries set)) (type_name_of r) r.full || has rs 4 (at · text r.field.name))
  unfolding should_box is_nested
  link_should_box r is at =
      link_boxed (is_message r.field) (is_group r.field) (is_repeated r.field) (leads (links (set_entries set)) (type_name_of r) r.full) (has rs 4 (at · text r.field.name)) is

  pub boxes_on_walks : Boxing rs set
  unfolding taken
  boxes_on_walks = record {
    all = λ a w r k p is m at.
        let round = around w (link_of r) m in
        link_should_box r is at ∙ or_left _ (led_complete (links (set_entries set)) (type_name_of r) r.full (join round.1 round.0));
    only = λ r k p is at e boxed.
        ⊎_elim (λ back. (go (link_of r) (in_set (set_entries set) p is) refl (led_sound (links (set_entries set)) (type_name_of r) r.full back), Memᴰ.head refl))
        (λ h. both_ways h e)
        (or_cases (leads (links (set_entries set)) (type_name_of r) r.full) (has rs 4 (at · text r.field.name)) (sym (link_should_box r is at) ∙ boxed));
  }
