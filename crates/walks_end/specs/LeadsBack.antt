-- The test of document 01's "leading back": it says yes of the singular message fields from whose type a walk along links leads to their message.
-- Assumes nothing.
use Rattle.std.specs.Prelude.{◌≡◌, true, false, not, ◌↔◌, List}
use Rattle.std.proofs.Common.{ap}
use Rattle.std.proofs.lemmas.Bool.{not-true}
use Rattle.base.specs.Tests.{and_left, and_right, and_both}
use Rattle.descriptor.specs.Descriptor.{FileDescriptor}
use Rattle.name_rules.specs.Accessors.{text, is_repeated, is_message}
use Rattle.name_rules.specs.FullNames.{set_entries}
use Rattle.context.specs.MessageGraph.{is_link, links, is_nested}
use Rattle.context_laws.specs.Links.{Led}
use Rattle.context_laws.proofs.Links.{led_sound, led_complete}
use Rattle.code_generator.specs.Piece.{Owned}
use Rattle.walks_end.specs.BoxedFields.{leads_back}

pub leads_back_is : (set : List FileDescriptor) (o : Owned)
    → (leads_back set o ≡ true) ↔ ((is_message o.field ≡ true) × (is_repeated o.field ≡ false) × Led (links (set_entries set)) (text o.field.type_name) o.message)
unfolding is_nested
leads_back_is set o =
    let f = o.field in
    let nested = is_nested set (text f.type_name) o.message in (
      λ h.
          let link = and_left (is_link f) nested h in (
            and_left (is_message f) (not (is_repeated f)) link,
            not-true (is_repeated f) (and_right (is_message f) (not (is_repeated f)) link),
            led_sound (links (set_entries set)) (text f.type_name) o.message (and_right (is_link f) nested h),
          ),
      λ h. and_both (and_both h.0 (ap not h.1)) (led_complete (links (set_entries set)) (text f.type_name) o.message h.2),
    )
