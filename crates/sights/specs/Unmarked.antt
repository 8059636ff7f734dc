-- Events and sights without what they are for. Assumes nothing.
use Rattle.std.proofs.Math.Option.{Option, some, none}
use Rattle.sights.specs.Events.{Event, open_module, open_declaration, open_block, close_block, open_field, close_field, open_tag, close_tag, open_wrap, close_wrap, meet_path}
use Rattle.sights.specs.Sights.{Item, Label, Use, BoxUse, Sight, an_item, a_path, a_box}

abbrev pub unmarked_event : Event → Event
unmarked_event (open_module n) = open_module n
unmarked_event (open_declaration r n) = open_declaration none n
unmarked_event open_block = open_block
unmarked_event close_block = close_block
unmarked_event (open_field o n) = open_field none n
unmarked_event close_field = close_field
unmarked_event open_tag = open_tag
unmarked_event close_tag = close_tag
unmarked_event (open_wrap w) = open_wrap w
unmarked_event close_wrap = close_wrap
unmarked_event (meet_path r p) = meet_path none p

abbrev pub unmarked_item : Item → Item
unmarked_item i = record { place = i.place; name = i.name; is_module = i.is_module; mark = none }

abbrev pub unmarked_label : Label → Label
unmarked_label l = record { name = l.name; mark = none }

abbrev pub map_option : {A B : Type 0} → (A → B) → Option A → Option B
map_option f none = none
map_option f (some x) = some (f x)

abbrev pub unmarked_use : Use → Use
unmarked_use u =
    record {
      place = u.place;
      owner = map_option unmarked_item u.owner;
      field = map_option unmarked_label u.field;
      wraps = u.wraps;
      in_tag = u.in_tag;
      path = u.path;
      mark = none;
    }

abbrev pub unmarked_box : BoxUse → BoxUse
unmarked_box x = record { owner = map_option unmarked_item x.owner; field = map_option unmarked_label x.field }

abbrev pub unmarked : Sight → Sight
unmarked (an_item i) = an_item (unmarked_item i)
unmarked (a_path u) = a_path (unmarked_use u)
unmarked (a_box x) = a_box (unmarked_box x)
