-- To read events without marks is to read them, and to take the marks away. Assumes nothing.
use Rattle.std.specs.Prelude.{◌≡◌, refl, List, [], ◌∷◌, map}
use Rattle.std.proofs.Common.{ap}
use Rattle.std.proofs.lemmas.List.{map-append}
use Rattle.descriptor.specs.Descriptor.{Bytes}
use Rattle.code_generator.specs.Piece.{Wrap, opt, vec, box, table}
use Rattle.sights.specs.Events.{Event, open_module, open_declaration, open_block, close_block, open_field, close_field, open_tag, close_tag, open_wrap, close_wrap, meet_path}
use Rattle.sights.specs.Sights.{Item, Use, BoxUse, Sight, an_item, a_path, a_box, Frame, in_module, in_declaration, in_block, in_field, in_tag, in_wrap, place_of, owner_of, field_of, wraps_of, tagged, closed, declaration_at, box_seen, read, items, uses, boxes}
use Rattle.sights.specs.Unmarked.{unmarked_event, unmarked_item, unmarked_label, map_option, unmarked_use, unmarked_box, unmarked}

abbrev unmarked_frame : Frame → Frame
unmarked_frame (in_module n) = in_module n
unmarked_frame (in_declaration i) = in_declaration (unmarked_item i)
unmarked_frame in_block = in_block
unmarked_frame (in_field l) = in_field (unmarked_label l)
unmarked_frame in_tag = in_tag
unmarked_frame (in_wrap w) = in_wrap w

place_unmarked : (base : List Bytes) (fs : List Frame) → place_of base (map unmarked_frame fs) ≡ place_of base fs
place_unmarked base [] = refl
place_unmarked base (in_module n ∷ fs) = ap {B = List Bytes} (λ (l : List Bytes). n ∷ l) (place_unmarked base fs)
place_unmarked base (in_declaration i ∷ fs) = place_unmarked base fs
place_unmarked base (in_block ∷ fs) = place_unmarked base fs
place_unmarked base (in_field l ∷ fs) = place_unmarked base fs
place_unmarked base (in_tag ∷ fs) = place_unmarked base fs
place_unmarked base (in_wrap w ∷ fs) = place_unmarked base fs

owner_unmarked : (fs : List Frame) → owner_of (map unmarked_frame fs) ≡ map_option unmarked_item (owner_of fs)
owner_unmarked [] = refl
owner_unmarked (in_module n ∷ fs) = refl
owner_unmarked (in_declaration i ∷ fs) = refl
owner_unmarked (in_block ∷ fs) = owner_unmarked fs
owner_unmarked (in_field l ∷ fs) = owner_unmarked fs
owner_unmarked (in_tag ∷ fs) = owner_unmarked fs
owner_unmarked (in_wrap w ∷ fs) = owner_unmarked fs

field_unmarked : (fs : List Frame) → field_of (map unmarked_frame fs) ≡ map_option unmarked_label (field_of fs)
field_unmarked [] = refl
field_unmarked (in_module n ∷ fs) = refl
field_unmarked (in_declaration i ∷ fs) = refl
field_unmarked (in_block ∷ fs) = refl
field_unmarked (in_field l ∷ fs) = refl
field_unmarked (in_tag ∷ fs) = field_unmarked fs
field_unmarked (in_wrap w ∷ fs) = field_unmarked fs

wraps_unmarked : (fs : List Frame) → wraps_of (map unmarked_frame fs) ≡ wraps_of fs
wraps_unmarked [] = refl
wraps_unmarked (in_module n ∷ fs) = refl
wraps_unmarked (in_declaration i ∷ fs) = refl
wraps_unmarked (in_block ∷ fs) = refl
wraps_unmarked (in_field l ∷ fs) = refl
wraps_unmarked (in_tag ∷ fs) = wraps_unmarked fs
wraps_unmarked (in_wrap w ∷ fs) = ap {B = List Wrap} (λ (l : List Wrap). w ∷ l) (wraps_unmarked fs)

tagged_unmarked : (fs : List Frame) → tagged (map unmarked_frame fs) ≡ tagged fs
tagged_unmarked [] = refl
tagged_unmarked (in_module n ∷ fs) = refl
tagged_unmarked (in_declaration i ∷ fs) = refl
tagged_unmarked (in_block ∷ fs) = refl
tagged_unmarked (in_field l ∷ fs) = refl
tagged_unmarked (in_tag ∷ fs) = refl
tagged_unmarked (in_wrap w ∷ fs) = tagged_unmarked fs

closed_unmarked : (fs : List Frame) → map unmarked_frame (closed fs) ≡ closed (map unmarked_frame fs)
closed_unmarked [] = refl
closed_unmarked (x ∷ fs) = refl

box_unmarked : (w : Wrap) (fs : List Frame) → box_seen w (map unmarked_frame fs) ≡ map unmarked (box_seen w fs)
box_unmarked opt fs = refl
box_unmarked vec fs = refl
box_unmarked box fs = rw (owner_unmarked fs, field_unmarked fs)
box_unmarked table fs = refl

read_in : (base : List Bytes) (fs : List Frame) (es : List Event) → read base (map unmarked_frame fs) (map unmarked_event es) ≡ map unmarked (read base fs es)
read_in base fs [] = refl
read_in base fs (open_module n ∷ es) = rw (place_unmarked base fs, read_in base (in_module n ∷ fs) es)
read_in base fs (open_declaration r n ∷ es) = rw (place_unmarked base fs, read_in base (in_declaration (declaration_at base fs r n) ∷ fs) es)
read_in base fs (open_block ∷ es) = read_in base (in_block ∷ fs) es
read_in base fs (close_block ∷ es) = rw (← closed_unmarked fs) (read_in base (closed fs) es)
read_in base fs (open_field o n ∷ es) = read_in base (in_field (record { name = n; mark = o }) ∷ fs) es
read_in base fs (close_field ∷ es) = rw (← closed_unmarked fs) (read_in base (closed fs) es)
read_in base fs (open_tag ∷ es) = read_in base (in_tag ∷ fs) es
read_in base fs (close_tag ∷ es) = rw (← closed_unmarked fs) (read_in base (closed fs) es)
read_in base fs (open_wrap w ∷ es) = rw (map-append unmarked (box_seen w fs) (read base (in_wrap w ∷ fs) es), box_unmarked w fs, read_in base (in_wrap w ∷ fs) es)
read_in base fs (close_wrap ∷ es) = rw (← closed_unmarked fs) (read_in base (closed fs) es)
read_in base fs (meet_path r p ∷ es) =
    rw (place_unmarked base fs, owner_unmarked fs, field_unmarked fs, wraps_unmarked fs, tagged_unmarked fs, read_in base fs es)

pub read_unmarked : (base : List Bytes) (es : List Event) → read base [] (map unmarked_event es) ≡ map unmarked (read base [] es)
read_unmarked base es = read_in base [] es

-- ---- of one sort
pub items_unmarked : (ss : List Sight) → items (map unmarked ss) ≡ map unmarked_item (items ss)
items_unmarked [] = refl
items_unmarked (an_item i ∷ ss) = ap {B = List Item} (λ (l : List Item). unmarked_item i ∷ l) (items_unmarked ss)
items_unmarked (a_path u ∷ ss) = items_unmarked ss
items_unmarked (a_box x ∷ ss) = items_unmarked ss

pub uses_unmarked : (ss : List Sight) → uses (map unmarked ss) ≡ map unmarked_use (uses ss)
uses_unmarked [] = refl
uses_unmarked (an_item i ∷ ss) = uses_unmarked ss
uses_unmarked (a_path u ∷ ss) = ap {B = List Use} (λ (l : List Use). unmarked_use u ∷ l) (uses_unmarked ss)
uses_unmarked (a_box x ∷ ss) = uses_unmarked ss

pub boxes_unmarked : (ss : List Sight) → boxes (map unmarked ss) ≡ map unmarked_box (boxes ss)
boxes_unmarked [] = refl
boxes_unmarked (an_item i ∷ ss) = boxes_unmarked ss
boxes_unmarked (a_path u ∷ ss) = boxes_unmarked ss
boxes_unmarked (a_box x ∷ ss) = ap {B = List BoxUse} (λ (l : List BoxUse). unmarked_box x ∷ l) (boxes_unmarked ss)
