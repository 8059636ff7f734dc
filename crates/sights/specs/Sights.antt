-- What a reader of brackets sees in a text: modules and declarations, paths and Boxes, each with what stands around it. Assumes nothing.
use Rattle.std.specs.Prelude.{Bool, true, false, List, [], ◌∷◌, ◌++◌, map, reverse}
use Rattle.std.proofs.Math.Option.{Option, some, none}
use Rattle.base.specs.Lists.{all_of}
use Rattle.ident.specs.Ident.{to_snake}
use Rattle.descriptor.specs.Descriptor.{Bytes, FileDescriptor}
use Rattle.options.specs.Settings.{Setting}
use Rattle.name_rules.specs.FullNames.{package_scope}
use Rattle.code_generator.specs.Piece.{pieces, Wrap, opt, vec, box, table, Ref, Owned}
use Rattle.code_generator.specs.Resolve.{local_path}
use Rattle.code_generator.specs.Generate.{generate}
use Rattle.sights.specs.Events.{WrittenPath, Event, open_module, open_declaration, open_block, close_block, open_field, close_field, open_tag, close_tag, open_wrap, close_wrap, meet_path, events}

-- ---- what is seen
-- what stands in a module: a module or a declaration. place: the modules around it, innermost first; mark: what a declaration is for
pub record Item : Type 0 where
  pub place : List Bytes
  pub name : Bytes
  pub is_module : Bool
  pub mark : Option Ref

-- a field or a variant
pub record Label : Type 0 where
  pub name : Bytes
  pub mark : Option Owned

-- a path. owner: the declaration around it; wraps: what stands around it in a type, innermost first; mark: what it is for
pub record Use : Type 0 where
  pub place : List Bytes
  pub owner : Option Item
  pub field : Option Label
  pub wraps : List Wrap
  pub in_tag : Bool
  pub path : WrittenPath
  pub mark : Option Ref

-- a Box
pub record BoxUse : Type 0 where
  pub owner : Option Item
  pub field : Option Label

pub data Sight : Type 0 where
  an_item : Item → Sight
  a_path : Use → Sight
  a_box : BoxUse → Sight

-- ---- what is open, innermost first
pub data Frame : Type 0 where
  in_module : Bytes → Frame
  in_declaration : Item → Frame
  in_block : Frame
  in_field : Label → Frame
  in_tag : Frame
  in_wrap : Wrap → Frame

-- base: the place of the text itself
abbrev pub place_of : List Bytes → List Frame → List Bytes
place_of base [] = base
place_of base (in_module n ∷ fs) = n ∷ place_of base fs
place_of base (in_declaration i ∷ fs) = place_of base fs
place_of base (in_block ∷ fs) = place_of base fs
place_of base (in_field l ∷ fs) = place_of base fs
place_of base (in_tag ∷ fs) = place_of base fs
place_of base (in_wrap w ∷ fs) = place_of base fs

abbrev pub owner_of : List Frame → Option Item
owner_of [] = none
owner_of (in_module n ∷ fs) = none
owner_of (in_declaration i ∷ fs) = some i
owner_of (in_block ∷ fs) = owner_of fs
owner_of (in_field l ∷ fs) = owner_of fs
owner_of (in_tag ∷ fs) = owner_of fs
owner_of (in_wrap w ∷ fs) = owner_of fs

abbrev pub field_of : List Frame → Option Label
field_of [] = none
field_of (in_module n ∷ fs) = none
field_of (in_declaration i ∷ fs) = none
field_of (in_block ∷ fs) = none
field_of (in_field l ∷ fs) = some l
field_of (in_tag ∷ fs) = field_of fs
field_of (in_wrap w ∷ fs) = field_of fs

abbrev pub wraps_of : List Frame → List Wrap
wraps_of [] = []
wraps_of (in_module n ∷ fs) = []
wraps_of (in_declaration i ∷ fs) = []
wraps_of (in_block ∷ fs) = []
wraps_of (in_field l ∷ fs) = []
wraps_of (in_tag ∷ fs) = wraps_of fs
wraps_of (in_wrap w ∷ fs) = w ∷ wraps_of fs

abbrev pub tagged : List Frame → Bool
tagged [] = false
tagged (in_module n ∷ fs) = false
tagged (in_declaration i ∷ fs) = false
tagged (in_block ∷ fs) = false
tagged (in_field l ∷ fs) = false
tagged (in_tag ∷ fs) = true
tagged (in_wrap w ∷ fs) = tagged fs

-- the innermost closed
abbrev pub closed : List Frame → List Frame
closed [] = []
closed (x ∷ fs) = fs

-- ---- reading
abbrev pub module_at : List Bytes → List Frame → Bytes → Item
module_at base fs n = record { place = place_of base fs; name = n; is_module = true; mark = none }

abbrev pub declaration_at : List Bytes → List Frame → Option Ref → Bytes → Item
declaration_at base fs r n = record { place = place_of base fs; name = n; is_module = false; mark = r }

abbrev pub use_at : List Bytes → List Frame → Option Ref → WrittenPath → Use
use_at base fs r p =
    record {
      place = place_of base fs;
      owner = owner_of fs;
      field = field_of fs;
      wraps = wraps_of fs;
      in_tag = tagged fs;
      path = p;
      mark = r;
    }

abbrev pub box_seen : Wrap → List Frame → List Sight
box_seen opt fs = []
box_seen vec fs = []
box_seen box fs = a_box (record { owner = owner_of fs; field = field_of fs }) ∷ []
box_seen table fs = []

abbrev pub read : List Bytes → List Frame → List Event → List Sight
read base fs [] = []
read base fs (open_module n ∷ es) = an_item (module_at base fs n) ∷ read base (in_module n ∷ fs) es
read base fs (open_declaration r n ∷ es) = an_item (declaration_at base fs r n) ∷ read base (in_declaration (declaration_at base fs r n) ∷ fs) es
read base fs (open_block ∷ es) = read base (in_block ∷ fs) es
read base fs (close_block ∷ es) = read base (closed fs) es
read base fs (open_field o n ∷ es) = read base (in_field (record { name = n; mark = o }) ∷ fs) es
read base fs (close_field ∷ es) = read base (closed fs) es
read base fs (open_tag ∷ es) = read base (in_tag ∷ fs) es
read base fs (close_tag ∷ es) = read base (closed fs) es
read base fs (open_wrap w ∷ es) = box_seen w fs ++ read base (in_wrap w ∷ fs) es
read base fs (close_wrap ∷ es) = read base (closed fs) es
read base fs (meet_path r p ∷ es) = a_path (use_at base fs r p) ∷ read base fs es

-- ---- what is seen in the texts of a set's files
-- the place of what is written for a scope: its names are modules
abbrev pub scope_place : Bytes → List Bytes
scope_place scope = map to_snake (reverse (local_path scope))

-- a text stands in its package's module, or the root without one
abbrev pub file_place : FileDescriptor → List Bytes
file_place f = scope_place (package_scope f.package_name)

unfoldable pub file_sights : List Setting → List FileDescriptor → FileDescriptor → List Sight
file_sights rs set f = read (file_place f) [] (events (pieces (generate rs set f)))

unfoldable pub set_sights : List Setting → List FileDescriptor → List Sight
set_sights rs set = all_of (file_sights rs set) set

-- ---- of one sort
abbrev pub items : List Sight → List Item
items [] = []
items (an_item i ∷ ss) = i ∷ items ss
items (a_path u ∷ ss) = items ss
items (a_box x ∷ ss) = items ss

abbrev pub uses : List Sight → List Use
uses [] = []
uses (an_item i ∷ ss) = uses ss
uses (a_path u ∷ ss) = u ∷ uses ss
uses (a_box x ∷ ss) = uses ss

abbrev pub boxes : List Sight → List BoxUse
boxes [] = []
boxes (an_item i ∷ ss) = boxes ss
boxes (a_path u ∷ ss) = boxes ss
boxes (a_box x ∷ ss) = x ∷ boxes ss
