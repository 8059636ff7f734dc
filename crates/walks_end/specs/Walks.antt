-- Walks through what is seen in the texts of all files of a set together. Document 01's sentences stand quoted beside the definitions.
use Rattle.std.specs.Prelude.{◌≡◌, Bool, true, false, not}
use Rattle.std.proofs.Math.Option.{some}
use mathlib.Core.List.{List, [], ◌∷◌, Memᴰ}
use Rattle.base.specs.Lists.{all}
use Rattle.descriptor.specs.Descriptor.{FieldDescriptor, FileDescriptor}
use Rattle.name_rules.specs.Accessors.{is_group}
use Rattle.name_rules.specs.FullNames.{set_fields}
use Rattle.code_generator.specs.Piece.{Wrap, opt, vec, box, table}
use Rattle.sights.specs.Sights.{Item, Use}
use Rattle.paths_reach.specs.Reach.{those, is_that_declaration, inside}

-- "Group-free: no field of the set has type group."
unfoldable pub group_free : List FileDescriptor → Bool
group_free set = all (λ (f : FieldDescriptor). not (is_group f)) (set_fields set)

-- "no field or variant with Box, Vec or map around the path": nothing but Option stands around it
abbrev pub only_options : List Wrap → Bool
only_options [] = true
only_options (opt ∷ ws) = only_options ws
only_options (vec ∷ ws) = false
only_options (box ∷ ws) = false
only_options (table ∷ ws) = false

-- "from a struct to a struct or oneof enum that such a path in a field's type reaches, and on from that enum through its variants":
-- from one declaration to another, by a path that is seen in it, outside tags. What an extern path stands for is no path that is seen.
-- It leads to all declarations that its names lead to; under a name check that says yes that is just one.
pub record Step (items : List Item) (us : List Use) (from to : Item) : Type 0 where
  pub path : Use
  pub seen : Memᴰ path us
  pub in_type : path.in_tag ≡ false
  pub stands_in : path.owner ≡ some from
  pub free : only_options path.wraps ≡ true
  pub leads_to : Memᴰ to (those (is_that_declaration (inside path) path.path.last) items)

-- document 01's "walk": one step or more
pub data Walk (items : List Item) (us : List Use) : Item → Item → Type 0 where
  last : {a c : Item} → Step items us a c → Walk items us a c
  more : {a c d : Item} → Step items us a c → Walk items us c d → Walk items us a d
