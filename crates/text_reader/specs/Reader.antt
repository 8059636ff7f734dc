-- A reader of the texts' bytes. It knows Rust's keywords and brackets, prost's tags and the names of the types that stand around others,
-- and nothing of descriptors. It goes by words and brackets, whatever the lines and indents. Assumes nothing.
use Rattle.std.specs.Prelude.{ℕ, zero, suc, Bool, true, false, ◌||◌, List, [], ◌∷◌, ◌++◌, reverse}
use Rattle.std.proofs.Math.Option.{none}
use Rattle.base.specs.Bytes.{b, same}
use Rattle.base.specs.Choose.{choose}
use Rattle.base.specs.Lists.{is_empty}
use Rattle.ident.specs.Ident.{among}
use Rattle.ident.specs.Reference.{primitive_types}
use Rattle.descriptor.specs.Descriptor.{Bytes}
use Rattle.code_generator.specs.Piece.{Wrap, opt, vec, box, table}
use Rattle.sights.specs.Events.{Event, open_module, open_declaration, open_block, close_block, open_field, close_field, open_tag, close_tag, open_wrap, close_wrap, meet_path}
use Rattle.text_reader.specs.Symbols.{Symbol}
use Rattle.text_reader.specs.Tokens.{is_char, Token, word, sign, quote, value, code, tokens_from}

-- ---- paths
-- the modules before the last name: each `super` in front counts
abbrev pub path_through : ℕ → List Bytes → Bytes → Event
path_through supers [] last = meet_path none (record { supers = supers; modules = []; last = last })
path_through supers (m ∷ ms) last =
    choose (same m (b "super")) (path_through (suc supers) ms last) (meet_path none (record { supers = supers; modules = m ∷ ms; last = last }))

-- a path from its names, the last one first. None if it is foreign, i.e. begins with `::` or an option's value, or is the name of a primitive type
abbrev pub path_of : Bool → List Bytes → List Event
path_of true names = []
path_of false [] = []
path_of false (last ∷ []) = choose (among last primitive_types) [] (path_through 0 [] last ∷ [])
path_of false (last ∷ m ∷ ms) = path_through 0 (reverse (m ∷ ms)) last ∷ []

-- `::` in front of the first name makes a path foreign
abbrev pub foreign_at : Bool → List Bytes → Bool
foreign_at foreign names = foreign || is_empty names

-- what stands before `<`, by its last name: Option, Vec, Box, and else a map
abbrev pub wrap_of : List Bytes → Wrap
wrap_of [] = table
wrap_of (w ∷ ws) = choose (same w (b "Option")) opt (choose (same w (b "Vec")) vec (choose (same w (b "Box")) box table))

-- a path in a tag
abbrev pub tagged_path : Bool → List Bytes → List Event
tagged_path foreign names = open_tag ∷ (path_of foreign names ++ (close_tag ∷ []))

-- ---- where the reader is
-- the blocks that are open
pub data Body : Type 0 where
  module_body struct_body enum_body code_body : Body

-- the word before a string or bracket of an attribute: one before a path, one before a map's tag, or another
pub data Key : Type 0 where
  path_key map_key other_key : Key

abbrev pub key_of : Bytes → Key
key_of w =
    choose (same w (b "enumeration") || same w (b "oneof")) path_key (choose (same w (b "map") || same w (b "btree_map")) map_key other_key)

-- start: where an item, a field, a variant or a statement may begin; public: behind `pub`; naming: behind `mod`, `struct` or `enum`;
-- opening: behind the name; header: in the head of any other item; labelled: behind the name of a field or variant; typed: in its type,
-- so many `<` deep, with the names of a path so far; discriminant: up to the comma behind a variant; hash, attribute: behind `#`, and
-- so many brackets deep in an attribute; skipped: in a string; tag_path: in a string that is a path; map_tag: in a string that is a
-- map's tag; map_path: in brackets there
pub data At : Type 0 where
  start public header discriminant hash : At
  naming : Body → At
  opening : Body → Bytes → At
  labelled : Bytes → At
  typed : ℕ → Bool → List Bytes → At
  attribute : ℕ → Key → At
  skipped : At → At
  tag_path : ℕ → Bool → List Bytes → At
  map_tag : ℕ → Key → At
  map_path : ℕ → Bool → List Bytes → At

-- ---- what a token leads to: what is seen, the blocks that are open, and where the reader is then
pub record Move : Type 0 where
  pub seen : List Event
  pub bodies : List Body
  pub next : At

abbrev sees : List Event → List Body → At → Move
sees es bs q = record { seen = es; bodies = bs; next = q }

abbrev to : List Body → At → Move
to bs q = sees [] bs q

abbrev pub outside : List Body → List Body
outside [] = []
outside (x ∷ bs) = bs

abbrev is_opener : ℕ → Bool
is_opener c = is_char "(" c || (is_char "[" c || is_char "{" c)

abbrev is_closer : ℕ → Bool
is_closer c = is_char ")" c || (is_char "]" c || is_char "}" c)

-- a word where something may begin, by the block that it stands in (the second list is the first)
abbrev begin_in : List Body → List Body → Bytes → Move
begin_in bs [] w = to bs (choose (same w (b "pub")) public header)
begin_in bs (module_body ∷ _) w = to bs (choose (same w (b "pub")) public header)
begin_in bs (struct_body ∷ _) w = to bs (choose (same w (b "pub")) public (labelled w))
begin_in bs (enum_body ∷ _) w = to bs (labelled w)
begin_in bs (code_body ∷ _) w = to bs start

abbrev at_start : List Body → Token → Move
at_start bs (word w) = begin_in bs bs w
at_start bs (sign c) =
    choose (is_char "}" c) (sees (close_block ∷ []) (outside bs) start)
    (choose (is_char "{" c) (sees (open_block ∷ []) (code_body ∷ bs) start) (choose (is_char "#" c) (to bs hash) (to bs start)))
at_start bs quote = to bs (skipped start)
at_start bs value = to bs start

-- behind `pub`
abbrev item_word : List Body → Bytes → Move
item_word bs w =
    choose (same w (b "mod")) (to bs (naming module_body))
    (choose (same w (b "struct")) (to bs (naming struct_body)) (choose (same w (b "enum")) (to bs (naming enum_body)) (to bs header)))

abbrev public_in : List Body → List Body → Bytes → Move
public_in bs [] w = item_word bs w
public_in bs (module_body ∷ _) w = item_word bs w
public_in bs (struct_body ∷ _) w = to bs (labelled w)
public_in bs (enum_body ∷ _) w = item_word bs w
public_in bs (code_body ∷ _) w = item_word bs w

-- a module, declaration or other block opens
abbrev opened : Body → Bytes → Event
opened module_body n = open_module n
opened struct_body n = open_declaration none n
opened enum_body n = open_declaration none n
opened code_body n = open_block

-- a comma ends a field; inside `<` and `>` it stands between two types. es: the path before it
abbrev comma_at : ℕ → List Body → List Event → Move
comma_at zero bs es = sees (es ++ (close_field ∷ [])) bs start
comma_at (suc d) bs es = sees es bs (typed (suc d) false [])

abbrev out_of : ℕ → ℕ
out_of zero = zero
out_of (suc d) = d

abbrev in_type : List Body → ℕ → Bool → List Bytes → Token → Move
in_type bs d foreign names (word w) = to bs (typed d foreign (w ∷ names))
in_type bs d foreign names (sign c) =
    choose (is_char "<" c) (sees (open_wrap (wrap_of names) ∷ []) bs (typed (suc d) false []))
    (choose (is_char ">" c) (sees (path_of foreign names ++ (close_wrap ∷ [])) bs (typed (out_of d) true []))
    (choose (is_char "," c) (comma_at d bs (path_of foreign names))
    (choose (is_char ")" c) (sees (path_of foreign names ++ (close_field ∷ [])) bs discriminant) (to bs (typed d (foreign_at foreign names) names)))))
in_type bs d foreign names quote = to bs (typed d foreign names)
in_type bs d foreign names value = to bs (typed d true names)

-- a string in an attribute, by the word before it
abbrev quoted_at : ℕ → Key → At
quoted_at d path_key = tag_path d false []
quoted_at d map_key = map_tag d other_key
quoted_at d other_key = skipped (attribute d other_key)

-- behind a closing bracket of an attribute
abbrev closed_at : ℕ → At
closed_at zero = start
closed_at (suc d) = attribute d other_key

abbrev in_attribute : List Body → ℕ → Key → Token → Move
in_attribute bs d k (word w) = to bs (attribute d (key_of w))
in_attribute bs d k (sign c) =
    choose (is_char "=" c) (to bs (attribute d k))
    (choose (is_opener c) (to bs (attribute (suc d) other_key))
    (choose (is_closer c) (to bs (closed_at d)) (to bs (attribute d other_key))))
in_attribute bs d k quote = to bs (quoted_at d k)
in_attribute bs d k value = to bs (attribute d other_key)

-- a bracket in a map's tag, by the word before it
abbrev bracket_at : ℕ → Key → At
bracket_at d path_key = map_path d false []
bracket_at d map_key = map_tag d other_key
bracket_at d other_key = map_tag d other_key

abbrev pub next_move : List Body → At → Token → Move
next_move bs start t = at_start bs t
next_move bs public (word w) = public_in bs bs w
next_move bs public (sign c) = to bs public
next_move bs public quote = to bs public
next_move bs public value = to bs public
next_move bs header (word w) = to bs header
next_move bs header (sign c) = choose (is_char "{" c) (sees (open_block ∷ []) (code_body ∷ bs) start) (choose (is_char ";" c) (to bs start) (to bs header))
next_move bs header quote = to bs (skipped header)
next_move bs header value = to bs header
next_move bs discriminant (word w) = to bs discriminant
next_move bs discriminant (sign c) = choose (is_char "," c) (to bs start) (to bs discriminant)
next_move bs discriminant quote = to bs (skipped discriminant)
next_move bs discriminant value = to bs discriminant
next_move bs hash (word w) = to bs start
next_move bs hash (sign c) = choose (is_char "[" c) (to bs (attribute 0 other_key)) (to bs hash)
next_move bs hash quote = to bs start
next_move bs hash value = to bs start
next_move bs (naming x) (word w) = to bs (opening x w)
next_move bs (naming x) (sign c) = to bs (naming x)
next_move bs (naming x) quote = to bs (naming x)
next_move bs (naming x) value = to bs (naming x)
next_move bs (opening x n) (word w) = to bs (opening x n)
next_move bs (opening x n) (sign c) = choose (is_char "{" c) (sees (opened x n ∷ []) (x ∷ bs) start) (choose (is_char ";" c) (to bs start) (to bs (opening x n)))
next_move bs (opening x n) quote = to bs (opening x n)
next_move bs (opening x n) value = to bs (opening x n)
next_move bs (labelled n) (word w) = to bs (labelled n)
next_move bs (labelled n) (sign c) =
    choose (is_char ":" c || is_char "(" c) (sees (open_field none n ∷ []) bs (typed 0 false []))
    (choose (is_char "=" c) (to bs discriminant) (choose (is_char "," c) (to bs start) (to bs (labelled n))))
next_move bs (labelled n) quote = to bs (labelled n)
next_move bs (labelled n) value = to bs (labelled n)
next_move bs (typed d foreign names) t = in_type bs d foreign names t
next_move bs (attribute d k) t = in_attribute bs d k t
next_move bs (skipped q) (word w) = to bs (skipped q)
next_move bs (skipped q) (sign c) = to bs (skipped q)
next_move bs (skipped q) quote = to bs q
next_move bs (skipped q) value = to bs (skipped q)
next_move bs (tag_path d foreign names) (word w) = to bs (tag_path d foreign (w ∷ names))
next_move bs (tag_path d foreign names) (sign c) = to bs (tag_path d (foreign_at foreign names) names)
next_move bs (tag_path d foreign names) quote = sees (tagged_path foreign names) bs (attribute d other_key)
next_move bs (tag_path d foreign names) value = to bs (tag_path d true names)
next_move bs (map_tag d k) (word w) = to bs (map_tag d (key_of w))
next_move bs (map_tag d k) (sign c) = choose (is_char "(" c) (to bs (bracket_at d k)) (to bs (map_tag d other_key))
next_move bs (map_tag d k) quote = to bs (attribute d other_key)
next_move bs (map_tag d k) value = to bs (map_tag d other_key)
next_move bs (map_path d foreign names) (word w) = to bs (map_path d foreign (w ∷ names))
next_move bs (map_path d foreign names) (sign c) =
    choose (is_char ")" c) (sees (tagged_path foreign names) bs (map_tag d other_key)) (to bs (map_path d (foreign_at foreign names) names))
next_move bs (map_path d foreign names) quote = to bs (map_path d foreign names)
next_move bs (map_path d foreign names) value = to bs (map_path d true names)

-- ---- reading
abbrev pub read_tokens : List Body → At → List Token → List Event
read_tokens bs q [] = []
read_tokens bs q (t ∷ ts) = (next_move bs q t).seen ++ read_tokens (next_move bs q t).bodies (next_move bs q t).next ts

-- what is seen in a text that stands in a module
abbrev pub see : List Symbol → List Event
see s = read_tokens [] start (tokens_from code s)
