-- What is seen in the pieces of a struct, and of a module behind it. Assumes nothing.
use Rattle.std.specs.Prelude.{◌≡◌, refl, true, false, List, [], ◌∷◌}
use Rattle.std.proofs.Math.Option.{some, none}
use Rattle.base.specs.Bytes.{b, same}
use Rattle.base.specs.Choose.{choose}
use Rattle.heck.specs.Case.{between, class, lowered, raised, parts, words, to_snake_case, to_upper_camel_case}
use Rattle.ident.specs.Ident.{among, raw_words, kept_words, addition, with_addition, sanitize_identifier, to_snake, to_upper_camel}
use Rattle.code_generator.specs.Piece.{Piece, opaque, decl_open, mod_open, label, path, mark, Way, snake, camel, type, opt, box, tag_open, tag_close, wrap_open, wrap_close, comma, close}
use Rattle.sights.specs.Events.{WrittenPath, events}
use Rattle.sights.specs.Sights.{Item, Label, an_item, a_path, a_box, read}

-- `super::type_of::Leaf`
abbrev leaf : Way
leaf = record { supers = 1; modules = b "type_of" ∷ []; last = camel (b "leaf") }

-- in module a: a struct with a tag, an optional boxed field and an option's value; and a module
abbrev example : List Piece
example =
    opaque (b "#[pub mod x {]")
    ∷ decl_open (type (b ".a.Tree")) (camel (b "tree"))
    ∷ mark tag_open
    ∷ path (type (b ".type_of.Leaf")) leaf
    ∷ mark tag_close
    ∷ label none (snake (b "type"))
    ∷ mark (wrap_open opt)
    ∷ mark (wrap_open box)
    ∷ path (type (b ".type_of.Leaf")) leaf
    ∷ mark wrap_close
    ∷ mark wrap_close
    ∷ mark comma
    ∷ mark close
    ∷ mod_open (snake (b "Tree"))
    ∷ mark close
    ∷ []

abbrev tree : Item
tree = record { place = b "a" ∷ []; name = b "Tree"; is_module = false; mark = some (type (b ".a.Tree")) }

abbrev field : Label
field = record { name = b "r#type"; mark = none }

abbrev leaf_path : WrittenPath
leaf_path = record { supers = 1; modules = b "type_of" ∷ []; last = b "Leaf" }

pub seen : read (b "a" ∷ []) [] (events example)
    ≡ an_item tree
    ∷ a_path (record { place = b "a" ∷ []; owner = some tree; field = none; wraps = []; in_tag = true; path = leaf_path; mark = some (type (b ".type_of.Leaf")) })
    ∷ a_box (record { owner = some tree; field = some field })
    ∷ a_path (record { place = b "a" ∷ []; owner = some tree; field = some field; wraps = box ∷ opt ∷ []; in_tag = false; path = leaf_path; mark = some (type (b ".type_of.Leaf")) })
    ∷ an_item (record { place = b "a" ∷ []; name = b "tree"; is_module = true; mark = none })
    ∷ []
unfolding choose same between class lowered raised parts words to_snake_case to_upper_camel_case among raw_words kept_words addition with_addition sanitize_identifier to_snake to_upper_camel
seen = refl
