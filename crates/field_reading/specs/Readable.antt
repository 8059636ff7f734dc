-- Fields whose names convert, and what follows for the words and paths that are written for them. Assumes nothing.
use Rattle.std.specs.Prelude.{refl, ◌≡◌, ℕ, zero, suc, Bool, true, false, ◌&&◌, ◌||◌, List, [], ◌∷◌, drop, ◌==◌, nat_eq, slice_index_or}
use Rattle.std.proofs.Common.{subst, append-nil, arith}
use Rattle.std.proofs.Math.Option.{some}
use Rattle.base.specs.Bytes.{b, same}
use Rattle.base.specs.Choose.{choose, choose_case}
use Rattle.base.specs.Lists.{all, Every}
use Rattle.base.specs.Tests.{and_left, and_right}
use Rattle.heck.specs.Case.{between}
use Rattle.ident.specs.Name.{name_start, name_part, every, has_word}
use Rattle.ident.specs.Ident.{among, to_snake, to_upper_camel}
use Rattle.ident.specs.Reference.{primitive_types}
use Rattle.ident.proofs.Written.{snake_identifier, camel_identifier, variant_identifier, camel_no_primitive}
use Rattle.field_types.specs.Types.{FieldType, types, no_type, sort_of, tag_word, rust_word, group, message, enumerated}
use Rattle.descriptor.specs.Descriptor.{Bytes, FieldDescriptor}
use Rattle.extern_paths.specs.Split.{split}
use Rattle.split.proofs.SplitLaws.{split_is}
use Rattle.name_rules.specs.Accessors.{text, type}
use Rattle.code_generator.specs.Piece.{oneof_type, variant, spelt}
use Rattle.code_generator.specs.Resolve.{front, last_name, ident_path, ident_type, local_path, skip_common, way}
use Rattle.reading.specs.Words.{is_word, identifier_word, word_append}
use Rattle.reading.specs.Paths.{GoodWay}
use Rattle.reading.specs.Tags.{is_tag_word}

-- a letter or digit
abbrev pub Converts : Bytes → Type 0
Converts n = has_word n ≡ true

-- does a type name a declaration?
abbrev pub refers : ℕ → Bool
refers k = (sort_of k == group || sort_of k == message) || sort_of k == enumerated

-- a field's name converts, and so do the names in its type name and its default where they are written
pub record ReadableField (f : FieldDescriptor) : Type 0 where
  pub named : Converts (text f.name)
  pub target : refers (type f) ≡ true → Every Converts (split (b ".") (drop 1 (text f.type_name)))
  pub default : nat_eq (sort_of (type f)) enumerated ≡ true → (v : Bytes) → f.default_value ≡ some v → Converts v

-- ---- names as words
pub snake_word : (n : Bytes) → Converts n → is_word (to_snake n) ≡ true
snake_word n h = identifier_word (to_snake n) (snake_identifier n h)

pub camel_word : (n : Bytes) → Converts n → is_word (to_upper_camel n) ≡ true
camel_word n h = identifier_word (to_upper_camel n) (camel_identifier n h)

pub variant_word : (strip : Bool) (enum n : Bytes) → Converts n → is_word (spelt (variant strip enum n)) ≡ true
variant_word true enum n h = identifier_word (spelt (variant true enum n)) (variant_identifier enum n h)
variant_word false enum n h = camel_word n h

pub oneof_word : (conflict : Bool) (n : Bytes) → Converts n → is_word (spelt (oneof_type conflict n)) ≡ true
unfolding every choose name_part name_start between
oneof_word true n h = word_append (to_upper_camel n) (b "OneOf") (camel_word n h) refl
oneof_word false n h = word_append (to_upper_camel n) [] (camel_word n h) refl

pub oneof_free : (conflict : Bool) (n : Bytes) → among (spelt (oneof_type conflict n)) primitive_types ≡ false
unfolding between
oneof_free true n = camel_no_primitive n (b "OneOf") refl
oneof_free false n = camel_no_primitive n [] refl

-- ---- the table of types
all_at : (p : FieldType → Bool) (ts : List FieldType) → all p ts ≡ true → p no_type ≡ true → (k : ℕ) → p (slice_index_or ts k no_type) ≡ true
unfolding all
all_at p [] h d k = d
all_at p (t ∷ ts) h d zero = and_left (p t) (all p ts) h
all_at p (t ∷ ts) h d (suc k) = all_at p ts (and_right (p t) (all p ts) h) d k

-- a type's Rust word is that of a primitive type, or there is none
abbrev pub is_rust_word : Bytes → Bool
is_rust_word [] = true
is_rust_word (c ∷ w) = is_word (c ∷ w) && among (c ∷ w) primitive_types

pub rust_words : (k : ℕ) → is_rust_word (rust_word k) ≡ true
unfolding all rust_word among primitive_types same every choose name_part name_start between
rust_words k = all_at (λ (t : FieldType). is_rust_word t.rust) types refl refl k

pub tag_words : (k : ℕ) → is_tag_word (tag_word k) ≡ true
unfolding all tag_word same every choose name_part name_start between
tag_words k = all_at (λ (t : FieldType). is_tag_word t.tag) types refl refl k

-- ---- paths
module _ (P : Bytes → Type 0) where
  every_front : (xs : List Bytes) → Every P xs → Every P (front xs)
  every_front [] h = tt
  every_front (x ∷ []) h = tt
  every_front (x ∷ (y ∷ xs)) h = (h.0, every_front (y ∷ xs) h.1)

  every_last : (x : Bytes) (xs : List Bytes) → Every P (x ∷ xs) → P (last_name (x ∷ xs))
  every_last x [] h = h.0
  every_last x (y ∷ xs) h = every_last y xs h.1

  last_of : (xs : List Bytes) {x : Bytes} {rest : List Bytes} → xs ≡ x ∷ rest → Every P xs → P (last_name xs)
  last_of xs {x} {rest} e h = rw e (every_last x rest (rw e at h))

  every_left : (xs ys : List Bytes) → Every P ys → Every P (skip_common xs ys).1
  unfolding skip_common
  every_left [] ys h = h
  every_left (x ∷ xs) [] h = h
  every_left (x ∷ xs) (y ∷ ys) h =
      choose_case (λ (z : (List Bytes × List Bytes)). Every P z.1) (same x y) (λ _. every_left xs ys h.1) (λ _. h)

pub good_way : (scope ident : Bytes) → Every Converts (split (b ".") (drop 1 ident)) → GoodWay (way scope ident)
unfolding way ident_path ident_type between
good_way scope ident h =
    record {
      modules = every_left Converts (local_path scope) (ident_path ident) (every_front Converts (split (b ".") (drop 1 ident)) h);
      last_word = camel_word (ident_type ident) last;
      last_free = subst (λ (z : Bytes). among z primitive_types ≡ false) (append-nil (to_upper_camel (ident_type ident))) (camel_no_primitive (ident_type ident) [] refl);
    }
  where
    last : Converts (last_name (split (b ".") (drop 1 ident)))
    last = last_of Converts (split (b ".") (drop 1 ident)) (split_is (b ".") (drop 1 ident) (omega arith)) h
