-- A text as a tree of marked pieces, read in two ways: its bytes, and the list of its pieces. Assumes nothing.
use Rattle.std.specs.Prelude.{◌≡◌, ℕ, Bool, true, false, List, [], ◌∷◌, ◌++◌, refl}
use Prim.Native.String.{String}
use Rattle.std.proofs.Common.{sym, ap, ◌∙◌, append_assoc, append-nil}
use Rattle.std.proofs.Math.Option.{Option}
use Rattle.base.specs.Bytes.{b}
use Rattle.writer.specs.Text.{pick, each, indent}
use Rattle.ident.specs.Ident.{to_snake, to_upper_camel, strip_enum_prefix}
use Rattle.extern_paths.specs.ExternPaths.{Segment, extern_text}
use Rattle.descriptor.specs.Descriptor.{Bytes, FieldDescriptor}

-- ---- names
-- a name by what it is made of: snake case; camel case; a oneof's type, with `OneOf` behind it or without; an enum's value, without the
-- enum's name in front or with it
pub data Spelling : Type 0 where
  snake camel : Bytes → Spelling
  oneof_type : Bool → Bytes → Spelling
  variant : Bool → Bytes → Bytes → Spelling

abbrev pub spelt : Spelling → Bytes
spelt (snake name) = to_snake name
spelt (camel name) = to_upper_camel name
spelt (oneof_type conflict name) = to_upper_camel name ++ pick conflict (b "OneOf") []
spelt (variant strip enum name) = pick strip (strip_enum_prefix (to_upper_camel enum) (to_upper_camel name)) (to_upper_camel name)

-- a path: how many `super`, the modules, and the name of the declaration
pub record Way : Type 0 where
  pub supers : ℕ
  pub modules : List Bytes
  pub last : Spelling

unfoldable pub through : List Bytes → Bytes
through [] = []
through (m ∷ ms) = to_snake m ++ b "::" ++ through ms

unfoldable pub way_text : Way → Bytes
way_text w = each (λ _. b "super::") w.supers ++ through w.modules ++ spelt w.last

-- ---- marks
-- what a declaration or a path is for: a message or enum, by its full name; a message's oneof, by the message's and its own
pub data Ref : Type 0 where
  type : Bytes → Ref
  choice : Bytes → Bytes → Ref

-- a field, with the full name of its message
pub record Owned : Type 0 where
  pub message : Bytes
  pub field : FieldDescriptor

pub data Wrap : Type 0 where
  opt vec box table : Wrap

-- marks write nothing: the end of a field, of a block; the start of a block that is neither a module nor a declaration;
-- around a path in a tag; around a type
pub data Mark : Type 0 where
  comma close block_open tag_open tag_close wrap_close : Mark
  wrap_open : Wrap → Mark

-- ---- pieces
-- raw bytes; an option's value; what an extern path stands for; a name; the names of a module, a declaration, a field or variant
-- (with the field, if it is one); a path
pub data Piece : Type 0 where
  raw opaque : Bytes → Piece
  extern : List Segment → Piece
  name mod_open : Spelling → Piece
  decl_open : Ref → Spelling → Piece
  label : Option Owned → Spelling → Piece
  path : Ref → Way → Piece
  mark : Mark → Piece

abbrev pub written : Piece → Bytes
written (raw x) = x
written (opaque x) = x
written (extern xs) = extern_text xs
written (name n) = spelt n
written (mod_open n) = spelt n
written (decl_open r n) = spelt n
written (label o n) = spelt n
written (path r w) = way_text w
written (mark m) = []

-- ---- texts
pub data Text : Type 0 where
  nothing : Text
  piece : Piece → Text
  ◌⟫◌ : Text → Text → Text
  when : Bool → Text → Text
  either : Bool → Text → Text → Text
  ◌▹◌ : Mark → Text → Text
  ◌◃◌ : Text → Mark → Text

infixl 60 ◌⟫◌
infixr 70 ◌▹◌
infixl 70 ◌◃◌
abbrev pub lit : String → Text
lit s = piece (raw (b s))

-- push_indent
abbrev pub push_indent : ℕ → Text
push_indent d = piece (raw (indent d))

-- the bytes of a text
abbrev pub flat : Text → Bytes
flat nothing = []
flat (piece p) = written p
flat (x ⟫ y) = flat x ++ flat y
flat (when c x) = pick c (flat x) []
flat (either c x y) = pick c (flat x) (flat y)
flat (m ▹ x) = flat x
flat (x ◃ m) = flat x

-- the pieces of a text, for a reader of marks
abbrev pick_pieces : Bool → List Piece → List Piece → List Piece
pick_pieces true p q = p
pick_pieces false p q = q

abbrev pub pieces : Text → List Piece
pieces nothing = []
pieces (piece p) = p ∷ []
pieces (x ⟫ y) = pieces x ++ pieces y
pieces (when c x) = pick_pieces c (pieces x) []
pieces (either c x y) = pick_pieces c (pieces x) (pieces y)
pieces (m ▹ x) = mark m ∷ pieces x
pieces (x ◃ m) = pieces x ++ mark m ∷ []

abbrev pub bytes_of : List Piece → Bytes
bytes_of [] = []
bytes_of (p ∷ ps) = written p ++ bytes_of ps

bytes_append : (ps qs : List Piece) → bytes_of (ps ++ qs) ≡ bytes_of ps ++ bytes_of qs
bytes_append [] qs = refl
bytes_append (p ∷ ps) qs = ap (λ (l : Bytes). written p ++ l) (bytes_append ps qs) ∙ sym (append_assoc (written p) (bytes_of ps) (bytes_of qs))

-- both readings have the same bytes
pub same_bytes : (x : Text) → bytes_of (pieces x) ≡ flat x
same_bytes nothing = refl
same_bytes (piece p) = append-nil (written p)
same_bytes (x ⟫ y) = bytes_append (pieces x) (pieces y) ∙ rw (same_bytes x, same_bytes y)
same_bytes (when true x) = same_bytes x
same_bytes (when false x) = refl
same_bytes (either true x y) = same_bytes x
same_bytes (either false x y) = same_bytes y
same_bytes (m ▹ x) = same_bytes x
same_bytes (x ◃ m) = bytes_append (pieces x) (mark m ∷ []) ∙ append-nil (bytes_of (pieces x)) ∙ same_bytes x
