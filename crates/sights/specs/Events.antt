-- What stands in a text, one after another, for a reader of brackets: names are as written. Assumes nothing.
use Rattle.std.specs.Prelude.{ℕ, ◌≡◌, refl, List, [], ◌∷◌, ◌++◌, map}
use Rattle.std.proofs.Common.{ap}
use Rattle.std.proofs.Math.Option.{Option, some}
use Rattle.ident.specs.Ident.{to_snake}
use Rattle.descriptor.specs.Descriptor.{Bytes}
use Rattle.code_generator.specs.Piece.{Piece, raw, opaque, extern, name, mod_open, decl_open, label, path, mark, Mark, comma, close, block_open, tag_open, tag_close, wrap_open, wrap_close, Wrap, Ref, Owned, Way, spelt}

-- document 01's "written path", as it stands in a text: how many `super`, the names of the modules, the name of the declaration
pub record WrittenPath : Type 0 where
  pub supers : ℕ
  pub modules : List Bytes
  pub last : Bytes

abbrev pub written_path : Way → WrittenPath
written_path w = record { supers = w.supers; modules = map to_snake w.modules; last = spelt w.last }

-- a module or declaration opens, and any other block; each of them closes; a field or variant, a tag's path, what stands around a type
-- opens and closes; a path. What something is for is none where it isn't known
pub data Event : Type 0 where
  open_module : Bytes → Event
  open_declaration : Option Ref → Bytes → Event
  open_block close_block : Event
  open_field : Option Owned → Bytes → Event
  close_field open_tag close_tag : Event
  open_wrap : Wrap → Event
  close_wrap : Event
  meet_path : Option Ref → WrittenPath → Event

abbrev pub mark_event : Mark → Event
mark_event comma = close_field
mark_event close = close_block
mark_event block_open = open_block
mark_event tag_open = open_tag
mark_event tag_close = close_tag
mark_event wrap_close = close_wrap
mark_event (wrap_open w) = open_wrap w

abbrev pub piece_events : Piece → List Event
piece_events (raw x) = []
piece_events (opaque v) = []
piece_events (extern xs) = []
piece_events (name n) = []
piece_events (mod_open n) = open_module (spelt n) ∷ []
piece_events (decl_open r n) = open_declaration (some r) (spelt n) ∷ []
piece_events (label o n) = open_field o (spelt n) ∷ []
piece_events (path r w) = meet_path (some r) (written_path w) ∷ []
piece_events (mark m) = mark_event m ∷ []

abbrev pub events : List Piece → List Event
events [] = []
events (p ∷ ps) = piece_events p ++ events ps

pub events_append : (ps qs : List Piece) → events (ps ++ qs) ≡ events ps ++ events qs
events_append [] qs = refl
events_append (raw x ∷ ps) qs = events_append ps qs
events_append (opaque v ∷ ps) qs = events_append ps qs
events_append (extern xs ∷ ps) qs = events_append ps qs
events_append (name n ∷ ps) qs = events_append ps qs
events_append (mod_open n ∷ ps) qs = ap {B = List Event} (λ (es : List Event). open_module (spelt n) ∷ es) (events_append ps qs)
events_append (decl_open r n ∷ ps) qs = ap {B = List Event} (λ (es : List Event). open_declaration (some r) (spelt n) ∷ es) (events_append ps qs)
events_append (label o n ∷ ps) qs = ap {B = List Event} (λ (es : List Event). open_field o (spelt n) ∷ es) (events_append ps qs)
events_append (path r w ∷ ps) qs = ap {B = List Event} (λ (es : List Event). meet_path (some r) (written_path w) ∷ es) (events_append ps qs)
events_append (mark m ∷ ps) qs = ap {B = List Event} (λ (es : List Event). mark_event m ∷ es) (events_append ps qs)
