-- The field or the variant that a Box which is seen stands at. Assumes nothing.
use Rattle.std.specs.Prelude.{ℕ, ◌≡◌}
use Rattle.std.proofs.Math.Option.{some, none}
use mathlib.Core.List.{List, Memᴰ}
use Rattle.descriptor.specs.Descriptor.{Bytes, FieldDescriptor, MessageDescriptor, FileDescriptor}
use Rattle.name_rules.specs.Accessors.{text}
use Rattle.name_rules.specs.FullNames.{set_entries}
use Rattle.code_generator.specs.Piece.{type, choice, snake, camel}
use Rattle.code_generator.specs.Oneofs.{oneof_of}
use Rattle.sights.specs.Sights.{BoxUse}
use Rattle.text_sights.specs.Written.{label_of}
use Rattle.walks_end.specs.BoxedFields.{oneof_name}
use Rattle.walks_end.specs.Origins.{owner_mark}

pub data Labelled (set : List FileDescriptor) (x : BoxUse) : Type 0 where
  at_field : (full : Bytes) (f : FieldDescriptor) → oneof_of f ≡ none → owner_mark x.owner ≡ some (type full) → x.field ≡ some (label_of full f (snake (text f.name))) → Labelled set x
  at_variant : (full : Bytes) (m : MessageDescriptor) (k : ℕ) (f : FieldDescriptor) → Memᴰ (record { full = full; message = m }) (set_entries set) → oneof_of f ≡ some k
      → owner_mark x.owner ≡ some (choice full (oneof_name m k)) → x.field ≡ some (label_of full f (camel (text f.name))) → Labelled set x
