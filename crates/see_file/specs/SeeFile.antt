-- Demand 3, first clause: what a reader of the bytes sees is what the marked pieces show. Assumes nothing.
use Rattle.std.specs.Prelude.{◌≡◌, List, [], map}
use Rattle.std.proofs.Common.{sym, ◌∙◌}
use Rattle.std.proofs.Math.Path.{ap}
use Rattle.base.specs.Lists.{Every}
use Rattle.syntax.specs.Syntax.{syntax_of}
use Rattle.descriptor.specs.Descriptor.{FileDescriptor}
use Rattle.options.specs.Settings.{Setting}
use Rattle.name_rules.specs.FullNames.{package_scope}
use Rattle.name_rules.specs.WellFormed.{GoodEnum, EveryNode}
use Rattle.code_generator.specs.Piece.{pieces}
use Rattle.code_generator.specs.Generate.{is_proto3, generate}
use Rattle.sights.specs.Events.{events}
use Rattle.sights.specs.Sights.{read, file_place, file_sights}
use Rattle.sights.specs.Unmarked.{unmarked_event, unmarked}
use Rattle.sights.proofs.Unmarked.{read_unmarked}
use Rattle.text_reader.specs.Symbols.{text_symbols}
use Rattle.text_reader.specs.Reader.{see}
use Rattle.reading.specs.Reading.{Reads, ◌▸◌}
use Rattle.field_reading.proofs.FieldReading.{between_two}
use Rattle.see_file.specs.EnumReading.{outermost, enums_read}
use Rattle.see_file.specs.MessageReading.{ReadableMessage, messages_read}

-- a file whose names convert
pub record ReadableFile (f : FileDescriptor) : Type 0 where
  pub messages : EveryNode (λ m nested. ReadableMessage m) f.messages
  pub enums : Every GoodEnum f.enums

module _ (rs : List Setting) (set : List FileDescriptor) (f : FileDescriptor) (h : ReadableFile f) where
  file_read : Reads (between_two []) (generate rs set f) (between_two [])
  unfolding generate
  file_read =
      messages_read rs set (is_proto3 (syntax_of f.syntax)) outermost 0 (package_scope f.package_name) f.messages h.messages
      ▸ enums_read rs outermost 0 (package_scope f.package_name) f.enums h.enums

  -- the reader of bytes sees the pieces, without their marks
  pub see_events : see (text_symbols rs set f) ≡ map unmarked_event (events (pieces (generate rs set f)))
  see_events = file_read.onward [] ∙ sym file_read.complete

  -- and so all that stands in them
  pub see_file : read (file_place f) [] (see (text_symbols rs set f)) ≡ map unmarked (file_sights rs set f)
  unfolding file_sights
  see_file = ap (read (file_place f) []) see_events ∙ read_unmarked (file_place f) (events (pieces (generate rs set f)))
