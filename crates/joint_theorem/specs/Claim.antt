-- Demand 3, stated of the bytes of a set and of options: one claim about the name check and the texts of all files together. Document 01's
-- sentences stand quoted beside the definitions.
use Rattle.std.specs.Prelude.{ℕ, zero, suc, ◌<◌, ◌≤◌, ◌≡◌, true, false, ◌⊎◌, ◌↔◌, length, take}
use Rattle.std.proofs.Math.Option.{some, none}
use mathlib.Core.List.{List, [], ◌∷◌, ◌++◌, map, Memᴰ}
use Rattle.base.specs.Lists.{Every, all_of}
use Rattle.ident.specs.Ident.{to_snake, to_upper_camel}
use Rattle.descriptor.specs.Descriptor.{Bytes, MessageDescriptor}
use Rattle.descriptor.specs.Decode.{decode_set}
use Rattle.options.specs.Settings.{Setting, settings}
use Rattle.extern_paths.specs.ExternPaths.{Segment, extern_text, taken}
use Rattle.name_rules.specs.Accessors.{text, is_message, is_repeated}
use Rattle.name_rules.specs.FullNames.{set_entries}
use Rattle.context.specs.MessageGraph.{links}
use Rattle.context_laws.specs.Links.{Led}
use Rattle.code_generator.specs.Piece.{Ref, type, choice, Owned}
use Rattle.code_generator.specs.Oneofs.{oneof_of}
use Rattle.name_check.specs.NameCheck.{package_modules}
use Rattle.base.specs.Refusal.{given}
use Rattle.calls.specs.TextCall.{text_call, text_left, file_at}
use Rattle.calls.specs.NameCall.{name_call}
use Rattle.sights.specs.Sights.{Item, Use, BoxUse, Sight, read, file_place, set_sights, items, uses, boxes}
use Rattle.sights.specs.Unmarked.{unmarked, unmarked_item, unmarked_use}
use Rattle.text_reader.specs.Symbols.{Symbol, char, option_value, chars, text_symbols, written_out}
use Rattle.text_reader.specs.Reader.{see}
use Rattle.option_values.specs.OptionValues.{RowValue, ExternValue}
use Rattle.text_sights.specs.Written.{written_sights}
use Rattle.paths_reach.specs.Reach.{package_item, those, is_that_declaration, Through, outside, inside}
use Rattle.walks_end.specs.Walks.{Walk}
use Rattle.walks_end.specs.BoxedFields.{no_boxed_setting, written_fields, leads_back, oneof_name}

-- ---- where the claim holds
-- the name check says yes, and the text call refuses no file of the set, "each in a buffer of its own". buffers: the buffer for each file index
pub record Accepted (set options : Bytes) (buffers : ℕ → List ℕ) : Type 0 where
  pub says_yes : name_call set options ≡ given 1
  pub not_refused : (file : ℕ) → file < length (decode_set set) → (text_call set options file (length (buffers file))).number ≡ 0

-- ---- what is seen
-- the text of a file as a reader of its bytes is given it: characters, and the values of options. "An option's value is one opaque piece of the
-- text, and nothing is read out of it."
abbrev pub symbols : Bytes → Bytes → ℕ → List Symbol
symbols set options file = text_symbols (settings options) (decode_set set) (file_at (decode_set set) file)

-- what the reader sees in it. "A text stands in its package's module, or the root without one, and `pub mod` opens one inside."
abbrev pub file_seen : Bytes → Bytes → ℕ → List Sight
file_seen set options file = read (file_place (file_at (decode_set set) file)) [] (see (symbols set options file))

-- n file indexes, from the one given on
abbrev pub indexes : ℕ → ℕ → List ℕ
indexes file zero = []
indexes file (suc n) = file ∷ indexes (suc file) n

-- "the texts of all the set's files together": what is seen in one after the other
abbrev pub seen : Bytes → Bytes → List Sight
seen set options = all_of (file_seen set options) (indexes 0 (length (decode_set set)))

-- all that stands in modules: the packages' modules, and what is seen
abbrev pub seen_items : Bytes → Bytes → List Item
seen_items set options = map package_item (package_modules (decode_set set)) ++ items (seen set options)

-- what is to be seen by the descriptors, and what each declaration and path is for: the message or enum of a full name, or a message's oneof
abbrev pub described : Bytes → Bytes → List Sight
described set options = all_of (written_sights (settings options) (decode_set set)) (decode_set set)

-- the elements of two lists at the same positions
abbrev pub SideBySide : {A B : Type 0} → (A → B → Type 0) → List A → List B → Type 0
SideBySide R [] [] = Unit
SideBySide R [] (y ∷ ys) = ⊥
SideBySide R (x ∷ xs) [] = ⊥
SideBySide R (x ∷ xs) (y ∷ ys) = R x y × SideBySide R xs ys

-- ---- 1: what is read are the bytes that the calls write
-- a character, a row's value, or what an extern path stands for
abbrev pub OfText : List Setting → Symbol → Type 0
OfText rs (char c) = Unit
OfText rs (option_value v) = RowValue rs v ⊎ ((xs : List Segment) × ExternValue rs xs × (v ≡ extern_text xs))

pub record TextRead (set options : Bytes) (file : ℕ) (buffer : List ℕ) : Type 0 where
  -- what the call leaves in the buffer, as many bytes as it gives
  pub bytes : take (text_call set options file (length buffer)).place (text_left set options file buffer) ≡ written_out (symbols set options file)
  pub parts : Every (OfText (settings options)) (symbols set options file)
  -- without options the reader is given these bytes and nothing else
  pub no_options : settings options ≡ [] → symbols set options file ≡ chars (written_out (symbols set options file))

pub record TextsRead (set options : Bytes) (buffers : ℕ → List ℕ) : Type 0 where
  pub each : (file : ℕ) → file < length (decode_set set) → TextRead set options file (buffers file)
  -- what is seen is what the marked pieces show, but for the marks
  pub as_marked : seen set options ≡ map unmarked (set_sights (settings options) (decode_set set))
  -- and that is what the descriptors ask for: no path, Box or declaration more or less
  pub as_described : set_sights (settings options) (decode_set set) ≡ described set options

-- ---- 2: each written path reaches what the descriptor names
-- "A written path is the path for a message, group, enum or oneof, in a field's or variant's type or in its `enumeration` or `oneof` tag."
-- u: one that is seen; w: the same by the descriptors. "A path is outside the extern paths if extern_paths.rs, prost types counted, finds that full
-- name neither exactly nor by prefix; a oneof's always is.": what an extern path stands for is an option's value, and no path is seen there
pub record ReachesItsOwn (set options : Bytes) (u w : Use) : Type 0 where
  pub same_path : u ≡ unmarked_use w
  -- "A path starts in the module where it stands and is followed by its names alone: `super` goes out one, each other name before the last goes
  -- into the module so named, and the last is the struct or enum declared there."
  pub out : u.path.supers ≤ length u.place
  pub through : Through (seen_items set options) (outside u) u.path.modules
  pub reached : Item
  pub only : those (is_that_declaration (inside u) u.path.last) (seen_items set options) ≡ reached ∷ []
  -- "The descriptor names what is written for the full name in the field's type name (for a map, its value's), or for the message's oneof."
  pub for : Ref
  pub named : w.mark ≡ some for
  pub declared : Item
  pub there : Memᴰ declared (items (described set options))
  pub right : declared.mark ≡ some for
  pub is_reached : unmarked_item declared ≡ reached
  -- no other declaration is for it
  pub alone : (i : Item) → Memᴰ i (items (described set options)) → i.mark ≡ some for → i ≡ declared

abbrev pub PathsReach : Bytes → Bytes → Type 0
PathsReach set options = SideBySide (ReachesItsOwn set options) (uses (seen set options)) (uses (described set options))

-- ---- 3: no walk comes back
-- "A walk goes from a struct to a struct or oneof enum that such a path in a field's type reaches, and on from that enum through its variants,
-- taking no field or variant with Box, Vec or map around the path; any other path ends it. Box, Vec and map are those the text puts around a type;
-- a struct, variant or path so called is none, nor is a default's text."
abbrev pub WalksEnd : Bytes → Bytes → Type 0
WalksEnd set options = (d : Item) → Walk (seen_items set options) (uses (seen set options)) d d → ⊥

-- ---- 4: without boxed settings, where Box stands
-- "A field is singular unless repeated, and written if its message's struct is.": that of a message that is no map entry and that no extern path
-- takes. o: a field of the descriptors, with its message's full name
pub record WrittenField (set options : Bytes) (o : Owned) : Type 0 where
  pub message : MessageDescriptor
  pub in_set : Memᴰ (record { full = o.message; message = message }) (set_entries (decode_set set))
  pub no_map_entry : message.map_entry ≡ false
  pub not_taken : taken (settings options) o.message ≡ false
  pub field : Memᴰ o.field message.fields

-- "Leading back is by links.": from the field's type to its own message
pub record LeadsBackField (set options : Bytes) (o : Owned) : Type 0 where
  pub written : WrittenField set options o
  pub of_message : is_message o.field ≡ true
  pub singular : is_repeated o.field ≡ false
  pub leads : Led (links (set_entries (decode_set set))) (text o.field.type_name) o.message

-- a Box that is seen stands at this field, under the field's name there: in its message's struct, where the field is in no oneof (proto3_optional
-- takes it out of one), or in the enum of its own oneof, the one of its message with that index
pub data BoxAt (set options : Bytes) (x : BoxUse) (o : Owned) : Type 0 where
  in_struct : (struct : Item) → oneof_of o.field ≡ none → Memᴰ struct (items (described set options)) → struct.mark ≡ some (type o.message)
      → x ≡ record { owner = some (unmarked_item struct); field = some (record { name = to_snake (text o.field.name); mark = none }) } → BoxAt set options x o
  in_oneof : (enum : Item) (message : MessageDescriptor) (k : ℕ) → Memᴰ (record { full = o.message; message = message }) (set_entries (decode_set set)) → oneof_of o.field ≡ some k
      → Memᴰ enum (items (described set options)) → enum.mark ≡ some (choice o.message (oneof_name message k))
      → x ≡ record { owner = some (unmarked_item enum); field = some (record { name = to_upper_camel (text o.field.name); mark = none }) } → BoxAt set options x o

-- these fields, in the texts' order
abbrev pub boxed_fields : Bytes → Bytes → List Owned
boxed_fields set options = those (leads_back (decode_set set)) (written_fields (settings options) (decode_set set))

pub record BoxesStand (set options : Bytes) : Type 0 where
  -- they are the written singular message fields whose type leads back to their own message
  pub such : (o : Owned) → Memᴰ o (boxed_fields set options) ↔ LeadsBackField set options o
  -- and the n-th Box stands at the n-th of them
  pub each : SideBySide (BoxAt set options) (boxes (seen set options)) (boxed_fields set options)

-- ---- the claim
-- what holds with groups too
pub record TextsAgree (set options : Bytes) (buffers : ℕ → List ℕ) : Type 0 where
  pub read : TextsRead set options buffers
  pub paths : PathsReach set options

pub record Demand (set options : Bytes) (buffers : ℕ → List ℕ) : Type 0 where
  pub agree : TextsAgree set options buffers
  pub walks : WalksEnd set options
  -- "No boxed setting: no row of kind 4."
  pub boxes : no_boxed_setting (settings options) ≡ true → BoxesStand set options
