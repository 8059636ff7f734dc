-- What the reader sees in a field's type, and in what stands around it. Assumes nothing.
use Rattle.std.specs.Prelude.{◌≡◌, ℕ, suc, Bool, true, false, ◌||◌, List, [], ◌∷◌, ◌==◌}
use Rattle.std.proofs.Math.Path.{refl}
use Rattle.base.specs.Bytes.{b, same}
use Rattle.base.specs.Choose.{choose}
use Rattle.base.specs.Tests.{and_left, and_right, or_left}
use Rattle.heck.specs.Case.{between}
use Rattle.ident.specs.Name.{name_start, name_part}
use Rattle.ident.specs.Ident.{among}
use Rattle.ident.specs.Reference.{primitive_types}
use Rattle.field_types.specs.Types.{sort_of, rust_word, text as string, bytes, group, message, enumerated}
use Rattle.descriptor.specs.Descriptor.{Bytes, FieldDescriptor}
use Rattle.options.specs.Settings.{Setting, first_of_kind, prost_path}
use Rattle.extern_paths.specs.ExternPaths.{taken, resolve_ident as extern_ident}
use Rattle.name_rules.specs.Accessors.{text, type as type_of, is_repeated}
use Rattle.code_generator.specs.Piece.{Text, piece, ◌⟫◌, when, either, ◌◃◌, raw, opaque, opt, vec, box, table, type, wrap_open, wrap_close, lit}
use Rattle.code_generator.specs.Resolve.{prost, way, resolve_ident, resolve_bytes, resolve_type}
use Rattle.code_generator.specs.Fields.{optional, shape_open, shape_close, box_open, box_close}
use Rattle.code_generator.specs.MapFields.{map_open}
use Rattle.sights.specs.Events.{open_wrap, close_wrap}
use Rattle.text_reader.specs.Reader.{Body}
use Rattle.reading.specs.Reading.{Point, Reads, ◌▸◌, same_pieces, mark_last, Stop, stop_point, Settled, Ends, ends_there, ends_as, ends_either, stays}
use Rattle.reading.specs.Words.{is_word}
use Rattle.reading.specs.Types.{type_stop, type_start, behind_path, settled_word, typed_path, typed_extern, typed_word, typed_none, wrap_closed}
use Rattle.field_reading.specs.Readable.{refers, ReadableField, is_rust_word, rust_words, good_way}

-- ---- the prost path, and a text behind it
module _ (rs : List Setting) {y : Text} where
  pub prost_then : {a z : Point} → ((v : Bytes) → Reads a (piece (opaque v) ⟫ y) z) → Reads a (lit "::prost" ⟫ y) z → Reads a (prost rs ⟫ y) z
  unfolding prost
  prost_then {a} {z} f g = on (first_of_kind 10 0 rs).found
    where
      on : (t : Bool) → Reads a (either t (piece (opaque (prost_path rs))) (lit "::prost") ⟫ y) z
      on true = same_pieces refl (f (prost_path rs))
      on false = same_pieces refl g

  prost_ends : {a : Point} {g : Stop} → ((v : Bytes) → Ends a (piece (opaque v) ⟫ y) g) → Ends a (lit "::prost" ⟫ y) g → Ends a (prost rs ⟫ y) g
  unfolding prost
  prost_ends {a} {g} f h = on (first_of_kind 10 0 rs).found
    where
      on : (t : Bool) → Ends a (either t (piece (opaque (prost_path rs))) (lit "::prost") ⟫ y) g
      on true = ends_as refl (f (prost_path rs))
      on false = ends_as refl h

module _ (rs : List Setting) {bs : List Body} {d : ℕ} where
  -- ---- what opens around a type
  vec_opens : Reads (type_start bs d) (prost rs ⟫ (lit "::alloc::vec::Vec<" ◃ wrap_open vec)) (type_start bs (suc d))
  unfolding choose same name_part name_start between
  vec_opens =
      prost_then rs (λ v. record { seen = open_wrap vec ∷ []; onward = λ s. refl; complete = refl }) (record { seen = open_wrap vec ∷ []; onward = λ s. refl; complete = refl })

  box_opens : Reads (type_start bs d) (prost rs ⟫ (lit "::alloc::boxed::Box<" ◃ wrap_open box)) (type_start bs (suc d))
  unfolding choose same name_part name_start between
  box_opens =
      prost_then rs (λ v. record { seen = open_wrap box ∷ []; onward = λ s. refl; complete = refl }) (record { seen = open_wrap box ∷ []; onward = λ s. refl; complete = refl })

  tree_opens : Reads (type_start bs d) (prost rs ⟫ (lit "::alloc::collections::BTreeMap<" ◃ wrap_open table)) (type_start bs (suc d))
  unfolding choose same name_part name_start between
  tree_opens =
      prost_then rs (λ v. record { seen = open_wrap table ∷ []; onward = λ s. refl; complete = refl }) (record { seen = open_wrap table ∷ []; onward = λ s. refl; complete = refl })

  pub option_opens : Reads (type_start bs d) (lit "::core::option::Option<" ◃ wrap_open opt) (type_start bs (suc d))
  unfolding choose same name_part name_start between
  option_opens = record { seen = open_wrap opt ∷ []; onward = λ s. refl; complete = refl }

  pub map_opens : (btree : Bool) → Reads (type_start bs d) (map_open rs btree) (type_start bs (suc d))
  unfolding map_open choose same name_part name_start between
  map_opens true = same_pieces refl (mark_last tree_opens)
  map_opens false = record { seen = open_wrap table ∷ []; onward = λ s. refl; complete = refl }

  -- ---- a type
  string_type : Ends (type_start bs d) (prost rs ⟫ lit "::alloc::string::String") (type_stop bs d)
  unfolding choose same name_part name_start between
  string_type =
      prost_ends rs
      (λ v. record {
        end = behind_path bs d true (b "string" ∷ b "alloc" ∷ []) (b "String");
        reads = record { seen = []; onward = λ s. refl; complete = refl };
        settled = settled_word true (b "string" ∷ b "alloc" ∷ []) (b "String");
      })
      (record {
        end = behind_path bs d true (b "string" ∷ b "alloc" ∷ b "prost" ∷ []) (b "String");
        reads = record { seen = []; onward = λ s. refl; complete = refl };
        settled = settled_word true (b "string" ∷ b "alloc" ∷ b "prost" ∷ []) (b "String");
      })

  bytes_type : Ends (type_start bs d) (prost rs ⟫ lit "::bytes::Bytes") (type_stop bs d)
  unfolding choose same name_part name_start between
  bytes_type =
      prost_ends rs
      (λ v. record {
        end = behind_path bs d true (b "bytes" ∷ []) (b "Bytes");
        reads = record { seen = []; onward = λ s. refl; complete = refl };
        settled = settled_word true (b "bytes" ∷ []) (b "Bytes");
      })
      (record {
        end = behind_path bs d true (b "bytes" ∷ b "prost" ∷ []) (b "Bytes");
        reads = record { seen = []; onward = λ s. refl; complete = refl };
        settled = settled_word true (b "bytes" ∷ b "prost" ∷ []) (b "Bytes");
      })

byte_closes : {bs : List Body} {d : ℕ} → Reads (type_start bs (suc d)) (lit "u8>" ◃ wrap_close) (stop_point (type_stop bs d))
unfolding choose same name_part name_start between among primitive_types
byte_closes = record { seen = close_wrap ∷ []; onward = λ s. refl; complete = refl }

word_type : {bs : List Body} {d : ℕ} (w : Bytes) → is_rust_word w ≡ true → Ends (type_start bs d) (piece (raw w)) (type_stop bs d)
unfolding choose
word_type [] h = typed_none
word_type (c ∷ w) h =
    typed_word (c ∷ w) (and_left (is_word (c ∷ w)) (among (c ∷ w) primitive_types) h) (rw (and_right (is_word (c ∷ w)) (among (c ∷ w) primitive_types) h))

module _ (rs : List Setting) {bs : List Body} {d : ℕ} (scope : Bytes) (f : FieldDescriptor) (h : ReadableField f) where
  ident_type : refers (type_of f) ≡ true → Ends (type_start bs d) (resolve_ident rs scope (text f.type_name)) (type_stop bs d)
  unfolding resolve_ident
  ident_type e =
      ends_either (taken rs (text f.type_name)) (λ _. typed_extern (extern_ident rs (text f.type_name)))
      (λ _. typed_path (type (text f.type_name)) (way scope (text f.type_name)) (good_way scope (text f.type_name) (h.target e)))

  pub type_read : (as_bytes : Bool) → Ends (type_start bs d) (resolve_type rs scope as_bytes f) (type_stop bs d)
  unfolding resolve_type resolve_bytes rust_word
  type_read as_bytes =
      let k = type_of f in
      ends_either (sort_of k == string) (λ _. string_type rs)
      (λ _. ends_either (sort_of k == bytes)
      (λ _. ends_either as_bytes (λ _. bytes_type rs) (λ _. ends_there (vec_opens rs ▸ byte_closes)))
      (λ _. ends_either (sort_of k == group || sort_of k == message) (λ e. ident_type (or_left (sort_of k == enumerated) e))
      (λ _. word_type (rust_word k) (rust_words k))))

-- ---- what stands around it, where a test says so
abbrev pub deeper : Bool → ℕ → ℕ
deeper true d = suc d
deeper false d = d

closed_when : (t : Bool) {bs : List Body} {d : ℕ} {p : Point} → Settled (type_stop bs (deeper t d)) p → Ends p (when t (lit ">" ◃ wrap_close)) (type_stop bs d)
closed_when true h = ends_as refl (ends_there (wrap_closed h))
closed_when false h = ends_as refl (stays h)

module _ (rs : List Setting) {bs : List Body} {d : ℕ} where
  pub box_opened : (boxed : Bool) → Reads (type_start bs d) (box_open rs boxed) (type_start bs (deeper boxed d))
  unfolding box_open
  box_opened true = same_pieces refl (box_opens rs)
  box_opened false = record { seen = []; onward = λ s. refl; complete = refl }

  pub shape_opened : (proto3 : Bool) (f : FieldDescriptor) → Reads (type_start bs d) (shape_open rs proto3 f) (type_start bs (deeper (is_repeated f || optional proto3 f) d))
  unfolding shape_open
  shape_opened proto3 f = on (is_repeated f) (optional proto3 f)
    where
      on : (r o : Bool) → Reads (type_start bs d) (either r (prost rs ⟫ (lit "::alloc::vec::Vec<" ◃ wrap_open vec)) (when o (lit "::core::option::Option<" ◃ wrap_open opt))) (type_start bs (deeper (r || o) d))
      on true o = same_pieces refl (vec_opens rs)
      on false true = same_pieces refl (option_opens rs)
      on false false = record { seen = []; onward = λ s. refl; complete = refl }

module _ {bs : List Body} {d : ℕ} {p : Point} where
  pub box_closed : (boxed : Bool) → Settled (type_stop bs (deeper boxed d)) p → Ends p (box_close boxed) (type_stop bs d)
  unfolding box_close
  box_closed boxed h = closed_when boxed h

  pub shape_closed : (proto3 : Bool) (f : FieldDescriptor) → Settled (type_stop bs (deeper (is_repeated f || optional proto3 f) d)) p → Ends p (shape_close proto3 f) (type_stop bs d)
  unfolding shape_close
  shape_closed proto3 f h = closed_when (is_repeated f || optional proto3 f) h
