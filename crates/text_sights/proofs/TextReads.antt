-- What is seen in the text of a file is what is written for its descriptors. Assumes nothing.
use Rattle.std.specs.Prelude.{◌≡◌, ℕ, suc, Bool, not, ◌||◌, List, [], ◌∷◌, ◌++◌}
use Rattle.std.proofs.Math.Path.{refl}
use Rattle.std.proofs.Common.{sym, ap, ◌∙◌}
use Rattle.std.proofs.Math.Option.{Option, some, none}
use mathlib.Core.List.{append_assoc, append-nil}
use Rattle.base.specs.Lists.{all_of}
use Rattle.syntax.specs.Syntax.{syntax_of}
use Rattle.descriptor.specs.Descriptor.{Bytes, Forest, done, node, FieldDescriptor, ValueDescriptor, EnumDescriptor, MessageDescriptor, FileDescriptor}
use Rattle.options.specs.Settings.{Setting}
use Rattle.extern_paths.specs.ExternPaths.{taken}
use Rattle.name_rules.specs.Accessors.{text}
use Rattle.name_rules.specs.FullNames.{◌·◌, package_scope}
use Rattle.context.specs.Context.{type_attributes, message_attributes, enum_attributes}
use Rattle.code_generator.specs.Piece.{Text, nothing, piece, ◌◃◌, decl_open, Ref, type, choice, Spelling, snake, camel, spelt, close, block_open, pieces}
use Rattle.code_generator.specs.Attributes.{end, append_type_attributes, append_message_attributes, append_enum_attributes, append_field_attributes, append_prost_path_attribute, append_skip_debug, derive}
use Rattle.code_generator.specs.MapFields.{MapEntry, map_entry_of}
use Rattle.code_generator.specs.Oneofs.{OneofField, plain_fields, oneof_fields, type_name, append_oneof_fields, append_variants, append_oneof, append_oneofs}
use Rattle.code_generator.specs.Enums.{build_enum_value_mappings, enum_variant, variant_lines, enum_variants, as_str_arm, as_str_arms, from_str_arm, from_str_arms, enum_derive, as_str_name, from_str_name, enum_impl, enum_declaration, append_enum, append_enums}
use Rattle.code_generator.specs.Generate.{has_module, push_mod, field_or_map, append_fields, append_struct, append_messages, is_proto3, generate}
use Rattle.sights.specs.Events.{events}
use Rattle.sights.specs.Sights.{Sight, an_item, Frame, in_module, in_declaration, in_block, module_at, declaration_at, read, file_place, file_sights, set_sights}
use Rattle.text_sights.specs.Reading.{Quiet, quiet, quiet_then, Reads, silent, ◌then◌, ◌then_quiet◌, ◌then_closed◌, reads_when, quiet_mark, seen_as}
use Rattle.text_sights.specs.Written.{field_or_map_sights, oneof_field_sights, variant_sights, struct_item, oneof_item, struct_sights, oneof_sights, enum_sights, message_sights, written_sights}
use Rattle.text_sights.proofs.FieldReads.{quiet_prost, quiet_attributes, reads_field, reads_map, reads_variant, reads_oneof_field}

module _ (rs : List Setting) where
  -- ---- the lines before a declaration
  quiet_derive : (d : ℕ) (copy eq : Bool) (what : Bytes) → Quiet (derive rs d copy eq what)
  unfolding derive
  quiet_derive d copy eq what = quiet_then (quiet_then (quiet _ refl) (quiet_prost rs)) (quiet _ refl)

  quiet_type_attributes : (d : ℕ) (full : Bytes) → Quiet (append_type_attributes rs d full)
  unfolding append_type_attributes
  quiet_type_attributes d full = quiet_attributes d (type_attributes rs full)

  quiet_message_attributes : (d : ℕ) (full : Bytes) → Quiet (append_message_attributes rs d full)
  unfolding append_message_attributes
  quiet_message_attributes d full = quiet_attributes d (message_attributes rs full)

  quiet_enum_attributes : (d : ℕ) (full : Bytes) → Quiet (append_enum_attributes rs d full)
  unfolding append_enum_attributes
  quiet_enum_attributes d full = quiet_attributes d (enum_attributes rs full)

  quiet_prost_path : Quiet (append_prost_path_attribute rs)
  unfolding append_prost_path_attribute
  quiet_prost_path = quiet _ refl

  quiet_skip_debug : (d : ℕ) (full : Bytes) → Quiet (append_skip_debug rs d full)
  unfolding append_skip_debug
  quiet_skip_debug d full = quiet _ refl

  -- ---- enums
  quiet_variants : (d : ℕ) (full enum : Bytes) (vs : List ValueDescriptor) → Quiet (enum_variants rs d full enum vs)
  unfolding enum_variants enum_variant variant_lines append_field_attributes
  quiet_variants d full enum [] = quiet nothing refl
  quiet_variants d full enum (v ∷ vs) = quiet_then (quiet_then (quiet_attributes d _) (quiet _ refl)) (quiet_variants d full enum vs)

  quiet_as_str : (d : ℕ) (enum : Bytes) (vs : List ValueDescriptor) → Quiet (as_str_arms rs d enum vs)
  unfolding as_str_arms as_str_arm
  quiet_as_str d enum [] = quiet nothing refl
  quiet_as_str d enum (v ∷ vs) = quiet_then (quiet _ refl) (quiet_as_str d enum vs)

  quiet_from_str : (d : ℕ) (enum : Bytes) (vs : List ValueDescriptor) → Quiet (from_str_arms rs d enum vs)
  unfolding from_str_arms from_str_arm
  quiet_from_str d enum [] = quiet nothing refl
  quiet_from_str d enum (v ∷ vs) = quiet_then (quiet _ refl) (quiet_from_str d enum vs)

  module _ (base : List Bytes) where
    reads_block : (fs : List Frame) (d : ℕ) (s : Text) → Quiet s → Reads base fs (s ◃ block_open) (in_block ∷ fs) []
    reads_block fs d s q = quiet_mark block_open refl (silent q)

    reads_end : (x : Frame) (fs : List Frame) (d : ℕ) → Reads base (x ∷ fs) (end d) fs []
    reads_end x fs d = quiet_mark close refl (silent (quiet _ refl))

    reads_declaration : (fs : List Frame) (r : Ref) (n : Spelling)
        → Reads base fs (piece (decl_open r n)) (in_declaration (declaration_at base fs (some r) (spelt n)) ∷ fs) (an_item (declaration_at base fs (some r) (spelt n)) ∷ [])
    reads_declaration fs r n = record { reads = λ rest. refl }

    reads_as_str : (fs : List Frame) (d : ℕ) (enum : Bytes) (vs : List ValueDescriptor) → Reads base fs (as_str_name rs d enum vs) fs []
    unfolding as_str_name
    reads_as_str fs d enum vs =
        silent (quiet _ refl)
        then reads_block fs d _ (quiet _ refl)
        then reads_block (in_block ∷ fs) d _ (quiet _ refl)
        then_quiet quiet_as_str (suc (suc d)) enum vs
        then reads_end in_block (in_block ∷ fs) (suc d)
        then reads_end in_block fs d

    reads_from_str : (fs : List Frame) (d : ℕ) (enum : Bytes) (vs : List ValueDescriptor) → Reads base fs (from_str_name rs d enum vs) fs []
    unfolding from_str_name
    reads_from_str fs d enum vs =
        silent (quiet _ refl)
        then reads_block fs d _ (quiet _ refl)
        then reads_block (in_block ∷ fs) d _ (quiet _ refl)
        then_quiet quiet_from_str (suc (suc d)) enum vs
        then_quiet quiet _ refl
        then reads_end in_block (in_block ∷ fs) (suc d)
        then reads_end in_block fs d

    reads_impl : (fs : List Frame) (d : ℕ) (enum : Bytes) (vs : List ValueDescriptor) → Reads base fs (enum_impl rs d enum vs) fs []
    unfolding enum_impl
    reads_impl fs d enum vs =
        reads_block fs d _ (quiet _ refl)
        then reads_as_str (in_block ∷ fs) (suc d) enum vs
        then reads_from_str (in_block ∷ fs) (suc d) enum vs
        then reads_end in_block fs d

    reads_enum_declaration : (fs : List Frame) (d : ℕ) (full enum : Bytes) (vs : List ValueDescriptor)
        → Reads base fs (enum_declaration rs d full enum vs) fs (an_item (declaration_at base fs (some (type full)) (spelt (camel enum))) ∷ [])
    unfolding enum_declaration enum_derive
    reads_enum_declaration fs d full enum vs =
        silent
        (quiet_then (quiet_then (quiet_then (quiet_then (quiet_then (quiet_type_attributes d full) (quiet_enum_attributes d full)) (quiet_then (quiet_then (quiet _ refl) (quiet_prost rs)) (quiet _ refl))) quiet_prost_path) (quiet _ refl)) (quiet _ refl))
        then reads_declaration fs (type full) (camel enum)
        then_quiet quiet _ refl
        then_quiet quiet_variants (suc d) full enum vs
        then_closed reads_end _ fs d

    reads_enum : (fs : List Frame) (d : ℕ) (scope : Bytes) (e : EnumDescriptor) → Reads base fs (append_enum rs d scope e) fs (enum_sights rs base fs scope e)
    unfolding append_enum enum_sights
    reads_enum fs d scope e =
        reads_when (not (taken rs (scope · text e.name)))
        (reads_enum_declaration fs d (scope · text e.name) (text e.name) (build_enum_value_mappings e.values)
        then_closed reads_impl fs d (text e.name) (build_enum_value_mappings e.values))

    reads_enums : (fs : List Frame) (d : ℕ) (scope : Bytes) (es : List EnumDescriptor) → Reads base fs (append_enums rs d scope es) fs (all_of (enum_sights rs base fs scope) es)
    unfolding append_enums all_of
    reads_enums fs d scope [] = silent (quiet nothing refl)
    reads_enums fs d scope (e ∷ es) = reads_enum fs d scope e then reads_enums fs d scope es

    -- ---- oneofs
    module _ (set : List FileDescriptor) where
      reads_variants : (fs : List Frame) (d : ℕ) (full : Bytes) (x : OneofField) (vs : List FieldDescriptor)
          → Reads base fs (append_variants rs set d full x vs) fs (all_of (variant_sights rs base set fs full x) vs)
      unfolding append_variants all_of
      reads_variants fs d full x [] = silent (quiet nothing refl)
      reads_variants fs d full x (f ∷ vs) = reads_variant rs base d fs full f set x then reads_variants fs d full x vs

      reads_oneof : (fs : List Frame) (d : ℕ) (full : Bytes) (x : OneofField) → Reads base fs (append_oneof rs set d full x) fs (oneof_sights rs base set fs full x)
      unfolding append_oneof oneof_sights
      reads_oneof fs d full x =
          silent
          (quiet_then (quiet_then (quiet_then (quiet_then (quiet_then (quiet_type_attributes d _) (quiet_enum_attributes d _)) (quiet_derive d _ _ _)) quiet_prost_path) (quiet_skip_debug d full)) (quiet _ refl))
          then reads_declaration fs (choice full x.name) (type_name x)
          then_quiet quiet _ refl
          then reads_variants (in_declaration (oneof_item rs base fs full x) ∷ fs) (suc d) full x x.fields
          then_closed reads_end _ fs d

      reads_oneofs : (fs : List Frame) (d : ℕ) (full : Bytes) (xs : List OneofField) → Reads base fs (append_oneofs rs set d full xs) fs (all_of (oneof_sights rs base set fs full) xs)
      unfolding append_oneofs all_of
      reads_oneofs fs d full [] = silent (quiet nothing refl)
      reads_oneofs fs d full (x ∷ xs) = reads_oneof fs d full x then reads_oneofs fs d full xs

      -- ---- structs
      module _ (proto3 : Bool) where
        reads_field_or_map : (fs : List Frame) (d : ℕ) (scope full : Bytes) (f : FieldDescriptor) (e : Option MapEntry)
            → Reads base fs (field_or_map rs set proto3 d scope full f e) fs (field_or_map_sights rs base set proto3 fs scope full f e)
        reads_field_or_map fs d scope full f none = reads_field rs base set proto3 d fs scope full f
        reads_field_or_map fs d scope full f (some e) = reads_map rs base d fs scope full f e

        reads_fields : (fs : List Frame) (d : ℕ) (scope full : Bytes) (nested : Forest MessageDescriptor) (xs : List FieldDescriptor)
            → Reads base fs (append_fields rs set proto3 d scope full nested xs) fs
            (all_of (λ (f : FieldDescriptor). field_or_map_sights rs base set proto3 fs scope full f (map_entry_of full nested f.type_name)) xs)
        unfolding append_fields all_of
        reads_fields fs d scope full nested [] = silent (quiet nothing refl)
        reads_fields fs d scope full nested (f ∷ xs) =
            reads_field_or_map fs d scope full f (map_entry_of full nested f.type_name) then reads_fields fs d scope full nested xs

        reads_oneof_fields : (fs : List Frame) (d : ℕ) (full message : Bytes) (xs : List OneofField)
            → Reads base fs (append_oneof_fields rs d full message xs) fs (all_of (λ (x : OneofField). oneof_field_sights rs base fs full message x) xs)
        unfolding append_oneof_fields all_of
        reads_oneof_fields fs d full message [] = silent (quiet nothing refl)
        reads_oneof_fields fs d full message (x ∷ xs) = reads_oneof_field rs base d fs full message x then reads_oneof_fields fs d full message xs

        reads_struct : (fs : List Frame) (d : ℕ) (scope full : Bytes) (m : MessageDescriptor) (nested : Forest MessageDescriptor)
            → Reads base fs (append_struct rs set proto3 d scope full m nested) fs (struct_sights rs base set proto3 fs scope full m nested)
        unfolding append_struct struct_sights
        reads_struct fs d scope full m nested =
            let inside = in_declaration (struct_item rs base fs full m) ∷ fs in
            silent
            (quiet_then (quiet_then (quiet_then (quiet_then (quiet_then (quiet_type_attributes d full) (quiet_message_attributes d full)) (quiet_derive d _ _ _)) quiet_prost_path) (quiet_skip_debug d full)) (quiet _ refl))
            then reads_declaration fs (type full) (camel (text m.name))
            then_quiet quiet _ refl
            then reads_fields inside (suc d) scope full nested (plain_fields m.fields)
            then reads_oneof_fields inside (suc d) full (text m.name) (oneof_fields m nested)
            then_closed reads_end _ fs d

        -- ---- messages
        reads_push_mod : (fs : List Frame) (d : ℕ) (message : Bytes)
            → Reads base fs (push_mod d message) (in_module (spelt (snake message)) ∷ fs) (an_item (module_at base fs (spelt (snake message))) ∷ [])
        unfolding push_mod
        reads_push_mod fs d message = silent (quiet _ refl) then record { reads = λ rest. refl } then_quiet quiet _ refl

        reads_messages : (fs : List Frame) (d : ℕ) (scope : Bytes) (ms : Forest MessageDescriptor)
            → Reads base fs (append_messages rs set proto3 d scope ms) fs (message_sights rs base set proto3 fs scope ms)
        unfolding append_messages message_sights
        reads_messages fs d scope done = silent (quiet nothing refl)
        reads_messages fs d scope (node m nested following) =
            let full = scope · text m.name in
            let inside = in_module (spelt (snake (text m.name))) ∷ fs in
            reads_when (not (m.map_entry || taken rs full))
            (reads_struct fs d scope full m nested
            then reads_when (has_module m nested)
            (seen_as (grouped (message_sights rs base set proto3 inside full nested) (all_of (enum_sights rs base inside full) m.enums) (all_of (oneof_sights rs base set inside full) (oneof_fields m nested)))
            (reads_push_mod fs d (text m.name)
            then reads_messages inside (suc d) full nested
            then reads_enums inside (suc d) full m.enums
            then reads_oneofs inside (suc d) full (oneof_fields m nested)
            then_closed reads_end _ fs d)))
            then reads_messages fs d scope following
          where
            grouped : {i : Sight} (xs ys zs : List Sight) → ((i ∷ xs) ++ ys) ++ zs ≡ i ∷ (xs ++ (ys ++ zs))
            grouped {i} xs ys zs = append_assoc (i ∷ xs) ys zs

-- ---- the text of a file
pub file_sights_are : (rs : List Setting) (set : List FileDescriptor) (f : FileDescriptor) → file_sights rs set f ≡ written_sights rs set f
unfolding generate file_sights written_sights
file_sights_are rs set f =
    let base = file_place f in
    let scope = package_scope f.package_name in
    let proto3 = is_proto3 (syntax_of f.syntax) in
    let r = reads_messages rs base set proto3 [] 0 scope f.messages then reads_enums rs base [] 0 scope f.enums in
    ap (read base []) (sym (append-nil (events (pieces (generate rs set f))))) ∙ r.reads [] ∙ append-nil (written_sights rs set f)

pub set_sights_are : (rs : List Setting) (set : List FileDescriptor) → set_sights rs set ≡ all_of (written_sights rs set) set
unfolding set_sights all_of
set_sights_are rs set = go set
  where
    go : (fs : List FileDescriptor) → all_of (file_sights rs set) fs ≡ all_of (written_sights rs set) fs
    go [] = refl
    go (f ∷ fs) = rw (file_sights_are rs set f, go fs) refl
