-- Where the paths that are seen in the texts come from: around each stands Box, Vec or a map, or it goes along a link that leads nowhere back,
-- or it is that of a oneof. Assumes nothing.
use Rattle.std.specs.Prelude.{◌≡◌, Bool, false, ◌&&◌, ◌||◌, not, Ok}
use Rattle.std.proofs.Math.Path.{refl}
use Rattle.std.proofs.Common.{sym, subst}
use Rattle.std.proofs.Math.Bool.{true}
use Rattle.std.proofs.Math.Option.{Option, some, none}
use mathlib.Core.List.Memᴰ
use mathlib.Core.List.{List, [], ◌∷◌, ◌++◌, Memᴰ}
use Rattle.base.specs.Choose.{choose, choose_case}
use Rattle.base.specs.Tests.{both_ways, and_both}
use Rattle.base.specs.Lists.{Every, every_append, every_of, all_of}
use Rattle.syntax.specs.Syntax.{syntax_of}
use Rattle.descriptor.specs.Descriptor.{Bytes, Forest, done, node, FieldDescriptor, EnumDescriptor, MessageDescriptor, FileDescriptor}
use Rattle.options.specs.Settings.{Setting}
use Rattle.extern_paths.specs.ExternPaths.{taken}
use Rattle.name_rules.specs.Accessors.{text, is_repeated, is_message, is_group}
use Rattle.name_rules.specs.FullNames.{◌·◌, package_scope, set_entries}
use Rattle.name_rules.specs.Answer.{names}
use Rattle.context.specs.MessageGraph.{is_link, links, is_nested}
use Rattle.context.specs.Context.{has, should_box}
use Rattle.code_generator.specs.Piece.{Ref, type, choice, snake, camel, spelt, opt, vec, box, table}
use Rattle.code_generator.specs.Fields.{optional}
use Rattle.code_generator.specs.MapFields.{MapEntry, map_entry_of}
use Rattle.code_generator.specs.Oneofs.{OneofField, plain_fields, oneof_fields}
use Rattle.code_generator.specs.Generate.{has_module, is_proto3}
use Rattle.sights.specs.Sights.{Item, Use, Sight, an_item, Frame, in_module, in_declaration, in_field, in_wrap, owner_of, wraps_of, module_at, file_place, set_sights, uses}
use Rattle.text_sights.specs.Written.{names_struct, names_enum, label_of, in_shape, in_box, box_sights, ident_sights, type_sights, tag_sights, field_sights, map_sights, variant_sights, oneof_field_sights, field_or_map_sights, struct_item, oneof_item, struct_sights, oneof_sights, enum_sights, message_sights, written_sights}
use Rattle.text_sights.proofs.TextReads.{set_sights_are}
use Rattle.paths_reach.specs.Dots.{scope_of, scope_of_names, dotted_package}
use Rattle.paths_reach.specs.Written.{package_names}
use Rattle.paths_reach.specs.Seen.{Fine, fine_uses, every_mem}
use Rattle.paths_reach.specs.Nodes.{Node, names_of, nodes, file_nodes}
use Rattle.paths_reach.specs.Types.{struct_type}
use Rattle.paths_reach.proofs.PathsReach.{plain_mem, at_mem, oneof_at}
use Rattle.walks_end.specs.Walks.{group_free, only_options}
use Rattle.walks_end.proofs.Facts.{FineField, FineMessage, fine_message}
use Rattle.walks_end.specs.Origins.{owner_mark}

-- the message that something is for
abbrev pub message_of : Ref → Bytes
message_of (type full) = full
message_of (choice full name) = full

pub data Origin (set : List FileDescriptor) (u : Use) : Type 0 where
  in_a_tag : u.in_tag ≡ true → Origin set u
  held : only_options u.wraps ≡ false → Origin set u
  of_oneof : (full name : Bytes) → owner_mark u.owner ≡ some (type full) → u.mark ≡ some (choice full name) → Origin set u
  of_link : (r : Ref) (to : Bytes) → owner_mark u.owner ≡ some r → u.mark ≡ some (type to)
      → Memᴰ (record { from = message_of r; to = to }) (links (set_entries set)) → is_nested set to (message_of r) ≡ false → Origin set u

-- a singular field without a Box leads nowhere back
not_back : (message group repeated nested set : Bool) → repeated ≡ false → (message || group) ≡ true → choose repeated false (choose ((message || group) && nested) true set) ≡ false → nested ≡ false
unfolding choose
not_back message group true nested set r t h = both_ways refl r
not_back message group false false set r t h = refl
not_back true group false true set r t h = h
not_back false true false true set r t h = h
not_back false false false true set r t h = both_ways t refl

no_group_message : (message group : Bool) → group ≡ false → (message || group) ≡ true → message ≡ true
no_group_message true group g t = refl
no_group_message false true g t = both_ways refl g
no_group_message false false g t = t

module _ (rs : List Setting) (base : List Bytes) (set : List FileDescriptor) where
  abbrev Known : Sight → Type 0
  Known = Fine (Origin set)

  -- ---- the path of a type
  known_tag : (gs : List Frame) (scope : Bytes) (f : FieldDescriptor) → Every Known (tag_sights rs base gs scope f)
  unfolding tag_sights ident_sights
  known_tag gs scope f =
      choose_case (Every Known) (names_enum f) (λ _. choose_case (Every Known) (taken rs (text f.type_name)) (λ _. tt) (λ _. (in_a_tag refl, tt))) (λ _. tt)

  known_held : (gs : List Frame) → only_options (wraps_of gs) ≡ false → (scope : Bytes) (f : FieldDescriptor) → Every Known (type_sights rs base gs scope f)
  unfolding type_sights ident_sights
  known_held gs h scope f =
      choose_case (Every Known) (names_struct f) (λ _. choose_case (Every Known) (taken rs (text f.type_name)) (λ _. tt) (λ _. (held h, tt))) (λ _. tt)

  -- owner: what is around is for a struct or a oneof of the field's message
  module _ (r : Ref) (f : FieldDescriptor) (fine : FineField set (message_of r) f) where
    known_free : (gs : List Frame) → owner_mark (owner_of gs) ≡ some r → is_repeated f ≡ false → (at : Bytes) → should_box rs set (message_of r) at f ≡ false → (scope : Bytes) → Every Known (type_sights rs base gs scope f)
    unfolding type_sights ident_sights should_box
    known_free gs own single at unboxed scope =
        choose_case (Every Known) (names_struct f)
        (λ s.
        let is : is_message f ≡ true = no_group_message (is_message f) (is_group f) fine.no_group (struct_type f s) in
        let link : is_link f ≡ true = and_both is (rw single refl) in
        choose_case (Every Known) (taken rs (text f.type_name)) (λ _. tt)
        (λ _. (
          of_link r (text f.type_name) own refl (fine.linked link)
              (not_back (is_message f) (is_group f) (is_repeated f) (is_nested set (text f.type_name) (message_of r)) (has rs 4 (at · text f.name)) single (struct_type f s) unboxed),
          tt,
        )))
        (λ _. tt)

    -- a type in its shape, and in a Box or without
    known_shaped : (fs : List Frame) → owner_mark (owner_of fs) ≡ some r → (proto3 : Bool) (scope at : Bytes)
        → let boxed = should_box rs set (message_of r) at f in Every Known (type_sights rs base (in_box boxed (in_shape proto3 f fs)) scope f)
    known_shaped fs own proto3 scope at =
        choose_case (λ (gs : List Frame). Every Known (type_sights rs base gs scope f)) (should_box rs set (message_of r) at f)
        (λ _. known_held (in_wrap box ∷ in_shape proto3 f fs) refl scope f)
        (λ unboxed.
        choose_case (λ (gs : List Frame). Every Known (type_sights rs base gs scope f)) (is_repeated f) (λ _. known_held (in_wrap vec ∷ fs) refl scope f)
        (λ single.
        choose_case (λ (gs : List Frame). Every Known (type_sights rs base gs scope f)) (optional proto3 f) (λ _. known_free (in_wrap opt ∷ fs) own single at unboxed scope)
        (λ _. known_free fs own single at unboxed scope)))

  known_box : (boxed : Bool) (gs : List Frame) → Every Known (box_sights boxed gs)
  known_box boxed gs = choose_case (Every Known) boxed (λ _. (tt, tt)) (λ _. tt)

  -- ---- fields and variants
  module _ (r : Ref) (i : Item) (of : i.mark ≡ some r) (fs : List Frame) where
    abbrev gs : List Frame
    gs = in_declaration i ∷ fs

    known_field : (proto3 : Bool) (scope : Bytes) (f : FieldDescriptor) → FineField set (message_of r) f → Every Known (field_sights rs base set proto3 gs scope (message_of r) f)
    unfolding field_sights
    known_field proto3 scope f fine =
        let boxed = should_box rs set (message_of r) (message_of r) f in
        let named = in_field (label_of (message_of r) f (snake (text f.name))) ∷ gs in
        every_append Known (tag_sights rs base gs scope f) (box_sights boxed (in_shape proto3 f named) ++ type_sights rs base (in_box boxed (in_shape proto3 f named)) scope f)
        (known_tag gs scope f)
        (every_append Known (box_sights boxed (in_shape proto3 f named)) (type_sights rs base (in_box boxed (in_shape proto3 f named)) scope f) (known_box boxed (in_shape proto3 f named))
        (known_shaped r f fine named of proto3 scope (message_of r)))

    known_map : (scope full : Bytes) (f : FieldDescriptor) (e : MapEntry) → Every Known (map_sights rs base gs scope full f e)
    unfolding map_sights
    known_map scope full f e =
        let inside = in_wrap table ∷ in_field (label_of full f (snake (text f.name))) ∷ gs in
        every_append Known (tag_sights rs base gs scope e.key ++ tag_sights rs base gs scope e.value) (type_sights rs base inside scope e.key ++ type_sights rs base inside scope e.value)
        (every_append Known (tag_sights rs base gs scope e.key) (tag_sights rs base gs scope e.value) (known_tag gs scope e.key) (known_tag gs scope e.value))
        (every_append Known (type_sights rs base inside scope e.key) (type_sights rs base inside scope e.value) (known_held inside refl scope e.key) (known_held inside refl scope e.value))

    known_field_or_map : (proto3 : Bool) (scope : Bytes) (f : FieldDescriptor) → FineField set (message_of r) f → (e : Option MapEntry)
        → Every Known (field_or_map_sights rs base set proto3 gs scope (message_of r) f e)
    known_field_or_map proto3 scope f fine none = known_field proto3 scope f fine
    known_field_or_map proto3 scope f fine (some e) = known_map scope (message_of r) f e

    known_variant : (x : OneofField) (f : FieldDescriptor) → FineField set (message_of r) f → is_repeated f ≡ false → Every Known (variant_sights rs base set gs (message_of r) x f)
    unfolding variant_sights
    known_variant x f fine single =
        let at = message_of r · x.name in
        let boxed = should_box rs set (message_of r) at f in
        let inside = in_field (label_of (message_of r) f (camel (text f.name))) ∷ gs in
        every_append Known (tag_sights rs base gs (message_of r) f) (box_sights boxed inside ++ type_sights rs base (in_box boxed inside) (message_of r) f)
        (known_tag gs (message_of r) f)
        (every_append Known (box_sights boxed inside) (type_sights rs base (in_box boxed inside) (message_of r) f) (known_box boxed inside)
        (choose_case (λ (l : List Frame). Every Known (type_sights rs base l (message_of r) f)) boxed (λ _. known_held (in_wrap box ∷ inside) refl (message_of r) f)
        (λ unboxed. known_free r f fine inside of single at unboxed (message_of r))))

  -- ---- declarations
  known_struct : (fs : List Frame) (proto3 : Bool) (n : Node) → FineMessage set n
      → Every Known (struct_sights rs base set proto3 fs (scope_of n.home) (scope_of (names_of n)) n.message n.nested)
  unfolding struct_sights oneof_field_sights
  known_struct fs proto3 n fine =
      let full = scope_of (names_of n) in
      let i = struct_item rs base fs full n.message in
      let gs = in_declaration i ∷ fs in
      let field : FieldDescriptor → List Sight = λ (f : FieldDescriptor). field_or_map_sights rs base set proto3 gs (scope_of n.home) full f (map_entry_of full n.nested f.type_name) in
      let oneof : OneofField → List Sight = λ (x : OneofField). oneof_field_sights rs base gs full (text n.message.name) x in
      let plain = plain_fields n.message.fields in
      let oneofs = oneof_fields n.message n.nested in (
        tt,
        every_append Known (all_of field plain) (all_of oneof oneofs)
            (every_of Known field plain
            (every_mem (λ (f : FieldDescriptor). Every Known (field f)) plain
            (λ f k. known_field_or_map (type full) i refl fs proto3 (scope_of n.home) f (fine.fields f (plain_mem f n.message.fields k)) (map_entry_of full n.nested f.type_name))))
            (every_of Known oneof oneofs (every_mem (λ (x : OneofField). Every Known (oneof x)) oneofs (λ x k. (in_a_tag refl, (of_oneof full x.name refl refl, tt))))),
      )

  known_oneof : (fs : List Frame) (n : Node) → FineMessage set n → (x : OneofField) → Memᴰ x (oneof_fields n.message n.nested) → Every Known (oneof_sights rs base set fs (scope_of (names_of n)) x)
  unfolding oneof_sights
  known_oneof fs n fine x k =
      let full = scope_of (names_of n) in
      let i = oneof_item rs base fs full x in
      let variant = variant_sights rs base set (in_declaration i ∷ fs) full x in (
        tt,
        every_of Known variant x.fields
            (every_mem (λ (f : FieldDescriptor). Every Known (variant f)) x.fields
            (λ f l.
            let (index, is) = oneof_at n.message n.nested 0 n.message.oneofs x k in
            let own = at_mem index f n.message.fields (subst (λ (z : List FieldDescriptor). Memᴰ f z) is l) in
            let here = fine.fields f own.0 in
            known_variant (choice full x.name) i refl fs x f here (here.singular index own.1))),
      )

  known_enums : (fs : List Frame) (scope : Bytes) (es : List EnumDescriptor) → Every Known (all_of (enum_sights rs base fs scope) es)
  unfolding all_of enum_sights
  known_enums fs scope [] = tt
  known_enums fs scope (e ∷ es) =
      every_append Known (enum_sights rs base fs scope e) (all_of (enum_sights rs base fs scope) es)
      (choose_case (Every Known) (not (taken rs (scope · text e.name))) (λ _. (tt, tt)) (λ _. tt)) (known_enums fs scope es)

  -- ---- messages
  known_messages : (proto3 : Bool) (h : List Bytes) (fs : List Frame) (ms : Forest MessageDescriptor) → ((n : Node) → Memᴰ n (nodes h ms) → FineMessage set n)
      → Every Known (message_sights rs base set proto3 fs (scope_of h) ms)
  unfolding message_sights nodes
  known_messages proto3 h fs done k = tt
  known_messages proto3 h fs (node m nested following) k =
      let full = text m.name ∷ h in
      let n : Node = record { home = h; message = m; nested = nested } in
      let fine = k n (Memᴰ.head refl) in
      let inside = in_module (spelt (snake (text m.name))) ∷ fs in
      let struct = struct_sights rs base set proto3 fs (scope_of h) (scope_of full) m nested in
      let inner = message_sights rs base set proto3 inside (scope_of full) nested in
      let enums = all_of (enum_sights rs base inside (scope_of full)) m.enums in
      let oneof = oneof_sights rs base set inside (scope_of full) in
      let oneofs = all_of oneof (oneof_fields m nested) in
      let module_sights = an_item (module_at base fs (spelt (snake (text m.name)))) ∷ (inner ++ (enums ++ oneofs)) in
      every_append Known (choose (not (m.map_entry || taken rs (scope_of full))) (struct ++ choose (has_module m nested) module_sights []) []) (message_sights rs base set proto3 fs (scope_of h) following)
      (choose_case (Every Known) (not (m.map_entry || taken rs (scope_of full)))
      (λ _.
      every_append Known struct (choose (has_module m nested) module_sights []) (known_struct fs proto3 n fine)
      (choose_case (Every Known) (has_module m nested)
      (λ _. (
        tt,
        every_append Known inner (enums ++ oneofs) (known_messages proto3 full inside nested (λ c i. k c (Memᴰ.tail (Memᴰ.append_left (nodes h following) i))))
            (every_append Known enums oneofs (known_enums inside (scope_of full) m.enums)
            (every_of Known oneof (oneof_fields m nested) (every_mem (λ (x : OneofField). Every Known (oneof x)) (oneof_fields m nested) (λ x i. known_oneof inside n fine x i)))),
      ))
      (λ _. tt)))
      (λ _. tt))
      (known_messages proto3 h fs following (λ c i. k c (Memᴰ.tail (Memᴰ.append_right (nodes full nested) i))))

known_file : (rs : List Setting) (set : List FileDescriptor) (f : FileDescriptor) → ((n : Node) → Memᴰ n (file_nodes f) → FineMessage set n) → Every (Fine (Origin set)) (written_sights rs set f)
unfolding written_sights
known_file rs set f k =
    let scope = package_scope f.package_name in
    let proto3 = is_proto3 (syntax_of f.syntax) in
    every_append (Fine (Origin set)) (message_sights rs (file_place f) set proto3 [] scope f.messages) (all_of (enum_sights rs (file_place f) [] scope) f.enums)
    (subst (λ (s : Bytes). Every (Fine (Origin set)) (message_sights rs (file_place f) set proto3 [] s f.messages)) (scope_of_names (dotted_package f.package_name))
    (known_messages rs (file_place f) set proto3 (package_names f) [] f.messages k))
    (known_enums rs (file_place f) set [] scope f.enums)

pub origins : (rs : List Setting) (set : List FileDescriptor) → names set ≡ Ok tt → group_free set ≡ true → (u : Use) → Memᴰ u (uses (set_sights rs set)) → Origin set u
origins rs set good free =
    fine_uses (Origin set) (set_sights rs set)
    (subst (λ (l : List Sight). Every (Fine (Origin set)) l) (sym (set_sights_are rs set))
    (every_of (Fine (Origin set)) (written_sights rs set) set
    (every_mem (λ (f : FileDescriptor). Every (Fine (Origin set)) (written_sights rs set f)) set (λ f i. known_file rs set f (λ n j. fine_message set good free f i n j)))))
