-- The fields at which document 01 has a Box, where there is no boxed setting: the written singular message fields whose type leads back to
-- their own message.
use Rattle.std.specs.Prelude.{ℕ, Bool, ◌&&◌, ◌||◌, not, List, [], ◌++◌, map, eqb, get_or}
use Rattle.std.proofs.Math.Option.{Option, some, none}
use Rattle.base.specs.Choose.{choose}
use Rattle.base.specs.Lists.{all, all_of}
use Rattle.descriptor.specs.Descriptor.{Bytes, Forest, done, node, FieldDescriptor, MessageDescriptor, FileDescriptor}
use Rattle.options.specs.Settings.{Setting}
use Rattle.extern_paths.specs.ExternPaths.{taken}
use Rattle.name_rules.specs.Accessors.{text}
use Rattle.name_rules.specs.FullNames.{◌·◌, package_scope}
use Rattle.context.specs.MessageGraph.{is_link, is_nested}
use Rattle.code_generator.specs.Piece.{Owned}
use Rattle.code_generator.specs.Oneofs.{OneofField, plain_fields, oneof_fields}
use Rattle.sights.specs.Sights.{Label, BoxUse}

-- "No boxed setting: no row of kind 4."
unfoldable pub no_boxed_setting : List Setting → Bool
no_boxed_setting rs = all (λ (r : Setting). not (eqb r.kind 4)) rs

abbrev pub owned : Bytes → FieldDescriptor → Owned
owned full f = record { message = full; field = f }

-- "A field is .. written if its message's struct is": no map entry, and not taken by an extern path. In the texts' order: the fields of the
-- struct, those of the messages nested in it, and those of its oneofs
unfoldable pub written_in : List Setting → Bytes → Forest MessageDescriptor → List Owned
written_in rs scope done = []
written_in rs scope (node m nested following) =
    let full = scope · text m.name in
    choose (m.map_entry || taken rs full) []
    (map (owned full) (plain_fields m.fields) ++ (written_in rs full nested ++ all_of (λ (x : OneofField). map (owned full) x.fields) (oneof_fields m nested)))
    ++ written_in rs scope following

unfoldable pub written_fields : List Setting → List FileDescriptor → List Owned
written_fields rs set = all_of (λ (f : FileDescriptor). written_in rs (package_scope f.package_name) f.messages) set

-- a singular message field ("A field is singular unless repeated"), which is just what has a link, whose type leads back to its message;
-- "Leading back is by links."
abbrev pub leads_back : List FileDescriptor → Owned → Bool
leads_back set o = is_link o.field && is_nested set (text o.field.type_name) o.message

-- the name of a message's oneof, by its index
abbrev pub oneof_name : MessageDescriptor → ℕ → Bytes
oneof_name m k = text (get_or m.oneofs k none)

-- the field at which a Box stands
abbrev pub label_mark : Option Label → Option Owned
label_mark none = none
label_mark (some l) = l.mark

abbrev pub boxed_field : BoxUse → Option Owned
boxed_field x = label_mark x.field
