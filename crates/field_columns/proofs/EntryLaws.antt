-- The rows of the messages go with their full names: the same messages in the same order. Assumes nothing.
use mathlib.Core.Path.{◌≡◌, refl, sym, ap, ◌∙◌}
use mathlib.Core.List.{List, [], ◌∷◌, ◌++◌, map, map-append}
use Prim.Native.Nat.{ℕ, zero, suc, ◌+◌, ◌≤◌, ◌<◌}
use native.Mathlib.Omega.{arith}
use lib.ListN.{length, get_or, get_or-map}
use Rattle.base.specs.Lists.{all_of, map_length}
use Rattle.descriptor.specs.Descriptor.{Bytes, Forest, done, node, preorder, FieldDescriptor, MessageDescriptor, FileDescriptor}
use Rattle.descriptor.specs.Decode.{decode_set}
use Rattle.descriptor.specs.Limits.{messages_in, fields_in}
use Rattle.name_rules.specs.Accessors.{text}
use Rattle.name_rules.specs.FullNames.{◌·◌, package_scope, Entry, entries, set_entries, fields_of_entries, set_fields}
use Rattle.index.specs.Tree.{no_row, row_at, file_forests, total}
use Rattle.index.specs.declared.Row.{Row}
use Rattle.index.proofs.SetLaws.{message_rows, decode_row, messages_decoded, messages_counted, MessageTable}

abbrev message_of : Entry → MessageDescriptor
message_of e = e.message

entries_messages : (F : Forest MessageDescriptor) (scope : Bytes) → map message_of (entries scope F) ≡ preorder F
unfolding entries preorder
entries_messages done scope = refl
entries_messages (node m nested following) scope =
    ap (λ (l : List MessageDescriptor). m ∷ l)
    (map-append message_of (entries (scope · text m.name) nested) (entries scope following)
    ∙ ap (λ (l : List MessageDescriptor). l ++ map message_of (entries scope following)) (entries_messages nested (scope · text m.name))
    ∙ ap (λ (l : List MessageDescriptor). preorder nested ++ l) (entries_messages following scope))

-- the messages with full names are those that limit 3 counts
pub set_messages : (fs : List FileDescriptor) → map (λ (e : Entry). e.message) (set_entries fs) ≡ messages_in fs
unfolding set_entries messages_in all_of
set_messages [] = refl
set_messages (f ∷ fs) =
    map-append message_of (entries (package_scope f.package_name) f.messages) (set_entries fs)
    ∙ ap (λ (l : List MessageDescriptor). l ++ map message_of (set_entries fs)) (entries_messages f.messages (package_scope f.package_name))
    ∙ ap (λ (l : List MessageDescriptor). preorder f.messages ++ l) (set_messages fs)

-- and the fields of the name rules are those that limit 4 counts
fields_of : (es : List Entry) → fields_of_entries es ≡ all_of (λ (m : MessageDescriptor). m.fields) (map message_of es)
unfolding fields_of_entries all_of
fields_of [] = refl
fields_of (e ∷ es) = ap (λ (l : List FieldDescriptor). e.message.fields ++ l) (fields_of es)

pub set_fields_are : (fs : List FileDescriptor) → set_fields fs ≡ fields_in fs
unfolding fields_in
set_fields_are fs = fields_of (set_entries fs) ∙ ap (all_of (λ (m : MessageDescriptor). m.fields)) (set_messages fs)

-- what stands past the end does not matter before it
in_range {ℓ} : {A : Type ℓ} (xs : List A) (i : ℕ) (a b : A) → i < length xs → get_or xs i a ≡ get_or xs i b
in_range [] i a b h = absurd (omega arith)
in_range (x ∷ xs) zero a b h = refl
in_range (x ∷ xs) (suc i) a b h = in_range xs i a b (omega arith)

module _ (set : List ℕ) (small : length set ≤ 32768) where
  pub rows_entries : map (decode_row set) (message_rows set) ≡ map (λ (e : Entry). e.message) (set_entries (decode_set set))
  rows_entries = messages_decoded set small ∙ sym (set_messages (decode_set set))

  pub entries_counted : total (file_forests 4 16 set) ≡ length (set_entries (decode_set set))
  entries_counted = messages_counted set small ∙ ap length (sym (set_messages (decode_set set))) ∙ map_length (λ (e : Entry). e.message) (set_entries (decode_set set))

-- row i of the table and entry i have the same message
pub row_entry : (set : List ℕ) (messages : List Row) (count : ℕ) → MessageTable set messages count → (i : ℕ) → i < count → (d : Entry)
    → decode_row set (row_at messages i) ≡ (get_or (set_entries (decode_set set)) i d).message
row_entry set messages count table i h d =
    let n : count ≡ length (message_rows set) = table.counted in
    let es : List Entry = set_entries (decode_set set) in
    let as_many : length (map (decode_row set) (message_rows set)) ≡ length (message_rows set) = map_length (decode_row set) (message_rows set) in
    ap (decode_row set) (ap (row_at messages) (let e : i ≡ 0 + i = omega arith in e) ∙ table.there i (omega arith))
    ∙ sym (get_or-map (decode_row set) (message_rows set) i no_row)
    ∙ in_range (map (decode_row set) (message_rows set)) i (decode_row set no_row) d.message (omega arith)
    ∙ ap (λ (l : List MessageDescriptor). get_or l i d.message) (rows_entries set table.small)
    ∙ get_or-map message_of es i d
