-- How long the text of a message and of a file can be. Assumes nothing.
use Rattle.std.specs.Prelude.{◌≡◌, refl, Bool, ◌&&◌}
use Rattle.std.proofs.Math.Option.{Option, some, none}
use mathlib.Core.List.{List, [], ◌∷◌}
use Prim.Native.Nat.{ℕ, zero, suc, ◌+◌, ◌*◌, ◌-◌, ◌≤◌}
use native.Mathlib.Omega.{arith}
use Rattle.std.proofs.Math.ListN.{length, length-append}
use Rattle.base.specs.Bytes.{same}
use Rattle.base.specs.Choose.{choose, choose_case}
use Rattle.base.specs.Lists.{Every, is_empty}
use Rattle.descriptor.specs.Descriptor.{Bytes, Forest, done, node, FieldDescriptor, MessageDescriptor, FileDescriptor}
use Rattle.options.specs.Settings.{Setting}
use Rattle.name_rules.specs.Accessors.{text}
use Rattle.name_rules.specs.FullNames.{◌·◌}
use Rattle.code_generator.specs.Piece.{camel, snake}
use Rattle.code_generator.specs.MapFields.{MapEntry, entry_of, map_entry_of}
use Rattle.code_generator.specs.Oneofs.{oneof_of, is_plain, is_at, plain_fields, fields_at, OneofField, oneofs_from, oneof_fields, append_oneof_fields, append_oneofs}
use Rattle.code_generator.specs.Generate.{push_mod, field_or_map, append_fields, append_struct, append_messages}
use Rattle.text_length.specs.Lengths.{AtMost, ◌then◌, none_long, piece_long, when_long, before_mark, wider, indent_long}
use Rattle.text_length.specs.Names.{spelling_long}
use Rattle.text_length.specs.Paths.{Small}
use Rattle.text_length.specs.Fields.{FieldShort, type_attributes_long, message_attributes_long, derive_long, prost_path_long, skip_debug_long, field_long, map_field_long}
use Rattle.text_length.specs.Declarations.{EnumShort, enums_long, oneof_field_long, oneof_long}

-- no text of a message is longer than a set can be, and so many oneofs it has at most
pub record MessageShort (m : MessageDescriptor) : Type 0 where
  pub named : length (text m.name) ≤ 32768
  pub fields : Every FieldShort m.fields
  pub enums : Every EnumShort m.enums
  pub oneofs : Every (λ (n : Option Bytes). length (text n) ≤ 32768) m.oneofs
  pub few : length m.oneofs ≤ 32768

-- messages in so many levels
abbrev pub ForestShort : ℕ → Forest MessageDescriptor → Type 0
ForestShort k done = Unit
ForestShort zero (node m nested following) = ⊥
ForestShort (suc k) (node m nested following) = MessageShort m × (ForestShort k nested × ForestShort (suc k) following)

-- ---- the fields of a message
record Some (n : ℕ) (fs : List FieldDescriptor) : Type 0 where
  few : length fs ≤ n
  short : Every FieldShort fs

module _ (test : Option ℕ → Bool) (kept : List FieldDescriptor → List FieldDescriptor)
    (none_kept : kept [] ≡ []) (one_kept : (f : FieldDescriptor) (fs : List FieldDescriptor) → kept (f ∷ fs) ≡ choose (test (oneof_of f)) (f ∷ kept fs) (kept fs)) where
  kept_some : (fs : List FieldDescriptor) → Every FieldShort fs → Some (length fs) (kept fs)
  kept_some [] h = rw none_kept (record { few = omega arith; short = tt })
  kept_some (f ∷ fs) h =
      let k = kept_some fs h.1 in
      let n = k.few in
      rw (one_kept f fs)
      (choose_case (λ (l : List FieldDescriptor). Some (suc (length fs)) l) (test (oneof_of f))
      (λ _. record { few = omega arith; short = (h.0, k.short) })
      (λ _. record { few = omega arith; short = k.short }))

plain_some : (fs : List FieldDescriptor) → Every FieldShort fs → Some (length fs) (plain_fields fs)
unfolding plain_fields
plain_some fs h = kept_some is_plain plain_fields refl (λ f fs. refl) fs h

at_some : (i : ℕ) (fs : List FieldDescriptor) → Every FieldShort fs → Some (length fs) (fields_at i fs)
unfolding fields_at
at_some i fs h = kept_some (is_at i) (fields_at i) refl (λ f fs. refl) fs h

-- ---- map entries
abbrev EntryShort : Option MapEntry → Type 0
EntryShort none = Unit
EntryShort (some e) = FieldShort e.key × FieldShort e.value

entry_short : (fs : List FieldDescriptor) → Every FieldShort fs → EntryShort (entry_of fs)
entry_short [] h = tt
entry_short (k ∷ []) h = tt
entry_short (k ∷ (v ∷ fs)) h = (h.0, h.1.0)

map_entry_short : (k : ℕ) (full : Bytes) (nested : Forest MessageDescriptor) (x : Option Bytes) → ForestShort k nested → EntryShort (map_entry_of full nested x)
unfolding map_entry_of
map_entry_short k full done x h = tt
map_entry_short zero full (node e nested following) x h = absurd h
map_entry_short (suc k) full (node e nested following) x h =
    choose_case EntryShort (e.map_entry && same (full · text e.name) (text x)) (λ _. entry_short e.fields h.0.fields) (λ _. map_entry_short (suc k) full following x h.1.1)

-- ---- oneofs
record Fine (n : ℕ) (x : OneofField) : Type 0 where
  named : length x.name ≤ 32768
  counted : length x.fields ≤ n
  short : Every FieldShort x.fields

record Oneofs (k n : ℕ) (xs : List OneofField) : Type 0 where
  few : length xs ≤ k
  fine : Every (Fine n) xs

oneofs_fine : (m : MessageDescriptor) (nested : Forest MessageDescriptor) → Every FieldShort m.fields → (i : ℕ) (ns : List (Option Bytes)) → Every (λ (n : Option Bytes). length (text n) ≤ 32768) ns
    → Oneofs (length ns) (length m.fields) (oneofs_from m nested i ns)
unfolding oneofs_from
oneofs_fine m nested short i [] h = record { few = omega arith; fine = tt }
oneofs_fine m nested short i (n ∷ ns) h =
    let rest = oneofs_fine m nested short (suc i) ns h.1 in
    let k = rest.few in
    let own = at_some i m.fields short in
    choose_case (λ (l : List OneofField). Oneofs (suc (length ns)) (length m.fields) l) (is_empty (fields_at i m.fields))
    (λ _. record { few = omega arith; fine = rest.fine })
    (λ _. record { few = omega arith; fine = (record { named = h.0; counted = own.few; short = own.short }, rest.fine) })

-- what a message adds, and those nested in it and behind it
abbrev pub own : MessageDescriptor → ℕ
own m = 70000000000 + length m.fields * 700000000000 + length m.enums * 20000000000

abbrev pub weight : Forest MessageDescriptor → ℕ
weight done = 0
weight (node m nested following) = own m + weight nested + weight following

times_most : (m k n : ℕ) → m ≤ k → m * n ≤ k * n
times_most m k n h = let e : k ≡ m + (k - m) = omega arith in rw e (omega arith)

module _ {rs : List Setting} (small : Small rs) where
  oneof_fields_long : (d : ℕ) → d ≤ 25 → (full message : Bytes) → length message ≤ 32768 → (n : ℕ) (xs : List OneofField) → Every (Fine n) xs
      → AtMost (length xs * (n * 12 + 1000000)) (append_oneof_fields rs d full message xs)
  unfolding append_oneof_fields
  oneof_fields_long d deep full message named n [] h = wider _ none_long (omega arith)
  oneof_fields_long d deep full message named n (x ∷ xs) h =
      let c = h.0.counted in
      wider _ (oneof_field_long full message named x h.0.named small d deep then oneof_fields_long d deep full message named n xs h.1) (omega arith)

  module _ (set : List FileDescriptor) where
    oneofs_long : (d : ℕ) → d ≤ 24 → (full : Bytes) → length full ≤ 600000 → (n : ℕ) (xs : List OneofField) → Every (Fine n) xs
        → AtMost (length xs * (n * 21000000 + 1000000)) (append_oneofs rs set d full xs)
    unfolding append_oneofs
    oneofs_long d deep full near n [] h = wider _ none_long (omega arith)
    oneofs_long d deep full near n (x ∷ xs) h =
        let c = h.0.counted in
        wider _ (oneof_long small set full near d deep x h.0.named h.0.short then oneofs_long d deep full near n xs h.1) (omega arith)

    module _ (proto3 : Bool) where
      -- ---- the fields of a struct
      or_map_long : (d : ℕ) → d ≤ 25 → (scope : Bytes) → length scope ≤ 600000 → (full : Bytes) {f : FieldDescriptor} → FieldShort f → (o : Option MapEntry) → EntryShort o → AtMost 60000000 (field_or_map rs set proto3 d scope full f o)
      or_map_long d deep scope near full short none h = wider 60000000 (field_long small scope near short set proto3 d deep full) (omega arith)
      or_map_long d deep scope near full short (some e) h = map_field_long small scope near short h.0 h.1 d deep full

      fields_long : (d : ℕ) → d ≤ 25 → (scope : Bytes) → length scope ≤ 600000 → (full : Bytes) (k : ℕ) (nested : Forest MessageDescriptor) → ForestShort k nested
          → (fs : List FieldDescriptor) → Every FieldShort fs → AtMost (length fs * 60000000) (append_fields rs set proto3 d scope full nested fs)
      unfolding append_fields
      fields_long d deep scope near full k nested inner [] h = none_long
      fields_long d deep scope near full k nested inner (f ∷ fs) h =
          wider _
          (or_map_long d deep scope near full h.0 (map_entry_of full nested f.type_name) (map_entry_short k full nested f.type_name inner) then fields_long d deep scope near full k nested inner fs h.1)
          (omega arith)

      -- ---- messages
      module _ (k d : ℕ) (deep : d ≤ 20) (scope full : Bytes) (near : length scope ≤ 600000) (m : MessageDescriptor) (nested : Forest MessageDescriptor)
          (short : MessageShort m) (inner : ForestShort k nested) where
        struct_long : AtMost (1000000 + length m.fields * 60000000 + length (oneof_fields m nested) * (length m.fields * 12 + 1000000)) (append_struct rs set proto3 d scope full m nested)
        unfolding append_struct
        struct_long =
            let plain = plain_some m.fields short.fields in
            let n = plain.few in
            let name = spelling_long (camel (text m.name)) in
            let l = short.named in
            wider _
            (type_attributes_long small d (omega arith) full
            then message_attributes_long small d (omega arith) full
            then derive_long small d (omega arith) _ _ _ (omega arith)
            then prost_path_long small
            then skip_debug_long small d (omega arith) full
            then (indent_long d (omega arith) then piece_long {n = 20} _ (omega arith))
            then piece_long {n = 66000} _ (omega arith)
            then piece_long {n = 10} _ (omega arith)
            then fields_long (suc d) (omega arith) scope near full k nested inner (plain_fields m.fields) plain.short
            then oneof_fields_long (suc d) (omega arith) full (text m.name) short.named (length m.fields) _ (oneofs_fine m nested short.fields 0 m.oneofs short.oneofs).fine
            then before_mark _ (indent_long d (omega arith) then piece_long {n = 10} _ (omega arith)))
            (omega arith)

        mod_long : AtMost 110000 (push_mod d (text m.name))
        unfolding push_mod
        mod_long =
            let name = spelling_long (snake (text m.name)) in
            let l = short.named in
            wider 110000
            ((indent_long d (omega arith) then piece_long {n = 50} _ (omega arith))
            then piece_long {n = 32768} _ l
            then piece_long {n = 10} _ (omega arith)
            then (indent_long d (omega arith) then piece_long {n = 20} _ (omega arith))
            then piece_long {n = 66000} _ (omega arith)
            then piece_long {n = 10} _ (omega arith))
            (omega arith)

      pub messages_long : (k d : ℕ) → d + k ≤ 16 → (scope : Bytes) → length scope ≤ 33000 * (d + 1) → (F : Forest MessageDescriptor) → ForestShort k F → AtMost (weight F) (append_messages rs set proto3 d scope F)
      unfolding append_messages
      messages_long k d deep scope near done h = none_long
      messages_long zero d deep scope near (node m nested following) h = absurd h
      messages_long (suc k) d deep scope near (node m nested following) h =
          let full = scope · text m.name in
          let short = h.0 in
          let l = short.named in
          let e = length-append scope (46 ∷ text m.name) in
          let oneofs = oneofs_fine m nested short.fields 0 m.oneofs short.oneofs in
          let few : length (oneof_fields m nested) ≤ 32768 = let a = oneofs.few in let c = short.few in omega arith in
          let product = times_most (length (oneof_fields m nested)) 32768 (length m.fields) few in
          let inside = messages_long k (suc d) (omega arith) full (omega arith) nested h.1.0 in
          wider _
          (when_long _
          (struct_long k d (omega arith) scope full (omega arith) m nested short h.1.0
          then when_long _
          (mod_long k d (omega arith) scope full (omega arith) m nested short h.1.0
          then inside
          then enums_long small (suc d) (omega arith) full m.enums short.enums
          then oneofs_long (suc d) (omega arith) full (omega arith) (length m.fields) _ oneofs.fine
          then before_mark _ (indent_long d (omega arith) then piece_long {n = 10} _ (omega arith))))
          then messages_long (suc k) d deep scope near following h.1.1)
          (omega arith)
