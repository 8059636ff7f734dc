-- Of message i, whose part p is: the names of its members that meet by the tables are those of the name check. Assumes nothing.
use Rattle.std.specs.Prelude.{ℕ, suc, ◌+◌, ◌≤◌, ◌≡◌, Bool, length}
use Rattle.std.proofs.Math.Path.{refl, sym, ap, ap₂}
use Rattle.std.proofs.Common.{◌∙◌, arith, length-append, le-leb}
use Rattle.std.proofs.Math.Bool.{true, false, ◌||◌}
use Rattle.std.proofs.Math.Option.{Option, some, none}
use mathlib.Core.List.{List, [], ◌∷◌, ◌++◌, map, append_assoc}
use Rattle.base.specs.Choose.{choose, choose_case}
use Rattle.base.specs.Lists.{any, all_of, count, is_empty, Every, every_append, map_length}
use Rattle.writer.specs.Text.{pick}
use Rattle.ident.specs.Ident.{to_snake, to_upper_camel}
use Rattle.ident.proofs.Sizes.{snake_fits, camel_fits}
use Rattle.ident.proofs.Written.{snake_written, camel_written}
use Rattle.descriptor.specs.Descriptor.{Bytes, Forest, FieldDescriptor, MessageDescriptor}
use Rattle.descriptor.specs.Decode.{entries, parts, decode_oneof, decode_message}
use Rattle.options.specs.Settings.{Setting}
use Rattle.name_rules.specs.Accessors.{text}
use Rattle.name_rules.specs.FullNames.{◌·◌}
use Rattle.name_rules.specs.WellFormed.{Named, GoodMessage}
use Rattle.path_fits.specs.PathsFit.{max_short_name, OneofFits, MessageFits}
use Rattle.text_tables.specs.Rows.{is_plain as row_is_plain, is_in}
use Rattle.text_tables.specs.declared.MessageRow.{MessageRow}
use Rattle.text_tables.specs.declared.FieldRow.{FieldRow}
use Rattle.members.specs.Members.{members}
use Rattle.code_generator.specs.Refusals.{overlap}
use Rattle.code_generator.specs.Oneofs.{oneof_of, is_plain, is_at, plain_fields, fields_at, OneofField, oneofs_from, oneof_fields}
use Rattle.text_laws.specs.Pairwise.{Pairwise, pairwise_empty}
use Rattle.text_laws.specs.Pairwise.Pairwise.{nil, cons}
use Rattle.text_laws.specs.Described.{FieldIs, MessageIs}
use Rattle.text_laws.proofs.MemberLaws.{plain_members, oneof_members}
use Rattle.text_laws.proofs.OneofLaws.{oneof_at, walked_is}
use Rattle.name_check.specs.NameCheck.{member_names, variant_names, members_meet}
use Rattle.name_rows.specs.Rows.{row, place_row, rows_of}
use Rattle.name_rows.proofs.RowLaws.{written_plain, nowhere}
use Rattle.place_laws.specs.HeldPlaces.{named_text}
use Rattle.place_laws.specs.PlaceCount.{from_on, later, oneofs_later}
use Rattle.member_rows.specs.MemberRows.{name_row, field_rows, rows_overlap, oneof_row, oneof_rows, struct_meets, oneofs_meet, own_meet}
use Rattle.member_laws.specs.RootRows.{Fine}
use Rattle.member_laws.proofs.RootRows.{rows_overlap_is}

-- ---- lists
every_zip : {A : Type 0} {P Q R : A → Type 0} → ((x : A) → P x → Q x → R x) → (xs : List A) → Every P xs → Every Q xs → Every R xs
every_zip f [] p q = tt
every_zip f (x ∷ xs) p q = (f x p.0 q.0, every_zip f xs p.1 q.1)

every_map : {A B : Type 0} (P : B → Type 0) (g : A → B) (xs : List A) → Every (λ (x : A). P (g x)) xs → Every P (map g xs)
every_map P g [] e = tt
every_map P g (x ∷ xs) e = (e.0, every_map P g xs e.1)

module _ (P : FieldDescriptor → Type 0) where
  every_plain : (fs : List FieldDescriptor) → Every P fs → Every P (plain_fields fs)
  unfolding plain_fields
  every_plain [] e = tt
  every_plain (f ∷ fs) e = choose_case (Every P) (is_plain (oneof_of f)) (λ _. (e.0, every_plain fs e.1)) (λ _. every_plain fs e.1)

  every_at : (x : ℕ) (fs : List FieldDescriptor) → Every P fs → Every P (fields_at x fs)
  unfolding fields_at
  every_at x [] e = tt
  every_at x (f ∷ fs) e = choose_case (Every P) (is_at x (oneof_of f)) (λ _. (e.0, every_at x fs e.1)) (λ _. every_at x fs e.1)

rows_join : (xs ys : List Bytes) → rows_of (map nowhere (xs ++ ys)) ≡ rows_of (map nowhere xs) ++ rows_of (map nowhere ys)
unfolding all_of
rows_join [] ys = refl
rows_join (x ∷ xs) ys =
    ap (λ (l : Bytes). place_row (nowhere x) ++ l) (rows_join xs ys) ∙ sym (append_assoc (place_row (nowhere x)) (rows_of (map nowhere xs)) (rows_of (map nowhere ys)))

choose_pick : (t : Bool) (x : Bytes) → choose t [] x ≡ pick t [] x
unfolding choose
choose_pick true x = refl
choose_pick false x = refl

-- ---- how many names there are
fields_few : (x : ℕ) (fs : List FieldDescriptor) → length (fields_at x fs) ≤ length fs
unfolding fields_at
fields_few x [] = omega arith
fields_few x (f ∷ fs) = let h = fields_few x fs in choose_case (λ (l : List FieldDescriptor). length l ≤ suc (length fs)) (is_at x (oneof_of f)) (λ _. omega arith) (λ _. omega arith)

-- a field is in no oneof, or in one
plain_and_later : (fs : List FieldDescriptor) → length (plain_fields fs) + later 0 fs ≤ length fs
unfolding plain_fields count choose
plain_and_later [] = omega arith
plain_and_later (f ∷ fs) = on (oneof_of f) (plain_fields fs) (later 0 fs) (plain_and_later fs)
  where
    on : (o : Option ℕ) (ps : List FieldDescriptor) (n : ℕ) → length ps + n ≤ length fs → length (choose (is_plain o) (f ∷ ps) ps) + choose (from_on 0 o) (1 + n) n ≤ suc (length fs)
    on none ps n h = omega arith
    on (some j) ps n h = rw (le-leb 0 j (omega arith)) (omega arith)

members_few : (m : MessageDescriptor) (nested : Forest MessageDescriptor) → length (member_names m nested) ≤ length m.fields
members_few m nested =
    let plain = plain_and_later m.fields in
    let oneofs = oneofs_later m nested 0 m.oneofs in
    let first = map_length (λ (f : FieldDescriptor). to_snake (text f.name)) (plain_fields m.fields) in
    let second = map_length (λ (x : OneofField). to_snake x.name) (oneof_fields m nested) in
    let sum = length-append (map (λ (f : FieldDescriptor). to_snake (text f.name)) (plain_fields m.fields)) (map (λ (x : OneofField). to_snake x.name) (oneof_fields m nested)) in
    omega arith

-- ---- names fit
snake_fine : (o : Option Bytes) → Named o → length (text o) ≤ max_short_name → Fine (to_snake (text o))
snake_fine o n l =
    let k = snake_fits (text o) (named_text o n) l in
    record { plain = written_plain (to_snake (text o)) (snake_written (text o)); short = omega arith }

camel_fine : (o : Option Bytes) → Named o → length (text o) ≤ max_short_name → Fine (to_upper_camel (text o))
camel_fine o n l =
    let k = camel_fits (text o) (named_text o n) l in
    record { plain = written_plain (to_upper_camel (text o)) (camel_written (text o)); short = omega arith }

oneofs_fine : (full : Bytes) (m : MessageDescriptor) (nested : Forest MessageDescriptor) (i : ℕ) (ns : List (Option Bytes)) → Every Named ns → Every (OneofFits full m) ns → Every (λ (x : OneofField). Fine (to_snake x.name)) (oneofs_from m nested i ns)
unfolding oneofs_from
oneofs_fine full m nested i [] good fit = tt
oneofs_fine full m nested i (n ∷ ns) good fit =
    let rest = oneofs_fine full m nested (suc i) ns good.1 fit.1 in
    choose_case (Every (λ (x : OneofField). Fine (to_snake x.name))) (is_empty (fields_at i m.fields)) (λ _. rest) (λ _. (snake_fine n good.0 fit.0.own.short, rest))

-- ---- the fields of the table
field_rows_are : (rs : List Setting) (set : List ℕ) (messages : List MessageRow) (t : List FieldRow) (full : Bytes) (nested : Forest MessageDescriptor) (camel : Bool) {ks : List ℕ} {fs : List FieldDescriptor} → Pairwise (FieldIs rs set messages t full nested) ks fs
    → field_rows set t camel ks ≡ rows_of (map nowhere (map (λ (f : FieldDescriptor). choose camel (to_upper_camel (text f.name)) (to_snake (text f.name))) fs))
unfolding field_rows name_row all_of
field_rows_are rs set messages t full nested camel nil = refl
field_rows_are rs set messages t full nested camel (cons h hs) =
    ap₂ ◌++◌ (ap (λ (f : FieldDescriptor). row [] (choose camel (to_upper_camel (text f.name)) (to_snake (text f.name)))) h.there) (field_rows_are rs set messages t full nested camel hs)

-- does a oneof count that has no field?
left_out : (fs : List FieldDescriptor) (x : OneofField) → x.fields ≡ fs → (rest : List OneofField)
    → (overlap (map (λ (f : FieldDescriptor). to_upper_camel (text f.name)) fs) || any (λ (y : OneofField). overlap (variant_names y)) rest) ≡ any (λ (y : OneofField). overlap (variant_names y)) (choose (is_empty fs) rest (x ∷ rest))
unfolding any overlap choose
left_out [] x e rest = refl
left_out (f ∷ fs) x e rest = rw e refl

-- ---- the message
module _ (rs : List Setting) (set : List ℕ) (messages : List MessageRow) (t : List FieldRow) (scope : Bytes) (nested : Forest MessageDescriptor) (i : ℕ) (p : Bytes) (fit : MessageFits scope (decode_message p))
    (has : MessageIs rs set messages t (scope · text (decode_message p).name) (decode_message p) nested i) (good : GoodMessage (decode_message p)) (few : length (decode_message p).fields ≤ 2048) (room : ℕ) (enough : 786432 ≤ room) where
  abbrev m : MessageDescriptor
  m = decode_message p

  abbrev full : Bytes
  full = scope · text m.name

  plain_of : Pairwise (FieldIs rs set messages t full nested) (members row_is_plain messages t i p) (plain_fields m.fields)
  plain_of = plain_members t (λ k f v. v.oneof) messages i p has.fields

  fields_of : (x : ℕ) → Pairwise (FieldIs rs set messages t full nested) (members (is_in x) messages t i p) (fields_at x m.fields)
  fields_of = oneof_members t (λ k f v. v.oneof) messages i p has.fields

  oneof_is : (x : ℕ) (q : Bytes) → OneofFits full m (decode_oneof q) → oneof_row messages t i p x q ≡ pick (is_empty (fields_at x m.fields)) [] (place_row (nowhere (to_snake (oneof_at m nested x (decode_oneof q)).name)))
  unfolding oneof_row name_row choose
  oneof_is x q h = rw (pairwise_empty (fields_of x)) (choose_pick (is_empty (fields_at x m.fields)) (row [] (to_snake (text (decode_oneof q)))))

  oneof_rows_are : oneof_rows messages t i p ≡ rows_of (map nowhere (map (λ (x : OneofField). to_snake x.name) (oneof_fields m nested)))
  unfolding oneof_rows all_of decode_message
  oneof_rows_are =
      walked_is m nested (λ l. rows_of (map nowhere (map (λ (x : OneofField). to_snake x.name) l))) (λ r. place_row (nowhere (to_snake r.name))) refl (λ r rest. refl) (oneof_row messages t i p)
      (OneofFits full m) oneof_is 0 (parts 8 (entries p)) fit.oneofs

  names_fine : Every Fine (member_names m nested)
  names_fine =
      every_append Fine (map (λ (f : FieldDescriptor). to_snake (text f.name)) (plain_fields m.fields)) (map (λ (x : OneofField). to_snake x.name) (oneof_fields m nested))
      (every_map Fine (λ (f : FieldDescriptor). to_snake (text f.name)) (plain_fields m.fields)
      (every_plain (λ (f : FieldDescriptor). Fine (to_snake (text f.name))) m.fields
      (every_zip (λ f g h. snake_fine f.name g.named h.short) m.fields good.fields fit.fields)))
      (every_map Fine (λ (x : OneofField). to_snake x.name) (oneof_fields m nested) (oneofs_fine full m nested 0 m.oneofs good.oneofs fit.oneofs))

  struct_is : struct_meets room set messages t i p ≡ overlap (member_names m nested)
  unfolding struct_meets choose
  struct_is =
      let h = members_few m nested in
      ap (rows_overlap room)
      (ap₂ ◌++◌ (field_rows_are rs set messages t full nested false plain_of) oneof_rows_are
      ∙ sym (rows_join (map (λ (f : FieldDescriptor). to_snake (text f.name)) (plain_fields m.fields)) (map (λ (x : OneofField). to_snake x.name) (oneof_fields m nested))))
      ∙ rows_overlap_is room (member_names m nested) names_fine (omega arith)

  variants_are : (x : ℕ) → rows_overlap room (field_rows set t true (members (is_in x) messages t i p)) ≡ overlap (map (λ (f : FieldDescriptor). to_upper_camel (text f.name)) (fields_at x m.fields))
  unfolding choose
  variants_are x =
      let h = fields_few x m.fields in
      let n = map_length (λ (f : FieldDescriptor). to_upper_camel (text f.name)) (fields_at x m.fields) in
      ap (rows_overlap room) (field_rows_are rs set messages t full nested true (fields_of x))
      ∙ rows_overlap_is room (map (λ (f : FieldDescriptor). to_upper_camel (text f.name)) (fields_at x m.fields))
      (every_map Fine (λ (f : FieldDescriptor). to_upper_camel (text f.name)) (fields_at x m.fields)
      (every_at (λ (f : FieldDescriptor). Fine (to_upper_camel (text f.name))) x m.fields
      (every_zip (λ f g h. camel_fine f.name g.named h.short) m.fields good.fields fit.fields)))
      (omega arith)

  oneofs_are : (x : ℕ) (qs : List Bytes) → oneofs_meet room set messages t i p (length qs) x ≡ any (λ (y : OneofField). overlap (variant_names y)) (oneofs_from m nested x (map decode_oneof qs))
  unfolding oneofs_meet oneofs_from any
  oneofs_are x [] = refl
  oneofs_are x (q ∷ qs) =
      ap₂ ◌||◌ (variants_are x) (oneofs_are (suc x) qs)
      ∙ left_out (fields_at x m.fields) (oneof_at m nested x (decode_oneof q)) refl (oneofs_from m nested (suc x) (map decode_oneof qs))

  pub own_is : own_meet room set messages t i p ≡ members_meet m nested
  unfolding own_meet decode_message
  own_is = ap₂ ◌||◌ struct_is (oneofs_are 0 (parts 8 (entries p)))
