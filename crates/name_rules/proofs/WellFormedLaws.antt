-- A file that refusal 6 passes is well formed, and so is every file of a set without refusals 6 and 7. Assumes nothing.
use Rattle.std.specs.Prelude.{Ok}
use mathlib.Core.Path.{◌≡◌, refl, sym, ap, ◌∙◌}
use mathlib.Core.Bool.{Bool, true, false, ◌&&◌, ◌||◌, not}
use mathlib.Core.List.{List, [], ◌∷◌}
use mathlib.Core.Logic.{◌⊎◌, inl, inr}
use mathlib.Core.Option.{Option, some, none}
use Prim.Native.Nat.{ℕ, ◌<◌, ◌^◌}
use lib.Dec.{eqb, ltb, leb}
use lib.ListN.{length}
use borrow.Author.Tests.{ltb-true, ltb-false, leb-true, eqb-true, not-true}
use Rattle.base.specs.Choose.{choose, chosen}
use Rattle.base.specs.Bytes.{b, same_sound}
use Rattle.base.specs.Lists.{all, is_empty, Every, all_every, every_append, every_of, every_to, none_fails}
use Rattle.base.specs.Tests.{and_left, and_right, both_ways}
use Rattle.ident.specs.Name.{is_name, has_word}
use Rattle.utf8.specs.Utf8.{is_utf8}
use Rattle.syntax.specs.Syntax.{Syntax, Proto2, Proto3, Unknown, syntax_of}
use Rattle.descriptor.specs.Descriptor.{Bytes, Forest, done, node, preorder, FieldDescriptor, ValueDescriptor, EnumDescriptor, MessageDescriptor, FileDescriptor}
use Rattle.descriptor.specs.Limits.{messages_in}
use Rattle.name_rules.specs.Accessors.{or_else}
use Rattle.name_rules.specs.Rules.{good_name, has_name, segments, package_good, is_known, syntax_good, within, is_given, is_number, type_name_good, oneof_index_good, default_good, field_good, value_good, enum_good, message_good, is_text, key_type, key_good, value_field_good, key_and_value, none_nested, entry_good, messages_good, file_good}
use Rattle.name_rules.specs.FullNames.{set_fields}
use Rattle.name_rules.specs.MapEntries.{map_entries_named}
use Rattle.name_rules.specs.Answer.{file_named, first_six, names}
use Rattle.name_rules.proofs.NamesLaws.{no_refusals}
use Rattle.name_rules.specs.WellFormed.{Name, Named, Given, Between, GoodField, GoodValue, GoodEnum, GoodMessage, EntryField, GoodEntry, EveryNode, WellFormed}

-- a row of tests, and each of them
abbrev row : Bool → List Bool → Bool
row t [] = t
row t (u ∷ us) = t && row u us

each_true : (t : Bool) (us : List Bool) → row t us ≡ true → Every (λ (u : Bool). u ≡ true) (t ∷ us)
each_true t [] h = (h, tt)
each_true t (u ∷ us) h = (and_left t (row u us) h, each_true u us (and_right t (row u us) h))

pub name : (s : Bytes) → good_name s ≡ true → Name s
unfolding good_name
name s h = record { identifier = and_left (is_name s) (has_word s) h; letter_or_digit = and_right (is_name s) (has_word s) h }

named : (o : Option Bytes) → has_name o ≡ true → Named o
named none h = both_ways h refl
named (some s) h = record { name = s; there = refl; good = name s h }

given : {A : Type 0} (o : Option A) (p : Option A → Bool) → p none ≡ false → p o ≡ true → Given o
given none p e h = both_ways h e
given (some x) p e h = record { value = x; there = refl }

between : (low high : ℕ) (o : Option ℕ) → within low high o ≡ true → Between low high o
between low high none h = both_ways h refl
between low high (some n) h =
    record {
      value = n;
      there = refl;
      from = leb-true low n (and_left (leb low n) (leb n high) h);
      to = leb-true n high (and_right (leb low n) (leb n high) h);
    }

number : (n : ℕ) (o : Option ℕ) → is_number n o ≡ true → o ≡ some n
number n none h = both_ways h refl
number n (some m) h = ap some (eqb-true m n h)

-- where the type is given, the accessors' tests are the rule's
module _ (t : ℕ) where
  needs_name : (o : Option ℕ) → o ≡ some t → (n : ℕ) → eqb (or_else 1 o) n ≡ is_number n o
  needs_name o e n = rw e

  type_name : (o : Option ℕ) (x : Option Bytes) → o ≡ some t → type_name_good o x ≡ true → (eqb (or_else 1 o) 10 || (eqb (or_else 1 o) 11 || eqb (or_else 1 o) 14)) ≡ true → Given x
  type_name o (some x) e h is = record { value = x; there = refl }
  type_name o none e h is =
      let same : (eqb (or_else 1 o) 10 || (eqb (or_else 1 o) 11 || eqb (or_else 1 o) 14)) ≡ (is_number 10 o || (is_number 11 o || is_number 14 o)) = rw e in
      both_ways (sym same ∙ is) (not-true (is_number 10 o || (is_number 11 o || is_number 14 o)) h)

module _ (oneofs : ℕ) (label : Option ℕ) where
  in_oneof : (o : Option ℕ) → oneof_index_good oneofs label o ≡ true → (i : ℕ) → o ≡ some i → (i < oneofs) × (label ≡ some 1)
  in_oneof o h i e =
      let at : (ltb i (2 ^ 31) && (ltb i oneofs && is_number 1 label)) ≡ true = ap (oneof_index_good oneofs label) (sym e) ∙ h in
      let two : (ltb i oneofs && is_number 1 label) ≡ true = and_right (ltb i (2 ^ 31)) (ltb i oneofs && is_number 1 label) at in
      (ltb-true i oneofs (and_left (ltb i oneofs) (is_number 1 label) two), number 1 label (and_right (ltb i oneofs) (is_number 1 label) two))

module _ (type : Option ℕ) (o : Option Bytes) (h : default_good type o ≡ true) (d : Bytes) (e : o ≡ some d) where
  default_is : (is_utf8 d && (not (is_number 14 type) || good_name d)) ≡ true
  default_is = ap (default_good type) (sym e) ∙ h

  default_utf8 : is_utf8 d ≡ true
  default_utf8 = and_left (is_utf8 d) (not (is_number 14 type) || good_name d) default_is

  default_named : is_number 14 type ≡ true → Name d
  default_named is =
      name d (ap (λ (t : Bool). not t || good_name d) (sym is) ∙ and_right (is_utf8 d) (not (is_number 14 type) || good_name d) default_is)

pub good_field : (oneofs : ℕ) (f : FieldDescriptor) → field_good oneofs f ≡ true → GoodField oneofs f
unfolding field_good
good_field oneofs f h =
    let r =
    each_true (has_name f.name)
    (within 1 536870911 f.number
    ∷ within 1 3 f.label
    ∷ within 1 18 f.type
    ∷ type_name_good f.type f.type_name
    ∷ oneof_index_good oneofs f.label f.oneof_index
    ∷ default_good f.type f.default_value
    ∷ []) h in
    let typed = between 1 18 f.type r.1.1.1.0 in
    let default = r.1.1.1.1.1.1.0 in
    record {
      named = named f.name r.0;
      numbered = between 1 536870911 f.number r.1.0;
      labelled = between 1 3 f.label r.1.1.0;
      typed = typed;
      type_named = type_name typed.value f.type f.type_name typed.there r.1.1.1.1.0;
      in_oneof = in_oneof oneofs f.label f.oneof_index r.1.1.1.1.1.0;
      default_utf8 = default_utf8 f.type f.default_value default;
      default_named = λ d e is. default_named f.type f.default_value default d e (sym (needs_name typed.value f.type typed.there 14) ∙ is);
    }

good_value : (v : ValueDescriptor) → value_good v ≡ true → GoodValue v
unfolding value_good
good_value v h =
    record {
      named = named v.name (and_left (has_name v.name) (is_given v.number) h);
      numbered = given v.number is_given refl (and_right (has_name v.name) (is_given v.number) h);
    }

pub good_enum : (e : EnumDescriptor) → enum_good e ≡ true → GoodEnum e
unfolding enum_good
good_enum e h =
    record {
      named = named e.name (and_left (has_name e.name) (all value_good e.values) h);
      values = all_every GoodValue value_good good_value e.values (and_right (has_name e.name) (all value_good e.values) h);
    }

pub good_message : (m : MessageDescriptor) → message_good m ≡ true → GoodMessage m
unfolding message_good
good_message m h =
    let r =
    each_true (has_name m.name)
    (all (field_good (length m.oneofs)) m.fields ∷ all enum_good m.enums ∷ all has_name m.oneofs ∷ []) h in
    record {
      named = named m.name r.0;
      fields = all_every (GoodField (length m.oneofs)) (field_good (length m.oneofs)) (good_field (length m.oneofs)) m.fields r.1.0;
      enums = all_every GoodEnum enum_good good_enum m.enums r.1.1.0;
      oneofs = all_every Named has_name named m.oneofs r.1.1.1.0;
    }

-- map entries

is_the_text : (x : Bytes) (o : Option Bytes) → is_text x o ≡ true → o ≡ some x
is_the_text x none h = both_ways h refl
is_the_text x (some y) h = ap some (same_sound y x h)

entry_field : (x : Bytes) (n : ℕ) (f : FieldDescriptor) (own : Bool)
    → (is_text x f.name && (is_number n f.number && (is_number 1 f.label && own))) ≡ true → EntryField x n f × (own ≡ true)
entry_field x n f own h =
    let r = each_true (is_text x f.name) (is_number n f.number ∷ is_number 1 f.label ∷ own ∷ []) h in
    (record { named = is_the_text x f.name r.0; numbered = number n f.number r.1.0; optional = number 1 f.label r.1.1.0 }, r.1.1.1.0)

key_field : (f : FieldDescriptor) → key_good f ≡ true → EntryField (b "key") 1 f × (key_type f.type ≡ true)
unfolding key_good
key_field f h = entry_field (b "key") 1 f (key_type f.type) h

value_field : (f : FieldDescriptor) → value_field_good f ≡ true → EntryField (b "value") 2 f × (not (is_number 10 f.type) ≡ true)
unfolding value_field_good
value_field f h = entry_field (b "value") 2 f (not (is_number 10 f.type)) h

empty {ℓ} : {A : Type ℓ} (xs : List A) → is_empty xs ≡ true → xs ≡ []
empty [] h = refl
empty (x ∷ xs) h = both_ways h refl

record Two (fs : List FieldDescriptor) : Type 0 where
  key : FieldDescriptor
  value : FieldDescriptor
  are : fs ≡ key ∷ (value ∷ [])
  key_is : key_good key ≡ true
  value_is : value_field_good value ≡ true

two : (fs : List FieldDescriptor) → key_and_value fs ≡ true → Two fs
two [] h = both_ways h refl
two (k ∷ []) h = both_ways (and_right (key_good k) false h) refl
two (k ∷ (v ∷ fs)) h =
    let r = and_right (key_good k) (value_field_good v && is_empty fs) h in
    record {
      key = k;
      value = v;
      are = ap (λ (l : List FieldDescriptor). k ∷ (v ∷ l)) (empty fs (and_right (value_field_good v) (is_empty fs) r));
      key_is = and_left (key_good k) (value_field_good v && is_empty fs) h;
      value_is = and_left (value_field_good v) (is_empty fs) r;
    }

nothing : (F : Forest MessageDescriptor) → none_nested F ≡ true → F ≡ done
nothing done h = refl
nothing (node m nested following) h = both_ways h refl

pub good_entry : (m : MessageDescriptor) (nested : Forest MessageDescriptor) → entry_good m nested ≡ true → GoodEntry m × (nested ≡ done)
unfolding entry_good
good_entry m nested h =
    let r = each_true (key_and_value m.fields) (is_empty m.enums ∷ is_empty m.oneofs ∷ none_nested nested ∷ []) h in
    let fields = two m.fields r.0 in
    let key = key_field fields.key fields.key_is in
    let value = value_field fields.value fields.value_is in (
      record {
        key = fields.key;
        value = fields.value;
        two_fields = fields.are;
        no_enum = empty m.enums r.1.0;
        no_oneof = empty m.oneofs r.1.1.0;
        key_field = key.0;
        key_typed = key.1;
        value_field = value.0;
        no_group = not-true (is_number 10 fields.value.type) value.1;
      },
      nothing nested r.1.1.1.0,
    )

-- what follows of a message's rules holds of every message

pub every_node : (P : MessageDescriptor → Forest MessageDescriptor → Type 0)
    → ((m : MessageDescriptor) (nested : Forest MessageDescriptor) → message_good m ≡ true → (m.map_entry ≡ true → entry_good m nested ≡ true) → P m nested)
    → (F : Forest MessageDescriptor) → messages_good F ≡ true → EveryNode P F
unfolding messages_good
every_node P f done h = tt
every_node P f (node m nested following) h =
    let r =
    each_true (message_good m)
    (choose m.map_entry (entry_good m nested) true ∷ messages_good nested ∷ messages_good following ∷ []) h in
    (f m nested r.0 (chosen m.map_entry (entry_good m nested) r.1.0), (every_node P f nested r.1.1.0, every_node P f following r.1.1.1.0))

pub in_preorder : (P : MessageDescriptor → Type 0) (F : Forest MessageDescriptor) → EveryNode (λ m nested. P m) F → Every P (preorder F)
unfolding preorder
in_preorder P done h = tt
in_preorder P (node m nested following) h =
    (h.0, every_append P (preorder nested) (preorder following) (in_preorder P nested h.1.0) (in_preorder P following h.1.1))

known : (x : Syntax) → is_known x ≡ true → (x ≡ Proto2) ⊎ (x ≡ Proto3)
known Proto2 h = inl refl
known Proto3 h = inr refl
known Unknown h = both_ways h refl

pub well_formed : (f : FileDescriptor) → file_good f ≡ true → WellFormed f
unfolding file_good
well_formed f h =
    let r =
    each_true (package_good f.package_name) (syntax_good f.syntax ∷ messages_good f.messages ∷ all enum_good f.enums ∷ []) h in
    let messages = r.1.1.0 in
    record {
      package_names = λ p e. all_every Name good_name name (segments p) (ap package_good (sym e) ∙ r.0);
      known_syntax = known (syntax_of f.syntax) r.1.0;
      messages = in_preorder GoodMessage f.messages (every_node (λ m nested. GoodMessage m) (λ m nested g e. good_message m g) f.messages messages);
      map_entries =
          in_preorder (λ m. m.map_entry ≡ true → GoodEntry m) f.messages
          (every_node (λ m nested. m.map_entry ≡ true → GoodEntry m) (λ m nested g e is. (good_entry m nested (e is)).0) f.messages messages);
      nothing_nested = every_node (λ m nested. m.map_entry ≡ true → nested ≡ done) (λ m nested g e is. (good_entry m nested (e is)).1) f.messages messages;
      enums = all_every GoodEnum enum_good good_enum f.enums r.1.1.1.0;
    }

-- a set without refusals 6 and 7

module _ (fs : List FileDescriptor) (h : names fs ≡ Ok tt) where
  pub every_file : Every WellFormed fs
  unfolding first_six file_named
  every_file =
      all_every WellFormed (file_named (set_fields fs)) (λ f g. well_formed f (and_left (file_good f) (map_entries_named (set_fields fs) f) g)) fs
      (none_fails (file_named (set_fields fs)) fs (ltb-false (first_six fs) (length fs) (no_refusals fs h).0))

  pub every_message : Every GoodMessage (messages_in fs)
  unfolding messages_in
  every_message = every_of GoodMessage (λ f. preorder f.messages) fs (every_to (λ f w. w.messages) fs every_file)
