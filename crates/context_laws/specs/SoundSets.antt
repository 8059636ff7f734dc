-- A set within limit 3 and without refusals 6 and 7 is sound. Assumes nothing.
use Rattle.std.specs.Prelude.{◌≡◌, refl, Bool, true, false, ◌&&◌, ◌||◌, not, ℕ, suc, ◌+◌, ◌≤◌, length, Ok}
use Rattle.std.proofs.Common.{sym, ◌∙◌, ap, subst, ⊎_elim, length-append, ltb-false}
use Rattle.std.proofs.Math.Bool.{or-false, or_assoc}
use mathlib.Core.List.Memᴰ
use mathlib.Core.List.{List, [], ◌∷◌, ◌++◌, Memᴰ}
use Rattle.std.proofs.lemmas.Bool.{not-true}
use Rattle.base.specs.Bytes.{same, same_refl, same_sound}
use Rattle.base.specs.Choose.{choose, counted}
use Rattle.base.specs.Lists.{all, any, all_of}
use Rattle.base.specs.Tests.{both_ways, and_left, and_right, or_left, or_right, or_cases, or_false_left, or_false_right, not_implied}
use Rattle.name_rules.proofs.AppendLaws.{declared_append, as_append, fields_append}
use Rattle.descriptor.specs.Descriptor.{Bytes, Forest, done, node, preorder, FieldDescriptor, EnumDescriptor, MessageDescriptor, FileDescriptor}
use Rattle.descriptor.specs.Limits.{max_messages, messages_in}
use Rattle.name_rules.specs.Accessors.{text}
use Rattle.name_rules.specs.FullNames.{◌·◌, Entry, entries, set_entries, package_scope, Declaration, enum_declarations, entry_declarations, file_declarations, set_declarations, declared, declared_as, fresh, type_declared, fields_of_entries, file_fields, first_undeclared}
use Rattle.name_rules.proofs.NamesLaws.{no_refusals}
use Rattle.name_rules.specs.Answer.{first_seven, names}
use Rattle.context_laws.specs.Tables.{listed, Distinct, Sound}

-- ---- tests over two lists, one after the other

listed_append : (x : Bytes) (xs ys : List Entry) → listed (xs ++ ys) x ≡ (listed xs x || listed ys x)
unfolding listed any
listed_append x [] ys = refl
listed_append x (e ∷ xs) ys = rw (listed_append x xs ys) (sym (or_assoc (same e.full x) (listed xs x) (listed ys x)))

-- ---- the messages among the declarations

abbrev pub file_entries : FileDescriptor → List Entry
file_entries f = entries (package_scope f.package_name) f.messages

no_enum : (scope x : Bytes) (es : List EnumDescriptor) → declared_as false x (enum_declarations scope es) ≡ false
unfolding declared_as
no_enum scope x [] = refl
no_enum scope x (e ∷ es) = no_enum scope x es

entry_as : (x : Bytes) (es : List Entry) → declared_as false x (entry_declarations es) ≡ listed es x
unfolding declared_as listed any
entry_as x [] = refl
entry_as x (e ∷ es) = rw (as_append false x (enum_declarations e.full e.message.enums) (entry_declarations es), no_enum e.full x e.message.enums, entry_as x es)

set_as : (x : Bytes) (fs : List FileDescriptor) → declared_as false x (set_declarations fs) ≡ listed (set_entries fs) x
unfolding declared_as listed any set_declarations set_entries file_declarations
set_as x [] = refl
set_as x (f ∷ fs) =
    as_append false x (file_declarations f) (set_declarations fs)
    ∙ rw (as_append false x (entry_declarations (file_entries f)) (enum_declarations (package_scope f.package_name) f.enums), no_enum (package_scope f.package_name) x f.enums, entry_as x (file_entries f), or-false, set_as x fs)
    (sym (listed_append x (file_entries f) (set_entries fs)))

entry_declared : (x : Bytes) (es : List Entry) → listed es x ≡ true → declared x (entry_declarations es) ≡ true
unfolding listed any declared
entry_declared x [] h = h
entry_declared x (e ∷ es) h =
    ⊎_elim (λ w. or_left _ w)
    (λ w. or_right (same e.full x) (declared_append x (enum_declarations e.full e.message.enums) (entry_declarations es) ∙ or_right (declared x (enum_declarations e.full e.message.enums)) (entry_declared x es w)))
    (or_cases (same e.full x) (listed es x) h)

file_declared : (x : Bytes) (f : FileDescriptor) → listed (file_entries f) x ≡ true → declared x (file_declarations f) ≡ true
unfolding file_declarations
file_declared x f h =
    declared_append x (entry_declarations (file_entries f)) (enum_declarations (package_scope f.package_name) f.enums) ∙ or_left _ (entry_declared x (file_entries f) h)

-- ---- declarations that are all fresh

fresh_apart : (before ds : List Declaration) (x : Bytes) → fresh before ds ≡ true → declared x ds ≡ true → declared x before ≡ false
unfolding fresh declared
fresh_apart before [] x h e = both_ways e refl
fresh_apart before (d ∷ ds) x h e =
    let free = and_left (not (declared d.full before)) (fresh (d ∷ before) ds) h in
    let rest = and_right (not (declared d.full before)) (fresh (d ∷ before) ds) h in
    ⊎_elim (λ w. subst (λ (n : Bytes). declared n before ≡ false) (same_sound d.full x w) (not-true (declared d.full before) free))
    (λ w. or_false_right (same d.full x) (declared x before) (fresh_apart (d ∷ before) ds x rest w))
    (or_cases (same d.full x) (declared x ds) e)

-- no full name is that of a later declaration
abbrev Apart : List Declaration → Type 0
Apart [] = Unit
Apart (d ∷ ds) = (declared d.full ds ≡ false) × Apart ds

fresh_is_apart : (before ds : List Declaration) → fresh before ds ≡ true → Apart ds
unfolding fresh declared
fresh_is_apart before [] h = tt
fresh_is_apart before (d ∷ ds) h =
    let rest = and_right (not (declared d.full before)) (fresh (d ∷ before) ds) h in
    (not_implied (λ w. both_ways (or_left _ (same_refl d.full)) (fresh_apart (d ∷ before) ds d.full rest w)) refl, fresh_is_apart (d ∷ before) ds rest)

apart_left : (xs ys : List Declaration) → Apart (xs ++ ys) → Apart xs
apart_left [] ys p = tt
apart_left (d ∷ xs) ys p = (or_false_left (declared d.full xs) (declared d.full ys) (sym (declared_append d.full xs ys) ∙ p.0), apart_left xs ys p.1)

apart_right : (xs ys : List Declaration) → Apart (xs ++ ys) → Apart ys
apart_right [] ys p = p
apart_right (d ∷ xs) ys p = apart_right xs ys p.1

distinct_entries : (es : List Entry) → Apart (entry_declarations es) → Distinct es
distinct_entries [] p = tt
distinct_entries (e ∷ es) p =
    let enums = enum_declarations e.full e.message.enums in (
      not_implied (entry_declared e.full es) (or_false_right (declared e.full enums) (declared e.full (entry_declarations es)) (sym (declared_append e.full enums (entry_declarations es)) ∙ p.0)),
      distinct_entries es (apart_right enums (entry_declarations es) p.1),
    )

distinct_append : (xs ys : List Entry) → Distinct xs → Distinct ys → ((x : Bytes) → listed ys x ≡ true → listed xs x ≡ false) → Distinct (xs ++ ys)
unfolding listed any
distinct_append [] ys p q h = q
distinct_append (e ∷ xs) ys p q h = (
  listed_append e.full xs ys ∙ rw p.0 (not_implied (λ w. both_ways (or_left _ (same_refl e.full)) (h e.full w)) refl),
  distinct_append xs ys p.1 q (λ x w. or_false_right (same e.full x) (listed xs x) (h x w)),
)

-- ---- files without refusal 7

pub all_of_all : {A : Type 0} (p : A → Bool) (xs : List A) → all p xs ≡ true → (x : A) → Memᴰ x xs → p x ≡ true
unfolding all
all_of_all p [] h x m = absurd (Memᴰ.not-nil m)
all_of_all p (y ∷ ys) h x m =
    ⊎_elim (λ e. ap p e ∙ and_left (p y) (all p ys) h) (λ w. all_of_all p ys (and_right (p y) (all p ys) h) x w) (Memᴰ.cases_cons m)

-- what the files have, given all declarations and those before
record Files (ds before : List Declaration) (fs : List FileDescriptor) : Type 0 where
  distinct : Distinct (set_entries fs)
  new : (x : Bytes) → listed (set_entries fs) x ≡ true → declared x before ≡ false
  typed : (f : FieldDescriptor) → Memᴰ f (fields_of_entries (set_entries fs)) → type_declared ds f ≡ true

files_pass : (ds before : List Declaration) (fs : List FileDescriptor) → length fs ≤ first_undeclared ds before fs → Files ds before fs
unfolding first_undeclared set_entries fields_of_entries listed any file_declarations
files_pass ds before [] h = record { distinct = tt; new = λ x w. both_ways w refl; typed = λ f m. absurd (Memᴰ.not-nil m) }
files_pass ds before (f ∷ fs) h =
    let here = fresh before (file_declarations f) in
    let sorts = all (type_declared ds) (file_fields f) in
    let ok = counted (here && sorts) (first_undeclared ds (before ++ file_declarations f) fs) (length fs) h in
    let is_fresh = and_left here sorts ok.0 in
    let rest = files_pass ds (before ++ file_declarations f) fs ok.1 in
    let apart_from : (x : Bytes) → listed (set_entries fs) x ≡ true → (declared x before || declared x (file_declarations f)) ≡ false = λ x w. sym (declared_append x before (file_declarations f)) ∙ rest.new x w in
    record {
      distinct = distinct_append (file_entries f) (set_entries fs)
          (distinct_entries (file_entries f) (apart_left (entry_declarations (file_entries f)) (enum_declarations (package_scope f.package_name) f.enums) (fresh_is_apart before (file_declarations f) is_fresh)))
          rest.distinct
          (λ x w. not_implied (file_declared x f) (or_false_right (declared x before) (declared x (file_declarations f)) (apart_from x w)));
      new = λ x w.
          ⊎_elim (λ v. fresh_apart before (file_declarations f) x is_fresh (file_declared x f v))
          (λ v. or_false_left (declared x before) (declared x (file_declarations f)) (apart_from x v))
          (or_cases (listed (file_entries f) x) (listed (set_entries fs) x) (sym (listed_append x (file_entries f) (set_entries fs)) ∙ w));
      typed = λ g m.
          ⊎_elim (λ v. all_of_all (type_declared ds) (file_fields f) (and_right here sorts ok.0) g v) (λ v. rest.typed g v)
          (Memᴰ.append_cases (fields_of_entries (file_entries f)) (subst (λ (l : List FieldDescriptor). Memᴰ g l) (fields_append (file_entries f) (set_entries fs)) m));
    }

-- ---- the messages that limit 3 counts

entries_count : (scope : Bytes) (ms : Forest MessageDescriptor) → length (entries scope ms) ≡ length (preorder ms)
unfolding entries preorder
entries_count scope done = refl
entries_count scope (node m nested following) =
    let inner = scope · text m.name in
    ap suc
    (length-append (entries inner nested) (entries scope following) ∙ rw (entries_count inner nested, entries_count scope following) (sym (length-append (preorder nested) (preorder following))))

set_count : (fs : List FileDescriptor) → length (set_entries fs) ≡ length (messages_in fs)
unfolding set_entries messages_in all_of
set_count [] = refl
set_count (f ∷ fs) =
    length-append (file_entries f) (set_entries fs) ∙ rw (entries_count (package_scope f.package_name) f.messages, set_count fs) (sym (length-append (preorder f.messages) (messages_in fs)))

-- limit 3 is kept, and there is neither refusal 6 nor 7
pub sound_set : (set : List FileDescriptor) → length (messages_in set) ≤ max_messages → names set ≡ Ok tt → Sound (set_entries set)
unfolding first_seven type_declared choose
sound_set set few good =
    let all_files = files_pass (set_declarations set) [] set (ltb-false (first_seven set) (length set) (no_refusals set good).1) in
    record {
      few = subst (λ (n : ℕ). n ≤ max_messages) (sym (set_count set)) few;
      distinct = all_files.distinct;
      typed = λ f m is. sym (set_as (text f.type_name) set) ∙ rw is at (all_files.typed f m);
    }
