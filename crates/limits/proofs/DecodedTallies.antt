-- The tally of a set by its descriptors. Assumes nothing.
use mathlib.Core.Path.{◌≡◌, refl, sym, ap, ap₂, ◌∙◌}
use mathlib.Core.List.{List, [], ◌∷◌, map}
use mathlib.Core.Option.{Option, none, some}
use Prim.Native.Nat.{ℕ, zero, suc, ◌+◌}
use native.Mathlib.Omega.{arith}
use lib.ListN.{length}
use lib.Dec.{eqb}
use Rattle.base.specs.Choose.{choose, else_eq}
use Rattle.base.specs.Lists.{all_of}
use Rattle.descriptor.specs.Descriptor.{Forest, done, node, preorder, Bytes, FieldDescriptor, EnumDescriptor, MessageDescriptor, FileDescriptor}
use Rattle.descriptor.specs.Decode.{entries, parts, text, last, decode_field, decode_oneof, decode_enum, decode_message, decode_messages, decode_file, decode_set}
use Rattle.descriptor.specs.Limits.{length_of, package_length, full_length, messages_in}
use Rattle.limits.specs.declared.limit.Limit.{Limit}
use Rattle.limits.specs.declared.sort.Sort.TheVariants as sorts
use Rattle.limits.specs.Sums.{sum, bit}
use Rattle.limits.specs.Weights.{bytes_or_none, text_length, counts, around_below, tally}
use Rattle.limits.proofs.SumLaws.{sum_same, sum_zero, sum_plus, sum_append, sum_map, sum_all_of}
use Rattle.limits.proofs.PartTallies.{enum_weight, member_weight, messages_weight, file_weight, set_weighed}

pub length_is : (o : Option Bytes) → length (bytes_or_none o) ≡ length_of o
length_is none = refl
length_is (some b) = refl

package_is : (o : Option Bytes) → choose (eqb (length (bytes_or_none o)) 0) 0 (length (bytes_or_none o) + 1) ≡ package_length o
unfolding choose
package_is none = refl
package_is (some []) = refl
package_is (some (c ∷ cs)) = sym (else_eq _ _ (1 + length (c ∷ cs)) (length (c ∷ cs)) 0 (λ e. omega arith) (omega arith))

-- What descriptors count for a limit: a file by itself; a message, by the length of the full name around it; a field; an enum with its values; a oneof.
pub record Means (limit : Limit) (P : FileDescriptor → ℕ) (N : ℕ → MessageDescriptor → ℕ) (F : FieldDescriptor → ℕ) (E : ℕ → EnumDescriptor → ℕ) (O : Option Bytes → ℕ) : Type 0 where
  pub a_file : (p : Bytes) → bit (counts limit sorts.File 0 p) ≡ P (decode_file p)
  pub a_message : (around : ℕ) (p : Bytes) → bit (counts limit sorts.Message around p) ≡ N around (decode_message p)
  pub a_field : (around : ℕ) (p : Bytes) → bit (counts limit sorts.Field around p) ≡ F (decode_field p)
  pub an_enum : (around : ℕ) (p : Bytes) → enum_weight limit around p ≡ E around (decode_enum p)
  pub a_oneof : (around : ℕ) (p : Bytes) → bit (counts limit sorts.Oneof around p) ≡ O (decode_oneof p)
  pub too_deep : (around : ℕ) (p : Bytes) → bit (counts limit sorts.DeepMessage around p) ≡ 0

module _ (P : FileDescriptor → ℕ) (N : ℕ → MessageDescriptor → ℕ) (F : FieldDescriptor → ℕ) (E : ℕ → EnumDescriptor → ℕ) (O : Option Bytes → ℕ) where
  abbrev pub held : ℕ → MessageDescriptor → ℕ
  held name m = sum F m.fields + (sum (E name) m.enums + sum O m.oneofs)

  unfoldable pub forest_weight : ℕ → Forest MessageDescriptor → ℕ
  forest_weight around done = 0
  forest_weight around (node m nested following) =
      N around m + held (full_length around m.name) m + forest_weight (full_length around m.name) nested + forest_weight around following

  abbrev pub weight_of_file : FileDescriptor → ℕ
  weight_of_file f =
      P f + (forest_weight (package_length f.package_name) f.messages + sum (E (package_length f.package_name)) f.enums)

  module _ (limit : Limit) (means : Means limit P N F E O) where
    mapped : (v : Bytes → ℕ) {A : Type 0} (w : A → ℕ) (g : Bytes → A) → ((p : Bytes) → v p ≡ w (g p)) → (ps : List Bytes) → sum v ps ≡ sum w (map g ps)
    mapped v w g h ps = sum_same v (λ p. w (g p)) h ps ∙ sym (sum_map w g ps)

    held_is : (name : ℕ) (p : Bytes) → member_weight limit name p ≡ held name (decode_message p)
    unfolding decode_message
    held_is name p =
        ap₂ (λ (x y : ℕ). x + y) (mapped _ F decode_field (means.a_field name) (parts 2 (entries p)))
        (ap₂ (λ (x y : ℕ). x + y) (mapped _ (E name) decode_enum (means.an_enum name) (parts 4 (entries p)))
        (mapped _ O decode_oneof (means.a_oneof name) (parts 8 (entries p))))

    name_is : (around : ℕ) (p : Bytes) → around + 1 + text_length 1 p ≡ full_length around (decode_message p).name
    unfolding decode_message
    name_is around p = ap (λ (n : ℕ). around + 1 + n) (length_is (text (last 1 (entries p))))

    messages_decoded : (n around : ℕ) (ps : List Bytes) → messages_weight limit n around ps ≡ forest_weight around (decode_messages n ps)
    unfolding messages_weight forest_weight decode_messages sum
    messages_decoded zero around ps = sum_zero _ (means.too_deep around) ps
    messages_decoded (suc n) around [] = refl
    messages_decoded (suc n) around (p ∷ ps) =
        let name : ℕ = around + 1 + text_length 1 p in
        let a = means.a_message around p in
        let b : member_weight limit name p ≡ held (full_length around (decode_message p).name) (decode_message p) = held_is name p ∙ ap (λ (x : ℕ). held x (decode_message p)) (name_is around p) in
        let c : messages_weight limit n name (parts 3 (entries p)) ≡ forest_weight (full_length around (decode_message p).name) (decode_messages n (parts 3 (entries p))) =
        messages_decoded n name (parts 3 (entries p)) ∙ ap (λ (x : ℕ). forest_weight x (decode_messages n (parts 3 (entries p)))) (name_is around p) in
        let d = messages_decoded (suc n) around ps in
        omega arith

    file_decoded : (p : Bytes) → bit (counts limit sorts.File 0 p) + file_weight limit 16 (around_below sorts.File 0 p) p ≡ weight_of_file (decode_file p)
    unfolding decode_file around_below choose
    file_decoded p =
        ap₂ (λ (x y : ℕ). x + y) (means.a_file p)
        (ap (λ (name : ℕ). file_weight limit 16 name p) (package_is (text (last 2 (entries p))))
        ∙ ap₂ (λ (x y : ℕ). x + y) (messages_decoded 16 (package_length (text (last 2 (entries p)))) (parts 4 (entries p)))
        (mapped _ (E (package_length (text (last 2 (entries p))))) decode_enum (means.an_enum (package_length (text (last 2 (entries p))))) (parts 5 (entries p))))

    pub set_decoded : (s : Bytes) → tally limit 19 sorts.Set 0 s ≡ sum weight_of_file (decode_set s)
    unfolding decode_set
    set_decoded s = set_weighed limit 16 s ∙ mapped _ weight_of_file decode_file file_decoded (parts 1 (entries s))

-- ---- where no full name matters
module _ (P : FileDescriptor → ℕ) (N : MessageDescriptor → ℕ) (F : FieldDescriptor → ℕ) (E : EnumDescriptor → ℕ) (O : Option Bytes → ℕ) where
  abbrev pub with_members : MessageDescriptor → ℕ
  with_members m = N m + held P (λ _. N) F (λ _. E) O 0 m

  plain_forest : (around : ℕ) (f : Forest MessageDescriptor) → forest_weight P (λ _. N) F (λ _. E) O around f ≡ sum with_members (preorder f)
  unfolding forest_weight preorder sum
  plain_forest around done = refl
  plain_forest around (node m nested following) =
      let a = plain_forest (full_length around m.name) nested in
      let b = plain_forest around following in
      let c = sum_append with_members (preorder nested) (preorder following) in
      omega arith

  pub set_plain : (limit : Limit) → Means limit P (λ _. N) F (λ _. E) O → (s : Bytes)
      → tally limit 19 sorts.Set 0 s ≡ sum P (decode_set s) + (sum with_members (messages_in (decode_set s)) + sum E (all_of (λ f. f.enums) (decode_set s)))
  unfolding messages_in
  set_plain limit means s =
      let fs : List FileDescriptor = decode_set s in
      let M : FileDescriptor → ℕ = λ f. sum with_members (preorder f.messages) in
      let D : FileDescriptor → ℕ = λ f. sum E f.enums in
      set_decoded P (λ _. N) F (λ _. E) O limit means s
      ∙ sum_same _ (λ f. P f + (M f + D f)) (λ f. ap (λ (x : ℕ). P f + (x + D f)) (plain_forest (package_length f.package_name) f.messages)) fs
      ∙ sum_plus P (λ f. M f + D f) fs
      ∙ ap (λ (x : ℕ). sum P fs + x)
      (sum_plus M D fs ∙ ap₂ (λ (x y : ℕ). x + y) (sym (sum_all_of with_members (λ f. preorder f.messages) fs)) (sym (sum_all_of E (λ f. f.enums) fs)))
