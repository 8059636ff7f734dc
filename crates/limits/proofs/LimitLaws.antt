-- Each limit by the tally of the set. Assumes nothing.
use mathlib.Core.Path.{◌≡◌, refl, sym, ap, ap₂, ◌∙◌}
use mathlib.Core.Bool.{Bool, ◌||◌}
use mathlib.Core.List.{List, [], ◌∷◌, ◌++◌}
use mathlib.Core.Option.{Option, none, some}
use Prim.Native.Nat.{ℕ, zero, suc, ◌+◌}
use native.Mathlib.Omega.{arith}
use lib.ListN.{length}
use lib.Dec.{ltb}
use borrow.Author.Tests.{lt-ltb}
use Rattle.base.specs.Choose.{choose}
use Rattle.base.specs.Lists.{any, all_of, map_length}
use Rattle.descriptor.specs.Descriptor.{Forest, done, node, Bytes, FieldDescriptor, EnumDescriptor, MessageDescriptor, FileDescriptor}
use Rattle.descriptor.specs.Decode.{entries, parts, text, last, field_in, value_in, decode_field, decode_value, decode_oneof, decode_enum, decode_message, decode_file, decode_set, deeper, too_deep_file}
use Rattle.descriptor.specs.Limits.{length_of, long_name, long_package, long_in_enum, long_in_message, segments, passes_8, passes_9, passes_10, full_length, enum_lengths, full_lengths, file_lengths, package_length, messages_in, fields_in, enums_in, max_messages, max_fields, max_enums, max_values, max_full_name, max_default, max_set, max_files, limit_passed, limit_of_files}
use Rattle.limits.specs.declared.limit.Limit.{Limit}
use Rattle.limits.specs.declared.limit.Limit.TheVariants as limits
use Rattle.limits.specs.declared.sort.Sort.TheVariants as sorts
use Rattle.limits.specs.Sums.{sum, bit}
use Rattle.limits.specs.Weights.{bytes_or_none, text_length, long_segment, counts, long_full_name, around_below, most, passes, tally}
use Rattle.limits.specs.Weights as weights
use Rattle.limits.proofs.SumLaws.{sum_same, sum_zero, sum_ones, sum_plus, sum_append, sum_map, sum_all_of, any_sum, or_sum, bit_sum}
use Rattle.limits.proofs.PartTallies.{enum_weight, member_weight, messages_weight, file_weight, set_weighed}
use Rattle.limits.proofs.DecodedTallies.{length_is, Means, forest_weight, set_decoded, with_members, set_plain}

-- nothing counts
abbrev nil {ℓ} : {A : Type ℓ} → A → ℕ
nil _ = 0

-- sums over the messages, fields and enums of a set
fields_sum : (w : FieldDescriptor → ℕ) (fs : List FileDescriptor) → sum w (fields_in fs) ≡ sum (λ m. sum w m.fields) (messages_in fs)
unfolding fields_in
fields_sum w fs = sum_all_of w (λ m. m.fields) (messages_in fs)

enums_sum : (w : EnumDescriptor → ℕ) (fs : List FileDescriptor) → sum w (enums_in fs) ≡ sum w (all_of (λ f. f.enums) fs) + sum (λ m. sum w m.enums) (messages_in fs)
unfolding enums_in
enums_sum w fs =
    sum_append w (all_of (λ f. f.enums) fs) (all_of (λ m. m.enums) (messages_in fs))
    ∙ ap (λ (x : ℕ). sum w (all_of (λ f. f.enums) fs) + x) (sum_all_of w (λ m. m.enums) (messages_in fs))

-- an enum whose values don't count
no_values : (limit : Limit) (x y : ℕ) → x ≡ y → ((v : Bytes) → bit (counts limit sorts.Value 0 v) ≡ 0) → (vs : List Bytes) → x + sum (λ v. bit (counts limit sorts.Value 0 v)) vs ≡ y
no_values limit x y e h vs = let z = sum_zero (λ v. bit (counts limit sorts.Value 0 v)) h vs in omega arith

-- ---- one sort counts alone
module _ (limit : Limit) (s : Bytes) where
  abbrev fs : List FileDescriptor
  fs = decode_set s

  only_messages : (N : MessageDescriptor → ℕ) → Means limit nil (λ _. N) nil (λ _. nil) nil → tally limit 19 sorts.Set 0 s ≡ sum N (messages_in fs)
  only_messages N means =
      let a = set_plain nil N nil nil nil limit means s in
      let b = sum_same (with_members nil N nil nil nil) N (λ m. let x = sum_zero nil (λ _. refl) m.fields in let y = sum_zero nil (λ _. refl) m.enums in let z = sum_zero nil (λ _. refl) m.oneofs in omega arith) (messages_in fs) in
      let c = sum_zero nil (λ _. refl) fs in
      let d = sum_zero nil (λ _. refl) (all_of (λ f. f.enums) fs) in
      omega arith

  only_fields : (F : FieldDescriptor → ℕ) → Means limit nil (λ _. nil) F (λ _. nil) nil → tally limit 19 sorts.Set 0 s ≡ sum F (fields_in fs)
  only_fields F means =
      let a = set_plain nil nil F nil nil limit means s in
      let b = sum_same (with_members nil nil F nil nil) (λ m. sum F m.fields) (λ m. let y = sum_zero nil (λ _. refl) m.enums in let z = sum_zero nil (λ _. refl) m.oneofs in omega arith) (messages_in fs) in
      let c = sum_zero nil (λ _. refl) fs in
      let d = sum_zero nil (λ _. refl) (all_of (λ f. f.enums) fs) in
      let e = fields_sum F fs in
      omega arith

  only_enums : (E : EnumDescriptor → ℕ) → Means limit nil (λ _. nil) nil (λ _. E) nil → tally limit 19 sorts.Set 0 s ≡ sum E (enums_in fs)
  only_enums E means =
      let a = set_plain nil nil nil E nil limit means s in
      let b = sum_same (with_members nil nil nil E nil) (λ m. sum E m.enums) (λ m. let x = sum_zero nil (λ _. refl) m.fields in let z = sum_zero nil (λ _. refl) m.oneofs in omega arith) (messages_in fs) in
      let c = sum_zero nil (λ _. refl) fs in
      let e = enums_sum E fs in
      omega arith

module _ (s : Bytes) where
  pub limit_3 : passes limits.Messages s ≡ ltb max_messages (length (messages_in (decode_set s)))
  unfolding passes most counts choose
  limit_3 =
      ap (ltb 256)
      (only_messages limits.Messages s (λ _. 1)
      (record { a_file = λ p. refl; a_message = λ a p. refl; a_field = λ a p. refl; an_enum = λ a p. no_values limits.Messages 0 0 refl (λ v. refl) (parts 2 (entries p)); a_oneof = λ a p. refl; too_deep = λ a p. refl })
      ∙ sum_ones (λ _. 1) (λ _. refl) (messages_in (decode_set s)))

  pub limit_4 : passes limits.Fields s ≡ ltb max_fields (length (fields_in (decode_set s)))
  unfolding passes most counts choose
  limit_4 =
      ap (ltb 2048)
      (only_fields limits.Fields s (λ _. 1)
      (record { a_file = λ p. refl; a_message = λ a p. refl; a_field = λ a p. refl; an_enum = λ a p. no_values limits.Fields 0 0 refl (λ v. refl) (parts 2 (entries p)); a_oneof = λ a p. refl; too_deep = λ a p. refl })
      ∙ sum_ones (λ _. 1) (λ _. refl) (fields_in (decode_set s)))

  pub limit_5 : passes limits.Enums s ≡ ltb max_enums (length (enums_in (decode_set s)))
  unfolding passes most counts choose
  limit_5 =
      ap (ltb 256)
      (only_enums limits.Enums s (λ _. 1)
      (record { a_file = λ p. refl; a_message = λ a p. refl; a_field = λ a p. refl; an_enum = λ a p. no_values limits.Enums 1 1 refl (λ v. refl) (parts 2 (entries p)); a_oneof = λ a p. refl; too_deep = λ a p. refl })
      ∙ sum_ones (λ _. 1) (λ _. refl) (enums_in (decode_set s)))

  -- a declaration that counts by a test
  abbrev many_values : EnumDescriptor → Bool
  many_values e = ltb max_values (length e.values)

  pub limit_6 : passes limits.Values s ≡ any many_values (enums_in (decode_set s))
  unfolding passes most counts choose decode_enum
  limit_6 =
      ap (ltb 0)
      (only_enums limits.Values s (λ e. bit (many_values e))
      (record {
        a_file = λ p. refl;
        a_message = λ a p. refl;
        a_field = λ a p. refl;
        an_enum = λ a p. no_values limits.Values _ _ (ap (λ (n : ℕ). bit (ltb max_values n)) (sym (map_length decode_value (parts 2 (entries p))))) (λ v. refl) (parts 2 (entries p));
        a_oneof = λ a p. refl;
        too_deep = λ a p. refl;
      }))
      ∙ sym (any_sum many_values (λ e. bit (many_values e)) (λ e. bit_sum (many_values e)) (enums_in (decode_set s)))

  abbrev long_default : FieldDescriptor → Bool
  long_default f = ltb max_default (length_of f.default_value)

  pub limit_10 : passes limits.Defaults s ≡ passes_10 (decode_set s)
  unfolding passes most counts choose decode_field field_in passes_10
  limit_10 =
      ap (ltb 0)
      (only_fields limits.Defaults s (λ f. bit (long_default f))
      (record {
        a_file = λ p. refl;
        a_message = λ a p. refl;
        a_field = λ a p. ap (λ (n : ℕ). bit (ltb max_default n)) (length_is (text (last 7 (entries p))));
        an_enum = λ a p. no_values limits.Defaults 0 0 refl (λ v. refl) (parts 2 (entries p));
        a_oneof = λ a p. refl;
        too_deep = λ a p. refl;
      }))
      ∙ sym (any_sum long_default (λ f. bit (long_default f)) (λ f. bit_sum (long_default f)) (fields_in (decode_set s)))

-- ---- limit 7
no_members : (name : ℕ) (p : Bytes) → member_weight limits.Nesting name p ≡ 0
unfolding counts choose
no_members name p =
    let a = sum_zero (λ f. bit (counts limits.Nesting sorts.Field name f)) (λ f. refl) (parts 2 (entries p)) in
    let b = sum_zero (enum_weight limits.Nesting name) (λ e. no_values limits.Nesting 0 0 refl (λ v. refl) (parts 2 (entries e))) (parts 4 (entries p)) in
    let c = sum_zero (λ o. bit (counts limits.Nesting sorts.Oneof name o)) (λ o. refl) (parts 8 (entries p)) in
    omega arith

one_deep : (around : ℕ) (p : Bytes) → bit (counts limits.Nesting sorts.DeepMessage around p) ≡ 1
unfolding counts choose
one_deep around p = refl

none_deep : (around : ℕ) (p : Bytes) → bit (counts limits.Nesting sorts.Message around p) ≡ 0
unfolding counts choose
none_deep around p = refl

deeper_is : (n around : ℕ) (ps : List Bytes) → deeper n ps ≡ ltb 0 (messages_weight limits.Nesting n around ps)
unfolding deeper messages_weight sum
deeper_is zero around [] = refl
deeper_is zero around (p ∷ ps) = let o = one_deep around p in sym (lt-ltb 0 (bit (counts limits.Nesting sorts.DeepMessage around p) + sum (λ q. bit (counts limits.Nesting sorts.DeepMessage around q)) ps) (omega arith))
deeper_is (suc n) around [] = refl
deeper_is (suc n) around (p ∷ ps) =
    let name : ℕ = around + 1 + text_length 1 p in
    let m = no_members name p in
    let o = none_deep around p in
    ap₂ (λ (x y : Bool). x || y) (deeper_is n name (parts 3 (entries p))) (deeper_is (suc n) around ps)
    ∙ or_sum (messages_weight limits.Nesting n name (parts 3 (entries p))) (messages_weight limits.Nesting (suc n) around ps)
    ∙ ap (ltb 0)
    (let z : messages_weight limits.Nesting n name (parts 3 (entries p)) + messages_weight limits.Nesting (suc n) around ps
    ≡ bit (counts limits.Nesting sorts.Message around p) + (member_weight limits.Nesting name p + messages_weight limits.Nesting n name (parts 3 (entries p))) + messages_weight limits.Nesting (suc n) around ps = omega arith in z)

pub limit_7 : (s : Bytes) → passes limits.Nesting s ≡ any too_deep_file (parts 1 (entries s))
unfolding passes most counts choose too_deep_file
limit_7 s =
    ap (ltb 0) (set_weighed limits.Nesting 16 s)
    ∙ sym (any_sum too_deep_file _ (λ p.
    let name : ℕ = around_below sorts.File 0 p in
    let z = sum_zero (enum_weight limits.Nesting name) (λ e. no_values limits.Nesting 0 0 refl (λ v. refl) (parts 2 (entries e))) (parts 5 (entries p)) in
    deeper_is 16 name (parts 4 (entries p)) ∙ ap (ltb 0) (let y : messages_weight limits.Nesting 16 name (parts 4 (entries p)) ≡ 0 + file_weight limits.Nesting 16 name p = omega arith in y)) (parts 1 (entries s)))

-- ---- limit 8
package_is : (o : Option Bytes) → long_segment (bytes_or_none o) ≡ long_package o
unfolding long_segment any segments
package_is none = refl
package_is (some p) = refl

abbrev bit_long : Option Bytes → ℕ
bit_long o = bit (long_name o)

abbrev long_enum : EnumDescriptor → ℕ
long_enum e = bit_long e.name + sum (λ v. bit_long v.name) e.values

means_8 : Means limits.Names (λ f. bit (long_package f.package_name)) (λ _ m. bit_long m.name) (λ f. bit_long f.name) (λ _. long_enum) bit_long
unfolding counts weights.long_name choose decode_file decode_message decode_field field_in decode_oneof decode_enum decode_value value_in
means_8 =
    record {
      a_file = λ p. ap bit (package_is (text (last 2 (entries p))));
      a_message = λ a p. named p;
      a_field = λ a p. named p;
      an_enum = λ a p. ap₂ (λ (x y : ℕ). x + y) (named p) (sum_same _ (λ v. bit_long (decode_value v).name) named (parts 2 (entries p)) ∙ sym (sum_map (λ v. bit_long v.name) decode_value (parts 2 (entries p))));
      a_oneof = λ a p. named p;
      too_deep = λ a p. refl;
    }
  where
    named : (p : Bytes) → bit (ltb 64 (text_length 1 p)) ≡ bit_long (text (last 1 (entries p)))
    named p = ap (λ (n : ℕ). bit (ltb 64 n)) (length_is (text (last 1 (entries p))))

abbrev own_long : MessageDescriptor → ℕ
own_long m = bit_long m.name + sum (λ f. bit_long f.name) m.fields + sum bit_long m.oneofs

any_long : {A : Type 0} (name : A → Option Bytes) (xs : List A) → any (λ x. long_name (name x)) xs ≡ ltb 0 (sum (λ x. bit_long (name x)) xs)
any_long name = any_sum (λ x. long_name (name x)) (λ x. bit_long (name x)) (λ x. bit_sum (long_name (name x)))

enum_is_long : (e : EnumDescriptor) → long_in_enum e ≡ ltb 0 (long_enum e)
enum_is_long e =
    ap₂ (λ (x y : Bool). x || y) (bit_sum (long_name e.name)) (any_long (λ v. v.name) e.values)
    ∙ or_sum (bit_long e.name) (sum (λ v. bit_long v.name) e.values)

message_is_long : (m : MessageDescriptor) → long_in_message m ≡ ltb 0 (own_long m)
message_is_long m =
    ap₂ (λ (x y : Bool). x || y)
    (ap₂ (λ (x y : Bool). x || y) (bit_sum (long_name m.name)) (any_long (λ f. f.name) m.fields) ∙ or_sum (bit_long m.name) (sum (λ f. bit_long f.name) m.fields))
    (any_long (λ o. o) m.oneofs)
    ∙ or_sum (bit_long m.name + sum (λ f. bit_long f.name) m.fields) (sum bit_long m.oneofs)

pub limit_8 : (s : Bytes) → passes limits.Names s ≡ passes_8 (decode_set s)
unfolding passes most choose passes_8
limit_8 s =
    let fs : List FileDescriptor = decode_set s in
    let P : FileDescriptor → ℕ = λ f. bit (long_package f.package_name) in
    let a = set_plain P (λ m. bit_long m.name) (λ f. bit_long f.name) long_enum bit_long limits.Names means_8 s in
    let b = sum_same (with_members P (λ m. bit_long m.name) (λ f. bit_long f.name) long_enum bit_long) (λ m. own_long m + sum long_enum m.enums) (λ m. omega arith) (messages_in fs) in
    let c = sum_plus own_long (λ m. sum long_enum m.enums) (messages_in fs) in
    let d = enums_sum long_enum fs in
    let n : ℕ = sum P fs + sum own_long (messages_in fs) + sum long_enum (enums_in fs) in
    ap (ltb 0) (let z : tally limits.Names 19 sorts.Set 0 s ≡ n = omega arith in z)
    ∙ sym
    (ap₂ (λ (x y : Bool). x || y)
    (ap₂ (λ (x y : Bool). x || y) (any_sum (λ f. long_package f.package_name) P (λ f. bit_sum (long_package f.package_name)) fs)
    (any_sum long_in_message own_long message_is_long (messages_in fs))
    ∙ or_sum (sum P fs) (sum own_long (messages_in fs)))
    (any_sum long_in_enum long_enum enum_is_long (enums_in fs))
    ∙ or_sum (sum P fs + sum own_long (messages_in fs)) (sum long_enum (enums_in fs)))

-- ---- limit 9
abbrev bit_full : ℕ → ℕ
bit_full n = bit (ltb max_full_name n)

abbrev full_message : ℕ → MessageDescriptor → ℕ
full_message around m = bit_full (full_length around m.name)

abbrev full_enum : ℕ → EnumDescriptor → ℕ
full_enum around e = bit_full (full_length around e.name)

means_9 : Means limits.FullNames nil full_message nil full_enum nil
unfolding counts long_full_name choose decode_message decode_enum
means_9 =
    record {
      a_file = λ p. refl;
      a_message = λ a p. named a p;
      a_field = λ a p. refl;
      an_enum = λ a p. no_values limits.FullNames _ _ (named a p) (λ v. refl) (parts 2 (entries p));
      a_oneof = λ a p. refl;
      too_deep = λ a p. refl;
    }
  where
    named : (a : ℕ) (p : Bytes) → bit_full (a + 1 + text_length 1 p) ≡ bit_full (full_length a (text (last 1 (entries p))))
    named a p = ap (λ (n : ℕ). bit_full (a + 1 + n)) (length_is (text (last 1 (entries p))))

enum_lengths_sum : (around : ℕ) (es : List EnumDescriptor) → sum (full_enum around) es ≡ sum bit_full (enum_lengths around es)
unfolding sum enum_lengths
enum_lengths_sum around [] = refl
enum_lengths_sum around (e ∷ es) = ap (λ (n : ℕ). full_enum around e + n) (enum_lengths_sum around es)

full_lengths_sum : (around : ℕ) (f : Forest MessageDescriptor) → forest_weight nil full_message nil full_enum nil around f ≡ sum bit_full (full_lengths around f)
unfolding forest_weight full_lengths sum
full_lengths_sum around done = refl
full_lengths_sum around (node m nested following) =
    let name : ℕ = full_length around m.name in
    let own : List ℕ = enum_lengths name m.enums in
    let a = sum_append bit_full (own ++ full_lengths name nested) (full_lengths around following) in
    let b = sum_append bit_full own (full_lengths name nested) in
    let c = full_lengths_sum name nested in
    let d = full_lengths_sum around following in
    let e = enum_lengths_sum name m.enums in
    let x = sum_zero nil (λ _. refl) m.fields in
    let y = sum_zero nil (λ _. refl) m.oneofs in
    omega arith

pub limit_9 : (s : Bytes) → passes limits.FullNames s ≡ passes_9 (decode_set s)
unfolding passes most choose passes_9
limit_9 s =
    let fs : List FileDescriptor = decode_set s in
    ap (ltb 0)
    (set_decoded nil full_message nil full_enum nil limits.FullNames means_9 s
    ∙ sum_same _ (λ f. sum bit_full (file_lengths f)) (λ f.
    let name : ℕ = package_length f.package_name in
    let a = full_lengths_sum name f.messages in
    let b = enum_lengths_sum name f.enums in
    let c = sum_append bit_full (enum_lengths name f.enums) (full_lengths name f.messages) in
    omega arith) fs
    ∙ sym (sum_all_of bit_full file_lengths fs))
    ∙ sym (any_sum (λ n. ltb max_full_name n) bit_full (λ n. bit_sum (ltb max_full_name n)) (all_of file_lengths fs))

-- all limits
pub limit_is : (s : Bytes) → limit_passed s
    ≡ choose (ltb max_set (length s)) 1
    (choose (ltb max_files (length (parts 1 (entries s)))) 2
    (choose (passes limits.Messages s) 3
    (choose (passes limits.Fields s) 4
    (choose (passes limits.Enums s) 5
    (choose (passes limits.Values s) 6 (choose (passes limits.Nesting s) 7 (choose (passes limits.Names s) 8 (choose (passes limits.FullNames s) 9 (choose (passes limits.Defaults s) 10 0)))))))))
unfolding limit_passed limit_of_files decode_set
limit_is s =
    rw (limit_3 s, limit_4 s, limit_5 s, limit_6 s, limit_7 s, limit_8 s, limit_9 s, limit_10 s, map_length decode_file (parts 1 (entries s)))
