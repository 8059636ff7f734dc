-- How many declared places a set has at most: two for each message, one for each enum and each field. Assumes nothing.
use Prim.Native.Nat.{ℕ, suc, ◌+◌, ◌*◌, ◌≤◌}
use Rattle.std.specs.Prelude.{◌≡◌, refl, Bool, true, false, ◌||◌, eqb, leb}
use Rattle.std.proofs.Common.{eqb-true, leb-true, leb-false}
use Rattle.std.proofs.Math.Option.{Option, some, none}
use mathlib.Core.List.{List, [], ◌∷◌, ◌++◌}
use native.Mathlib.Omega.{arith}
use Rattle.std.proofs.Math.ListN.{length, length-append}
use Rattle.base.specs.Choose.{choose, choose_case}
use Rattle.base.specs.Lists.{count, is_empty, all_of, map_length, all_of_length}
use Rattle.base.specs.Tests.{both_ways}
use Rattle.ident.specs.Ident.{to_snake, to_upper_camel}
use Rattle.descriptor.specs.Descriptor.{Bytes, Forest, done, node, preorder, FieldDescriptor, EnumDescriptor, MessageDescriptor, FileDescriptor}
use Rattle.descriptor.specs.Limits.{messages_in, fields_in, enums_in}
use Rattle.options.specs.Settings.{Setting}
use Rattle.extern_paths.specs.ExternPaths.{taken}
use Rattle.name_rules.specs.Accessors.{text}
use Rattle.name_rules.specs.FullNames.{◌·◌, package_scope}
use Rattle.code_generator.specs.Piece.{spelt}
use Rattle.code_generator.specs.Oneofs.{oneof_of, is_at, fields_at, OneofField, oneofs_from, oneof_fields, type_name}
use Rattle.code_generator.specs.Generate.{has_module}
use Rattle.name_check.specs.NameCheck.{Place, oneof_places, enum_places, message_places, file_places}

-- ---- a message has no more oneofs left with fields than fields
-- is the field in the oneof i or a later one?
abbrev pub from_on : ℕ → Option ℕ → Bool
from_on i none = false
from_on i (some j) = leb i j

abbrev pub later : ℕ → List FieldDescriptor → ℕ
later i fs = count (λ (f : FieldDescriptor). from_on i (oneof_of f)) fs

count_most : {A : Type 0} (p : A → Bool) (xs : List A) → count p xs ≤ length xs
unfolding count
count_most p [] = omega arith
count_most p (x ∷ xs) = let h = count_most p xs in choose_case (λ (n : ℕ). n ≤ suc (length xs)) (p x) (λ _. omega arith) (λ _. omega arith)

-- one field: it is in the oneof i, in a later one, or in none of these
one_field : (i : ℕ) (o : Option ℕ) (f : FieldDescriptor) (at : List FieldDescriptor) (n m : ℕ) → length at + n ≤ m → length (choose (is_at i o) (f ∷ at) at) + choose (from_on (suc i) o) (1 + n) n ≤ choose (from_on i o) (1 + m) m
unfolding choose
one_field i none f at n m h = h
one_field i (some j) f at n m h = on (eqb i j) (leb (suc i) j) (leb i j) refl refl refl
  where
    on : (x y z : Bool) → eqb i j ≡ x → leb (suc i) j ≡ y → leb i j ≡ z → length (choose x (f ∷ at) at) + choose y (1 + n) n ≤ choose z (1 + m) m
    on true true z p q r = let u : i ≡ j = eqb-true i j p in let v = leb-true (suc i) j q in absurd (omega arith)
    on true false true p q r = omega arith
    on true false false p q r = let u : i ≡ j = eqb-true i j p in let v = leb-false i j r in absurd (omega arith)
    on false true true p q r = omega arith
    on false true false p q r = let v = leb-true (suc i) j q in let w = leb-false i j r in absurd (omega arith)
    on false false true p q r = omega arith
    on false false false p q r = h

at_and_later : (i : ℕ) (fs : List FieldDescriptor) → length (fields_at i fs) + later (suc i) fs ≤ later i fs
unfolding fields_at count
at_and_later i [] = omega arith
at_and_later i (f ∷ fs) = one_field i (oneof_of f) f (fields_at i fs) (later (suc i) fs) (later i fs) (at_and_later i fs)

some_field : (fs : List FieldDescriptor) → is_empty fs ≡ false → 1 ≤ length fs
some_field [] h = both_ways refl h
some_field (f ∷ fs) h = omega arith

module _ (m : MessageDescriptor) (nested : Forest MessageDescriptor) where
  pub oneofs_later : (i : ℕ) (ns : List (Option Bytes)) → length (oneofs_from m nested i ns) ≤ later i m.fields
  unfolding oneofs_from
  oneofs_later i [] = omega arith
  oneofs_later i (n ∷ ns) =
      let rest = oneofs_later (suc i) ns in
      let more = at_and_later i m.fields in
      choose_case (λ (l : List OneofField). length l ≤ later i m.fields) (is_empty (fields_at i m.fields)) (λ _. omega arith)
      (λ e. let one = some_field (fields_at i m.fields) e in omega arith)

  oneofs_few : length (oneof_fields m nested) ≤ length m.fields
  oneofs_few =
      let h = oneofs_later 0 m.oneofs in
      let k = count_most (λ (f : FieldDescriptor). from_on 0 (oneof_of f)) m.fields in
      omega arith

-- ---- messages
module _ (rs : List Setting) where
  enums_count : (home : Bytes) (es : List EnumDescriptor) → length (enum_places rs home es) ≤ length es
  unfolding enum_places
  enums_count home [] = omega arith
  enums_count home (e ∷ es) =
      let rest = enums_count home es in
      let own : List Place = choose (taken rs (home · text e.name)) [] (record { home = home; name = to_upper_camel (text e.name) } ∷ []) in
      let one : length own ≤ 1 = choose_case (λ (l : List Place). length l ≤ 1) (taken rs (home · text e.name)) (λ _. omega arith) (λ _. omega arith) in
      let sum = length-append own (enum_places rs home es) in
      omega arith

  -- what messages may have
  abbrev most : Forest MessageDescriptor → ℕ
  most done = 0
  most (node m nested following) = 2 + length m.enums + length m.fields + (most nested + most following)

  messages_count : (home : Bytes) (F : Forest MessageDescriptor) → length (message_places rs home F) ≤ most F
  unfolding message_places
  messages_count home done = omega arith
  messages_count home (node m nested following) =
      let full = home · text m.name in
      let own : List Place =
      choose (m.map_entry || taken rs full) []
      (record { home = home; name = to_upper_camel (text m.name) }
      ∷ choose (has_module m nested)
      (record { home = home; name = to_snake (text m.name) }
      ∷ (message_places rs full nested ++ (enum_places rs full m.enums ++ oneof_places full (oneof_fields m nested)))) []) in
      let inner = messages_count full nested in
      let enums = enums_count full m.enums in
      let oneofs = oneofs_few m nested in
      let places = map_length {B = Place} (λ (x : OneofField). record { home = full; name = spelt (type_name x) }) (oneof_fields m nested) in
      let first = length-append (message_places rs full nested) (enum_places rs full m.enums ++ oneof_places full (oneof_fields m nested)) in
      let second = length-append (enum_places rs full m.enums) (oneof_places full (oneof_fields m nested)) in
      let rest = messages_count home following in
      let sum = length-append own (message_places rs home following) in
      let mine : length own ≤ 2 + length m.enums + length m.fields + most nested =
      choose_case (λ (l : List Place). length l ≤ 2 + length m.enums + length m.fields + most nested) (m.map_entry || taken rs full) (λ _. omega arith)
      (λ _. choose_case (λ (l : List Place). suc (length l) ≤ 2 + length m.enums + length m.fields + most nested) (has_module m nested) (λ _. omega arith) (λ _. omega arith)) in
      omega arith

-- ---- files
abbrev fields_of : List MessageDescriptor → ℕ
fields_of ms = length (all_of (λ (m : MessageDescriptor). m.fields) ms)

abbrev enums_of : List MessageDescriptor → ℕ
enums_of ms = length (all_of (λ (m : MessageDescriptor). m.enums) ms)

most_is : (rs : List Setting) (F : Forest MessageDescriptor) → most rs F ≡ 2 * length (preorder F) + enums_of (preorder F) + fields_of (preorder F)
unfolding preorder all_of
most_is rs done = refl
most_is rs (node m nested following) =
    let h = most_is rs nested in
    let k = most_is rs following in
    let ms = preorder nested ++ preorder following in
    let size = length-append (preorder nested) (preorder following) in
    let enums = all_of_length (λ (x : MessageDescriptor). x.enums) (preorder nested) (preorder following) in
    let fields = all_of_length (λ (x : MessageDescriptor). x.fields) (preorder nested) (preorder following) in
    let own_enums = length-append m.enums (all_of (λ (x : MessageDescriptor). x.enums) ms) in
    let own_fields = length-append m.fields (all_of (λ (x : MessageDescriptor). x.fields) ms) in
    omega arith

module _ (rs : List Setting) where
  files_count : (fs : List FileDescriptor)
      → length (all_of (file_places rs) fs) ≤ 2 * length (messages_in fs) + enums_of (messages_in fs) + fields_of (messages_in fs) + length (all_of (λ (f : FileDescriptor). f.enums) fs)
  unfolding messages_in all_of file_places
  files_count [] = omega arith
  files_count (f ∷ fs) =
      let scope = package_scope f.package_name in
      let ms = preorder f.messages in
      let rest = files_count fs in
      let own = messages_count rs scope f.messages in
      let is = most_is rs f.messages in
      let enums = enums_count rs scope f.enums in
      let places = length-append (message_places rs scope f.messages) (enum_places rs scope f.enums) in
      let sum = length-append (file_places rs f) (all_of (file_places rs) fs) in
      let size = length-append ms (messages_in fs) in
      let all_enums = all_of_length (λ (x : MessageDescriptor). x.enums) ms (messages_in fs) in
      let all_fields = all_of_length (λ (x : MessageDescriptor). x.fields) ms (messages_in fs) in
      let file_enums = length-append f.enums (all_of (λ (g : FileDescriptor). g.enums) fs) in
      omega arith

  pub places_most : (fs : List FileDescriptor) → length (all_of (file_places rs) fs) ≤ 2 * length (messages_in fs) + length (fields_in fs) + length (enums_in fs)
  unfolding fields_in enums_in
  places_most fs =
      let h = files_count fs in
      let e = length-append (all_of (λ (f : FileDescriptor). f.enums) fs) (all_of (λ (m : MessageDescriptor). m.enums) (messages_in fs)) in
      omega arith
