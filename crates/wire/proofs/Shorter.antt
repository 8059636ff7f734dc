-- Each reader takes bytes from the front: what is left is shorter.
use Rattle.std.proofs.Common.{◌≡◌, ℕ, zero, suc, ◌+◌, ◌/◌, ◌%◌, ◌<◌, Bool, true, false, cond, List, [], ◌∷◌, length, Option, Some, None, IfSome, nat_le, nat_lt, ◌==◌, ◌&&◌, refl, arith, length-drop}
use Rattle.std.specs.Option.{option_map}
use Rattle.wire.specs.Readers.{groups, varint, ◌>>=◌, cut, payload}
use Rattle.wire.specs.Message.{Entry, record_at}

-- fewer than n bytes are left after it
record Leaves {A : Type 0} (n : ℕ) (o : Option (A × List ℕ)) : Type 0 where
  holds : IfSome o (λ v. length v.1 < n)

none : {A : Type 0} (n : ℕ) → Leaves {A = A} n None
none n = record { holds = tt }

some : {A : Type 0} {n : ℕ} (x : A × List ℕ) → length x.1 < n → Leaves n (Some x)
some x h = record { holds = h }

bind : {A B : Type 0} {n m : ℕ} (o : Option (A × List ℕ)) (f : A × List ℕ → Option (B × List ℕ)) → Leaves n o → ((x : A × List ℕ) → length x.1 < n → Leaves m (f x)) → Leaves m (o >>= f)
bind {m = m} None f p q = none m
bind (Some x) f p q = q x p.holds

mapped : {A B : Type 0} {n m : ℕ} (o : Option (A × List ℕ)) (f : A × List ℕ → B × List ℕ) → Leaves n o → ((x : A × List ℕ) → length x.1 < n → length (f x).1 < m) → Leaves m (option_map f o)
mapped {m = m} None f p q = none m
mapped (Some x) f p q = some (f x) (q x p.holds)

chosen : {B : Type 0} {m : ℕ} (b : Bool) (x y : Option (B × List ℕ)) → (b ≡ true → Leaves m x) → (b ≡ false → Leaves m y) → Leaves m (cond b x y)
chosen true x y p q = p refl
chosen false x y p q = q refl

groups_shorter : (left : ℕ) (bytes : List ℕ) → Leaves (length bytes) (groups left bytes)
unfolding groups
groups_shorter zero bytes = none _
groups_shorter (suc left) [] = none _
groups_shorter (suc left) (b ∷ bs) =
    chosen (nat_lt b 128) _ _ (λ _. chosen (left == 0 && nat_lt 1 b) _ _ (λ _. none _) (λ _. some _ (omega arith)))
    (λ _. mapped (groups left bs) _ (groups_shorter left bs) (λ v h. omega arith))

varint_shorter : (bytes : List ℕ) → Leaves (length bytes) (varint bytes)
unfolding varint
varint_shorter bytes = groups_shorter 10 bytes

cut_no_longer : (len : ℕ) (bytes : List ℕ) → Leaves (length bytes + 1) (cut len bytes)
unfolding cut
cut_no_longer len bytes = chosen (nat_le len (length bytes)) _ _ (λ _. some _ (omega (arith, length-drop len bytes))) (λ _. none _)

payload_no_longer : (wire_type : ℕ) (bytes : List ℕ) → Leaves (length bytes + 1) (payload wire_type bytes)
unfolding payload
payload_no_longer wire_type bytes =
    chosen (wire_type == 0) _ _ (λ _. bind (varint bytes) _ (varint_shorter bytes) (λ v h. some _ (omega arith)))
    (λ _. chosen (wire_type == 1) _ _ (λ _. bind (cut 8 bytes) _ (cut_no_longer 8 bytes) (λ v h. some _ h))
    (λ _. chosen (wire_type == 2) _ _
    (λ _. bind (varint bytes) _ (varint_shorter bytes) (λ len h. bind (cut len.0 len.1) _ (cut_no_longer len.0 len.1) (λ v k. some _ (omega arith))))
    (λ _. chosen (wire_type == 5) _ _ (λ _. bind (cut 4 bytes) _ (cut_no_longer 4 bytes) (λ v h. some _ h)) (λ _. none _))))

record_shorter : (key : ℕ) (bytes : List ℕ) → Leaves (length bytes) (record_at key bytes)
unfolding record_at
record_shorter key bytes =
    bind (varint bytes) _ (varint_shorter bytes) (λ tag h.
    chosen (tag.0 / 8 == 0) _ _ (λ _. none _) (λ _. bind (payload (tag.0 % 8) tag.1) _ (payload_no_longer (tag.0 % 8) tag.1) (λ v k. some _ (omega arith))))

pub rest_shorter : (key : ℕ) (bytes rest : List ℕ) (e : Entry) → record_at key bytes ≡ Some (e, rest) → length rest < length bytes
rest_shorter key bytes rest e is = let h : Leaves (length bytes) (Some (e, rest)) = rw (← is) (record_shorter key bytes) in h.holds
