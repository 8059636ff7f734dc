-- The uses of a field, and of a row. Assumes nothing.
use mathlib.Core.Path.{◌≡◌, refl, sym, ap, ◌∙◌}
use mathlib.Core.Bool.{Bool, true, false}
use mathlib.Core.List.{List, [], ◌∷◌, ◌++◌, map, append-nil, append_assoc}
use Prim.Native.Nat.{ℕ, zero, suc, ◌-◌, ◌≤◌, ◌<◌}
use native.Mathlib.Omega.{arith}
use lib.Dec.{eqb}
use borrow.Author.Tests.{lt-ltb, le-ltb, eqb-true, eqb-false}
use mathlib.Core.Logic.{◌⊎◌, ⊎_elim}
use Rattle.declarations.specs.declared.Kind.{Kind}
use Rattle.declarations.specs.declared.Kind.TheVariants.{Package, Enum, Message}
use Rattle.base.specs.Choose.{choose}
use Rattle.base.specs.Lists.{all_of}
use Rattle.wire.specs.Records.{part}
use Rattle.descriptor.specs.Descriptor.{Bytes}
use Rattle.descriptor.specs.Decode.{entries, parts, decode_field, decode_message}
use Rattle.declarations.specs.Rows.{row_at, kind_number}
use Rattle.declarations.specs.declared.Declaration.{Declaration as Row}
use Rattle.declarations.specs.Listed.{Listed, listed_row}
use Rattle.map_entries.specs.Named.{Use, field_use, part_use, row_uses, uses}

-- ---- the rows
pub uses_append : (ls ks : List Listed) → uses (ls ++ ks) ≡ uses ls ++ uses ks
unfolding uses
uses_append [] ks = refl
uses_append (l ∷ ls) ks =
    ap (λ (us : List Use). all_of (field_use l.number) l.fields ++ us) (uses_append ls ks)
    ∙ sym (append_assoc (all_of (field_use l.number) l.fields) (uses ls) (uses ks))

decoded : (number : ℕ) (ps : List Bytes) → all_of (field_use number) (map decode_field ps) ≡ all_of (part_use number) ps
unfolding all_of
decoded number [] = refl
decoded number (p ∷ ps) = ap (λ (us : List Use). part_use number p ++ us) (decoded number ps)

at_least : (n : ℕ) → (n ≡ 0 → ⊥) → (n ≡ 1 → ⊥) → 2 ≤ n
at_least zero a b = absurd (a refl)
at_least (suc zero) a b = absurd (b refl)
at_least (suc (suc n)) a b = omega arith

-- a row of another kind than a message's
pub no_message_kind : (k : Kind) → (k ≡ Package) ⊎ (k ≡ Enum) → kind_number k < 2
unfolding kind_number
no_message_kind k is = ⊎_elim (λ e. rw e (omega arith)) (λ e. rw e (omega arith)) is

pub not_message : (k : Kind) → ((x : ℕ) → k ≡ Message x → ⊥) → kind_number k < 2
unfolding kind_number
not_message Package f = omega arith
not_message Enum f = omega arith
not_message (Message x) f = absurd (f x refl)

pub uses_row : (bytes : Bytes) (t : List Row) (full : Bytes) (i : ℕ) → uses (listed_row bytes full (row_at t i)) ≡ row_uses bytes t i
unfolding uses listed_row row_uses choose all_of decode_message
uses_row bytes t full i = by (eqb (kind_number (row_at t i).kind) 0) (eqb (kind_number (row_at t i).kind) 1) refl refl
  where
    ps : List Bytes
    ps = parts 2 (entries (part bytes (row_at t i).start ((row_at t i).end - (row_at t i).start)))

    by : (a b : Bool) → eqb (kind_number (row_at t i).kind) 0 ≡ a → eqb (kind_number (row_at t i).kind) 1 ≡ b → uses (listed_row bytes full (row_at t i)) ≡ row_uses bytes t i
    by true b e q = let z = eqb-true (kind_number (row_at t i).kind) 0 e in rw (e, lt-ltb (kind_number (row_at t i).kind) 2 (omega arith))
    by false true e q = let z = eqb-true (kind_number (row_at t i).kind) 1 q in rw (e, q, lt-ltb (kind_number (row_at t i).kind) 2 (omega arith))
    by false false e q =
        let z = eqb-false (kind_number (row_at t i).kind) 0 e in
        let y = eqb-false (kind_number (row_at t i).kind) 1 q in
        let two : 2 ≤ kind_number (row_at t i).kind = at_least (kind_number (row_at t i).kind) z y in
        rw (e, q, le-ltb (kind_number (row_at t i).kind) 2 two) (append-nil (all_of (field_use (kind_number (row_at t i).kind - 2)) (map decode_field ps)) ∙ decoded (kind_number (row_at t i).kind - 2) ps)
