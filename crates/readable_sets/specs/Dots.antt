-- Full names between their dots. Assumes nothing.
use Rattle.std.specs.Prelude.{ℕ, ◌≡◌, refl, Bool, true, false, ◌&&◌, List, [], ◌∷◌, ◌++◌, eqb, drop}
use Rattle.std.proofs.Common.{ap, ◌∙◌}
use Rattle.base.specs.Bytes.{b}
use Rattle.base.specs.Choose.{choose}
use Rattle.base.specs.Lists.{Every, every_append}
use Rattle.ident.proofs.NameLaws.{part_no_dot}
use Rattle.ident.specs.Name.{name_part, every}
use Rattle.ident.proofs.EveryLaws.{every_head, every_tail}
use Rattle.descriptor.specs.Descriptor.{Bytes}
use Rattle.extern_paths.specs.Split.{begins, push, split_behind, split}
use Rattle.name_rules.specs.FullNames.{◌·◌}
use Rattle.name_rules.specs.Rules.{onto, segments}
use Rattle.name_rules.specs.WellFormed.{Name}
use Rattle.reading.specs.Words.{name_parts}
use Rattle.field_reading.specs.Readable.{Converts}

-- ---- Rust's `split` at a dot, and the segments
push_onto : (c : ℕ) (xs : List Bytes) → push c xs ≡ onto c xs
push_onto c [] = refl
push_onto c (x ∷ xs) = refl

split_segments : (s : Bytes) → split (b ".") s ≡ segments s
unfolding split split_behind begins segments choose
split_segments [] = refl
split_segments (c ∷ s) = on (eqb c 46) (split_segments s)
  where
    on : (t : Bool) {xs ys : List Bytes} → xs ≡ ys → choose (t && true) ([] ∷ xs) (push c xs) ≡ choose t ([] ∷ ys) (onto c ys)
    on true e = ap {B = List Bytes} (λ (l : List Bytes). [] ∷ l) e
    on false {xs} e = push_onto c xs ∙ ap (onto c) e

-- ---- segments
record Some (xs : List Bytes) : Type 0 where
  first : Bytes
  others : List Bytes
  are : xs ≡ first ∷ others

some_segments : (s : Bytes) → Some (segments s)
unfolding segments choose
some_segments [] = record { first = []; others = []; are = refl }
some_segments (c ∷ s) = on (eqb c 46) (some_segments s)
  where
    on : (t : Bool) → Some (segments s) → Some (choose t ([] ∷ segments s) (onto c (segments s)))
    on true r = record { first = []; others = segments s; are = refl }
    on false r = record { first = c ∷ r.first; others = r.others; are = ap (onto c) r.are }

onto_append : (c : ℕ) (xs ys : List Bytes) → Some xs → onto c (xs ++ ys) ≡ onto c xs ++ ys
onto_append c xs ys r = rw r.are

segments_append : (s n : Bytes) → segments (s ++ (46 ∷ n)) ≡ segments s ++ segments n
unfolding segments choose
segments_append [] n = refl
segments_append (c ∷ s) n = rw (segments_append s n) (on (eqb c 46))
  where
    on : (t : Bool) → choose t ([] ∷ (segments s ++ segments n)) (onto c (segments s ++ segments n)) ≡ choose t ([] ∷ segments s) (onto c (segments s)) ++ segments n
    on true = refl
    on false = onto_append c (segments s) (segments n) (some_segments s)

segments_name : (n : Bytes) → every name_part n ≡ true → segments n ≡ n ∷ []
unfolding segments choose
segments_name [] h = refl
segments_name (c ∷ n) h = rw (part_no_dot c (every_head name_part c n h), segments_name n (every_tail name_part c n h))

-- ---- a full name: a dot, and names that convert between dots
pub record Dotted (full : Bytes) : Type 0 where
  pub rest : Bytes
  pub is : full ≡ 46 ∷ rest
  pub names : Every Converts (segments rest)

-- where declarations stand: in no package, or within a full name
pub data Scope : Bytes → Type 0 where
  root : Scope []
  within : {s : Bytes} → Dotted s → Scope s

pub named_in : {scope : Bytes} → Scope scope → {n : Bytes} → Name n → Dotted (scope · n)
named_in root {n} h = record { rest = n; is = refl; names = rw (segments_name n (name_parts n h.identifier)) (h.letter_or_digit, tt) }
named_in (within {s = s} d) {n} h =
    record {
      rest = d.rest ++ (46 ∷ n);
      is = ap (λ (l : Bytes). l · n) d.is;
      names =
          rw (segments_append d.rest n, segments_name n (name_parts n h.identifier))
          (every_append Converts (segments d.rest) (n ∷ []) d.names (h.letter_or_digit, tt));
    }

pub split_dotted : (full : Bytes) → Dotted full → Every Converts (split (b ".") (drop 1 full))
split_dotted full d = rw d.is (rw (split_segments d.rest) d.names)
