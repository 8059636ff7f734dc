-- Full names, and the names between their dots. Assumes nothing.
use Rattle.std.specs.Prelude.{ℕ, ◌≡◌, refl, Bool, true, false, eqb, drop}
use Rattle.std.proofs.Common.{ap, sym, ◌∙◌, eqb-true}
use Rattle.std.proofs.Math.Bool.{and-true}
use Rattle.std.proofs.Math.Option.{Option, some, none}
use mathlib.Core.List.{List, [], ◌∷◌, ◌++◌, reverse, reverse_aux, reverse-cons, reverse-reverse, append_assoc, append-nil}
use Rattle.base.specs.Bytes.{b}
use Rattle.base.specs.Choose.{choose}
use Rattle.base.specs.Lists.{Every}
use Rattle.base.specs.Tests.{both_ways, and_left, and_right, or_right}
use Rattle.ident.proofs.NameLaws.{part_no_dot}
use Rattle.heck.specs.Case.{is_digit}
use Rattle.ident.specs.Name.{name_start, name_part, every, is_name}
use Rattle.descriptor.specs.Descriptor.{Bytes}
use Rattle.extern_paths.specs.Split.{begins, push, split_behind, split}
use Rattle.name_rules.specs.FullNames.{◌·◌, package_scope}
use Rattle.code_generator.specs.Resolve.{local_path, front, last_name, ident_path, ident_type}

-- no dot is in it
abbrev pub DotFree : Bytes → Type 0
DotFree x = Every (λ (c : ℕ). eqb c 46 ≡ false) x

-- the full name of these names, the innermost first: of T, b and a `.a.b.T`
abbrev pub scope_of : List Bytes → Bytes
scope_of [] = []
scope_of (x ∷ h) = scope_of h · x

-- ---- identifiers have none
every_no_dot : (s : Bytes) → every name_part s ≡ true → DotFree s
unfolding every choose
every_no_dot [] h = tt
every_no_dot (c ∷ s) h = go (name_part c) refl h (every_no_dot s)
  where
    go : (t : Bool) → name_part c ≡ t → choose t (every name_part s) false ≡ true → (every name_part s ≡ true → DotFree s) → DotFree (c ∷ s)
    go true e q rest = (part_no_dot c e, rest q)
    go false e q rest = both_ways q refl

pub name_no_dot : (s : Bytes) → is_name s ≡ true → DotFree s
unfolding is_name name_part
name_no_dot [] h = tt
name_no_dot (c ∷ s) h =
    (part_no_dot c (or_right (is_digit c) (and_left (name_start c) (every name_part s) h)), every_no_dot s (and_right (name_start c) (every name_part s) h))

-- ---- splitting
pub split_cons : (c : ℕ) (s : Bytes) → split (b ".") (c ∷ s) ≡ choose (eqb c 46) ([] ∷ split (b ".") s) (push c (split (b ".") s))
unfolding split split_behind begins
split_cons c s = rw (and-true (eqb c 46)) refl

pub record Parted (s : Bytes) : Type 0 where
  pub first : Bytes
  pub others : List Bytes
  pub is : split (b ".") s ≡ first ∷ others

parted : (s : Bytes) → Parted s
unfolding split split_behind choose
parted [] = record { first = []; others = []; is = refl }
parted (c ∷ s) = go (eqb c 46) refl (parted s)
  where
    go : (t : Bool) → eqb c 46 ≡ t → Parted s → Parted (c ∷ s)
    go true e p = record { first = []; others = split (b ".") s; is = split_cons c s ∙ rw e refl }
    go false e p = record { first = c ∷ p.first; others = p.others; is = split_cons c s ∙ rw (e, p.is) refl }

-- a byte string without dots is one part
split_free : (x : Bytes) → DotFree x → split (b ".") x ≡ x ∷ []
unfolding split split_behind choose
split_free [] f = refl
split_free (c ∷ x) f = split_cons c x ∙ rw (f.0, split_free x f.1) refl

-- a name behind a dot is one part more
split_more : (s x : Bytes) → DotFree x → split (b ".") (s ++ (46 ∷ x)) ≡ split (b ".") s ++ (x ∷ [])
unfolding split split_behind choose
split_more [] x f = split_cons 46 x ∙ rw (split_free x f) refl
split_more (c ∷ s) x f = split_cons c (s ++ (46 ∷ x)) ∙ rw (split_more s x f) (go (eqb c 46) (parted s)) ∙ ap (λ (l : List Bytes). l ++ (x ∷ [])) (sym (split_cons c s))
  where
    go : (t : Bool) → Parted s → choose t ([] ∷ (split (b ".") s ++ (x ∷ []))) (push c (split (b ".") s ++ (x ∷ []))) ≡ choose t ([] ∷ split (b ".") s) (push c (split (b ".") s)) ++ (x ∷ [])
    go true p = refl
    go false p = rw p.is refl

path_more : (s x : Bytes) → DotFree x → local_path (s · x) ≡ local_path s ++ (x ∷ [])
unfolding local_path
path_more [] x f = split_free x f
path_more (c ∷ s) x f = split_more s x f

-- the names of a scope
pub path_of_scope : (h : List Bytes) → Every DotFree h → local_path (scope_of h) ≡ reverse h
unfolding local_path
path_of_scope [] f = refl
path_of_scope (x ∷ h) f = path_more (scope_of h) x f.0 ∙ rw (path_of_scope h f.1) (sym (reverse-cons x h))

pub names_of_scope : (h : List Bytes) → Every DotFree h → reverse (local_path (scope_of h)) ≡ h
names_of_scope h f = ap (λ (l : List Bytes). reverse l) (path_of_scope h f) ∙ reverse-reverse h

-- ---- the path of a type's full name
front_snoc : (xs : List Bytes) (x : Bytes) → front (xs ++ (x ∷ [])) ≡ xs
front_snoc [] x = refl
front_snoc (y ∷ []) x = refl
front_snoc (y ∷ (z ∷ xs)) x = ap (λ (l : List Bytes). y ∷ l) (front_snoc (z ∷ xs) x)

last_snoc : (xs : List Bytes) (x : Bytes) → last_name (xs ++ (x ∷ [])) ≡ x
last_snoc [] x = refl
last_snoc (y ∷ []) x = refl
last_snoc (y ∷ (z ∷ xs)) x = last_snoc (z ∷ xs) x

behind_first : (s x : Bytes) → split (b ".") (drop 1 (s · x)) ≡ local_path (s · x)
unfolding local_path
behind_first [] x = refl
behind_first (c ∷ s) x = refl

module _ (h : List Bytes) (n : Bytes) (f : Every DotFree (n ∷ h)) where
  whole_path : split (b ".") (drop 1 (scope_of (n ∷ h))) ≡ reverse h ++ (n ∷ [])
  whole_path = behind_first (scope_of h) n ∙ path_of_scope (n ∷ h) f ∙ reverse-cons n h

  pub ident_path_is : ident_path (scope_of (n ∷ h)) ≡ reverse h
  unfolding ident_path
  ident_path_is = rw whole_path (front_snoc (reverse h) n)

  pub ident_type_is : ident_type (scope_of (n ∷ h)) ≡ n
  unfolding ident_type
  ident_type_is = rw whole_path (last_snoc (reverse h) n)

-- ---- a package
abbrev dots : Bytes → List Bytes → Bytes
dots g [] = g
dots g (x ∷ xs) = dots (g · x) xs

scope_dots : (xs h : List Bytes) → scope_of (reverse_aux xs h) ≡ dots (scope_of h) xs
scope_dots [] h = refl
scope_dots (x ∷ xs) h = scope_dots xs (x ∷ h)

abbrev behind : Bytes → List Bytes → Bytes
behind g [] = g
behind g (x ∷ xs) = dots (g ++ x) xs

join_split : (g s : Bytes) → behind g (split (b ".") s) ≡ g ++ s
unfolding split split_behind choose
join_split g [] = refl
join_split g (c ∷ s) = ap (behind g) (split_cons c s) ∙ go (eqb c 46) refl (parted s) (join_split (g ++ (c ∷ [])) s)
  where
    go : (t : Bool) → eqb c 46 ≡ t → Parted s → behind (g ++ (c ∷ [])) (split (b ".") s) ≡ (g ++ (c ∷ [])) ++ s
        → behind g (choose t ([] ∷ split (b ".") s) (push c (split (b ".") s))) ≡ g ++ (c ∷ s)
    go true e p ih =
        let front : (g ++ []) ++ (46 ∷ p.first) ≡ (g ++ (c ∷ [])) ++ p.first = rw (append-nil g, eqb-true c 46 e) (sym (append_assoc g (46 ∷ []) p.first)) in
        let others : dots ((g ++ (c ∷ [])) ++ p.first) p.others ≡ (g ++ (c ∷ [])) ++ s = ap (behind (g ++ (c ∷ []))) (sym p.is) ∙ ih in
        ap (λ (l : List Bytes). behind g ([] ∷ l)) p.is ∙ ap (λ (l : Bytes). dots l p.others) front ∙ others ∙ append_assoc g (c ∷ []) s
    go false e p ih =
        let front : g ++ (c ∷ p.first) ≡ (g ++ (c ∷ [])) ++ p.first = sym (append_assoc g (c ∷ []) p.first) in
        let others : dots ((g ++ (c ∷ [])) ++ p.first) p.others ≡ (g ++ (c ∷ [])) ++ s = ap (behind (g ++ (c ∷ []))) (sym p.is) ∙ ih in
        ap (λ (l : List Bytes). behind g (push c l)) p.is ∙ ap (λ (l : Bytes). dots l p.others) front ∙ others ∙ append_assoc g (c ∷ []) s

-- a scope is empty, or begins with a dot
pub data Dotted : Bytes → Type 0 where
  empty : Dotted []
  dot : {s : Bytes} → Dotted (46 ∷ s)

pub dotted_more : {s : Bytes} (x : Bytes) → Dotted s → Dotted (s · x)
dotted_more x empty = dot
dotted_more x dot = dot

pub dotted_package : (p : Option Bytes) → Dotted (package_scope p)
dotted_package none = empty
dotted_package (some p) = dot

package_names : (s : Bytes) → Parted s → scope_of (reverse (split (b ".") s)) ≡ 46 ∷ s
package_names s p =
    ap (λ (l : List Bytes). scope_of (reverse l)) p.is
    ∙ scope_dots p.others (p.first ∷ [])
    ∙ ap (behind (46 ∷ [])) (sym p.is)
    ∙ join_split (46 ∷ []) s

pub scope_of_names : {s : Bytes} → Dotted s → scope_of (reverse (local_path s)) ≡ s
unfolding local_path
scope_of_names empty = refl
scope_of_names (dot {s = s}) = package_names s (parted s)

-- no part has a dot
every_push : (c : ℕ) (xs : List Bytes) → eqb c 46 ≡ false → Every DotFree xs → Every DotFree (push c xs)
every_push c [] e f = ((e, tt), tt)
every_push c (x ∷ xs) e f = ((e, f.0), f.1)

pub split_dot_free : (s : Bytes) → Every DotFree (split (b ".") s)
unfolding split split_behind choose
split_dot_free [] = (tt, tt)
split_dot_free (c ∷ s) = rw (split_cons c s) (go (eqb c 46) refl (split_dot_free s))
  where
    go : (t : Bool) → eqb c 46 ≡ t → Every DotFree (split (b ".") s) → Every DotFree (choose t ([] ∷ split (b ".") s) (push c (split (b ".") s)))
    go true e f = (tt, f)
    go false e f = every_push c (split (b ".") s) e f

pub path_dot_free : (s : Bytes) → Every DotFree (local_path s)
unfolding local_path
path_dot_free [] = tt
path_dot_free (c ∷ s) = split_dot_free s
