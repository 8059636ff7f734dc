-- Messages with those nested in them, and a file, by their bytes. Assumes nothing.
use mathlib.Core.Path.{◌≡◌, refl, sym, ap, ◌∙◌}
use mathlib.Core.Bool.{Bool, true, false, ◌&&◌, ◌||◌, not, cond}
use mathlib.Core.List.{List, [], ◌∷◌}
use Prim.Native.Nat.{ℕ, zero, suc, ◌+◌, ◌-◌}
use native.Mathlib.Omega.{arith}
use lib.ListN.{length, take}
use Rattle.std.proofs.lemmas.List.Folds.{length-prefix_len}
use Rattle.std.specs.List.{prefix_len}
use Rattle.base.specs.Choose.{choose}
use Rattle.base.specs.Lists.{all, all_map, first_failing, first_map}
use Rattle.descriptor.specs.Descriptor.{message_header, file_header}
use Rattle.descriptor.specs.Decode.{entries, parts, decode_enum, decode_message, decode_messages, decode_file, decode_set}
use Rattle.name_rules.specs.Rules.{package_good, syntax_good, message_good, entry_good, enum_good, messages_good, file_good}
use Rattle.file_rules.specs.Walks.{enum_part_good, message_part_good}
use Rattle.file_names.specs.Walks.{own_good, tree_good, file_part_good}

pub own_is : (s : List ℕ) (left : ℕ)
    → own_good left s ≡ (message_part_good s && (not (message_header (decode_message s)).map_entry || entry_good (decode_message s) (decode_messages left (parts 3 (entries s)))))
unfolding own_good message_part_good choose
own_is s left = ap (λ (t : Bool). message_good (decode_message s) && t) (go (decode_message s).map_entry)
  where
    go : (t : Bool) → choose t (entry_good (decode_message s) (decode_messages left (parts 3 (entries s)))) true ≡ (not t || entry_good (decode_message s) (decode_messages left (parts 3 (entries s))))
    go true = refl
    go false = refl

and_and : (x y z w : Bool) → (x && (y && (z && w))) ≡ (((x && y) && z) && w)
and_and true true z w = refl
and_and true false z w = refl
and_and false y z w = refl

trees_are : (n : ℕ) (ps : List (List ℕ)) → all (tree_good n) ps ≡ messages_good (decode_messages (suc n) ps)
unfolding all messages_good decode_messages tree_good own_good
trees_are n [] = refl
trees_are n (p ∷ ps) =
    ap (λ (u : Bool). tree_good n p && u) (trees_are n ps)
    ∙ sym (and_and (message_good (decode_message p)) (choose (decode_message p).map_entry (entry_good (decode_message p) (decode_messages n (parts 3 (entries p)))) true)
    (messages_good (decode_messages n (parts 3 (entries p)))) (messages_good (decode_messages (suc n) ps)))

-- where a level is left, the test of the trees; where none is, nothing is tested
pub trees_left : (left : ℕ) (ps : List (List ℕ)) → (left ≡ 0 → ⊥) → all (tree_good (left - 1)) ps ≡ messages_good (decode_messages left ps)
trees_left zero ps h = absurd (h refl)
trees_left (suc n) ps h = let e : suc n - 1 ≡ n = omega arith in ap (λ (m : ℕ). all (tree_good m) ps) e ∙ trees_are n ps

pub trees_none : (left : ℕ) (ps : List (List ℕ)) → left ≡ 0 → true ≡ messages_good (decode_messages left ps)
unfolding messages_good decode_messages
trees_none left ps e = rw e

pub ruleset trees = (trees_left, trees_none)

pub file_is : (s : List ℕ)
    → file_good (decode_file s)
    ≡ (package_good (file_header (decode_file s)).package_name
    && (syntax_good (file_header (decode_file s)).syntax && (messages_good (decode_messages 16 (parts 4 (entries s))) && all enum_part_good (parts 5 (entries s)))))
unfolding file_good decode_file enum_part_good
file_is s =
    ap (λ (x : Bool). package_good (file_header (decode_file s)).package_name && x)
    (ap (λ (x : Bool). syntax_good (file_header (decode_file s)).syntax && x)
    (ap (λ (u : Bool). messages_good (decode_messages 16 (parts 4 (entries s))) && u) (all_map enum_good decode_enum (parts 5 (entries s)))))

-- the first file at fault: as many files stand before it as pass
passed : (p : List ℕ → Bool) (xs : List (List ℕ)) → prefix_len p xs ≡ first_failing p xs
unfolding first_failing choose
passed p [] = refl
passed p (x ∷ xs) = go (p x) (passed p xs)
  where
    go : (t : Bool) {i j : ℕ} → i ≡ j → cond t (1 + i) 0 ≡ choose t (1 + j) 0
    go true e = ap (λ (n : ℕ). 1 + n) e
    go false e = refl

pub first_is : (s : List ℕ) → length (take (prefix_len file_part_good (parts 1 (entries s))) (parts 1 (entries s))) ≡ first_failing file_good (decode_set s)
unfolding decode_set
first_is s =
    let ps = parts 1 (entries s) in
    length-prefix_len file_part_good ps ∙ passed file_part_good ps ∙ sym (first_map file_good decode_file ps)
