-- A message that is no map entry and that no extern path takes is written, with its enums and oneofs. Assumes nothing.
use Rattle.std.specs.Prelude.{◌≡◌, Bool, ◌||◌, not}
use Rattle.std.proofs.Math.Path.{refl, subst}
use Rattle.std.proofs.Common.{ap, sym, arith, length-append}
use Rattle.std.proofs.Math.Bool.{true, false}
use Rattle.std.proofs.Math.Logic.{⊎_elim}
use mathlib.Core.List.Memᴰ
use mathlib.Core.List.{List, [], ◌∷◌, ◌++◌, map, Memᴰ}
use Rattle.base.specs.Choose.{choose}
use Rattle.base.specs.Tests.{both_ways, or_left, or_right, not_implied, or_false}
use Rattle.base.specs.Lists.{is_empty}
use Rattle.descriptor.specs.Descriptor.{Bytes, Forest, done, node, EnumDescriptor, MessageDescriptor}
use Rattle.options.specs.Settings.{Setting}
use Rattle.extern_paths.specs.ExternPaths.{taken}
use Rattle.extern_paths.proofs.Taken.{taken_on}
use Rattle.name_rules.specs.Accessors.{text}
use Rattle.name_rules.specs.WellFormed.{EveryNode}
use Rattle.code_generator.specs.Oneofs.{OneofField, oneof_fields}
use Rattle.code_generator.specs.Generate.{has_nested_types, has_module}
use Rattle.paths_reach.specs.Dots.{scope_of}
use Rattle.paths_reach.specs.Written.{Named, type_named, oneof_named, enum_nameds, node_nameds, message_nameds}
use Rattle.paths_reach.specs.Nodes.{Node, names_of, nodes}
use Rattle.paths_reach.specs.Homes.{Within}

-- map entries hold nothing nested
abbrev pub Childless : Forest MessageDescriptor → Type 0
Childless ms = EveryNode (λ m nested. m.map_entry ≡ true → nested ≡ done) ms

module _ (rs : List Setting) where
  -- what stands in a message that is taken is taken
  pub taken_inside : (x : Bytes) (k : List Bytes) (y : Bytes) → taken rs (scope_of (x ∷ k)) ≡ true → taken rs (scope_of (y ∷ x ∷ k)) ≡ true
  taken_inside x k y = taken_on rs (scope_of (x ∷ k)) y (λ e. let n = length-append (scope_of k) (46 ∷ x) in absurd (omega arith))

  pub taken_nodes : (x : Bytes) (k : List Bytes) (ms : Forest MessageDescriptor) → taken rs (scope_of (x ∷ k)) ≡ true → (n : Node) → Memᴰ n (nodes (x ∷ k) ms) → taken rs (scope_of (names_of n)) ≡ true
  unfolding nodes
  taken_nodes x k done t n i = absurd (Memᴰ.not-nil i)
  taken_nodes x k (node m nested following) t n i =
      let here = taken_inside x k (text m.name) t in
      ⊎_elim (λ e. subst (λ (z : Node). taken rs (scope_of (names_of z)) ≡ true) (sym e) here)
      (λ j. ⊎_elim (λ l. taken_nodes (text m.name) (x ∷ k) nested here n l) (λ l. taken_nodes x k following t n l) (Memᴰ.append_cases (nodes (text m.name ∷ x ∷ k) nested) j))
      (Memᴰ.cases_cons i)

-- a message around others is no map entry
pub no_entry_around : (m : MessageDescriptor) (nested : Forest MessageDescriptor) → (m.map_entry ≡ true → nested ≡ done) → (h : List Bytes) (n : Node) → Memᴰ n (nodes h nested) → m.map_entry ≡ false
unfolding nodes
no_entry_around m nested c h n i = go m.map_entry refl
  where
    go : (t : Bool) → m.map_entry ≡ t → t ≡ false
    go false e = refl
    go true e = absurd (Memᴰ.not-nil (subst (λ (l : Forest MessageDescriptor). Memᴰ n (nodes h l)) (c e) i))

nested_types : (h : List Bytes) (ms : Forest MessageDescriptor) → Childless ms → (n : Node) → Memᴰ n (nodes h ms) → n.message.map_entry ≡ false → has_nested_types ms ≡ true
unfolding nodes has_nested_types
nested_types h done c n i e = absurd (Memᴰ.not-nil i)
nested_types h (node m nested following) c n i e =
    ⊎_elim (λ q. or_left (has_nested_types following) (ap not (subst (λ (z : Node). z.message.map_entry ≡ false) q e)))
    (λ j. ⊎_elim (λ l. or_left (has_nested_types following) (ap not (no_entry_around m nested c.0 (text m.name ∷ h) n l))) (λ l. or_right (not m.map_entry) (nested_types h following c.1.1 n l e)) (Memᴰ.append_cases (nodes (text m.name ∷ h) nested) j))
    (Memᴰ.cases_cons i)

-- ---- what is written of a message
abbrev pub all_of_node : List Setting → Node → List Named
all_of_node rs n = node_nameds rs n.home n.message n.nested (message_nameds rs (names_of n) n.nested)

module _ (rs : List Setting) where
  chosen_out : {xs ys : List Named} (c : Bool) → c ≡ false → Within xs ys → Within xs (choose c [] ys)
  unfolding choose
  chosen_out false e w = w
  chosen_out true e w = both_ways refl e

  chosen_in : {xs ys : List Named} (c : Bool) → c ≡ true → Within xs ys → Within xs (choose c ys [])
  unfolding choose
  chosen_in true e w = w
  chosen_in false e w = both_ways e refl

  pub node_there : (h : List Bytes) (ms : Forest MessageDescriptor) → Childless ms → (n : Node) → Memᴰ n (nodes h ms) → n.message.map_entry ≡ false → taken rs (scope_of (names_of n)) ≡ false
      → Within (all_of_node rs n) (message_nameds rs h ms)
  unfolding nodes message_nameds
  node_there h done c n i e t = absurd (Memᴰ.not-nil i)
  node_there h (node m nested following) c n i e t =
      let full = text m.name ∷ h in
      let self : Node = record { home = h; message = m; nested = nested } in
      let left_out = m.map_entry || taken rs (scope_of full) in
      let here = choose left_out [] (all_of_node rs self) in
      ⊎_elim
      (λ q y k.
      Memᴰ.append_left (message_nameds rs h following)
      (chosen_out left_out (or_false (subst (λ (z : Node). z.message.map_entry ≡ false) q e) (subst (λ (z : Node). taken rs (scope_of (names_of z)) ≡ false) q t)) (λ z l. l) y
      (subst (λ (z : Node). Memᴰ y (all_of_node rs z)) q k)))
      (λ j.
      ⊎_elim
      (λ l y k.
      let deep = node_there full nested c.1.0 n l e t y k in
      let rest = enum_nameds rs full m.enums ++ map (oneof_named full) (oneof_fields m nested) in
      let has : has_module m nested ≡ true = or_right (not (is_empty m.enums)) (or_left (not (is_empty (oneof_fields m nested))) (nested_types full nested c.1.0 n l e)) in
      Memᴰ.append_left (message_nameds rs h following)
      (chosen_out left_out (or_false (no_entry_around m nested c.0 full n l) (not_implied (λ q. taken_nodes rs (text m.name) h nested q n l) t)) (λ z p. p) y
      (Memᴰ.tail (chosen_in (has_module m nested) has (λ z p. p) y (Memᴰ.tail (Memᴰ.append_left rest deep))))))
      (λ l y k. Memᴰ.append_right here (node_there h following c.1.1 n l e t y k))
      (Memᴰ.append_cases (nodes full nested) j))
      (Memᴰ.cases_cons i)

  -- ---- its struct, enums and oneofs
  pub enum_there : (h : List Bytes) (es : List EnumDescriptor) (e : EnumDescriptor) → Memᴰ e es → taken rs (scope_of (text e.name ∷ h)) ≡ false
      → Memᴰ (type_named h (text e.name)) (enum_nameds rs h es)
  enum_there h [] e i t = absurd (Memᴰ.not-nil i)
  enum_there h (x ∷ es) e i t =
      ⊎_elim
      (λ q. Memᴰ.append_left (enum_nameds rs h es)
      (subst (λ (z : EnumDescriptor). Memᴰ (type_named h (text z.name)) (choose (taken rs (scope_of (text x.name ∷ h))) [] (type_named h (text x.name) ∷ []))) (sym q)
      (chosen_out (taken rs (scope_of (text x.name ∷ h))) (subst (λ (z : EnumDescriptor). taken rs (scope_of (text z.name ∷ h)) ≡ false) q t) (λ z p. p) (type_named h (text x.name)) (Memᴰ.head refl))))
      (λ j. Memᴰ.append_right (choose (taken rs (scope_of (text x.name ∷ h))) [] (type_named h (text x.name) ∷ [])) (enum_there h es e j t))
      (Memᴰ.cases_cons i)

  some_there : {A : Type 0} (xs : List A) (x : A) → Memᴰ x xs → not (is_empty xs) ≡ true
  some_there [] x i = absurd (Memᴰ.not-nil i)
  some_there (y ∷ xs) x i = refl

  module _ (n : Node) where
    pub struct_in_node : Memᴰ (type_named n.home (text n.message.name)) (all_of_node rs n)
    struct_in_node = Memᴰ.head refl

    pub enum_in_node : (e : EnumDescriptor) → Memᴰ e n.message.enums → taken rs (scope_of (text e.name ∷ names_of n)) ≡ false
        → Memᴰ (type_named (names_of n) (text e.name)) (all_of_node rs n)
    enum_in_node e i t =
        let inner = message_nameds rs (names_of n) n.nested in
        let oneofs = map (oneof_named (names_of n)) (oneof_fields n.message n.nested) in
        let has : has_module n.message n.nested ≡ true = or_left (has_nested_types n.nested || not (is_empty (oneof_fields n.message n.nested))) (some_there n.message.enums e i) in
        Memᴰ.tail
        (chosen_in (has_module n.message n.nested) has (λ z p. p) (type_named (names_of n) (text e.name))
        (Memᴰ.tail (Memᴰ.append_right inner (Memᴰ.append_left oneofs (enum_there (names_of n) n.message.enums e i t)))))

    pub oneof_in_node : (x : OneofField) → Memᴰ x (oneof_fields n.message n.nested) → Memᴰ (oneof_named (names_of n) x) (all_of_node rs n)
    oneof_in_node x i =
        let inner = message_nameds rs (names_of n) n.nested in
        let has : has_module n.message n.nested ≡ true = or_right (not (is_empty n.message.enums)) (or_right (has_nested_types n.nested) (some_there (oneof_fields n.message n.nested) x i)) in
        Memᴰ.tail
        (chosen_in (has_module n.message n.nested) has (λ z p. p) (oneof_named (names_of n) x)
        (Memᴰ.tail (Memᴰ.append_right inner (Memᴰ.append_right (enum_nameds rs (names_of n) n.message.enums) (Memᴰ.map (oneof_named (names_of n)) i)))))
