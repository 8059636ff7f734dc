-- An enum by its part: the values that are kept, and its full name where that has room. Assumes nothing.
use Prim.Native.Nat.{ℕ}
use mathlib.Core.Path.{◌≡◌, refl, sym, ap, ap₂, ◌∙◌}
use mathlib.Core.Bool.{Bool, true, false, not, ◌&&◌}
use mathlib.Core.List.{List, [], ◌∷◌, map}
use Rattle.std.specs.Prelude.{Option, Some, None}
use Rattle.base.specs.Choose.{choose}
use Rattle.writer.specs.declared.text.Text.{Text as Buffered}
use Rattle.writer.specs.Draft.{Draft, draft, Filled}
use Rattle.writer.specs.Writing.{◌▻◌, draft_of}
use Rattle.writer.proofs.TextLaws.{put-nothing, put-append}
use Rattle.descriptor.specs.Descriptor.{Bytes, ValueDescriptor, EnumDescriptor}
use Rattle.descriptor.specs.Decode.{decode_enum}
use Rattle.options.specs.Settings.{Setting}
use Rattle.extern_paths.specs.ExternPaths.{taken}
use Rattle.name_rules.specs.Accessors.{text}
use Rattle.name_rules.specs.FullNames.{◌·◌}
use Rattle.joined.specs.Joined.{fits}
use Rattle.code_generator.specs.Piece.{Text, flat}
use Rattle.code_generator.specs.Writing.{continued, ◌⊳◌}
use Rattle.code_generator.proofs.WritingLaws.{filled}
use Rattle.code_generator.specs.Enums.{build_enum_value_mappings}
use Rattle.code_generator.specs.Refusals.{overlap}
use Rattle.enum_values.specs.Kept.{no_values, noted, values_in, marked_in}
use Rattle.enum_values.specs.declared.Kept.{Kept}
use Rattle.enum_values.proofs.KeptLaws.{kept_values}
use Rattle.enum_text.specs.EnumText.{first_values, written_text, enum_tree, enum_text, enum_texts}
use Rattle.enum_text.specs.Overlap.{variant_name, has_room, names, asked, enum_meets}

pub kept_in : (s : List ℕ) (x : Kept) → x ≡ noted no_values (values_in s) → marked_in x.marks s ≡ build_enum_value_mappings (first_values (decode_enum s))
unfolding decode_enum
kept_in s x e = kept_values x (values_in s) e

-- ---- a name that may be missing
abbrev value_or : Option Bytes → Bytes → Bytes
value_or (Some x) y = x
value_or None y = y

abbrev is_there : Option Bytes → Bool
is_there (Some x) = true
is_there None = false

pub there : (t : Bool) (x y : Bytes) → Some x ≡ choose t (Some y) None → t ≡ true
unfolding choose
there true x y e = refl
there false x y e = sym (ap is_there e)

pub same_name : (t : Bool) (x y : Bytes) → Some x ≡ choose t (Some y) None → x ≡ y
unfolding choose
same_name true x y e = ap (λ (o : Option Bytes). value_or o y) e
same_name false x y e = ap (λ (o : Option Bytes). value_or o y) e

pub missing : (t : Bool) (y : Bytes) → None ≡ choose t (Some y) None → t ≡ false
unfolding choose
missing true y e = sym (ap is_there e)
missing false y e = refl

-- what is asked of a value's name
pub asked_is : (rs : List Setting) (enum : Bytes) (v : ValueDescriptor) (q : Bytes → Bool) {o : Option Bytes} {r : Bool} → o ≡ choose (has_room rs enum v) (Some (variant_name rs enum v)) None → (o ≡ None → r ≡ false) → ((x : Bytes) → o ≡ Some x → r ≡ q x) → r ≡ asked rs enum q v
unfolding asked choose
asked_is rs enum v q {o} {r} e none some = go (has_room rs enum v) e
  where
    go : (t : Bool) → o ≡ choose t (Some (variant_name rs enum v)) None → r ≡ (t && q (variant_name rs enum v))
    go true e = some _ e
    go false e = none e

-- ---- the full name
module _ (rs : List Setting) (scope : Bytes) (e : EnumDescriptor) (own : Bytes) (is : own ≡ text e.name) where
  named : {o : Option Bytes} → o ≡ choose (fits scope own) (Some (scope · own)) None → o ≡ choose (fits scope (text e.name)) (Some (scope · text e.name)) None
  named h = h ∙ ap (λ (s : Bytes). choose (fits scope s) (Some (scope · s)) None) is

  module _ (h : None ≡ choose (fits scope own) (Some (scope · own)) None) where
    no_fit : fits scope (text e.name) ≡ false
    no_fit = missing (fits scope (text e.name)) (scope · text e.name) (named h)

    pub tree_unfit : (t : Buffered) (d : ℕ) → t ≡ t ⊳ enum_tree rs d scope e
    unfolding enum_tree
    tree_unfit t d = rw no_fit refl

    pub meets_unfit : false ≡ enum_meets rs scope e
    unfolding enum_meets choose
    meets_unfit = rw no_fit refl

  module _ (full : Bytes) (h : Some full ≡ choose (fits scope own) (Some (scope · own)) None) (s : Bytes) (es : s ≡ full) (r : Bool) (answer : r ≡ taken rs s) where
    fit : fits scope (text e.name) ≡ true
    fit = there (fits scope (text e.name)) full (scope · text e.name) (named h)

    path : full ≡ scope · text e.name
    path = same_name (fits scope (text e.name)) full (scope · text e.name) (named h)

    is_taken : taken rs (scope · text e.name) ≡ r
    is_taken = sym (answer ∙ ap (taken rs) (es ∙ path))

    pub tree_taken : r ≡ true → (t : Buffered) (d : ℕ) → t ≡ t ⊳ enum_tree rs d scope e
    unfolding enum_tree
    tree_taken q t d = rw (fit, is_taken, q) refl

    pub tree_there : r ≡ false → (t u : Buffered) (d : ℕ) (s' : Bytes) → s' ≡ full → u ≡ t ⊳ written_text rs d s' own (build_enum_value_mappings (first_values e)) → u ≡ t ⊳ enum_tree rs d scope e
    unfolding enum_tree
    tree_there q t u d s' es' w =
        rw (fit, is_taken, q)
        (w ∙ ap₂ (λ (x y : Bytes). t ⊳ written_text rs d x y (build_enum_value_mappings (first_values e))) (es' ∙ path) is)

    -- of the values that are kept
    abbrev meet : Bool
    meet = overlap (names rs own (build_enum_value_mappings (first_values e)))

    meets_fit : {u : Bool} → u ≡ (not (taken rs full) && meet) → u ≡ enum_meets rs scope e
    unfolding enum_meets choose
    meets_fit m = rw (fit, ← path) (m ∙ ap (λ (n : Bytes). not (taken rs full) && overlap (names rs n (build_enum_value_mappings (first_values e)))) is)

    is_free : {u : Bool} → not r ≡ u → (not (taken rs full) && meet) ≡ (u && meet)
    is_free q = ap (λ (t : Bool). t && meet) (ap not (sym (answer ∙ ap (taken rs) es)) ∙ q)

    pub meets_there : not r ≡ true → {u : Bool} → u ≡ meet → u ≡ enum_meets rs scope e
    meets_there q m = meets_fit (m ∙ sym (is_free q))

    pub meets_taken : not r ≡ false → not r ≡ enum_meets rs scope e
    meets_taken q = meets_fit (q ∙ sym (is_free q))

-- ---- a text that was lent a buffer
pub filled_from : {old t' : List ℕ} (x : Text) (u v : Buffered) → t' ≡ u.buffer.now → u ≡ v ⊳ x → draft_of v ≡ draft old 0 → Filled old (flat x) t' u.length
filled_from x u v k e s = filled x (record { is = ap (λ (l : List ℕ). draft l u.length) k ∙ ap draft_of e ∙ ap (λ (d : Draft). continued d x) s })

-- ---- one enum of a part after the other
module _ (rs : List Setting) (d : ℕ) (scope : Bytes) (t : Buffered) where
  pub enums_more : (u v : Buffered) (p : Bytes) (ps qs : List Bytes) → qs ≡ p ∷ ps → u ≡ t ▻ enum_text rs d scope (decode_enum p) → t ▻ enum_texts rs d scope (map decode_enum qs) ≡ v → u ▻ enum_texts rs d scope (map decode_enum ps) ≡ v
  unfolding enum_texts
  enums_more u v p ps qs e w h =
      ap (λ (x : Buffered). x ▻ enum_texts rs d scope (map decode_enum ps)) w
      ∙ put-append t (enum_text rs d scope (decode_enum p)) (enum_texts rs d scope (map decode_enum ps))
      ∙ ap (λ (xs : List Bytes). t ▻ enum_texts rs d scope (map decode_enum xs)) (sym e)
      ∙ h

  pub enums_none : (v : Buffered) (qs : List Bytes) → qs ≡ [] → t ▻ enum_texts rs d scope (map decode_enum qs) ≡ v → t ≡ v
  unfolding enum_texts
  enums_none v qs e h = sym (put-nothing t) ∙ ap (λ (xs : List Bytes). t ▻ enum_texts rs d scope (map decode_enum xs)) (sym e) ∙ h
