-- Names that are met again among an enum's values; and that within the limits it is refusal 8. Assumes nothing.
use Prim.Native.Nat.{ℕ, ◌+◌, ◌≤◌}
use mathlib.Core.Path.{◌≡◌, refl, sym, ap, ap₂, ◌∙◌}
use mathlib.Core.Bool.{Bool, true, false, ◌&&◌, ◌||◌}
use mathlib.Core.List.{List, [], ◌∷◌, map}
use lib.Dec.{leb}
use lib.ListN.{length, drop}
use lib.Seq.{take_all, drop-drop}
use borrow.Author.Tests.{leb-true}
use Rattle.std.specs.List.{list_any, enumerate_from}
use Rattle.base.specs.Bytes.{same}
use Rattle.base.specs.Choose.{choose}
use Rattle.base.specs.Lists.{all}
use Rattle.base.specs.Tests.{and_left, and_right}
use Rattle.descriptor.specs.Descriptor.{Bytes, ValueDescriptor, EnumDescriptor}
use Rattle.options.specs.Settings.{Setting}
use Rattle.path.specs.Forms.{among}
use Rattle.name_rules.specs.Accessors.{text}
use Rattle.name_rules.specs.FullNames.{◌·◌}
use Rattle.joined.specs.Joined.{fits}
use Rattle.code_generator.specs.Piece.{spelt}
use Rattle.code_generator.specs.Enums.{build_enum_value_mappings, generated_variant_name}
use Rattle.code_generator.specs.Refusals.{overlap, enum_overlaps}
use Rattle.enum_text.specs.EnumText.{values_fit, enum_fits}
use Rattle.enum_text.specs.Overlap.{variant_name, has_room, names, asked, enum_meets, meets_fully}
use Rattle.enum_text.proofs.EnumLaws.{all_kept}

module _ (rs : List Setting) (enum : Bytes) where
  pub among_any : (x : Bytes) (vs : List ValueDescriptor) → among x (names rs enum vs) ≡ list_any (asked rs enum (same x)) vs
  unfolding among names choose asked
  among_any x [] = refl
  among_any x (v ∷ vs) = go (has_room rs enum v) (among_any x vs)
    where
      go : (t : Bool) → among x (names rs enum vs) ≡ list_any (asked rs enum (same x)) vs → among x (choose t (variant_name rs enum v ∷ names rs enum vs) (names rs enum vs)) ≡ ((t && same x (variant_name rs enum v)) || list_any (asked rs enum (same x)) vs)
      go true e = ap (λ (u : Bool). same x (variant_name rs enum v) || u) e
      go false e = e

  overlap_more : (v : ValueDescriptor) (vs : List ValueDescriptor) → overlap (names rs enum (v ∷ vs)) ≡ (asked rs enum (λ (x : Bytes). among x (names rs enum vs)) v || overlap (names rs enum vs))
  unfolding overlap names choose asked
  overlap_more v vs = go (has_room rs enum v)
    where
      go : (t : Bool) → overlap (choose t (variant_name rs enum v ∷ names rs enum vs) (names rs enum vs)) ≡ ((t && among (variant_name rs enum v) (names rs enum vs)) || overlap (names rs enum vs))
      go true = refl
      go false = refl

  -- a value with its number: do those behind it have its name?
  abbrev pub again : List ValueDescriptor → ℕ × ValueDescriptor → Bool
  again values p = asked rs enum (λ (x : Bytes). list_any (asked rs enum (same x)) (drop (p.0 + 1) values)) p.1

  again_here : (values later : List ValueDescriptor) (v : ValueDescriptor) (k : ℕ) → later ≡ drop (k + 1) values → again values (k, v) ≡ asked rs enum (λ (x : Bytes). among x (names rs enum later)) v
  unfolding asked
  again_here values later v k e =
      ap (λ (t : Bool). has_room rs enum v && t)
      (ap (λ (vs : List ValueDescriptor). list_any (asked rs enum (same (variant_name rs enum v))) vs) (sym e) ∙ sym (among_any (variant_name rs enum v) later))

  again_from : (values rest : List ValueDescriptor) (k : ℕ) → rest ≡ drop k values → list_any (again values) (enumerate_from k rest) ≡ overlap (names rs enum rest)
  unfolding overlap names
  again_from values [] k e = refl
  again_from values (v ∷ later) k e =
      let behind : later ≡ drop (k + 1) values = ap (drop 1) e ∙ drop-drop 1 k values in
      ap₂ (λ (t u : Bool). t || u) (again_here values later v k behind) (again_from values later (k + 1) behind) ∙ sym (overlap_more v later)

  pub again_any : (values : List ValueDescriptor) → list_any (again values) (enumerate_from 0 values) ≡ overlap (names rs enum values)
  again_any values = again_from values values 0 refl

  all_names : (vs : List ValueDescriptor) → all (has_room rs enum) vs ≡ true → names rs enum vs ≡ map (λ (v : ValueDescriptor). spelt (generated_variant_name rs enum v)) vs
  unfolding all names variant_name choose
  all_names [] h = refl
  all_names (v ∷ vs) h =
      rw (and_left (has_room rs enum v) (all (has_room rs enum) vs) h)
      (ap (λ (l : List Bytes). spelt (generated_variant_name rs enum v) ∷ l) (all_names vs (and_right (has_room rs enum v) (all (has_room rs enum) vs) h)))

-- within the limits it is refusal 8
pub enum_meets_is : (rs : List Setting) (scope : Bytes) (e : EnumDescriptor) → meets_fully rs scope e ≡ true → enum_meets rs scope e ≡ enum_overlaps rs scope e
unfolding enum_fits meets_fully enum_meets enum_overlaps choose
enum_meets_is rs scope e h =
    let full : Bytes = scope · text e.name in
    let fit = and_left (enum_fits scope e) (all (has_room rs (text e.name)) e.values) h in
    let room = and_left (fits scope (text e.name)) (leb (length e.values) 256 && values_fit full e.values) fit in
    let rest = and_right (fits scope (text e.name)) (leb (length e.values) 256 && values_fit full e.values) fit in
    let few : length e.values ≤ 256 = leb-true (length e.values) 256 (and_left (leb (length e.values) 256) (values_fit full e.values) rest) in
    let short = all_kept (has_room rs (text e.name)) [] e.values (and_right (enum_fits scope e) (all (has_room rs (text e.name)) e.values) h) in
    rw (room, take_all 256 e.values few, all_names rs (text e.name) (build_enum_value_mappings e.values) short)
