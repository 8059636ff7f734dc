-- Flags written one behind the other, and one level of messages. Assumes nothing.
use Rattle.std.proofs.Common.{◌≡◌, refl, sym, ap, ◌∙◌, ℕ, zero, suc, ◌-◌, Bool, true, false, List, [], ◌∷◌, Option, Some, None, is_some, if◌then◌else◌}
use mir.Val.{bool_byte}
use native.Mathlib.Numerals.{sub-one}
use Rattle.base.specs.Choose.{choose}
use Rattle.writer.specs.declared.text.Text.{Text}
use Rattle.writer.specs.Writing.{◌▻◌}
use Rattle.writer.proofs.TextLaws.{put-nothing, put-append}
use Rattle.descriptor.specs.Descriptor.{Bytes}
use Rattle.options.specs.Settings.{Setting}
use Rattle.path.specs.PathMap.{get_first, number_of}
use Rattle.context.specs.Context.{has}
use Rattle.walks.specs.Walked.{walked}
use Rattle.boxed_settings.specs.Flags.{flag, stay, message_flags, messages_flags}

module _ (g : ℕ → Bytes → Bytes) (t : Text) where
  -- what is written for the first of the parts, and then for the others
  pub walk_on : (p : Bytes) (ps : List Bytes) (u : Text) → u ≡ t ▻ g 0 p → u ▻ walked g stay 0 ps ≡ t ▻ walked g stay 0 (p ∷ ps)
  unfolding walked
  walk_on p ps u e = ap (λ (v : Text). v ▻ walked g stay 0 ps) e ∙ put-append t (g 0 p) (walked g stay 0 ps)

  pub walk_end : t ▻ walked g stay 0 [] ≡ t
  unfolding walked
  walk_end = put-nothing t

pub flags_are : (left : ℕ) (rs : List Setting) (scope : Bytes) (ps : List Bytes) → (left ≡ 0 → ⊥)
    → walked (message_flags (messages_flags (left - 1) rs) rs scope) stay 0 ps ≡ messages_flags left rs scope ps
unfolding messages_flags
flags_are zero rs scope ps ne = absurd (ne refl)
flags_are (suc k) rs scope ps ne = rw sub-one

-- a byte for whether a row was found
pub flag_is : (rs : List Setting) (x y : Bytes) (o : Option ℕ) (t : Bool) (n : ℕ) → o ≡ number_of (get_first 4 x rs) → t ≡ is_some o → n ≡ bool_byte t → x ≡ y → n ∷ [] ≡ flag (has rs 4 y)
unfolding flag choose
flag_is rs x y o t n e f g h = rw (g, f, e, ← h) (go (get_first 4 x rs).found)
  where
    go : (u : Bool) → bool_byte (is_some (if u then Some (get_first 4 x rs).number else None)) ∷ [] ≡ choose u 1 0 ∷ []
    go true = refl
    go false = refl

pub flags_none : (t : Text) (left : ℕ) (rs : List Setting) (scope : Bytes) (ps : List Bytes) → left ≡ 0 → t ≡ t ▻ messages_flags left rs scope ps
unfolding messages_flags
flags_none t left rs scope ps e = rw e (sym (put-nothing t))

pub ruleset walks = (walk_on, walk_end)
