-- A file's rows, and the loop of `declare_set`: what holds before each file. Assumes nothing.
use mathlib.Core.Path.{◌≡◌, refl, sym, ap, ◌∙◌}
use mathlib.Core.Bool.{Bool, true, false}
use mathlib.Core.List.{List, [], ◌∷◌}
use Prim.Native.Nat.{ℕ, ◌+◌, ◌-◌}
use lib.ListN.{length, set}
use Rattle.base.specs.Choose.{choose}
use Rattle.std.specs.Prelude.{Option, None, Some}
use Rattle.declarations.specs.Rows.{State, state, Became, has_room, places, package_of, package_row, declare_enums, declare_messages, declare_members, declare_file, declare_files, declared}
use Rattle.declarations.specs.declared.Kind.TheVariants.{Package}
use Rattle.declarations.specs.declared.places.Place.{Place}
use Rattle.declarations.specs.declared.Declaration.{Declaration as Row}
use Rattle.declarations.specs.declared.counts.Count.{Count}
use Rattle.declarations.proofs.LengthLaws.{file_length}

module _ (bytes : List ℕ) (file : ℕ) (p : Place) (t : List Row) (c : Count) where
  pub members_are : (up : ℕ) (u w : List Row) (own all : Count) → Became (declare_messages bytes file 16 up (places bytes 4 p) (state t c)) u own
      → Became (declare_enums bytes file up (places bytes 5 p) (state u own)) w all → Became (declare_members bytes file up p (state t c)) w all
  unfolding declare_members
  members_are up u w own all a b = record { is = b.is ∙ ap (declare_enums bytes file up (places bytes 5 p)) a.is; fewer = b.fewer }

  module _ (v : Option Place) (v_is : v ≡ package_of bytes p) where
    pub no_package : v ≡ None → (w : List Row) (all : Count) → Became (declare_members bytes file 0 p (state t c)) w all → Became (declare_file bytes file p (state t c)) w all
    unfolding declare_file choose
    no_package h w all b = record { is = rw (← v_is, h) b.is; fewer = b.fewer }

    module _ (q : Place) (h : v ≡ Some q) (r : Bool) (r_is : r ≡ has_room t c.rows) where
      pub package_full : r ≡ false → Became (declare_file bytes file p (state t c)) t c
      unfolding declare_file choose
      package_full e =
          let y : has_room t c.rows ≡ false = sym r_is ∙ e in
          record { is = rw (← v_is, h, y); fewer = c.fewer }

      pub package_put : r ≡ true → (len : ℕ) → len ≡ q.end - q.start → (d : Count) → d.rows ≡ c.rows + 1 → d.messages ≡ c.messages → (w : List Row) (all : Count)
          → Became (declare_members bytes file d.rows p (state (set t c.rows (record { kind = Package; name = q.start; len = len; up = 0; file = file; start = p.start; end = p.end })) d)) w all
          → Became (declare_file bytes file p (state t c)) w all
      unfolding declare_file choose package_row
      package_put e len len_is d rows messages w all b =
          let y : has_room t c.rows ≡ true = sym r_is ∙ e in
          record { is = rw (← v_is, h, y, ← len_is) (rw (rows, messages) at b.is); fewer = b.fewer }

module _ (bytes : List ℕ) (all : State) where
  pub record Going (size file : ℕ) (ps : List Place) (t : List Row) (c : Count) : Type 0 where
    pub long : length t ≡ size
    pub left : declare_files bytes file ps (state t c) ≡ all

  module _ (size file : ℕ) (ps : List Place) (t : List Row) (c : Count) (going : Going size file ps t c) where
    pub going_end : ps ≡ [] → Became all t c
    unfolding declare_files
    going_end e = record { is = sym (ap (λ (ps : List Place). declare_files bytes file ps (state t c)) e) ∙ going.left; fewer = c.fewer }

    pub going_more : (p : Place) (qs : List Place) → ps ≡ p ∷ qs → (w : List Row) (next : Count) → Became (declare_file bytes file p (state t c)) w next → Going size (file + 1) qs w next
    unfolding declare_files
    going_more p qs e w next inner =
        record {
          long = ap (λ (y : State). length y.table) inner.is ∙ file_length bytes file p (state t c) ∙ going.long;
          left = rw inner.is (sym (ap (λ (ps : List Place). declare_files bytes file ps (state t c)) e) ∙ going.left);
        }

pub going_start : (bytes : List ℕ) (t : List Row) (c : Count) → c.rows ≡ 0 → c.messages ≡ 0
    → Going bytes (declared bytes t) (length t) 0 (places bytes 1 (record { start = 0; end = length bytes })) t c
unfolding declared
going_start bytes t c rows messages = record { long = refl; left = rw (rows, messages) }
