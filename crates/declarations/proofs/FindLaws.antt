-- What `find` over the records of a message finds, and leaves. Assumes nothing.
use mathlib.Core.Path.{◌≡◌, refl, sym, ap, ◌∙◌}
use mathlib.Core.Bool.{Bool, false}
use mathlib.Core.List.{List, [], ◌∷◌}
use Prim.Native.Nat.{ℕ, ◌+◌}
use denote.Param.Members.{Mut}
use denote.Ref.{Bor}
use lib.ListN.{length}
use lib.Dec.{eqb}
use Rattle.std.specs.Prelude.{Option, None, Some, Result, Ok, Err, MatchOption}
use Rattle.std.specs.Fn.{CalledAt}
use Rattle.std.specs.Iterator.{YieldsFirstBy, FindsItem}
use Rattle.base.specs.Choose.{choose}
use Rattle.base.proofs.FindLaws as base
use Rattle.wire.specs.Value.{value_seen}
use Rattle.wire.specs.Message.{Entry, record_seen, seen}
use Rattle.wire.specs.declared.records.record.Fault.{Fault}
use Rattle.wire.specs.declared.records.record.Record.{Record}
use Rattle.descriptor.specs.Decode.{bytes_in}
use Rattle.declarations.specs.Places.{place_in, places_in}
use Rattle.declarations.specs.declared.places.Place.{Place}

abbrev Left : Type 0
Left = List (Result Entry Fault)

abbrev Read : Type 0
Read = Result Record Fault

-- can a record be read, and has it the field number?
abbrev pub is_numbered : ℕ → Read → Bool
is_numbered number (Ok r) = eqb r.number number
is_numbered number (Err f) = false

-- where its message lies
unfoldable place_read : Read → Place
place_read (Ok r) = place_in (record_seen r)
place_read (Err f) = record { start = 0; end = 0 }

abbrev Steps : Left → Option Read → Left → Type 0
Steps = YieldsFirstBy seen (λ (rest : Left). rest)

module _ (number : ℕ) where
  turn : (x : Read) (rs : Left) → places_in number (seen x ∷ rs) ≡ choose (is_numbered number x) (place_read x ∷ places_in number rs) (places_in number rs)
  unfolding places_in place_read choose
  turn (Ok r) rs = refl
  turn (Err f) rs = refl

  none_left : (s t : Left) → Steps s None t → (places_in number s ≡ []) × (places_in number t ≡ [])
  unfolding places_in
  none_left s t e = (ap (places_in number) e.0, ap (places_in number) e.1)

  abbrev pub Found : Left → Option Read → Left → Type 0
  Found s r u = MatchOption r ((places_in number s ≡ []) × (places_in number u ≡ []))
      (λ x. (e : Record) (bytes : List ℕ) → x ≡ Ok e → bytes ≡ bytes_in (value_seen e.value) → places_in number s ≡ record { start = e.start; end = e.start + length bytes } ∷ places_in number u)

  shown : (s u : Left) (r : Option Read) → MatchOption r ((places_in number s ≡ []) × (places_in number u ≡ [])) (λ x. places_in number s ≡ place_read x ∷ places_in number u) → Found s r u
  unfolding place_read
  shown s u None h = h
  shown s u (Some x) h =
      λ e bytes is bytes_is.
      h ∙ ap (λ (v : Read). place_read v ∷ places_in number u) is
      ∙ ap (λ (b : List ℕ). let place : Place = record { start = e.start; end = e.start + length b } in place ∷ places_in number u) (sym bytes_is)

  pub found : {F : Type 0} (g : Mut F (Bor Read × Unit {0}) Bool) (f : F) → ((x : Read) (r : Bool) (q : F) → CalledAt g f x r q → (q ≡ f) × (r ≡ is_numbered number x)) → (s u : Left) (r : Option Read) → FindsItem Steps g s f r u → Found s r u
  found g f called s u r ran =
      shown s u r (base.found Steps (places_in number) f none_left g (is_numbered number) place_read called (λ s t x e. ap (places_in number) e ∙ turn x t) s u r ran _ refl)
