use Rattle.std.proofs.Common.{rules, refl, ◌∙◌, ◌≡◌, Bool, false, List, length, ℕ, ◌+◌, ◌≤◌, ◌<◌, eqb, Option, Some, None, Bor}
use Rattle.std.specs.Option.{MatchOption}
use Rattle.std.specs.List.{HoldsAt}
use Rattle.declarations.specs.Rows.{kind_number}
use Rattle.declarations.specs.declared.Declaration.{Declaration as Row}
use Rattle.declarations.specs.declared.Kind.{Kind}
use Rattle.declarations.specs.declared.Kind.TheVariants.{Message}
use Rattle.map_entries.specs.Named.{parent_kind, entry_row_named}
use Rattle.map_entries.specs.Numbers.{number_of, numbers}
use Rattle.map_entries.specs.declared.Namers.{Namers}
use Rattle.map_entries.specs.declared.Namers.TheVariants.{Nobody}
use Rattle.map_entries.proofs.EntryRowLaws.{at_top, row_said, row_past}
use Rattle.map_entries.proofs.NumberedLaws.{said_at, said_past}
use Rattle.map_entries.proofs.is_mapped.Goals as goal

module _ (t : List Row) (who : List Namers) (i : ℕ) (k : Kind) (k_is : kind_number k ≡ parent_kind t i) (number : ℕ) (e : k ≡ Message number) where
  row_told : (o : Option (Bor Namers)) (b : Bool) → MatchOption o (length who ≤ i) (λ x. (i < length who) × HoldsAt (λ y. x.now ≡ y) who i) → (o ≡ None → b ≡ false)
      → ((x : Bor Namers) → o ≡ Some x → b ≡ eqb (number_of x.now) (number + 2)) → b ≡ entry_row_named t (numbers who) i
  row_told None b past f g = f refl ∙ row_past t (numbers who) i k k_is number e (said_past who i past)
  row_told (Some x) b at f g = g x refl ∙ row_said t (numbers who) i k k_is number e _ (said_at who i x.now at.0 (at.1 Nobody))

pub returns-in-Package : goal.returns-in-Package
returns-in-Package c = at_top _ _ _ _ c.parent_of.ensures c.in-Package.is

pub returns-in-Message : goal.returns-in-Message
returns-in-Message c =
    row_told _ _ _ _ c.parent_of.ensures _ c.in-Message.is c.get.result c.is_some_and.result c.get.ensures.lookup.3
    (λ e. rw e at c.is_some_and.ensures) (λ x e. let h = rw e at c.is_some_and.ensures in search rules)
