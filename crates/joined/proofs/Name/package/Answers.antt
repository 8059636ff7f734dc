use Rattle.std.proofs.Common.{rules, refl, ap, take, ◌∙◌, ◌≡◌, [], Option, Some, None, Bor}
use Rattle.descriptor.specs.Descriptor.{Bytes}
use Rattle.name_rules.specs.FullNames.{◌·◌}
use Rattle.joined.specs.Joined.{max_path, ◌⊙◌}
use Rattle.joined.proofs.ShownLaws.{with_package, without_package}
use Rattle.joined.proofs.Name.package.Goals as goal

told : (o : Option (Bor Bytes)) (r scope : Bytes) → (o ≡ None → [] ≡ scope) → ((x : Bor Bytes) → o ≡ Some x → [] · x.now ≡ scope)
    → (o ≡ None → r ≡ []) → ((x : Bor Bytes) → o ≡ Some x → r ≡ [] ⊙ x.now) → r ≡ take max_path scope
unfolding ◌⊙◌
told None r scope none some f g = f refl ∙ ap (take max_path) (none refl)
told (Some x) r scope none some f g = g x refl ∙ ap (take max_path) (some x refl)

pub returns : goal.returns
returns c =
    told c.header.inside.package _ _ (without_package _ _ _ _ c.header.view_is c.new-header.ensures) (with_package _ _ _ _ c.header.view_is c.new-header.ensures)
    (λ e. let h = rw e at c.map_or_else.ensures in search rules) (λ x e. let h = rw e at c.map_or_else.ensures in search rules)
