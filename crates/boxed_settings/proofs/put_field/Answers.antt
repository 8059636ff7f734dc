use Rattle.std.proofs.Common.{ap, ◌∙◌, List, ℕ}
use Rattle.writer.specs.Writing.{◌▻◌}
use Rattle.boxed_settings.specs.Flags.{field_flag}
use Rattle.joined.specs.Joined.{◌⊙◌}
use Rattle.boxed_settings.proofs.FlagLaws.{flag_is}
use Rattle.boxed_settings.proofs.put_field.Goals as goal

pub returns : goal.returns
unfolding field_flag
returns c =
    c.put_byte.ensures
    ∙ ap (λ (x : List ℕ). c.args.text.now ▻ x) (flag_is _ _ _ _ _ _ c.get_first.ensures c.is_some-boxed.ensures c.from.ensures (c.as_bytes.ensures ∙ c.new-path.ensures ∙ ap (λ (x : List ℕ). c.args.full.now ⊙ x) c.name_of.ensures))
