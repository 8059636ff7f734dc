use Rattle.std.proofs.Common.{◌≡◌, rules, true, ap, Ok}
use Rattle.base.specs.Choose.{choose}
use Rattle.ident.specs.Convert.{convertible, spellings}
use Rattle.ident.proofs.Sizes.{spellings_are}
use Rattle.ident.proofs.convert_name.Goals as goal

pub returns : goal.returns
unfolding spellings choose
returns c =
    let h : convertible c.args.name.now ≡ true = search rules in
    rw h (ap Ok (spellings_are _ _ _ _ _ h c.fill_snake-snakelen.ensures c.fill_upper_camel-camellen.ensures))
