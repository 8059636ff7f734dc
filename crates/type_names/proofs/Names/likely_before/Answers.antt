use Prim.Native.Nat.{ℕ, ◌%◌}
use mathlib.Core.Path.{sym, ap, ◌∙◌}
use Rattle.type_names.proofs.RowSumLaws.{seeks_some, sum_row}
use Rattle.type_names.proofs.Names.likely_before.Goals as goal

pub returns : goal.returns
returns c =
    let h = c.in-Some.ensures in
    record {
      seeks = seeks_some _ _ _ _ _ c.like_before.ensures.upper_bound c.like_before.ensures.others;
      sum = sym (sum_row _ _ _ c.args.self.now.summed _ h.lookup.3.0) ∙ ap (λ (x : ℕ). x % 4294967296) (sym (h.lookup.3.1 0)) ∙ sym c.sum_in-sum.ensures.value;
    }
