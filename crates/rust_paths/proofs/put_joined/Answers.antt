use Rattle.std.proofs.Common.{rules, arith, ap, ◌∙◌, List, ℕ, ◌-◌, length}
use Rattle.base.specs.Bytes.{b}
use Rattle.writer.specs.Writing.{◌▻◌}
use Rattle.writer.proofs.TextLaws.{appended}
use Rattle.rust_paths.proofs.PartLaws.{path_joined, rest_led}
use Rattle.rust_paths.proofs.CutLaws.{cut_is, cut_split, two_bytes}
use Rattle.rust_paths.proofs.put_joined.Goals as goal

pub slice_bounds-put_path-end : goal.slice_bounds-put_path-end
slice_bounds-put_path-end c = let k = cut_is _ _ c.cut_at-end.ensures in search rules

pub overflow_sub-seen : goal.overflow_sub-seen
overflow_sub-seen c = let k = cut_is _ _ c.cut_at-end.ensures in search rules

pub overflow_sub-from : goal.overflow_sub-from
overflow_sub-from c = let k = cut_is _ _ c.cut_at-end.ensures in search rules

pub slice_bounds-new-count : goal.slice_bounds-new-count
slice_bounds-new-count c = let k = two_bytes _ _ _ c.cut_at-end.ensures c.requires (λ e. grind arith) in omega arith

pub slice_bounds-new-start : goal.slice_bounds-new-start
slice_bounds-new-start c = let k = two_bytes _ _ _ c.cut_at-end.ensures c.requires (λ e. grind arith) in search rules

pub returns : goal.returns
returns c =
    appended _ _ _ _ _ c.put_path-2.ensures (rest_led _ _ _ (b "::") c.args.tail.now (2 - (length c.args.path.now - c.cut_at-end.result)) _ c.new.ensures.parts c.put_parts.ensures)
    ∙ ap (λ (p : List ℕ). c.args.text.now ▻ p) (path_joined _ _ _ (cut_split _ _ _ c.cut_at-end.ensures c.requires (λ e. grind arith)))
