use Rattle.std.proofs.Common.{arith, length-drop}
use Rattle.way.proofs.WayLaws.{some_name, way_down, few_skipped, some_left, way_up}
use Rattle.way.proofs.put_way.Goals as goal

pub put_downwards-requires : goal.put_downwards-requires
put_downwards-requires c = rw c.new.ensures.parts (some_name _)

pub returns-then-is_empty : goal.returns-then-is_empty
returns-then-is_empty c = way_down c.args.scope.now c.args.ident.now _ c.without_dot-names.ensures _ _ _ (grind arith) c.new.ensures.parts c.put_downwards.ensures

pub overflow_sub-modules : goal.overflow_sub-modules
overflow_sub-modules c = rw c.count_names-modules.ensures (some_name _)

pub overflow_sub-left : goal.overflow_sub-left
overflow_sub-left c =
    rw c.count_names.ensures
    (few_skipped c.args.scope.now c.args.ident.now _ c.without_dot-names.ensures _ _ _ _ 0 (λ e. grind arith) c.without_dot-above.ensures c.common.ensures c.count_names-modules.ensures c.min-skipped.ensures)

pub put_downwards-requires-2 : goal.put_downwards-requires-2
put_downwards-requires-2 c =
    let l = some_left c.args.scope.now c.args.ident.now _ c.without_dot-names.ensures _ _ _ _ 0 (λ e. grind arith) c.without_dot-above.ensures c.common.ensures c.count_names-modules.ensures c.min-skipped.ensures in
    rw (c.names_behind.ensures, length-drop) (omega arith)

pub returns : goal.returns
returns c =
    way_up c.args.scope.now c.args.ident.now _ c.without_dot-names.ensures _ _ _ _ _ (λ e. grind arith) c.without_dot-above.ensures c.common.ensures c.count_names-modules.ensures c.min-skipped.ensures
    _ _ _ _ c.count_names.ensures c.put_supers.ensures c.names_behind.ensures c.put_downwards-2.ensures
