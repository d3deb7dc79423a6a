use Rattle.std.proofs.Common.{◌≡◌, ◌∙◌, arith, length, subst}
use Rattle.call_bounds.specs.Build.{IsRowTo}
use Rattle.call_bounds.proofs.TableLaws.{mark-within, row-next, row-start}
use Rattle.call_bounds.proofs.call_table.called_functions.Goals as goal

pub loop-index-init : goal.loop-index-init
loop-index-init c =
    row-start c.args.code.now c.args.draft.now c.in_ok-row.row.items
    (c.in_ok-row.ensures.0 ∙ c.function_count.ensures.value) c.in_ok-row.ensures.1

pub mark-requires : goal.mark-requires
mark-requires c =
    mark-within c.args.code.now c.args.draft.now c.loop-index.index c.loop-index.index
    c.loop-index.row.items c.callee_at-callee.result c.callee_at-callee.ensures
    c.loop-index.invariant

pub loop-index-preserved : goal.loop-index-preserved
loop-index-preserved c =
    row-next c.args.code.now c.args.draft.now c.loop-index.index c.callee_at-callee.result
    c.loop-index.row.items c.mark.new.row.items c.callee_at-callee.ensures c.mark.ensures
    c.loop-index.invariant

pub returns : goal.returns
returns c =
    subst (λ n. IsRowTo c.args.code.now c.args.draft.now n c.loop-index.row.items)
    (let e : c.loop-index.index ≡ length c.args.draft.now.words = omega
    (arith, c.len-index-end.ensures.value) in e) c.loop-index.invariant
