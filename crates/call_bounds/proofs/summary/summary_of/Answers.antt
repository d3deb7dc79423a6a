use Rattle.std.proofs.Common.{◌≡◌, ◌∙◌, ap, subst, sym, length, List, Bool}
use Rattle.region_tree.specs.Tree.{IsSection, IsTree, Tree}
use Rattle.region_tree.specs.declared.section.Section.{Section}
use Rattle.bound_calc.specs.Best.{IsBest}
use Rattle.bound_calc.specs.Matrices.{entry}
use Rattle.bound_calc.specs.Propagation.{AreReached, Ended, CostTable, costs_on}
use Rattle.bound_calc.specs.declared.matrix.Matrix.{Matrix}
use Rattle.call_bounds.specs.Calls.{range}
use Rattle.call_bounds.specs.Listing.{calls, function_at}
use Rattle.call_bounds.specs.Summaries.{AreCallees, AreReturns, Ending}
use Rattle.call_bounds.proofs.PassedOn.{no-value}
use Rattle.call_bounds.proofs.FunctionLaws.{count, summary-is, table-is}
use Rattle.call_bounds.proofs.summary.summary_of.Goals as goal

pub returns : goal.returns
returns c =
    let l = c.args.tree.now in
    let n = c.args.number in
    let o = c.args.steps.now in
    let function = c.requires.function in
    let section : c.section.result ≡ range (calls l) (function_at l n) =
    c.section.ensures.value ∙ ap (λ (t : Tree). t.section) function in
    let section' : c.section-2.result ≡ range (calls l) (function_at l n) =
    c.section-2.ensures.value ∙ ap (λ (t : Tree). t.section) function in
    let callees = c.in_ok-callees.callees.items in
    let ends = c.in_ok-ends.ends.items in
    let through = c.args.done.now.through.items in
    let deep = c.args.done.now.deep.items in
    let at = c.in_ok-at.at.items in
    let cs =
    subst (λ (s : Section). AreCallees l s (count s) callees) section c.in_ok-callees.ensures in
    let es =
    subst (λ (s : Section). AreReturns l n s (count s) ends) section' c.in_ok-ends.ensures in
    let tree = subst IsTree function c.in_ok-at.ensures.rules in
    let table = table-is c.new.result c.new.ensures c.deref.ensures.value c.deref-2.ensures.value in
    let table' =
    table-is c.new-2.result c.new-2.ensures c.deref-5.ensures.value c.deref-6.ensures.value in
    let reached = subst (λ (t : Tree). AreReached t o (costs_on (record {
      indices = callees;
      costs = through;
    })) at) function (subst (λ (w : CostTable). AreReached c.args.function.now o (costs_on w) at)
    table c.in_ok-at.ensures.reached) in
    let back = subst (λ (ends : List Bool). IsBest (entry c.jump_through.ensures.0)
    (Ended o ends at (length at))) c.deref-4.ensures.value (subst (λ (at : List Matrix).
    IsBest (entry c.jump_through.ensures.0) (Ended o c.deref-4.result.now at (length at)))
    c.deref-3.ensures.value c.jump_through.ensures.1) in
    let below = subst (λ (w : CostTable). IsBest (entry c.jump_deep.ensures.0) (Ending
    (costs_on w) at
    (length at))) table' (subst (λ (at : List Matrix). IsBest (entry c.jump_deep.ensures.0) (Ending
    (costs_on c.new-2.result) at (length at))) c.deref-7.ensures.value c.jump_deep.ensures.1) in
    summary-is l o n callees ends through deep at c.jump-jump.result c.jump_through.ensures.0
    c.jump_deep.ensures.0 c.jump_through.result c.jump_deep.result c.requires.done
    c.requires.reached c.requires.known cs es tree reached c.jump-jump.ensures back below
    c.jump_through.ensures.2 c.jump_deep.ensures.2

pub callees-requires : goal.callees-requires
callees-requires c =
    subst IsSection (sym c.section.ensures.value) c.section.ensures.rules.draft.section

pub returns-requires-clause-section : goal.returns-requires-clause-section
returns-requires-clause-section c =
    subst IsSection (sym c.section-2.ensures.value) c.section-2.ensures.rules.draft.section

pub returns-in_err-callees : goal.returns-in_err-callees
returns-in_err-callees c = no-value c.from_residual.result _ _ c.from_residual.ensures.1

pub returns-in_err-ends : goal.returns-in_err-ends
returns-in_err-ends c =
    no-value c.from_residual-in_err-ends.result _ _ c.from_residual-in_err-ends.ensures.1

pub returns-in_err-at : goal.returns-in_err-at
returns-in_err-at c =
    no-value c.from_residual-in_err-at.result _ _ c.from_residual-in_err-at.ensures.1
