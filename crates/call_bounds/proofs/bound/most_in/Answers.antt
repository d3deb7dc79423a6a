use Rattle.std.proofs.Common.{◌≡◌, ◌∙◌, ap, length, subst, sym, None}
use Rattle.region_tree.specs.Tree.{IsSection, IsTree, Tree}
use Rattle.region_tree.specs.declared.section.Section.{Section}
use Rattle.bound_calc.specs.Propagation.{CostTable, costs_on}
use Rattle.call_bounds.specs.Calls.{range}
use Rattle.call_bounds.specs.Listing.{calls}
use Rattle.call_bounds.specs.Summaries.{AreCallees}
use Rattle.call_bounds.specs.Tops.{IsMostBelow}
use Rattle.call_bounds.proofs.PassedOn.{from-value, no-value}
use Rattle.call_bounds.proofs.FunctionLaws.{count, table-is}
use Rattle.call_bounds.proofs.SectionLaws.{section-most}
use Rattle.call_bounds.proofs.bound.most_in.Goals as goal

pub returns : goal.returns
returns c =
    let l = c.args.tree.now in
    let o = c.args.steps.now in
    let function = c.requires.function in
    let section : c.section.result ≡ range (calls l) None =
    c.section.ensures.value ∙ ap (λ (t : Tree). t.section) function in
    let callees = c.in_ok-callees.callees.items in
    let through = c.args.done.now.through.items in
    let deep = c.args.done.now.deep.items in
    let cs =
    subst (λ (s : Section). AreCallees l s (count s) callees) section c.in_ok-callees.ensures in
    let tree = subst IsTree function c.most_over.ensures.rules in
    let table =
    table-is c.new-word_costs.result c.new-word_costs.ensures c.deref.ensures.value
    c.deref-2.ensures.value in
    let table' =
    table-is c.new-into.result c.new-into.ensures c.deref-3.ensures.value c.deref-4.ensures.value in
    from-value c.most_over.result (λ most b.
    section-most l o callees through deep most
    c.requires.slot c.requires.done c.requires.known cs tree
    (subst (λ (t : Tree). IsMostBelow t o (costs_on (record { indices = callees; costs = through }))
    (costs_on (record { indices = callees; costs = deep })) (length t.words) most) function
    (subst (λ (w : CostTable). IsMostBelow c.args.function.now o (costs_on w)
    (costs_on (record { indices = callees; costs = deep })) (length c.args.function.now.words) most)
    table (subst (λ (w : CostTable). IsMostBelow c.args.function.now o (costs_on
    c.new-word_costs.result)
    (costs_on w) (length c.args.function.now.words) most) table' b)))) c.most_over.ensures.most

pub callees-requires : goal.callees-requires
callees-requires c =
    subst IsSection (sym c.section.ensures.value) c.section.ensures.rules.draft.section

pub returns-in_err-callees : goal.returns-in_err-callees
returns-in_err-callees c = no-value c.from_residual.result _ _ c.from_residual.ensures.1
