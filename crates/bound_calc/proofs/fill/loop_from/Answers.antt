use Rattle.std.proofs.Common.{◌≡◌, ◌+◌, ◌*◌, MatchOption, Option, None, Some}
use Rattle.std.proofs.Common.{Contains, false, true, ap, refl, subst, sym, ◌∙◌}
use Rattle.fp_setup.specs.declared.loop_list.LoopSetup.{LoopSetup}
use Rattle.region_tree.specs.Graph.{Reachable}
use Rattle.region_tree.specs.Search.{address}
use Rattle.region_tree.specs.Tree.{Tree, graph}
use Rattle.bound_calc.proofs.fill.loop_from.Goals as goal
use Rattle.bound_calc.proofs.fill.loop_from.Goals.{After-section}

-- the address is that of the index
here : (c : After-section) →
    c.section.result.from + 4 * c.args.index ≡ address c.args.tree.now c.args.index
here c = ap (λ s. s.from + 4 * c.args.index) c.section.ensures.value

-- the first loop with a reachable head
first : (t : Tree) (found : Option LoopSetup) (head : _) → Reachable (graph t) head →
    MatchOption found ((j : LoopSetup) → Contains t.loops j → head ≡ j.head → ⊥)
    (λ j. Contains t.loops j × (head ≡ j.head)) →
    MatchOption found
    ((j : LoopSetup) → Contains t.loops j → head ≡ j.head → Reachable (graph t) head → ⊥)
    (λ j. Contains t.loops j × (head ≡ j.head) × Reachable (graph t) head)
first t None head r none = λ j known is _. none j known is
first t (Some j) head r found = (found.0, found.1, r)

pub returns-then-is_reachable-clause-found : goal.returns-then-is_reachable-clause-found
returns-then-is_reachable-clause-found c =
    let t = c.args.tree.now in
    let at = here (goal.at.returns-then-is_reachable-clause-found c).After-section in
    first t c.loop_at.result (address t c.args.index)
    (subst (λ v. Reachable (graph t) v) at (c.if-is_reachable.ensures.0 refl))
    (subst (λ v. MatchOption c.loop_at.result ((j : LoopSetup) → Contains t.loops j →
    v ≡ j.head → ⊥) (λ j. Contains t.loops j × (v ≡ j.head))) at
    (subst (λ l. MatchOption c.loop_at.result ((j : LoopSetup) → Contains l j →
    c.section.result.from + 4 * c.args.index ≡ j.head → ⊥) (λ j. Contains l j
    × (c.section.result.from + 4 * c.args.index ≡ j.head))) c.loops.ensures c.loop_at.ensures))

pub returns-else-is_reachable-clause-found : goal.returns-else-is_reachable-clause-found
returns-else-is_reachable-clause-found c =
    λ j known head r.
    let at = here (goal.at.returns-else-is_reachable-clause-found c).After-section in
    let z : false ≡ true =
    c.if-is_reachable.ensures.1 (subst (λ v. Reachable (graph c.args.tree.now) v) (sym at) r) in
    cc
