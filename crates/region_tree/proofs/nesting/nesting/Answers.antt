use Rattle.std.proofs.Common.{sym, subst}
use Rattle.region_tree.specs.Nesting.{CrossedAt, DeepAt, EnteredAt, NestingAt}
use Rattle.region_tree.specs.Search.{LowestOf}
use Rattle.region_tree.specs.Tree.{graph}
use Rattle.std.proofs.Common.{◌⊎◌}
use Rattle.region_tree.proofs.LowestLaws.{lowest-either}
use Rattle.region_tree.proofs.nesting.nesting.Goals as goal

pub returns : goal.returns
returns c =
    let t = c.args.draft.now in
    let crossed =
    subst (λ l. LowestOf (CrossedAt l) c.crossed.result) c.loops-loops.ensures c.crossed.ensures in
    let deep =
    subst (λ l. LowestOf (DeepAt l) c.deep.result) c.loops-loops.ensures c.deep.ensures in
    let later =
    subst (LowestOf (λ a. DeepAt t.loops a ⊎ EnteredAt (graph t) a)) (sym c.lower.ensures)
    (lowest-either (DeepAt t.loops)
    (EnteredAt (graph t)) c.deep.result c.entered.result deep c.entered.ensures) in
    subst (LowestOf (NestingAt (graph t))) (sym c.lower-2.ensures)
    (lowest-either (CrossedAt t.loops)
    (λ a. DeepAt t.loops a ⊎ EnteredAt (graph t) a) c.crossed.result c.lower.result crossed later)
