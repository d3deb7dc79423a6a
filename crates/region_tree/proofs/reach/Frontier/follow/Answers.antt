use Rattle.std.proofs.Common.{◌≡◌, ◌∙◌, ap, arith, subst}
use Rattle.std.proofs.lemmas.Result.{on_ok_weaker}
use Rattle.region_tree.specs.Edges.{edges_of}
use Rattle.region_tree.specs.Search.{IsVisited, address, index_of}
use Rattle.region_tree.specs.Tree.{word_at}
use Rattle.region_tree.proofs.ReachLaws.{closed-by, gather-done}
use Rattle.region_tree.proofs.ReachLaws.{gather-visit, jump-leads, next-leads}
use Rattle.region_tree.proofs.reach.Frontier.follow.Goals as goal

pub returns-clause-gathered : goal.returns-clause-gathered
returns-clause-gathered c =
    let t = c.args.draft.now in
    let k = c.args.index in
    let next = subst (λ p. IsVisited p c.args.self.now.met.items c.visit.new.self.met.items
    c.args.self.now.todo.items c.visit.new.self.todo.items) (c.index_of.ensures
    ∙ ap (λ e. index_of t.section e.next) c.edges-edges.ensures) c.in_ok-visit.ensures in
    let first = gather-visit t (λ u. k ≡ u) (edges_of (word_at t (address t k)) (address t k)).next
    _ _ _ _ c.requires.rules (next-leads t k c.requires.reached) next c.requires.gathered in
    on_ok_weaker c.visit-2.result (λ v.
    let jump = subst (λ p. IsVisited p c.visit.new.self.met.items
    c.visit-2.new.self.met.items c.visit.new.self.todo.items c.visit-2.new.self.todo.items)
    (c.index_of-2.ensures ∙ ap (λ e. index_of t.section e.jump) c.edges-edges.ensures) v in
    gather-done t k _ _ (closed-by t k _ _ _ _ _ _ next jump)
    (gather-visit t (λ u. k ≡ u) (edges_of (word_at t (address t k)) (address t k)).jump _ _ _ _
    c.requires.rules (jump-leads t k c.requires.reached) jump first)) c.visit-2.ensures

pub returns-clause-less : goal.returns-clause-less
returns-clause-less c =
    on_ok_weaker c.visit-2.result (λ v. let more = v.less in
    let before = c.in_ok-visit.ensures.less in omega arith) c.visit-2.ensures
