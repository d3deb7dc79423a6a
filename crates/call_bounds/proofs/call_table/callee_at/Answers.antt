use Rattle.std.proofs.Common.{◌≡◌, ◌<◌, ◌∙◌, subst, sym, false, true, None, MatchOption}
use Rattle.call_bounds.specs.Calls.{callee}
use Rattle.call_bounds.specs.Listing.{calls, function_at, function_count}
use Rattle.call_bounds.proofs.TableLaws.{calls-at, calls-none}
use Rattle.call_bounds.proofs.call_table.callee_at.Goals as goal

pub returns-then-not-met-index : goal.returns-then-not-met-index
returns-then-not-met-index c =
    calls-none c.args.code.now c.args.draft.now c.args.index
    (λ known. let z : false ≡ true = sym c.if-not-met-index.true
    ∙ (c.requires.met.exact c.args.index c.requires.within).1 known in cc)

pub returns : goal.returns
returns c =
    let l = c.args.code.now in
    calls-at l c.args.draft.now c.args.index c.called.result c.requires.listing
    ((c.requires.met.exact c.args.index c.requires.within).0 c.if-not-met-index.false)
    (subst (λ u. MatchOption c.called.result (callee (calls l) u ≡ None) (λ k. (0 < k) × (k
    < function_count l) × (callee (calls l) u ≡ function_at l k))) c.address.ensures.value
    c.called.ensures)
