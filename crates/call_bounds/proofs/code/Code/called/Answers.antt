use Rattle.std.proofs.Common.{◌≡◌, ◌<◌, ◌∙◌, ap, sym, subst, None, MatchOption}
use Rattle.std.specs.List.{position}
use Rattle.call_bounds.specs.Calls.{callee}
use Rattle.call_bounds.specs.Listing.{calls, function_at, function_count}
use Rattle.call_bounds.proofs.Called.{has}
use Rattle.call_bounds.proofs.CodeLaws.{callee-none, callee-some}
use Rattle.call_bounds.proofs.code.Code.called.Goals as goal

pub returns-in_err-index : goal.returns-in_err-index
returns-in_err-index c =
    let l = c.args.self.now in
    let u = c.args.address in
    subst (λ r. MatchOption r (callee (calls l) u ≡ None) (λ k. (0 < k) × (k < function_count l)
    × (callee (calls l) u ≡ function_at l k))) (sym c.from_residual-in_err-index.ensures)
    (callee-none (calls l) u c.in_ok-head.head c.word.result c.word.ensures c.in_ok-head.ensures
    (c.in_err-index.ensures ∙ ap (position (has c.in_ok-head.head)) c.routines.ensures.value))

pub returns : goal.returns
returns c =
    callee-some c.args.self.now c.args.address c.in_ok-head.head
    c.word.result c.in_ok-index.index c.word.ensures c.in_ok-head.ensures
    (c.in_ok-index.ensures ∙ ap (position (has c.in_ok-head.head)) c.routines.ensures.value)
