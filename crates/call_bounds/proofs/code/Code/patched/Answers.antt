use Rattle.std.proofs.Common.{sym, ◌∙◌}
use Rattle.call_bounds.specs.Calls.{returns}
use Rattle.call_bounds.specs.Listing.{calls, function_at}
use Rattle.call_bounds.proofs.CodeLaws.{patch-call, patch-return}
use Rattle.call_bounds.proofs.code.Code.patched.Goals as goal

pub returns-then-is_some : goal.returns-then-is_some
returns-then-is_some c =
    let l = c.args.self.now in patch-call l c.args.address ((calls l).word c.args.address)
    (returns (calls l) (function_at l c.args.function) c.args.address) c.called.result
    (sym c.is_some.ensures ∙ c.if-is_some.true) c.called.ensures

pub returns-then-is_return : goal.returns-then-is_return
returns-then-is_return c =
    let l = c.args.self.now in
    patch-return l c.args.address ((calls l).word c.args.address)
    (returns (calls l) (function_at l c.args.function) c.args.address) c.called.result
    (sym c.is_some.ensures ∙ c.if-is_some.false)
    (sym c.is_return.ensures ∙ c.if-is_return.true) c.called.ensures
