use Rattle.std.proofs.Common.{◌≡◌, ◌==◌, ◌<◌, arith, ap, sym, subst}
use Rattle.call_bounds.specs.Calls.{returns}
use Rattle.call_bounds.specs.Listing.{calls}
use Rattle.call_bounds.proofs.Numbers.{routine-of}
use Rattle.call_bounds.proofs.code.Code.is_return.Goals as goal

pub returns-then-function-ne0 : goal.returns-then-function-ne0
returns-then-function-ne0 c =
    let z = routine-of c.args.self.now c.args.function
    (let y : 0 < c.args.function = omega (arith, c.if-function-ne0.true) in
    y) c.requires.function in
    subst (λ p. (c.word.result == 32871) ≡ returns (calls c.args.self.now) p c.args.address)
    (sym z.1) (ap (λ w. w == 32871) c.word.ensures)
