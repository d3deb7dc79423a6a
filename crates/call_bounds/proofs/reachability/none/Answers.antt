use Rattle.std.proofs.Common.{◌≡◌, ℕ, Bool, false, length, replicate}
use Rattle.std.proofs.lemmas.Result.{IfOk-weaker}
use Rattle.call_bounds.specs.Reachability.{is_met}
use Rattle.call_bounds.proofs.ReachabilityLaws.{none-met}
use Rattle.call_bounds.proofs.reachability.none.Goals as goal

pub returns : goal.returns
returns c =
    IfOk-weaker c.vec.result
    (λ met. ((b : Bool) → b ≡ false → b ≡ false) → met.items ≡ replicate c.args.count false)
    (λ met. (length met.items ≡ c.args.count) × ((k : ℕ) → is_met met.items k ≡ false))
    (λ met copies. none-met c.args.count met.items (copies (λ b h. h)))
    c.vec.ensures.items_if_clones_equal
