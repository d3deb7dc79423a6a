use Rattle.std.proofs.Common.{subst}
use Rattle.call_bounds.specs.CallRefusals.{IsListing}
use Rattle.call_bounds.specs.Listing.{calls}
use Rattle.call_bounds.proofs.code.Code.function_count.Goals as goal

pub returns-clause-rules : goal.returns-clause-rules
returns-clause-rules c = subst (λ l. IsListing (calls l)) c.self.view_is c.self.invariant.listing
