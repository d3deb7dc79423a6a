use Rattle.std.proofs.Common.{◌≡◌, ℕ, Option}
use Rattle.region_tree.specs.Search.{lower_of}
use Rattle.call_bounds.specs.Build.{join_causes}
use Rattle.call_bounds.specs.declared.causes.Causes.{Causes}
use Rattle.call_bounds.proofs.causes.Causes.join.Goals as goal

joined-is : (f g : Causes) (a b c d : Option ℕ) → a ≡ lower_of f.nesting g.nesting →
    b ≡ lower_of f.indirect g.indirect → c ≡ lower_of f.timed g.timed →
    d ≡ lower_of f.unbounded g.unbounded → ◌≡◌ {A = Causes}
    (record { nesting = a; indirect = b; timed = c; unbounded = d }) (join_causes f g)
joined-is f g a b c d p q r s =
    λ i. record { nesting = p i; indirect = q i; timed = r i; unbounded = s i }

pub returns : goal.returns
returns c = joined-is c.args.self c.args.other _ _ _ _ (cc) (cc) (cc) (cc)
