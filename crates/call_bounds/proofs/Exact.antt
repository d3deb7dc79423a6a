-- The bound, from the facts of each function.
use Rattle.std.proofs.Common.{◌≡◌, ◌∙◌, ℕ, ◌<◌, ◌≤◌, ◌^◌, arith, refl, subst, sym}
use Rattle.std.proofs.Common.{Result, Ok, Err, IfOk, IfErr, MatchResult, Contains}
use Rattle.std.specs.Result.{IsErrAnd}
use Rattle.std.proofs.lemmas.Grind.{get_or_default_zero}
use Rattle.slot_table.specs.Frame.{frame}
use Rattle.region_tree.specs.Walk.{IsOwn, Positions}
use Rattle.bound_calc.specs.declared.cycle_bound.BoundNo.{BoundNo}
use Rattle.bound_calc.specs.declared.cycle_bound.BoundNo.TheVariants.{NoMemory, Overflow}
use Rattle.call_bounds.specs.CallWalk.{CostsOf, IsCallBound, IsTooCostly, Route}
use Rattle.bound_calc.specs.Best.{ceiling}
use Rattle.bound_calc.specs.Bound.{positions}
use Rattle.call_bounds.specs.Runs.{Nested}
use Rattle.call_bounds.specs.Summaries.{IsMost}
use Rattle.call_bounds.proofs.Costs.{flat, in_functions}
use Rattle.call_bounds.proofs.Functions.{AreFunctions}

-- below the ceiling of sums it is the bound
pub exact : (x : Route) (b : ℕ) → AreFunctions x.calls → IsMost x b → b < ceiling → IsCallBound x b
exact x b is m small = record {
  met = flat x b is (let z = m.among in subst (λ c. Nested x c) (let n = z.2 in omega arith) z.1);
  kept = λ c h. let n = m.covers c (in_functions x is h) in omega arith;
}

-- otherwise some path costs 2 ^ 64 or more
pub large : (x : Route) (b : ℕ) → AreFunctions x.calls → IsMost x b → 2 ^ 64 ≤ b →
    (c : ℕ) × CostsOf x c × (2 ^ 64 ≤ c)
large x b is m big = let z = m.among in (z.0, flat x z.0 is z.1, let n = z.2 in omega arith)

-- the result in 64 bits
abbrev pub Answered : ℕ → Result ℕ BoundNo → Type 0
Answered most r =
    MatchResult r (λ bound. (bound ≡ most) × (most < 2 ^ 64))
    (λ why. (why ≡ Overflow (2 ^ 64)) × (2 ^ 64 ≤ most))

pub answer-bound : (x : Route) (most : ℕ) (r : Result ℕ BoundNo) → AreFunctions x.calls →
    IsMost x most → Answered most r → IfOk r (IsCallBound x)
answer-bound x most (Ok bound) is m h =
    subst (λ b. IsCallBound x b) (sym h.0) (exact x most is m (let b = h.1 in omega arith))
answer-bound x most (Err why) is m h = tt

pub answer-refused : (x : Route) (most : ℕ) (r : Result ℕ BoundNo) → AreFunctions x.calls →
    IsMost x most → Answered most r → IfErr r (IsTooCostly x)
answer-refused x most (Ok bound) is m h = tt
answer-refused x most (Err why) is m h =
    subst (λ why. IsTooCostly x why) (sym h.0) (refl, large x most is m h.1)

-- a refused allocation implies nothing about the bound
pub no-memory : (x : Route) (r : Result ℕ BoundNo) → IsErrAnd r (λ no. no ≡ NoMemory) →
    IfOk r (IsCallBound x) × IfErr r (IsTooCostly x)
no-memory x (Ok bound) h = absurd h
no-memory x (Err why) h = (tt, subst (λ why. IsTooCostly x why) (sym h) tt)

-- a thread with a slot has a position of its own
pub own-position : (slots thread : ℕ) (s : Positions) → Contains (frame slots) thread →
    s ≡ positions slots thread → (p : ℕ) × IsOwn s p
own-position slots thread s h e = subst (λ (s : Positions). (p : ℕ) × IsOwn s p) (sym e) (
  h.0,
  record { within = h.1; own = sym (get_or_default_zero (frame slots) h.0 thread h.1) ∙ h.2 },
)
