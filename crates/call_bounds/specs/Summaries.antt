-- Summaries of functions: matrices of the largest costs between frame positions.
use Rattle.std.specs.Prelude.{◌≡◌, ℕ, ◌+◌, ◌*◌, ◌<◌, ◌≤◌, Bool, true, false}
use Rattle.std.specs.Prelude.{Option, Some, None, List, length, slice_index_or, min}
use Rattle.rv_decode.specs.Lag.{redirect_lag}
use Rattle.region_tree.specs.Tree.{Tree}
use Rattle.region_tree.specs.Walk.{IsOwn, Positions}
use Rattle.region_tree.specs.declared.section.Section.{Section}
use Rattle.bound_calc.specs.Best.{Costs, Either, Entries, In, IsBest, Then, ceiling}
use Rattle.bound_calc.specs.Matrices.{entry}
use Rattle.bound_calc.specs.Propagation.{CostsOn, edges_at, leaves, matrix_at, move_costs}
use Rattle.bound_calc.specs.Propagation.{no_matrix}
use Rattle.bound_calc.specs.Section.{Steps}
use Rattle.bound_calc.specs.declared.matrix.Matrix.{Matrix}
use Rattle.call_bounds.specs.declared.routines.Routine.{Routine}
use Rattle.call_bounds.specs.CallRefusals.{IsCallable, IsListing}
use Rattle.call_bounds.specs.Calls.{IsReached, returns}
use Rattle.call_bounds.specs.CallWalk.{Route}
use Rattle.call_bounds.specs.Listing.{DoesCall, Listing, calls, function_at, function_count}
use Rattle.call_bounds.specs.Functions.{IsCallee}
use Rattle.call_bounds.specs.Runs.{Deep, Nested, Through}

-- the numbers of the functions that the first n words of a section call, by index
pub record AreCallees (l : Listing) (s : Section) (n : ℕ) (callees : List (Option ℕ)) : Type 0 where
  pub count : length callees ≡ n
  pub each : (k : ℕ) → k < n → IsCallee l (s.from + 4 * k) (slice_index_or callees k None)

-- whether the words of a function are returns, by index
pub record AreReturns (l : Listing) (function : ℕ) (s : Section) (n : ℕ)
    (ends : List Bool) : Type 0 where
  pub count : length ends ≡ n
  pub each : (k : ℕ) → k < n →
      slice_index_or ends k false ≡ returns (calls l) (function_at l function) (s.from + 4 * k)

-- the costs at any of the indices below n
abbrev pub Any : (ℕ → Costs) → ℕ → Costs
Any f n p c q = (k : ℕ) × (k < n) × f k p c q

-- the costs up to a word, and from there on by a matrix, if there is one
abbrev pub EndsAt : Option Matrix → Entries → Costs
EndsAt None here = In here
EndsAt (Some m) here = Either (In here) (Then (In here) (In (entry m)))

-- the costs up to the words, and from there on by their matrices
abbrev pub Ending : CostsOn → List Matrix → ℕ → Costs
Ending into at = Any (λ k. EndsAt (into k) (matrix_at at k))

-- these costs, if a test holds
abbrev pub When : Bool → Costs → Costs
When true f = f
When false f = λ p c q. ⊥

-- the costs up to the word at an index and from there out of the section
abbrev pub ExitCostsAt : Tree → Positions → CostsOn → List Matrix → ℕ → Costs
ExitCostsAt t s word_costs at k =
    let e = edges_at t k in
    Either (When (leaves t e.next) (Then (In (matrix_at at k)) (move_costs s (word_costs k)
    e.next_lag)))
    (When (leaves t e.jump) (Then (In (matrix_at at k)) (move_costs s (word_costs k) redirect_lag)))

-- the calls of a listing, with the turns of a thread
abbrev pub route : Listing → Positions → Route
route l s = record { calls = calls l; positions = s }

-- The matrices of calls of a routine: from the call to the word after it, and from the call to
-- where a path may end.
pub record IsSummary (x : Route) (t : Routine) (through deep : Matrix) : Type 0 where
  pub back : IsBest (entry through) (Then (Steps x.positions redirect_lag) (Through x t))
  pub ends : IsBest (entry deep) (Then (Steps x.positions redirect_lag) (Deep x (Some t)))

-- the matrices of the function with a number, if it is a routine
abbrev pub IsSummaryOf : Listing → Positions → ℕ → Matrix → Matrix → Type 0
IsSummaryOf l s k through deep = (t : Routine) → function_at l k ≡ Some t →
    IsSummary (route l s) t through deep

-- the matrices at the number of a function are its summary
abbrev pub IsSummaryAt : Listing → Positions → ℕ → List Matrix → List Matrix → Type 0
IsSummaryAt l s k through deep =
    IsSummaryOf l s k (slice_index_or through k no_matrix) (slice_index_or deep k no_matrix)

-- matrices that lead to the thread's own positions
abbrev pub Lands : Positions → List Matrix → Type 0
Lands s ms = (k p c q : ℕ) → matrix_at ms k p q ≡ Some c → IsOwn s q

-- the matrices of calls, by the number of the called function, if no function is refused
pub record AreSummaries (l : Listing) (s : Positions) (through deep : List Matrix) : Type 0 where
  pub listing : IsListing (calls l)
  pub callable : IsCallable (calls l)
  pub count : length through ≡ function_count l
  pub count' : length deep ≡ function_count l
  pub own : Lands s through

-- the summaries of a function's callees are known
abbrev pub KnowsCallees : Listing → Positions → ℕ → List Matrix → List Matrix → Type 0
KnowsCallees l s function through deep =
    (k : ℕ) → k < function_count l → DoesCall (calls l) (function_at l function) (function_at l k) →
    IsSummaryAt l s k through deep

-- the summary of a function was computed, if it is reached, and the others are unchanged
pub record IsAdded (l : Listing) (s : Positions) (number : ℕ)
    (through deep through' deep' : List Matrix) : Type 0 where
  pub all : AreSummaries l s through' deep'
  pub known : IsReached (calls l) (function_at l number) → IsSummaryAt l s number through' deep'
  pub other : (k : ℕ) → (k ≡ number → ⊥) →
      slice_index_or through' k no_matrix ≡ slice_index_or through k no_matrix
  pub other' : (k : ℕ) → (k ≡ number → ⊥) →
      slice_index_or deep' k no_matrix ≡ slice_index_or deep k no_matrix

-- the summaries of the reached functions whose numbers meet a condition are known
abbrev pub AreKnown : Listing → Positions → (ℕ → Type 0) → List Matrix → List Matrix → Type 0
AreKnown l s known through deep =
    (k : ℕ) → k < function_count l → IsReached (calls l) (function_at l k) → known k →
    IsSummaryAt l s k through deep

-- the largest cost of nested paths, up to the ceiling of sums
pub record IsMost (x : Route) (b : ℕ) : Type 0 where
  pub covers : (c : ℕ) → Nested x c → min c ceiling ≤ b
  pub among : (c : ℕ) × Nested x c × (min b ceiling ≡ min c ceiling)
