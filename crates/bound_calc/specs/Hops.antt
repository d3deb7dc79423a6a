-- The steps from one turn of a thread to another, as a table.
use Rattle.std.specs.Prelude.{◌≡◌, ℕ, ◌+◌, ◌<◌, ◌≤◌, ◌⊎◌, min, List, [], length}
use Rattle.std.specs.Prelude.{Option, Some, None, slice_index_or, slice_set}
use Rattle.std.specs.Option.{option_map}
use Rattle.rv_decode.specs.Lag.{redirect_lag}
use Rattle.region_tree.specs.Walk.{Positions, IsOwn, IsNextTurn}
use Rattle.bound_calc.specs.Best.{Costs, Stays, Then, In, IsBest, ceiling}
use Rattle.bound_calc.specs.Matrices.{entry, larger_of}
use Rattle.bound_calc.specs.declared.matrix.Matrix.{Matrix}
use Rattle.bound_calc.specs.declared.hop.Hop.{Hop}
use Rattle.bound_calc.specs.declared.hop.HopRow.{HopRow}

-- the steps of a table, by the position at the start
abbrev pub Hops : List (Option Hop) → Costs
Hops hops p d q = slice_index_or hops p None ≡ Some (record { cost = d; position = q })

-- a step, followed by the step of a table from its end
abbrev pub hop_chain : Option Hop → List (Option Hop) → Option Hop
hop_chain None row = None
hop_chain (Some h) row =
    option_map (λ k. record { cost = h.cost + k.cost; position = k.position })
    (slice_index_or row h.position None)

-- the steps of the table are those to the next turn after a lag
pub record IsHops (s : Positions) (lag : ℕ) (hops : List (Option Hop)) : Type 0 where
  pub found : (p d q : ℕ) → Hops hops p d q → IsNextTurn s lag p d q
  pub all : (p d q : ℕ) → IsNextTurn s lag p d q → Hops hops p d q

-- a row of a matrix after it was joined with a sum advanced by a step
abbrev pub raised : Option ℕ → Option Hop → List (Option ℕ) → List (Option ℕ)
raised None hop row = row
raised (Some x) None row = row
raised (Some x) (Some h) row =
    slice_set row h.position
    (larger_of (slice_index_or row h.position None) (Some (min (x + h.cost) ceiling)))

-- A row was joined with the sums of the first n positions of another, each advanced by a step.
pub record IsAdvanced (row : List (Option ℕ)) (hops : List (Option Hop)) (n : ℕ)
    (old new : List (Option ℕ)) : Type 0 where
  pub count : length new ≡ length old
  pub kept : (q c : ℕ) → slice_index_or old q None ≡ Some c →
      (e : ℕ) × (slice_index_or new q None ≡ Some e) × (c ≤ e)
  pub there : (r x d q : ℕ) → r < n → slice_index_or row r None ≡ Some x → Hops hops r d q →
      (e : ℕ) × (slice_index_or new q None ≡ Some e) × (min (x + d) ceiling ≤ e)
  pub from : (q e : ℕ) → slice_index_or new q None ≡ Some e →
      (slice_index_or old q None ≡ Some e) ⊎ ((r : ℕ) × (x : ℕ) × (d : ℕ) × (r < n)
      × (slice_index_or row r None ≡ Some x) × Hops hops r d q × (e ≡ min (x + d) ceiling))

-- the largest of a number and the sums of the first n positions of a row, each advanced by a step
pub record IsFarthest (row : List (Option ℕ)) (hops : List (Option Hop))
    (n old new : ℕ) : Type 0 where
  pub stays : old ≤ new
  pub upper : (r x d q : ℕ) → r < n → slice_index_or row r None ≡ Some x → Hops hops r d q →
      min (x + d) ceiling ≤ new
  pub met : (new ≡ old) ⊎ ((r : ℕ) × (x : ℕ) × (d : ℕ) × (q : ℕ) × (r < n)
      × (slice_index_or row r None ≡ Some x) × Hops hops r d q × (new ≡ min (x + d) ceiling))

-- the same over all rows of a matrix
pub record IsLeft (here : Matrix) (hops : List (Option Hop)) (old new : ℕ) : Type 0 where
  pub stays : old ≤ new
  pub upper : (p c q : ℕ) → Then (In (entry here)) (Hops hops) p c q → min c ceiling ≤ new
  pub met : (new ≡ old) ⊎ ((p : ℕ) × (c : ℕ) × (q : ℕ) × Then (In (entry here)) (Hops hops) p c q
      × (new ≡ min c ceiling))

-- the largest of an old number and a matrix's entries
pub record IsLargest (m : Matrix) (old new : ℕ) : Type 0 where
  pub stays : old ≤ new
  pub upper : (p c q : ℕ) → entry m p q ≡ Some c → c ≤ new
  pub met : (new ≡ old) ⊎ ((p : ℕ) × (q : ℕ) × (entry m p q ≡ Some new))

-- a row without steps
abbrev pub no_hops : HopRow
no_hops = record { hops = [] }

-- The identity matrix of the thread's own positions, and the steps by lag.
pub record IsTable (s : Positions) (still : Matrix) (rows : List HopRow) : Type 0 where
  pub one : IsBest (entry still) (Stays (IsOwn s))
  pub hops : (lag : ℕ) → lag ≤ redirect_lag → IsHops s lag (slice_index_or rows lag no_hops).hops
  pub frame : length s.frame ≤ 8
