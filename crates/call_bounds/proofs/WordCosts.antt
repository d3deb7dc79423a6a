-- Costs are best with the routines' costs if they are best with the matrices of the calls.
use Rattle.std.proofs.Common.{◌≡◌, ℕ, ◌≤◌, refl, arith, sym, subst}
use Rattle.std.proofs.Common.{Option, Some, None, min, Contains}
use Rattle.region_tree.specs.Graph.{Reachable}
use Rattle.region_tree.specs.Walk.{IsOwn}
use Rattle.bound_calc.specs.Best.{Costs, Entries, IsBest, Then, ceiling}
use Rattle.bound_calc.specs.Context.{Scope as Piece}
use Rattle.bound_calc.specs.Matrices.{entry}
use Rattle.bound_calc.specs.Propagation.{move_costs}
use Rattle.bound_calc.specs.Section.{Arc, Field, Steps, net}
use Rattle.bound_calc.specs.PathCosts.{Reaches}
use Rattle.bound_calc.specs.declared.matrix.Matrix.{Matrix}
use Rattle.call_bounds.specs.declared.routines.Routine.{Routine}
use Rattle.call_bounds.specs.Calls.{Function, callee, function}
use Rattle.call_bounds.specs.CallWalk.{Route}
use Rattle.call_bounds.specs.Field.{field, moves}
use Rattle.call_bounds.specs.Runs.{Through}
use Rattle.call_bounds.proofs.Dominance.{CostsAgree, costs_agree}

-- the matrix of a word: none if it is no call; otherwise the best of the jump and the routine
abbrev pub IsEdgeOf : Route → (Routine → Costs) → Option Routine → Option Matrix → Type 0
IsEdgeOf x f None w = w ≡ None
IsEdgeOf x f (Some t) w =
    (m : Matrix) × (w ≡ Some m) × IsBest (entry m) (Then (Steps x.positions 3) (f t))

-- the best costs of going on to the next word
abbrev pub IsOwnEdge : Route → Option Routine → Option Matrix → Type 0
IsOwnEdge x = IsEdgeOf x (Through x)

pub covered : (x : Route) (o : Option Routine) (w : Option Matrix) (lag p d q : ℕ) →
    IsOwnEdge x o w →
    moves x o lag p d q → (e : ℕ) × move_costs x.positions w lag p e q × (min d ceiling ≤ e)
covered x None w lag p d q is m = (
  d,
  subst (λ w. move_costs x.positions w lag p d q) (sym is) m,
  (let le : d ≤ d = omega arith in under d d ceiling le),
)
  where
    under : (d e n : ℕ) → d ≤ e → min d n ≤ e
    under d e n h = omega arith
covered x (Some t) w lag p d q is m =
    let z = is.2.0 p d q m in
    (z.0, subst (λ w. move_costs x.positions w lag p z.0 q) (sym is.1) z.1, z.2)

pub found : (x : Route) (o : Option Routine) (w : Option Matrix) (lag p e q : ℕ) →
    IsOwnEdge x o w → move_costs x.positions w lag p e q →
    (d : ℕ) × moves x o lag p d q × (min e ceiling ≡ min d ceiling)
found x None w lag p e q is m = (e, subst (λ w. move_costs x.positions w lag p e q) is m, refl)
found x (Some t) w lag p e q is m =
    is.2.1 p e q (subst (λ w. move_costs x.positions w lag p e q) is.1 m)

-- a pass over the function, with the matrices of its calls
abbrev pub by_word_costs : Route → Function → (ℕ → Option Matrix) → Field
by_word_costs x a word_costs = record {
  graph = function x.calls a;
  own = IsOwn x.positions;
  move = λ u lag. move_costs x.positions (word_costs u) lag;
}

pub word_costs-stand : (x : Route) (a : Function) (word_costs : ℕ → Option Matrix) (s : Piece)
    (m : Entries)
    (v : ℕ) → ((u : ℕ) → Reachable (function x.calls a) u → IsOwnEdge x (callee x.calls u)
    (word_costs u)) →
    IsBest m (Reaches (net (by_word_costs x a word_costs)) s v) →
    IsBest m (Reaches (net (field x a)) s v)
word_costs-stand x a word_costs s m v are best = costs_agree st best
  where
    st : CostsAgree (IsOwn x.positions) (Contains (function x.calls a).loops) (Arc (field x a))
        (Arc (by_word_costs x a word_costs))
    st = record {
      covers =
          λ u p d v q arc. let own = are u arc.reached in let z =
          covered x (callee x.calls u) (word_costs u) arc.lag p d q own arc.move in (
            z.0,
            record {
              lag = arc.lag;
              edge = arc.edge;
              move = z.1;
              reached = arc.reached;
              lies = arc.lies;
            },
            z.2,
          );
      among =
          λ u p e v q arc. let z =
          found x (callee x.calls u) (word_costs u) arc.lag p e q (are u arc.reached) arc.move in (
            z.0,
            record {
              lag = arc.lag;
              edge = arc.edge;
              move = z.1;
              reached = arc.reached;
              lies = arc.lies;
            },
            z.2,
          );
    }
