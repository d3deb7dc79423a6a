-- Paths of only one function, in which a call is a whole path of the routine, from its head to a
-- return.
use Rattle.std.specs.Prelude.{◌≡◌, ℕ, ◌+◌, ◌≤◌, ◌⊎◌, true, Some, None, Contains}
use Rattle.rv_decode.specs.Lag.{redirect_lag}
use Rattle.fp_setup.specs.declared.loop_list.LoopSetup.{LoopSetup}
use Rattle.region_tree.specs.Graph.{Edge, Lies}
use Rattle.region_tree.specs.Walk.{IsNextTurn, IsOwn, counter_after}
use Rattle.call_bounds.specs.declared.routines.Routine.{Routine}
use Rattle.call_bounds.specs.Calls.{Function, callee, is_back, function, plain_edges, range}
use Rattle.call_bounds.specs.CallWalk.{Route}

-- A path of a function that keeps the bounds of its loops, from its first word at position p: the
-- word and the position that it has come to, its cost, and the counters, each 0 at first.
pub data Run (x : Route) : Function → ℕ → ℕ → ℕ → ℕ → (LoopSetup → ℕ) → Type 0 where
  start : {a : Function} {p : ℕ} → IsOwn x.positions p → Run x a p (range x.calls a).from
      p 0 (λ _. 0)
  along : {a : Function} {p u q c d r : ℕ} {k : LoopSetup → ℕ} (e : Edge) → Run x a p u q c k →
      Contains (plain_edges x.calls u) e → Lies (function x.calls a) e.to →
      IsNextTurn x.positions e.lag q d r →
      ((j : LoopSetup) → Contains (function x.calls a).loops j →
      counter_after u e.to j (k j) ≤ j.limit) →
      Run x a p e.to r (c + d) (λ j. counter_after u e.to j (k j))
  through : {a : Function} {p u q c d : ℕ} {k : LoopSetup → ℕ} {t : Routine} {m w n i f r : ℕ}
      {l : LoopSetup → ℕ} → Run x a p u q c k →
      callee x.calls u ≡ Some t → Lies (function x.calls a) (u + 4) →
      IsNextTurn x.positions redirect_lag q d m → Run x (Some t) m w n i l →
      is_back (x.calls.word w) ≡ true → IsNextTurn x.positions redirect_lag n f r →
      Run x a p (u + 4) r (c + (d + (i + f))) (λ j. counter_after u (u + 4) j (k j))

-- from a routine's head to the word after the call: the path and the jump back
pub record Through (x : Route) (t : Routine) (p c q : ℕ) : Type 0 where
  pub word : ℕ
  pub at : ℕ
  pub one : ℕ
  pub two : ℕ
  pub counters : LoopSetup → ℕ
  pub run : Run x (Some t) p word at one counters
  pub back : is_back (x.calls.word word) ≡ true
  pub turn : IsNextTurn x.positions redirect_lag at two q
  pub cost : c ≡ one + two

-- the costs of paths that begin a function at one position and end in it, or in a routine below it,
-- at another
pub data Deep (x : Route) : Function → ℕ → ℕ → ℕ → Type 0 where
  ends : {a : Function} {p u q c : ℕ} {k : LoopSetup → ℕ} → Run x a p u q c k → Deep x a p c q
  enters : {a : Function} {p u q c d r i n : ℕ} {k : LoopSetup → ℕ} {t : Routine} →
      Run x a p u q c k →
      callee x.calls u ≡ Some t →
      IsNextTurn x.positions redirect_lag q d r → Deep x (Some t) r i n → Deep x a p (c + (d + i)) n

-- the costs of paths that leave the section, from one position to another
pub data Leaving (x : Route) (p : ℕ) : ℕ → ℕ → Type 0 where
  leaves : {u q c d r : ℕ} {k : LoopSetup → ℕ} (e : Edge) → Run x None p u q c k →
      Contains (plain_edges x.calls u) e →
      (Lies (function x.calls None) e.to → ⊥) → IsNextTurn x.positions e.lag q d r →
      Leaving x p (c + d) r
  comes_out : {u q c d m i r : ℕ} {k : LoopSetup → ℕ} {t : Routine} → Run x None p u q c k →
      callee x.calls u ≡ Some t →
      (Lies (function x.calls None) (u + 4) → ⊥) → IsNextTurn x.positions redirect_lag q d m →
      Through x t m i r → Leaving x p (c + (d + i)) r

-- the costs of paths of the section, from one of the thread's own positions
pub record Nested (x : Route) (c : ℕ) : Type 0 where
  pub at : ℕ
  pub own : IsOwn x.positions at
  pub end : ℕ
  pub costs : Deep x None at c end ⊎ Leaving x at c end
