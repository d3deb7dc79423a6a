-- The rows of refusals hold in a function exactly if they hold in its tree.
use Rattle.std.proofs.Common.{ℕ, inl, inr, sym, subst, ◌∙◌, List, Contains}
use Rattle.fp_setup.specs.declared.loop_list.LoopSetup.{LoopSetup}
use Rattle.region_tree.specs.Graph.{Edge, Graph}
use Rattle.region_tree.specs.Refusals.{IndirectAt, TimedAt, UnboundedAt}
use Rattle.region_tree.specs.Nesting.{NestingAt}
use Rattle.region_tree.specs.Tree.{IsSection, graph}
use Rattle.region_tree.specs.declared.edges.Stop.{Stop}
use Rattle.call_bounds.specs.Build.{HasExitAt}
use Rattle.call_bounds.specs.Calls.{Calls, Function, function, range}
use Rattle.call_bounds.specs.Patched.{function_tree}
use Rattle.call_bounds.proofs.Agree.{Agree, back, graph_of}
use Rattle.call_bounds.proofs.Composed.{agrees-back}
use Rattle.call_bounds.proofs.PatchLaws.{agrees}

nesting : {from to : ℕ} {loops : List LoopSetup} {edges edges' : ℕ → List Edge}
    {stop stop' : ℕ → Stop} → Agree from to edges edges' stop stop' →
    (u : ℕ) → NestingAt (graph_of from to loops edges' stop') u →
    NestingAt (graph_of from to loops edges stop) u
nesting a u (inl c) = inl c
nesting a u (inr (inl d)) = inr (inl d)
nesting {loops = loops} a u (inr (inr h)) = let z = back loops a h.reached in inr (inr (record {
  entered = h.entered;
  known = h.known;
  from = h.from;
  by = h.by;
  reached = z.0;
  edge = subst (λ l. Contains l h.by) (sym (a.same h.from z.1 z.2 z.3)) h.edge;
  inner = h.inner;
  outer = h.outer;
  other = h.other;
  address = h.address;
}))

indirect : {from to : ℕ} {loops : List LoopSetup} {edges edges' : ℕ → List Edge}
    {stop stop' : ℕ → Stop} → Agree from to edges edges' stop stop' →
    (u : ℕ) → IndirectAt (graph_of from to loops edges' stop') u →
    IndirectAt (graph_of from to loops edges stop) u
indirect {loops = loops} a u h = let z = back loops a h.0 in (z.0, a.stops u z.1 z.2 z.3 ∙ h.1)

timed : {from to : ℕ} {loops : List LoopSetup} {edges edges' : ℕ → List Edge}
    {stop stop' : ℕ → Stop} → Agree from to edges edges' stop stop' → (u : ℕ) →
    TimedAt (graph_of from to loops edges' stop') u → TimedAt (graph_of from to loops edges stop) u
timed {loops = loops} a u h = let z = back loops a h.0 in (z.0, a.stops u z.1 z.2 z.3 ∙ h.1)

unbounded : {from to : ℕ} {loops : List LoopSetup} {edges edges' : ℕ → List Edge}
    {stop stop' : ℕ → Stop} → Agree from to edges edges' stop stop' →
    (u : ℕ) → UnboundedAt (graph_of from to loops edges' stop') u →
    UnboundedAt (graph_of from to loops edges stop) u
unbounded {loops = loops} a u h = let z = back loops a h.reached in record {
  by = h.by;
  reached = z.0;
  edge = subst (λ l. Contains l h.by) (sym (a.same u z.1 z.2 z.3)) h.edge;
  inside = record { low = h.inside.low; high = h.inside.high };
  down = h.down;
  unbounded = h.unbounded;
}

leaves : {from to : ℕ} {loops : List LoopSetup} {edges edges' : ℕ → List Edge}
    {stop stop' : ℕ → Stop} → Agree from to edges edges' stop stop' →
    (u : ℕ) → HasExitAt (graph_of from to loops edges' stop') u →
    HasExitAt (graph_of from to loops edges stop) u
leaves {loops = loops} a u h = let z = back loops a h.reached in record {
  by = h.by;
  reached = z.0;
  edge = subst (λ l. Contains l h.by) (sym (a.same u z.1 z.2 z.3)) h.edge;
  out = λ l. h.out (record { low = l.low; high = l.high });
}

-- a row of a graph that holds in a function exactly if it holds in its tree
pub record IsSame (P : Graph → ℕ → Type 0) (x : Calls) (a : Function) : Type 0 where
  pub there : (u : ℕ) → P (graph (function_tree x a)) u → P (function x a) u
  pub back : (u : ℕ) → P (function x a) u → P (graph (function_tree x a)) u

pub nesting-same : (x : Calls) (a : Function) → IsSection (range x a) → IsSame NestingAt x a
nesting-same x a is =
    record { there = nesting (agrees-back x a is); back = nesting (agrees x a is) }

pub indirect-same : (x : Calls) (a : Function) → IsSection (range x a) → IsSame IndirectAt x a
indirect-same x a is =
    record { there = indirect (agrees-back x a is); back = indirect (agrees x a is) }

pub timed-same : (x : Calls) (a : Function) → IsSection (range x a) → IsSame TimedAt x a
timed-same x a is = record { there = timed (agrees-back x a is); back = timed (agrees x a is) }

pub unbounded-same : (x : Calls) (a : Function) → IsSection (range x a) → IsSame UnboundedAt x a
unbounded-same x a is =
    record { there = unbounded (agrees-back x a is); back = unbounded (agrees x a is) }

pub leaves-same : (x : Calls) (a : Function) → IsSection (range x a) → IsSame HasExitAt x a
leaves-same x a is = record { there = leaves (agrees-back x a is); back = leaves (agrees x a is) }
