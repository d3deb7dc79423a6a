-- A call's own edge is no cause of a refusal: the edges in the rows of the refusals are plain.
use Rattle.std.proofs.Common.{◌≡◌, ◌≢◌, ℕ, ◌+◌, ◌%◌, arith, ap, sym, subst, Option, Some}
use Rattle.std.proofs.Common.{None, List, [], ◌∷◌, slice_index_or, Contains, filter}
use Rattle.std.proofs.lemmas.List.Elements.{All-contains, All-filter}
use Rattle.fp_setup.specs.declared.loop_list.LoopSetup.{LoopSetup}
use Rattle.fp_setup.specs.Loops.{AreLoops, IsLoop}
use Rattle.region_tree.specs.Edges.{edges_of}
use Rattle.region_tree.specs.Graph.{Edge, Holds, edge_list}
use Rattle.region_tree.specs.Refusals.{UnboundedAt}
use Rattle.region_tree.specs.Nesting.{EnteredAt}
use Rattle.region_tree.specs.Tree.{IsSection, counts}
use Rattle.call_bounds.specs.declared.routines.Routine.{Routine}
use Rattle.call_bounds.specs.Calls.{Calls, Function, callee, inner_edges}
use Rattle.call_bounds.specs.Calls.{function, plain_edges, plain_unless, range}
use Rattle.call_bounds.proofs.Agree.{reach}
use Rattle.call_bounds.proofs.Composed.{agrees-back}

plain-or : (o : Option Routine) (u : ℕ) (edges : List Edge) (e : Edge) →
    Contains (inner_edges o u edges) e → (e.to ≡ u + 4 → ⊥) → Contains (plain_unless o edges) e
plain-or None u edges e h other = h
plain-or (Some t) u edges e h other =
    let z : h.0 ≡ 0 = omega (arith, h.1) in
    let same : record { to = u + 4; lag = 3 } ≡ e =
    subst (λ i. slice_index_or (record { to = u + 4; lag = 3 } ∷ []) i e ≡ e) z h.2 in
    absurd (other (sym (ap (λ (y : Edge). y.to) same)))

pub unbounded-plain : (x : Calls) (a : Function) (u : ℕ) → (h : UnboundedAt (function x a) u) →
    Contains (plain_edges x u) h.by
unbounded-plain x a u h =
    plain-or (callee x u) u (edge_list (edges_of (x.word u) u)) h.by h.edge
    (λ e. let d = h.down in omega arith)

next-not : (j : LoopSetup) (u v : ℕ) → IsLoop j → u % 4 ≡ 0 → Holds j v → (Holds j u → ⊥) →
    v ≢ j.head → v ≡ u + 4 → ⊥
next-not j u v is align held out other e =
    out (let a = is.head_aligned in
    let b = is.last_aligned in
    let l = held.0 in
    let h = held.1 in
    (omega arith, omega arith))

pub entered-plain : (x : Calls) (a : Function) (address : ℕ) → IsSection (range x a) →
    AreLoops x.loops → (h : EnteredAt (function x a) address) → Contains (plain_edges x h.from) h.by
entered-plain x a address is rules h =
    let rule : IsLoop h.entered = All-contains IsLoop (filter (counts (range x a)) x.loops)
    h.entered (All-filter (counts (range x a)) IsLoop x.loops rules.each) h.known in
    let aligned = (reach (agrees-back x a is) h.reached).1 in
    plain-or (callee x h.from) h.from (edge_list (edges_of (x.word h.from) h.from)) h.by h.edge
    (next-not h.entered h.from h.by.to rule aligned h.inner h.outer h.other)
