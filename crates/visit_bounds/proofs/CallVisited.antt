-- The issues of a call visit are a path with matching calls and returns. Its cost is the visit's
-- length.
use Rattle.std.proofs.Common.{◌≡◌, ◌⊎◌, ℕ, ◌+◌, ◌≤◌, ◌==◌, inl, inr, refl, arith}
use Rattle.std.proofs.Common.{ap, sym, subst, ◌∙◌, Bool, true, false, if◌then◌else◌}
use Rattle.std.proofs.Common.{Option, Some, None, List, [], ◌∷◌, Contains}
use Rattle.std.proofs.lemmas.Bool.Decides.{nat_tests}
use Rattle.fp_setup.specs.declared.loop_list.LoopSetup.{LoopSetup}
use Rattle.rv_decode.specs.Table.{ins}
use Rattle.rv_decode.specs.declared.instruction.Ins.{Ins}
use Rattle.rv_decode.specs.declared.instruction.Ins.TheVariants.{Jal}
use Rattle.region_tree.proofs.EdgeLaws.{edge-is}
use Rattle.region_tree.specs.Edges.{aligned_target, edges_from, edges_of, offset}
use Rattle.region_tree.specs.Graph.{Edge, Lies, Reachable, edge_list}
use Rattle.region_tree.specs.Walk.{IsNextTurn, counter_after}
use Rattle.region_tree.specs.declared.edges.Stop.{Stop}
use Rattle.region_tree.specs.declared.edges.Stop.TheVariants.{No, Indirect, Timed}
use Rattle.call_bounds.specs.declared.routines.Routine.{Routine}
use Rattle.call_bounds.specs.Calls.{Calls, Counts, IsReached, Function, callee, is_back}
use Rattle.call_bounds.specs.Calls.{link_target}
use Rattle.call_bounds.specs.Calls.{function, plain_edges, plain_unless, routine_at, routine_to}
use Rattle.call_bounds.specs.CallRefusals.{IsCallable}
use Rattle.call_bounds.specs.CallWalk.{CallWalk, CostsOf, Route, counter_after_call, function_in}
use Rattle.call_bounds.proofs.Nested.{Open, Top, opened, top}
use Rattle.call_bounds.proofs.Functions.{AreFunctions, call-edge, plain-edge}
use Rattle.visit_bounds.specs.CallVisits.{ComesBack, counted_after, open_after}
use Rattle.visit_bounds.proofs.Returns.{back-is, ins-back}

-- the successors of a word: its edges, and from a return any address
abbrev pub CallEdge : Calls → ℕ → Edge → Type 0
CallEdge x u e =
    (((edges_of (x.word u) u).stop ≡ No) × Contains (edge_list (edges_of (x.word u) u)) e)
    ⊎ ((is_back (x.word u) ≡ true) × (e.lag ≡ 3))

-- a return is an indirect jump, and no call
pub back-stop : (w u : ℕ) → is_back w ≡ true → (edges_of w u).stop ≡ Indirect
unfolding edges_of edges_from
back-stop w u h = ap (λ i. (edges_from u i).stop) (ap ins (back-is w h) ∙ ins-back)

back-callee : (x : Calls) (u : ℕ) → is_back (x.word u) ≡ true → callee x u ≡ None
unfolding link_target
back-callee x u h =
    ap (λ i. routine_to x.routines (link_target u i)) (ap ins (back-is (x.word u) h) ∙ ins-back)

head-of : (rs : List Routine) (a : ℕ) (t : Routine) → routine_at rs a ≡ Some t → t.head ≡ a
unfolding routine_at
head-of [] a t e = cc
head-of (y ∷ rs) a t e = go (y.head == a) refl e (λ f. head-of rs a t f)
  where
    go : (b : Bool) → (y.head == a) ≡ b → (if b then Some y else routine_at rs a) ≡ Some t →
        (routine_at rs a ≡ Some t → t.head ≡ a) → t.head ≡ a
    go true h e later =
        let same : y ≡ t = cc in
        let z : y.head ≡ a = grind (arith, nat_tests) in ap (λ (r : Routine). r.head) (sym same) ∙ z
    go false h e later = later e

jump-to : (rs : List Routine) (o : Option ℕ) (t : Routine) (v : ℕ) → routine_to rs o ≡ Some t →
    o ≡ Some v → v ≡ t.head
jump-to rs o t v e is = sym (head-of rs v t (ap (routine_to rs) (sym is) ∙ e))

call-ins : (i : Ins) (u : ℕ) (rs : List Routine) (t : Routine) (e : Edge) →
    routine_to rs (link_target u i) ≡ Some t → Contains (edge_list (edges_from u i)) e →
    (e.to ≡ t.head) × (e.lag ≡ 3)
unfolding link_target edges_from
call-ins (Jal rd off) u rs t e is h = go (rd == 1) is
  where
    go : (b : Bool) → routine_to rs (if b then aligned_target (offset u off) else None) ≡ Some t →
        (e.to ≡ t.head) × (e.lag ≡ 3)
    go true is =
        let z = edge-is (aligned_target (offset u off)) 3 e h in
        (jump-to rs (aligned_target (offset u off)) t e.to is z.0, z.1)
    go false is = cc
call-ins i u rs t e is h = cc

-- a call leads to the routine's head
call-edge_in : (x : Calls) (u : ℕ) (t : Routine) (e : Edge) → callee x u ≡ Some t →
    Contains (edge_list (edges_of (x.word u) u)) e → (e.to ≡ t.head) × (e.lag ≡ 3)
unfolding edges_of
call-edge_in x u t e is h = call-ins (ins (x.word u)) u x.routines t e is h

-- the path with one more issue, if that is in its function
abbrev ExtendsPath : Route → ℕ → ℕ → List ℕ → ℕ → (LoopSetup → ℕ) → ℕ → ℕ → ℕ →
    Option Routine → Bool → Type 0
ExtendsPath x p u s c l d r v o b =
    Lies (function x.calls (function_in x.calls (open_after o b u s))) v →
    ((j : LoopSetup) → Counts x.calls j → counted_after o b s u v j (l j) ≤ j.limit) →
    CallWalk x p v r (open_after o b u s) (c + d) (λ j. counted_after o b s u v j (l j))

-- if it isn't in the function
abbrev Ends : Route → ℕ → List ℕ → ℕ → ℕ → ℕ → Option Routine → Bool → Type 0
Ends x u s c d v o b =
    (Lies (function x.calls (function_in x.calls (open_after o b u s))) v → ⊥) → CostsOf x (c + d)

-- a return among the words of the section would be refused
no-back : (x : Calls) (u : ℕ) → IsCallable x → Reachable (function x None) u →
    is_back (x.word u) ≡ true → ⊥
no-back x u ok word back = ok.indirect u (record {
  within = None;
  reached = IsReached.first;
  holds = (word, back-stop (x.word u) u back);
})

stops-not : (s : Stop) → s ≡ Indirect → s ≡ No → ⊥
stops-not No a b = cc
stops-not Indirect a b = cc
stops-not Timed a b = cc

-- a plain edge
abbrev IsPlain : Calls → ℕ → Edge → Type 0
IsPlain x u e = ((edges_of (x.word u) u).stop ≡ No) × Contains (edge_list (edges_of (x.word u) u)) e

plain-of : (x : Calls) (u : ℕ) (e : Edge) → callee x u ≡ None →
    Contains (edge_list (edges_of (x.word u) u)) e → Contains (plain_edges x u) e
plain-of x u e is h =
    subst (λ o. Contains (plain_unless o (edge_list (edges_of (x.word u) u))) e) (sym is) h

not-both : (b : Bool) → b ≡ true → b ≡ false → ⊥
not-both true a c = cc
not-both false a c = cc

pub goes : (x : Route) (p u q c d r : ℕ) (s : List ℕ) (l : LoopSetup → ℕ) (e : Edge) →
    AreFunctions x.calls → IsCallable x.calls → CallWalk x p u q s c l → CallEdge x.calls u e →
    IsNextTurn x.positions e.lag q d r → ComesBack s (is_back (x.calls.word u)) e.to →
    ExtendsPath x p u s c l d r e.to (callee x.calls u) (is_back (x.calls.word u))
goes x p u q c d r s l e is ok walk edge_in turn comes =
    go (callee x.calls u) (is_back (x.calls.word u)) refl refl edge_in
  where
    word : Reachable (function x.calls (function_in x.calls s)) u
    word = (top x l p s u q c (opened x p is walk)).word

    enters : (t : Routine) → callee x.calls u ≡ Some t → (e.to ≡ t.head) × (e.lag ≡ 3) →
        CallWalk x p e.to r (u ∷ s) (c + d) (λ j. counter_after_call t j (l j))
    enters t to z =
        subst (λ v. CallWalk x p v r (u ∷ s) (c + d) (λ j. counter_after_call t j (l j))) (sym z.0)
        (CallWalk.enter walk to (subst (λ n. IsNextTurn x.positions n q d r) z.1 turn))

    comes_back : (s : List ℕ) → CallWalk x p u q s c l →
        Reachable (function x.calls (function_in x.calls s)) u → ComesBack s true e.to →
        is_back (x.calls.word u) ≡ true → e.lag ≡ 3 → ExtendsPath x p u s c l d r e.to None true
    comes_back [] walk word comes back lag lies bounds = absurd (no-back x.calls u ok word back)
    comes_back (w ∷ s) walk word comes back lag lies bounds =
        subst (λ v. CallWalk x p v r s (c + d) (λ j. counter_after w (w + 4) j (l j))) (sym comes)
        (CallWalk.come_back walk back (subst (λ v. Lies (function x.calls (function_in x.calls
        s)) v) comes
        lies) (subst (λ n. IsNextTurn x.positions n q d r) lag turn) bounds)

    go : (o : Option Routine) (b : Bool) → callee x.calls u ≡ o → is_back (x.calls.word u) ≡ b →
        CallEdge x.calls u e → ExtendsPath x p u s c l d r e.to o b
    go (Some t) b to back (inl y) lies bounds = enters t to (call-edge_in x.calls u t e to y.1)
    go (Some t) b to back (inr y) lies bounds =
        absurd (let z = back-callee x.calls u y.0 in let w : None ≡ Some t = sym z ∙ to in cc)
    go None false to back (inl y) lies bounds =
        CallWalk.along e walk (plain-of x.calls u e to y.1) lies turn bounds
    go None false to back (inr y) lies bounds =
        absurd (not-both (is_back (x.calls.word u)) y.0 back)
    go None true to back (inl y) lies bounds =
        absurd
        (stops-not (edges_of (x.calls.word u) u).stop (back-stop (x.calls.word u) u back) y.0)
    go None true to back (inr y) lies bounds =
        comes_back s walk word (subst (λ b. ComesBack s b e.to) back comes) back y.1 lies bounds

-- no edge leads out of a routine
inside : (x : Calls) (s : List ℕ) (a : Function) (u : ℕ) (e : Edge) → IsCallable x → IsReached x a →
    Reachable (function x a) u → Contains ((function x a).edges u) e → (Lies (function x a) e.to →
    ⊥) → a ≡ None
inside x s None u e ok reached word edge out = refl
inside x s (Some t) u e ok reached word edge out =
    absurd (ok.escape u
    (record { routine = t; from = reached; word = word; by = e; edge = edge; out = out }))

pub ends : (x : Route) (p u q c d r : ℕ) (s : List ℕ) (l : LoopSetup → ℕ) (e : Edge) →
    AreFunctions x.calls → IsCallable x.calls → CallWalk x p u q s c l → CallEdge x.calls u e →
    IsNextTurn x.positions e.lag q d r → ComesBack s (is_back (x.calls.word u)) e.to →
    Ends x u s c d e.to (callee x.calls u) (is_back (x.calls.word u))
ends x p u q c d r s l e is ok walk edge_in turn comes =
    go (callee x.calls u) (is_back (x.calls.word u)) refl refl edge_in
  where
    leaves : (s : List ℕ) → CallWalk x p u q s c l → IsReached x.calls (function_in x.calls s) →
        Reachable (function x.calls (function_in x.calls s)) u → Contains (plain_edges x.calls u) e
        →
        (Lies (function x.calls (function_in x.calls s)) e.to → ⊥) → CostsOf x (c + d)
    leaves [] walk reached word edge out = CostsOf.leaves e walk edge out turn
    leaves (w ∷ s) walk reached word edge out =
        absurd (let z = inside x.calls s (callee x.calls w) u e ok reached word
        (plain-edge x.calls (callee x.calls w) u e edge) out in some w s (opened x p is walk) z)
      where
        some : (w : ℕ) (s : List ℕ) → Open x l p (w ∷ s) u q c → callee x.calls w ≡ None → ⊥
        some w s o z = let y : Some o.routine ≡ None = sym o.is ∙ z in cc

    comes_out : (w : ℕ) (s : List ℕ) → CallWalk x p u q (w ∷ s) c l →
        Open x l p (w ∷ s) u q c → is_back (x.calls.word u) ≡ true → e.to ≡ w + 4 → e.lag ≡ 3 →
        (Lies (function x.calls (function_in x.calls s)) e.to → ⊥) → CostsOf x (c + d)
    comes_out w [] walk o back to lag out =
        CostsOf.goes_back walk back
        (λ lies. out (subst (λ v. Lies (function x.calls None) v) (sym to) lies))
        (subst (λ n. IsNextTurn x.positions n q d r) lag turn)
    comes_out w (z ∷ s) walk o back to lag out = onto (top x l p (z ∷ s) w o.at o.one o.before)
      where
        onto : Top x l p (z ∷ s) w o.at o.one → CostsOf x (c + d)
        onto t =
            absurd
            (let none = inside x.calls s (callee x.calls z) w (record { to = w + 4; lag = 3 })
            ok t.reached t.word (call-edge x.calls (callee x.calls z) w o.routine o.is)
            (λ lies. out (subst (λ v. Lies (function x.calls (callee x.calls z)) v) (sym to) lies))
            in
            let y : Some o.before.routine ≡ None = sym o.before.is ∙ none in cc)

    back_out : (s : List ℕ) → CallWalk x p u q s c l →
        Reachable (function x.calls (function_in x.calls s)) u → ComesBack s true e.to →
        is_back (x.calls.word u) ≡ true → e.lag ≡ 3 → Ends x u s c d e.to None true
    back_out [] walk word comes back lag out = absurd (no-back x.calls u ok word back)
    back_out (w ∷ s) walk word comes back lag out =
        comes_out w s walk (opened x p is walk) back comes lag out

    enters : (t : Routine) → callee x.calls u ≡ Some t → IsReached x.calls (Some t) →
        e.to ≡ t.head → Lies (function x.calls (function_in x.calls (u ∷ s))) e.to
    enters t to reached head =
        subst (λ a. Lies (function x.calls a) e.to) (sym to)
        (let some = is.some (Some t) reached in record { low = omega arith; high = omega arith })

    here : Top x l p s u q c
    here = top x l p s u q c (opened x p is walk)

    go : (o : Option Routine) (b : Bool) → callee x.calls u ≡ o → is_back (x.calls.word u) ≡ b →
        CallEdge x.calls u e → Ends x u s c d e.to o b
    go (Some t) b to back (inl y) out =
        absurd (out
        (enters t to (IsReached.next here.reached here.word to) (call-edge_in x.calls u t
        e to y.1).0))
    go (Some t) b to back (inr y) out =
        absurd (let z = back-callee x.calls u y.0 in let w : None ≡ Some t = sym z ∙ to in cc)
    go None false to back (inl y) out =
        leaves s walk here.reached here.word (plain-of x.calls u e to y.1) out
    go None false to back (inr y) out = absurd (not-both (is_back (x.calls.word u)) y.0 back)
    go None true to back (inl y) out =
        absurd
        (stops-not (edges_of (x.calls.word u) u).stop (back-stop (x.calls.word u) u back) y.0)
    go None true to back (inr y) out =
        back_out s walk here.word (subst (λ b. ComesBack s b e.to) back comes) back y.1 out
