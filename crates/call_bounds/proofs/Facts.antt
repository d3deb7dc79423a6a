-- Without a cause of refusal, functions share no word, and no function calls itself, even
-- indirectly.
use Rattle.std.proofs.Common.{◌≡◌, ℕ, ◌<◌, ◌≤◌, ◌⊎◌, ◌==◌, refl, arith, inl, inr}
use Rattle.std.proofs.Common.{ap, subst, sym, ◌∙◌, Option, Some, None, List, [], ◌∷◌}
use Rattle.std.proofs.Common.{filter, Contains, Bool, true, false, if◌then◌else◌}
use Rattle.std.proofs.lemmas.Bool.Decides.{nat_tests}
use Rattle.std.proofs.lemmas.List.Elements.{All-filter, All-contains, filter_passes}
use Rattle.fp_setup.specs.declared.loop_list.LoopSetup.{LoopSetup}
use Rattle.fp_setup.specs.Loops.{IsLoop}
use Rattle.rv_decode.specs.Table.{ins}
use Rattle.region_tree.specs.declared.section.Section.{Section}
use Rattle.region_tree.specs.Graph.{Lies}
use Rattle.region_tree.specs.Refusals.{IsAllowed}
use Rattle.region_tree.specs.Tree.{counts}
use Rattle.bound_calc.proofs.Outermost.{cons-cases, cons-first, cons-rest}
use Rattle.call_bounds.specs.Routines.{IsRoutine, Rise}
use Rattle.call_bounds.specs.declared.routines.Routine.{Routine}
use Rattle.call_bounds.specs.CallRefusals.{IsCallable, IsListing}
use Rattle.call_bounds.specs.Calls.{Calls, CallsLead, IsReached, Function, callee}
use Rattle.call_bounds.specs.Calls.{link_target, function, range, routine_at, routine_to}
use Rattle.bound_calc.proofs.Accepted.{accepted-of}
use Rattle.call_bounds.proofs.Functions.{AreFunctions}

at-listed : (rs : List Routine) (a : ℕ) (r : Routine) → routine_at rs a ≡ Some r → Contains rs r
unfolding routine_at
at-listed [] a r e = cc
at-listed (y ∷ rs) a r e = go (y.head == a) refl e (λ f. at-listed rs a r f)
  where
    go : (b : Bool) → (y.head == a) ≡ b → (if b then Some y else routine_at rs a) ≡ Some r →
        (routine_at rs a ≡ Some r → Contains rs r) → Contains (y ∷ rs) r
    go true h e later =
        let same : y ≡ r = cc in subst (λ r. Contains (y ∷ rs) r) same (cons-first y rs)
    go false h e later = cons-rest y rs r (later e)

to-listed : (rs : List Routine) (o : Option ℕ) (r : Routine) →
    routine_to rs o ≡ Some r → Contains rs r
to-listed rs None r e = cc
to-listed rs (Some a) r e = at-listed rs a r e

-- a called routine is listed
pub callee-listed : (x : Calls) (u : ℕ) (r : Routine) → callee x u ≡ Some r → Contains x.routines r
callee-listed x u r e = to-listed x.routines (link_target u (ins (x.word u))) r e

pub reached-listed : (x : Calls) (r : Routine) → IsReached x (Some r) → Contains x.routines r
reached-listed x r (IsReached.next {u = u} b w e) = callee-listed x u r e

-- two listed routines are equal or disjoint
pub listed-apart : (rs : List Routine) (r t : Routine) → Rise rs → Contains rs r → Contains rs t →
    (r ≡ t) ⊎ ((r.last < t.head) ⊎ (t.last < r.head))
listed-apart [] r t rise a b = absurd (omega (arith, a.1))
listed-apart (y ∷ rs) r t rise a b =
    go (cons-cases y rs r a) (cons-cases y rs t b) (λ a b. listed-apart rs r t rise.1 a b)
  where
    go : (y ≡ r) ⊎ Contains rs r → (y ≡ t) ⊎ Contains rs t →
        (Contains rs r → Contains rs t → (r ≡ t) ⊎ ((r.last < t.head) ⊎ (t.last < r.head))) →
        (r ≡ t) ⊎ ((r.last < t.head) ⊎ (t.last < r.head))
    go (inl e) (inl f) h = inl (sym e ∙ f)
    go (inl e) (inr b) h = inr (inl (subst (λ r. r.last < t.head) e (rise.0 t b)))
    go (inr a) (inl f) h = inr (inr (subst (λ t. t.last < r.head) f (rise.0 r a)))
    go (inr a) (inr b) h = h a b

counting-is : (s : Section) (j : LoopSetup) → counts s j ≡ true →
    (s.from ≤ j.head) × (j.last < s.to)
counting-is s j h = (grind (arith, nat_tests), grind (arith, nat_tests))

ordered : (x : Calls) (s : Section) → IsListing x → (j : LoopSetup) →
    Contains (filter (counts s) x.loops) j → (s.from ≤ j.head) × (j.head ≤ j.last) × (j.last < s.to)
ordered x s is j h =
    let rule = All-contains IsLoop (filter (counts s) x.loops) j
    (All-filter (counts s) IsLoop x.loops is.loops.each) h in
    let within = counting-is s j (All-contains (λ i. counts s i ≡ true)
    (filter (counts s) x.loops) j (filter_passes (counts s) x.loops) h) in
    (within.0, rule.ordered, within.1)

never : (x : Calls) → CallsLead x None None → ⊥
never x l = elim l [ ]

pub functions : (x : Calls) → IsListing x → IsCallable x → AreFunctions x
functions x is ok = record {
  some = some;
  same = same;
  once = once;
  accepted = λ a r. accepted-of (function x a) (λ j h. ordered x (range x a) is j h) (allowed a r);
}
  where
    some : (a : Function) → IsReached x a → (function x a).from < (function x a).to
    some None r = is.section.order
    some (Some t) r =
        let o = is.routines.each t (reached-listed x t r) in let h = o.order in omega arith

    allowed : (a : Function) → IsReached x a → IsAllowed (function x a)
    allowed a r = record {
      nesting = λ u h. ok.nesting u (record { within = a; reached = r; holds = h });
      indirect = λ u h. ok.indirect u (record { within = a; reached = r; holds = h });
      timed = λ u h. ok.timed u (record { within = a; reached = r; holds = h });
      unbounded = λ u h. ok.unbounded u (record { within = a; reached = r; holds = h });
    }

    once : (a : Function) → CallsLead x a a → ⊥
    once None l = never x l
    once (Some r) l = ok.recursion r.head (record { routine = r; again = l; address = refl })

    -- a routine has no word of the section
    outside : (r : Routine) (v : ℕ) → Contains x.routines r → Lies (function x None) v →
        Lies (function x (Some r)) v → ⊥
    outside r v h l m =
        let o = is.routines.each r h in
        let a = o.head_aligned in
        let b = o.last_aligned in
        let c = is.section.from_aligned in
        let d = is.section.to_aligned in
        let l0 = l.low in
        let l1 = l.high in
        let m0 = m.low in
        let m1 = m.high in
        ok.overlap r.head (record {
          routine = r;
          listed = h;
          below = omega arith;
          above = omega arith;
          address = refl;
        })

    between : (r t : Routine) (v : ℕ) → IsRoutine r → IsRoutine t → r.last < t.head →
        Lies (function x (Some r)) v → Lies (function x (Some t)) v → ⊥
    between r t v a b lt l m =
        let c = a.last_aligned in
        let d = b.head_aligned in let l1 = l.high in let m0 = m.low in omega arith

    same : (a b : Function) (v : ℕ) → IsReached x a → IsReached x b → Lies (function x a) v →
        Lies (function x b) v → a ≡ b
    same None None v ra rb l m = refl
    same None (Some t) v ra rb l m = absurd (outside t v (reached-listed x t rb) l m)
    same (Some r) None v ra rb l m = absurd (outside r v (reached-listed x r ra) m l)
    same (Some r) (Some t) v ra rb l m =
        go (listed-apart x.routines r t is.routines.rise (reached-listed x r ra)
        (reached-listed x t rb))
      where
        go : (r ≡ t) ⊎ ((r.last < t.head) ⊎ (t.last < r.head)) → Some r ≡ Some t
        go (inl e) = ap Some e
        go (inr (inl lt)) =
            absurd (between r t v (is.routines.each r (reached-listed x r ra))
            (is.routines.each t (reached-listed x t rb)) lt l m)
        go (inr (inr gt)) =
            absurd (between t r v (is.routines.each t (reached-listed x t rb))
            (is.routines.each r (reached-listed x r ra)) gt m l)
