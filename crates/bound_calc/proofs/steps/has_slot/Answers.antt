use Rattle.std.proofs.Common.{◌≡◌, ℕ, ◌+◌, ◌%◌, ◌<◌, ◌⊎◌, arith, length}
use Rattle.std.proofs.Common.{refl, true, false, subst, sym, ◌∙◌, inl, inr}
use Rattle.std.proofs.Math.Nat.{mod-eq_of_lt}
use Rattle.std.proofs.lemmas.List.{get_or_default}
use Rattle.slot_table.specs.Frame.{frame}
use Rattle.region_tree.specs.Walk.{IsOwn}
use Rattle.bound_calc.specs.Bound.{positions}
use Rattle.bound_calc.proofs.steps.has_slot.Goals as goal

below : (p k : ℕ) → p < k + 1 → (p < k) ⊎ (p ≡ k)
below p k h = grind arith

pub returns-then-is_own : goal.returns-then-is_own
returns-then-is_own c =
    let f = frame c.args.slots.now in
    let o : IsOwn (positions c.args.slots.now c.args.thread) (c.loop-cycle.cycle % length f) =
    c.is_own.ensures.0 c.if-is_own.true in
    let at = get_or_default f (c.loop-cycle.cycle % length f) c.args.thread 0 o.within in
    ((λ _. (c.loop-cycle.cycle % length f, o.within, at ∙ o.own)), (λ _. refl))

pub loop-cycle-preserved : goal.loop-cycle-preserved
loop-cycle-preserved c =
    λ p lt own.
    let is : c.loop-cycle.cycle % length (frame c.args.slots.now) ≡ c.loop-cycle.cycle =
    mod-eq_of_lt (omega (arith, c.frame_len.ensures)) in
    go p own is (below p c.loop-cycle.cycle lt)
  where
    go : (p : ℕ) → IsOwn (positions c.args.slots.now c.args.thread) p →
        c.loop-cycle.cycle % length (frame c.args.slots.now) ≡ c.loop-cycle.cycle →
        (p < c.loop-cycle.cycle) ⊎ (p ≡ c.loop-cycle.cycle) → ⊥
    go p own is (inl lt) = c.loop-cycle.invariant p lt own
    go p own is (inr e) =
        let is_true : c.is_own.result ≡ true = c.is_own.ensures.1
        (subst (λ k. IsOwn (positions c.args.slots.now c.args.thread) k) (e ∙ sym is) own) in
        let is_false : c.is_own.result ≡ false = c.if-is_own.false in
        cc

pub returns : goal.returns
returns c = (
  (λ h. let z : false ≡ true = h in cc),
  (λ m. absurd (c.loop-cycle.invariant m.0 (omega (arith, m.1, c.frame_len.ensures)) (record {
    within = m.1;
    own = sym (get_or_default (frame c.args.slots.now) m.0 c.args.thread 0 m.1) ∙ m.2;
  }))),
)
