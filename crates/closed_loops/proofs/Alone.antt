-- A thread that a plant answers runs as it does by itself with its plant.
use Rattle.std.proofs.Common.{◌≡◌, ℕ, zero, suc, ◌+◌, ◌-◌, ◌≤◌, true, List}
use Rattle.std.proofs.Common.{add-zero, add-suc, refl, ap, sym, ◌∙◌, subst, arith}
use Rattle.rv_exec.specs.declared.outcome.Event.{Event}
use Rattle.core_model.specs.Solo.{Past, oldest_first, add_turn, port_at, solo_at, solo_turn}
use Rattle.core_model.specs.Viewed.{view}
use Rattle.core_model.specs.World.{Start, events_of, is_quiet, world}
use Rattle.isolation.specs.Isolation.{StartsConfinedHard, Isolation}
use Rattle.isolation.proofs.Induction.{quiet_before}
use Rattle.closed_loops.specs.Loop.{LoopView, Plant, plant_word, loop_at, port_stores, solo_in_loop}
use Rattle.closed_loops.specs.Answered.{IsAnswered, loop_view}
use Rattle.closed_loops.specs.LoopLaws.{EqualLoops, LoopIsolation}

quiet-shorter : (s : Start) (c m : ℕ) → is_quiet s (c + m) ≡ true → is_quiet s c ≡ true
unfolding world
quiet-shorter s c zero q = rw add-zero at q
quiet-shorter s c (suc m) q = quiet-shorter s c m (quiet_before s (c + m) (rw add-suc at q))

-- the thread's events before a cycle are the same in the world and by itself
abbrev SoFar : Start → ℕ → ℕ → Type 0
SoFar s i c = events_of i (world s c).turns ≡ oldest_first (solo_at (view s i) c).events

so-far : Isolation → (s : Start) (i n c : ℕ) → c + 4 ≤ n → StartsConfinedHard s i →
    is_quiet s n ≡ true → SoFar s i c
so-far alone s i n c less p quiet =
    let e : (c + 4) + (n - (c + 4)) ≡ n = omega arith in
    let back : c + 4 - 4 ≡ c = omega arith in
    let q : is_quiet s (c + 4) ≡ true =
    quiet-shorter s (c + 4) (n - (c + 4)) (subst (λ (m : ℕ). is_quiet s m ≡ true) (sym e) quiet) in
    subst (λ (m : ℕ). SoFar s i m) back (alone s i (c + 4) p q)

in-loop : Isolation → (plant : Plant) (s : Start) (i n c : ℕ) → c ≤ n - 4 →
    StartsConfinedHard s i → is_quiet s n ≡ true → IsAnswered plant s i n →
    loop_at (loop_view s i) plant c ≡ solo_at (view s i) c
unfolding loop_at solo_at view
in-loop alone plant s i n zero less p quiet a = refl
in-loop alone plant s i n (suc c) less p quiet a =
    ap (λ (past : Past). add_turn past (solo_turn (view s i).setting c
    (plant_word plant past c) past.alone)) (in-loop alone plant s i n c (omega arith) p quiet a)
    ∙ ap (λ (word : ℕ). add_turn (solo_at (view s i) c)
    (solo_turn (view s i).setting c word (solo_at (view s i) c).alone)) shows
  where
    shows : plant_word plant (solo_at (view s i) c) c ≡ port_at (view s i) c
    shows =
        ap (λ (es : List Event). plant (port_stores es) c)
        (sym (so-far alone s i n c (omega arith) p quiet)) ∙ sym (a c (omega arith))

pub loop-isolation : Isolation → LoopIsolation
loop-isolation alone plant s i n p quiet a =
    alone s i n p quiet ∙ sym (ap (λ (past : Past). oldest_first past.events)
    (in-loop alone plant s i n (n - 4) (omega arith) p quiet a))

pub equal-loops : LoopIsolation → EqualLoops
equal-loops alone plant s t i n p q a b e x y =
    alone plant s i n p a x ∙ ap (λ (v : LoopView). solo_in_loop v plant n) e
    ∙ sym (alone plant t i n q b y)
