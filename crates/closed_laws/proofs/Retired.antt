-- A thread that a plant answers runs as it does by itself with its plant, with premises only on the
-- issues that have retired.
use Rattle.std.proofs.Common.{◌≡◌, ℕ, zero, suc, ◌+◌, ◌-◌, ◌≤◌, true, List}
use Rattle.std.proofs.Common.{refl, ap, sym, ◌∙◌, subst, arith}
use Rattle.std.specs.List.{list_all}
use Rattle.rv_exec.specs.declared.outcome.Event.{Event}
use Rattle.core_model.specs.Solo.{Past, oldest_first, add_turn, port_at, solo_at, solo_turn}
use Rattle.core_model.specs.Viewed.{view}
use Rattle.core_model.specs.World.{Start, events, events_of, is_quiet, leaves_registers}
use Rattle.core_model.specs.World.{recent, world}
use Rattle.core_model.specs.Phases.{phases, keeps_regions, is_never_soft, leaves_regions}
use Rattle.core_model.specs.Phased.{phase_at, phased_at, setting_in}
use Rattle.isolation.specs.Isolation.{StartsConfined, StartsConfinedHard}
use Rattle.isolation.specs.RetiredIsolation.{RetiredIsolation}
use Rattle.isolation.proofs.Induction.{PhasedInvariant, all_longer, always, oldest_first-own_turns}
use Rattle.closed_loops.specs.Loop.{Plant, plant_word, loop_at, phased_loop_at, phased_in_loop}
use Rattle.closed_loops.specs.Loop.{port_stores, solo_in_loop}
use Rattle.closed_loops.specs.Answered.{IsAnswered, loop_view}

-- the thread's events before a cycle are the same in the world and by itself
abbrev SoFar : Start → ℕ → ℕ → Type 0
SoFar s i c = events_of i (world s c).turns ≡ oldest_first (solo_at (view s i) c).events

so-far : RetiredIsolation → (s : Start) (i n c : ℕ) → c ≤ n - 4 → StartsConfinedHard s i →
    is_quiet s (n - 4) ≡ true → SoFar s i c
so-far alone s i n c less p quiet =
    let e : c + (n - 4 - c) ≡ n - 4 = omega arith in
    let back : c + 4 - 4 ≡ c = omega arith in
    let q : is_quiet s c ≡ true =
    all_longer leaves_registers s c (n - 4 - c)
    (subst (λ (k : ℕ). is_quiet s k ≡ true) (sym e) quiet) in
    subst (λ (k : ℕ). SoFar s i k) back
    (alone s i (c + 4) p (subst (λ (k : ℕ). is_quiet s k ≡ true) (sym back) q))

in-loop : RetiredIsolation → (plant : Plant) (s : Start) (i n c : ℕ) → c ≤ n - 4 →
    StartsConfinedHard s i → is_quiet s (n - 4) ≡ true → IsAnswered plant s i n →
    loop_at (loop_view s i) plant c ≡ solo_at (view s i) c
unfolding loop_at solo_at view
in-loop alone plant s i n zero less p quiet a = refl
in-loop alone plant s i n (suc c) less p quiet a =
    ap (λ (past : Past). add_turn past (solo_turn (view s i).setting c
    (plant_word plant past c) past.alone)) (in-loop alone plant s i n c (omega arith) p quiet a)
    ∙ ap (λ (word : ℕ). add_turn (solo_at (view s i) c)
    (solo_turn (view s i).setting c word (solo_at (view s i) c).alone)) shows
  where
    shows : plant_word plant (solo_at (view s i) c) c ≡ port_at (view s i) c
    shows =
        ap (λ (es : List Event). plant (port_stores es) c)
        (sym (so-far alone s i n c (omega arith) p quiet)) ∙ sym (a c (omega arith))

pub retired-loop : RetiredIsolation → (plant : Plant) (s : Start) (i n : ℕ) →
    StartsConfinedHard s i → is_quiet s (n - 4) ≡ true → IsAnswered plant s i n →
    events s i n ≡ solo_in_loop (loop_view s i) plant n
retired-loop alone plant s i n p quiet a =
    alone s i n p quiet ∙ sym (ap (λ (past : Past). oldest_first past.events)
    (in-loop alone plant s i n (n - 4) (omega arith) p quiet a))

-- the same over the settings
phased-so-far : (s : Start) (i n c : ℕ) → c ≤ n - 4 → StartsConfined s i →
    list_all (is_never_soft i) (phases s n) ≡ true → keeps_regions s (n - 4) ≡ true →
    oldest_first (phased_at (view s i) (phases s n) c).events ≡ events_of i (world s c).turns
unfolding world
phased-so-far s i n c l p never kept =
    let e : c + (n - 4 - c) ≡ n - 4 = omega arith in
    let q : list_all leaves_regions (world s c).turns ≡ true = all_longer leaves_regions s c
    (n - 4 - c)
    (subst (λ (m : ℕ). list_all leaves_regions (world s m).turns ≡ true) (sym e) kept) in
    let g : PhasedInvariant s i c (phases s n) = always s i (n - 4) c l p never q in
    ap oldest_first g.tied.events ∙ oldest_first-own_turns i (recent s c).now.turns

phased-in-loop : (plant : Plant) (s : Start) (i n c : ℕ) → c ≤ n - 4 →
    StartsConfined s i → list_all (is_never_soft i) (phases s n) ≡ true →
    keeps_regions s (n - 4) ≡ true → IsAnswered plant s i n →
    phased_loop_at (loop_view s i) plant (phases s n) c ≡ phased_at (view s i) (phases s n) c
unfolding phased_loop_at phased_at view
phased-in-loop plant s i n zero less p never kept a = refl
phased-in-loop plant s i n (suc c) less p never kept a =
    ap (λ (past : Past). add_turn past (solo_turn (setting_in (view s i).setting
    (phase_at (phases s n) c)) c (plant_word plant past c) past.alone))
    (phased-in-loop plant s i n c (omega arith) p never kept a) ∙ ap (λ (word : ℕ). add_turn before
    (solo_turn (setting_in (view s i).setting (phase_at (phases s n) c)) c word before.alone)) shows
  where
    before : Past
    before = phased_at (view s i) (phases s n) c

    shows : plant_word plant (phased_at (view s i) (phases s n) c) c ≡ port_at (view s i) c
    shows =
        ap (λ (es : List Event). plant (port_stores es) c)
        (phased-so-far s i n c (omega arith) p never kept) ∙ sym (a c (omega arith))

pub retired-phased-loop : (plant : Plant) (s : Start) (i n : ℕ) → StartsConfined s i →
    list_all (is_never_soft i) (phases s n) ≡ true → keeps_regions s (n - 4) ≡ true →
    IsAnswered plant s i n → events s i n ≡ phased_in_loop (loop_view s i) plant (phases s n) n
retired-phased-loop plant s i n p never kept a =
    let same : n - 4 ≤ n - 4 = omega arith in
    sym (phased-so-far s i n (n - 4) same p never kept)
    ∙ sym (ap (λ (past : Past). oldest_first past.events)
    (phased-in-loop plant s i n (n - 4) same p never kept a))
