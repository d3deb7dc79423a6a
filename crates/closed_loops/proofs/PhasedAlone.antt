-- A thread that a plant answers runs as it does by itself with its plant, over the settings.
use Rattle.std.proofs.Common.{◌≡◌, ℕ, zero, suc, ◌-◌, ◌≤◌, true, List, refl, ap, sym, ◌∙◌, arith}
use Rattle.std.specs.List.{list_all}
use Rattle.rv_exec.specs.declared.outcome.Event.{Event}
use Rattle.core_model.specs.Solo.{Past, oldest_first, add_turn, port_at, solo_turn}
use Rattle.core_model.specs.Viewed.{view}
use Rattle.core_model.specs.World.{Start}
use Rattle.core_model.specs.Phases.{phases, keeps_regions, is_never_soft}
use Rattle.core_model.specs.Phased.{phase_at, phased_at, setting_in}
use Rattle.isolation.specs.Isolation.{StartsConfined}
use Rattle.isolation.proofs.Induction.{phased-before, phased-isolation}
use Rattle.closed_loops.specs.Loop.{Plant, plant_word, phased_loop_at, port_stores}
use Rattle.closed_loops.specs.Answered.{IsAnswered, loop_view}
use Rattle.closed_loops.specs.LoopLaws.{PhasedLoops}

in-loop : (plant : Plant) (s : Start) (i n c : ℕ) → c ≤ n - 4 →
    StartsConfined s i → list_all (is_never_soft i) (phases s n) ≡ true →
    keeps_regions s n ≡ true → IsAnswered plant s i n →
    phased_loop_at (loop_view s i) plant (phases s n) c ≡ phased_at (view s i) (phases s n) c
unfolding phased_loop_at phased_at view
in-loop plant s i n zero less p never kept a = refl
in-loop plant s i n (suc c) less p never kept a =
    ap (λ (past : Past). add_turn past (solo_turn (setting_in (view s i).setting
    (phase_at (phases s n) c)) c (plant_word plant past c) past.alone))
    (in-loop plant s i n c (omega arith) p never kept a) ∙ ap (λ (word : ℕ). add_turn before
    (solo_turn (setting_in (view s i).setting (phase_at (phases s n) c)) c word before.alone)) shows
  where
    before : Past
    before = phased_at (view s i) (phases s n) c

    shows : plant_word plant (phased_at (view s i) (phases s n) c) c ≡ port_at (view s i) c
    shows =
        ap (λ (es : List Event). plant (port_stores es) c)
        (phased-before s i n c (omega arith) p never kept) ∙ sym (a c (omega arith))

pub phased-loops : PhasedLoops
phased-loops plant s i n p never kept a =
    phased-isolation s i n p never kept ∙ sym (ap (λ (past : Past). oldest_first past.events)
    (in-loop plant s i n (n - 4) (omega arith) p never kept a))
