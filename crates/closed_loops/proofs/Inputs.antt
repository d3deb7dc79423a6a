-- Fixed input words are a plant that ignores all stores.
use Rattle.std.proofs.Common.{◌≡◌, ℕ, zero, suc, ◌-◌, List, refl, ap, ◌∙◌}
use Rattle.core_model.specs.View.{View}
use Rattle.core_model.specs.Solo.{Past, oldest_first, add_turn, port_at, solo_at, solo_turn}
use Rattle.core_model.specs.declared.phase.Phase.{Phase}
use Rattle.core_model.specs.Phased.{phase_at, phased_at, setting_in}
use Rattle.core_model.specs.Viewed.{view}
use Rattle.isolation.specs.Isolation.{Isolation}
use Rattle.closed_loops.specs.Loop.{input_plant, loop_at, phased_loop_at, without_port_words}
use Rattle.closed_loops.specs.Answered.{inputs_of}
use Rattle.closed_loops.specs.LoopLaws.{InputsAnswer, InputsAreLoops}
use Rattle.closed_loops.specs.LoopLaws.{LoopIsolation, PhasedInputsAreLoops}

pub inputs-answer : InputsAnswer
inputs-answer s i n c l = refl

input-loop_at : (v : View) (c : ℕ) →
    loop_at (without_port_words v) (input_plant v.shown) c ≡ solo_at v c
unfolding loop_at solo_at
input-loop_at v zero = refl
input-loop_at v (suc c) =
    ap (λ (past : Past). add_turn past (solo_turn v.setting c (port_at v c) past.alone))
    (input-loop_at v c)

pub inputs-are-loops : InputsAreLoops
inputs-are-loops v n = ap (λ (past : Past). oldest_first past.events) (input-loop_at v (n - 4))

phased-input-loop_at : (v : View) (ps : List Phase) (c : ℕ) →
    phased_loop_at (without_port_words v) (input_plant v.shown) ps c ≡ phased_at v ps c
unfolding phased_loop_at phased_at
phased-input-loop_at v ps zero = refl
phased-input-loop_at v ps (suc c) =
    ap (λ (past : Past). add_turn past (solo_turn (setting_in v.setting (phase_at ps c)) c
    (port_at v c) past.alone)) (phased-input-loop_at v ps c)

pub phased-inputs-are-loops : PhasedInputsAreLoops
phased-inputs-are-loops v ps n =
    ap (λ (past : Past). oldest_first past.events) (phased-input-loop_at v ps (n - 4))

pub input-isolation : LoopIsolation → InputsAnswer → InputsAreLoops → Isolation
unfolding view
input-isolation alone answered loops s i n p quiet =
    alone (inputs_of s i) s i n p quiet (answered s i n) ∙ loops (view s i) n
