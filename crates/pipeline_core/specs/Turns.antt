-- The turn of a stage register, as the stages use it.
use Rattle.std.specs.Prelude.{ℕ, ◌-◌, ◌<◌, nat_lt, Bool, true, false, if◌then◌else◌}
use Rattle.pipe_model.specs.declared.stage_registers.Held.{Held}
use Rattle.pipe_model.specs.declared.stage_registers.Held.TheVariants.{Bubble, Flushed, Issue}
use Rattle.pipeline_core.specs.declared.stage_register.StageRegister.{StageRegister}

-- the turn of a byte. Below 8 it is the thread of an issue, from 8 to 15 that of a flushed turn
-- plus 8. From 16 on the turn is a bubble
unfoldable pub turn_of : {A : Type 0} → ℕ → A → Held A
turn_of turn what =
    if nat_lt turn 8 then Issue turn what
    else if nat_lt turn 16 then Flushed (turn - 8)
    else Bubble

abbrev pub held : {A : Type 0} → StageRegister A → Held A
held r = turn_of r.turn r.what

-- a turn has a thread from 0 to 7, or is a bubble
abbrev pub HasThread : {A : Type 0} → Held A → Type 0
HasThread Bubble = Unit {0}
HasThread (Flushed k) = k < 8
HasThread (Issue k x) = k < 8

abbrev pub is_issue : {A : Type 0} → Held A → Bool
is_issue Bubble = false
is_issue (Flushed k) = false
is_issue (Issue k x) = true

abbrev pub is_bubble : {A : Type 0} → Held A → Bool
is_bubble Bubble = true
is_bubble (Flushed k) = false
is_bubble (Issue k x) = false

-- a turn that isn't an issue, in the next stage register
abbrev pub next_turn : {A B : Type 0} → Held A → Held B
next_turn Bubble = Bubble
next_turn (Flushed k) = Flushed k
next_turn (Issue k x) = Bubble
