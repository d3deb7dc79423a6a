-- The run that arguments give: `SETUP --plants FILE --thread i --every n --cycles n`.
use Rattle.std.specs.Prelude.{◌≡◌, ℕ, ◌-◌, ◌<◌, ◌≤◌, List, [], ◌∷◌, Option, Some, None, codes}
use Rattle.std.specs.Prelude.{option_and_then, if◌then◌else◌, nat_lt}
use Rattle.timer_unit.specs.Time.{most_cycles}
use Rattle.fp_setup.specs.Vocabulary.{Text}
use Rattle.command_line.specs.Forms.{texts_in}
use Rattle.command_line.specs.Numbers.{number_in, thread_in}
use Rattle.loop_command_line.specs.declared.arguments.LoopAsk.{LoopAsk}

-- the options, in order
abbrev pub options : List Text
options = codes "plants" ∷ codes "thread" ∷ codes "every" ∷ codes "cycles" ∷ []

-- a number of cycles between two steps, from 1 on
abbrev pub positive : Option ℕ → Option ℕ
positive None = None
positive (Some n) = if nat_lt 0 n then Some n else None

-- a run, if its numbers are present
abbrev pub run_of : Text → Text → Option ℕ → Option ℕ → Option ℕ → Option LoopAsk
run_of setup plants (Some thread) (Some every) (Some cycles) = Some (record {
  setup = setup;
  plants = plants;
  thread = thread;
  every = every;
  cycles = cycles;
})
run_of setup plants _ _ _ = None

-- the run of the texts of the file name and of the options in order: the setup, the list of plants,
-- the thread whose trace is written, the cycles of a step of the plants, and the cycles of the run
abbrev pub run_asks : List Text → Option LoopAsk
run_asks (setup ∷ plants ∷ thread ∷ every ∷ cycles ∷ []) =
    run_of setup plants (thread_in thread) (positive (number_in most_cycles every))
    (number_in most_cycles cycles)
run_asks _ = None

-- the run that the arguments give, if any
unfoldable pub loop_ask : List Text → Option LoopAsk
loop_ask words = option_and_then run_asks (texts_in options words)

-- the values that a run may have
pub record IsWithinLimits (ask : LoopAsk) : Type 0 where
  pub thread : ask.thread < 8
  pub some : 0 < ask.every
  pub cycles : ask.cycles ≤ most_cycles
