-- The machine that the rows start from.
use Rattle.std.specs.Prelude.{ℕ, ◌-◌, ◌/◌, true, false, List, ◌∷◌, ◌++◌, length, replicate, None}
use Rattle.rv_exec.specs.declared.outcome.Effect.{Effect}
use Rattle.rv_exec.specs.declared.outcome.Event.{Event}
use Rattle.core_model.specs.Thread.{fresh}
use Rattle.core_model.specs.World.{Start}

-- the words of a scratchpad of a size in bytes; the first words are given, the others 0
abbrev pub words : ℕ → List ℕ → List ℕ
words size first = first ++ replicate (size / 4 - length first) 0

-- cycles of 10 ns; thread 0 is hard, confined and has all cycles, the others are soft asleep; it
-- owns the first region of data, thread 1 the second, the third is shared, and all others are read
-- only; eight ports are there
abbrev pub base : List ℕ → Start
base code =
    record {
      period = 10;
      size = 16384;
      threads = replicate 8 (fresh 0);
      confined = true ∷ replicate 7 false;
      permit = replicate 8 false;
      i_words = words 16384 code;
      d_words = replicate 4096 0;
      registers = record {
        slots = 0xfffffff0;
        modes = 0xfffc;
        dregions = 0xccccc810;
        iregions = 0xcccccccc;
      };
      shown = replicate 8 (replicate 60 0);
      handed = replicate 8 true;
      unplugs = replicate 8 None;
      latches = replicate 8 0;
    }

abbrev pub at : ℕ → ℕ → ℕ → ℕ → Effect → Event
at thread cycle pc word effect =
    record { cycle = cycle; thread = thread; pc = pc; word = word; effect = effect }
