-- The rules of loops, for scratchpads of any size.
use Rattle.std.specs.Prelude.{ℕ, ◌≡◌, ◌%◌, ◌≤◌, List, length}
use Rattle.std.specs.List.{All}
use Rattle.fp_setup.specs.declared.loop_list.LoopSetup.{LoopSetup}

-- the largest bound of a loop: how often its back edges may be taken for one entry
abbrev pub most_rounds : ℕ
most_rounds = 1048576

pub record IsLoop (l : LoopSetup) : Type 0 where
  pub head_aligned : l.head % 4 ≡ 0
  pub last_aligned : l.last % 4 ≡ 0
  pub ordered : l.head ≤ l.last
  pub limited : l.limit ≤ most_rounds

pub record AreLoops (loops : List LoopSetup) : Type 0 where
  pub few : length loops ≤ 256
  pub each : All IsLoop loops
