use Rattle.std.proofs.Common.{◌≡◌, ◌++◌, drop, map, option_map}
use Rattle.loop_command_line.specs.Plants.{numbers_in}
use Rattle.loop_command_line.proofs.plants.numbers_of.Given as goal

-- the numbers so far and those of the words that are left
abbrev pub invariant-loop-word : goal.invariant-loop-word
invariant-loop-word l =
    numbers_in (map (λ word. word.now) l.words)
    ≡ option_map (λ ns. l.numbers.items ++ ns)
    (numbers_in (map (λ word. word.now) (drop l.word-index l.words)))
