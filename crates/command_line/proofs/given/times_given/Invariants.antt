use Rattle.std.proofs.Common.{◌≡◌, ◌+◌, ◌≤◌, drop, map, string_bytes, option_map, None}
use Rattle.command_line.specs.Code.{count_in}
use Rattle.command_line.proofs.given.times_given.Given as goal

abbrev pub invariant-loop-word : goal.invariant-loop-word
invariant-loop-word l = record {
  times : count_in (map (λ n. n.now) l.options) l.name None (map string_bytes l.words)
      ≡ option_map (λ k. l.times + k) (count_in (map (λ n. n.now) l.options) l.name
      (option_map (λ n. n.now) l.waiting) (map string_bytes (drop l.word-index l.words)));
  small : l.times ≤ l.word-index;
}
