use Rattle.std.proofs.Common.{◌≡◌, drop, map, string_bytes}
use Rattle.std.specs.List.{list_all}
use Rattle.command_line.proofs.Counts.{once}
use Rattle.command_line.proofs.given.gives_each_once.Given as goal

abbrev pub invariant-loop-option : goal.invariant-loop-option
invariant-loop-option l =
    let names = map (λ n. n.now) l.options in
    let each = list_all (once names (map string_bytes l.words)) in
    each names ≡ each (map (λ n. n.now) (drop l.option-index l.options))
