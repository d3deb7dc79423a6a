use Rattle.std.proofs.Common.{◌≡◌, drop, map}
use Rattle.std.specs.List.{fold}
use Rattle.clap.specs.Words.{app_of}
use Rattle.command_line.specs.Rules.{app}
use Rattle.command_line.proofs.Built.{and_option}
use Rattle.command_line.proofs.parse.command_of.Given as goal

abbrev pub invariant-loop-option : goal.invariant-loop-option
invariant-loop-option l =
    app l.name (map (λ n. n.now) l.options)
    ≡ fold and_option (app_of l.command) (map (λ n. n.now) (drop l.option-index l.options))
