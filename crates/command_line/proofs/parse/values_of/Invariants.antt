use Rattle.std.proofs.Common.{◌≡◌, ◌++◌, ◌∷◌, drop, map}
use Rattle.clap.specs.Words.{rows_of, found_of}
use Rattle.command_line.specs.Forms.{file_id}
use Rattle.command_line.specs.Rules.{row_text}
use Rattle.command_line.proofs.parse.values_of.Given as goal

abbrev pub invariant-loop-option : goal.invariant-loop-option
invariant-loop-option l =
    let text = row_text (rows_of (found_of l.matches)) in
    map text (file_id ∷ map (λ n. n.now) l.options)
    ≡ map (λ t. t.now) l.values.items ++ map text (map (λ n. n.now) (drop l.option-index l.options))
