-- The setups that commands read keep the rules.
use Rattle.std.specs.Prelude.{◌≡◌, List, ℕ, Ok}
use Rattle.fp_io.specs.Content.{FileMap}
use Rattle.fp_setup.specs.Rules.{KeepsRules}
use Rattle.commands.specs.declared.program.Program.{Program}
use Rattle.commands.specs.Program.{program}

-- the setup of a program that files have keeps the rules
abbrev pub ProgramsKeepRules : Type 0
ProgramsKeepRules =
    (files : FileMap) (name : List ℕ) (p : Program) → program files name ≡ Ok p → KeepsRules p.setup
