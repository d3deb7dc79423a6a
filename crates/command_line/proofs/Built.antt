-- The value that building gives for a command's arguments, and the rows of pairs.
use Rattle.std.proofs.Common.{◌≡◌, ℕ, List, [], ◌∷◌, ◌++◌, map, Some, None}
use Rattle.std.proofs.Common.{refl, ap, sym, ◌∙◌, append_assoc, append-nil}
use Rattle.std.specs.List.{fold}
use Rattle.clap.specs.Walk.{Rule, Row}
use Rattle.clap.specs.Simple.{filled, filled_from, with_index, help_rule, built, with_rule, App}
use Rattle.clap.specs.declared.parser.matches.ValueSource.TheVariants.{CommandLine}
use Rattle.clap.specs.declared.builder.value_parser.Reading.TheVariants.{AsWritten}
use Rattle.fp_setup.specs.Vocabulary.{Text}
use Rattle.command_line.specs.Rules.{option_rule, file_rule, shaped, app}

abbrev pub built_option : Text → Rule
built_option name = filled (option_rule name)

abbrev pub built_file : Rule
built_file = with_index 1 (filled file_rule)

abbrev pub built_help : Rule
built_help = filled help_rule

-- the row of a pair
abbrev pub shown : Text × Text → Row
shown p = record {
  id = p.0;
  values = p.1 ∷ [];
  count = None;
  source = Some CommandLine;
  reading = AsWritten;
}

-- the options' rules and the help flag's
abbrev pub after_file : List Text → List Rule
after_file names = map built_option names ++ built_help ∷ []

options_built : (k : ℕ) (names : List Text) →
    filled_from k (map option_rule names ++ help_rule ∷ []) ≡ after_file names
options_built k [] = refl
options_built k (n ∷ ns) = ap (λ (rest : List Rule). built_option n ∷ rest) (options_built k ns)

pub rules_are : (name : Text) (names : List Text) →
    (built (app name names)).top.rules ≡ built_file ∷ after_file names
rules_are name names = ap (λ (rest : List Rule). built_file ∷ rest) (options_built 2 names)

-- the command after one more option
abbrev pub and_option : App → Text → App
and_option a n = with_rule a (option_rule n)

pub options_added : (name : Text) (rules : List Rule) (names : List Text) →
    fold and_option (shaped name rules) names ≡ shaped name (rules ++ map option_rule names)
options_added name rules [] = ap (shaped name) (sym (append-nil rules))
options_added name rules (n ∷ ns) =
    options_added name (rules ++ option_rule n ∷ []) ns
    ∙ ap (shaped name) (append_assoc rules (option_rule n ∷ []) (map option_rule ns))
