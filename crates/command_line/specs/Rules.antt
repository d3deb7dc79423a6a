-- The command line parser's view of a command whose file name and options are required and take one
-- value each.
use Rattle.std.specs.Prelude.{◌&&◌, Bool, true, not, List, [], ◌∷◌, Some, map, unwrap_or}
use Rattle.std.specs.List.{list_all}
use Rattle.std.specs.Str.{bytes_eq}
use Rattle.clap.specs.Walk.{Rule, Row, first_of}
use Rattle.clap.specs.Simple.{new_rule, new_shape, App}
use Rattle.clap.specs.declared.builder.action.ArgAction.TheVariants.{Set}
use Rattle.fp_setup.specs.Vocabulary.{Text}
use Rattle.command_line.specs.Forms.{file_id}

abbrev pub option_rule : Text → Rule
option_rule name = record (new_rule name) { long = Some name; action = Some Set; required = true }

abbrev pub file_rule : Rule
file_rule = record (new_rule file_id) { action = Some Set; required = true }

-- a command without subcommands, whose words are all arguments
abbrev pub shaped : Text → List Rule → App
shaped name rules =
    record { top = record (new_shape name) { no_binary_name = true; rules = rules }; subs = [] }

-- the command of this name with a file name and these options
abbrev pub app : Text → List Text → App
app name names = shaped name (file_rule ∷ map option_rule names)

-- no option has an empty name or the file name's
abbrev pub is_option_name : Text → Bool
is_option_name name = not (bytes_eq file_id name) && not (bytes_eq name [])

abbrev pub is_fit : List Text → Bool
is_fit names = list_all is_option_name names

-- the value that was found for a name
abbrev pub row_text : List Row → Text → Text
row_text rows name = unwrap_or (first_of name rows) []
