-- Specification values of the code's values.
use Rattle.std.specs.Prelude.{ℕ, ◌==◌, List, Option, Some, None}
use Rattle.std.specs.Prelude.{option_map, Bool, true, false, unwrap_or, []}
use Rattle.std.specs.Option.{option_map_or}
use Rattle.std.specs.Str.{bytes_eq}
use Rattle.fp_setup.specs.Vocabulary.{Text}
use Rattle.command_line.specs.Forms.{Pairs, Form, gives, opens, bad, pairs, each_once, count_of}
use Rattle.command_line.specs.Commands.{CommandRow, run_row, dump_row, asm_row, bound_row}
use Rattle.command_line.specs.Commands.{selfrun_row}
use Rattle.command_line.specs.Commands.{phases_row, solo_row, check_row, elf_row, calls_row}
use Rattle.command_line.specs.declared.command.Command.{Command}
use Rattle.command_line.specs.declared.command.Command.TheVariants.{Run, Dump, Asm, Bound, Selfrun}
use Rattle.command_line.specs.declared.command.Command.TheVariants.{Phases, Solo, Check, Elf, Calls}
use Rattle.command_line.specs.declared.form.Form.{Form as CodeForm}
use Rattle.command_line.specs.declared.form.Form.TheVariants as code

-- the command's row of the table
abbrev pub command_row_of : Command → CommandRow
command_row_of Run = run_row
command_row_of Dump = dump_row
command_row_of Asm = asm_row
command_row_of Bound = bound_row
command_row_of Selfrun = selfrun_row
command_row_of Phases = phases_row
command_row_of Solo = solo_row
command_row_of Check = check_row
command_row_of Elf = elf_row
command_row_of Calls = calls_row

-- the form that the code found
abbrev pub form_value : CodeForm → Form
form_value (code.Gives name value) = gives name.now value.now
form_value (code.Opens name) = opens name.now
form_value code.Bad = bad

abbrev pub is_bad_form : Form → Bool
is_bad_form bad = true
is_bad_form _ = false

-- the argument gives a value to this name
abbrev pub gives_to : Form → Text → Bool
gives_to (gives name value) wanted = bytes_eq name wanted
gives_to _ wanted = false

-- the option whose value is the next argument
abbrev pub opened_by : Form → Option Text
opened_by (opens name) = Some name
opened_by _ = None

-- the number of values given to the name in the arguments, if each argument is allowed
abbrev pub count_in : List Text → Text → Option Text → List Text → Option ℕ
count_in names name waiting words = option_map (count_of name) (pairs names waiting words)

abbrev pub is_one : Option ℕ → Bool
is_one None = false
is_one (Some n) = n == 1

-- the arguments give the file name and each option exactly once, and nothing else
abbrev pub has_forms : List Text → List Text → Bool
has_forms names words = option_map_or (each_once names) (pairs names None words) false

-- all pairs that the arguments give
abbrev pub pairs_in : List Text → List Text → Pairs
pairs_in names words = unwrap_or (pairs names None words) []
