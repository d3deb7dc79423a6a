-- The answers to `solo` and `check`: one thread of a program from only its view, and a recorded
-- trace compared with its text.
use Rattle.std.specs.Prelude.{◌≡◌, ℕ, ◌==◌, not, if◌then◌else◌, List}
use Rattle.std.specs.Prelude.{Option, Some, None, Result, Ok, Err, codes}
use Rattle.std.specs.Str.{bytes_eq}
use Rattle.core_model.specs.Solo.{solo}
use Rattle.fp_io.specs.Content.{FileMap}
use Rattle.fp_ports.specs.PluggedPorts.{Row}
use Rattle.fp_setup.specs.Settings.{Settings}
use Rattle.setup_model.specs.Start.{shown_to, thread_setup_of}
use Rattle.slot_scheduler.specs.ModeWord.{mode_of}
use Rattle.solo_run.specs.FirstDifference.{first_differing_line}
use Rattle.solo_run.specs.declared.checked.Checked.{Checked}
use Rattle.solo_run.specs.declared.checked.Checked.TheVariants.{Same, Differs}
use Rattle.solo_run.specs.Setup.{setup_view}
use Rattle.solo_run.specs.View.{abstract_view}
use Rattle.trace_print.specs.Text.{text}
use Rattle.trace_print.specs.declared.refusals.Refusal.TheVariants.{Section}
use Rattle.core_model.specs.Viewed.{view}
use Rattle.flexpret_top.specs.declared.ready.Alone.{Alone}
use Rattle.commands.specs.Codes.{section_code}
use Rattle.commands.specs.declared.codes.SectionNo.{SectionNo}
use Rattle.commands.specs.declared.codes.SectionNo.TheVariants.{NotHard, NotConfined}
use Rattle.commands.specs.declared.program.Program.{Program}
use Rattle.commands.specs.Answer.{Answer, differs_text, refusal_answer}
use Rattle.commands.specs.Answer.{then_by, over_file, ends}
use Rattle.commands.specs.Answer.Answer.{Says}
use Rattle.commands.specs.Program.{program}
use Rattle.flexpret_top.specs.Run.{start_of}

-- why a thread can't be run from only its view, if so: it isn't hard and awake, or else it isn't
-- confined
unfoldable pub alone_fault : Settings → ℕ → Option SectionNo
alone_fault s i =
    if not (mode_of s.modes i == 0) then Some NotHard
    else if not (thread_setup_of s i).confined then Some NotConfined
    else None

abbrev pub unless_fault : Program → Option SectionNo → Result Program Answer
unless_fault p None = Ok p
unless_fault p (Some fault) = Err (refusal_answer (Section (section_code fault)))

-- a program whose thread i is run from only its view
abbrev pub alone_in : ℕ → Program → Result Program Answer
alone_in i p = unless_fault p (alone_fault p.setup i)

abbrev pub alone_program : FileMap → List ℕ → ℕ → Result Program Answer
alone_program files name i = then_by (program files name) (alone_in i)

-- the text of the one-thread definition over the thread's view in n cycles
abbrev pub alone_text : List (Option Row) → ℕ → ℕ → Program → List ℕ
alone_text ports i n p = text (solo (view (start_of p ports n) i) n)

abbrev pub alone_of : List (Option Row) → ℕ → ℕ → Program → Result (List ℕ) Answer
alone_of ports i n p = Ok (alone_text ports i n p)

abbrev pub solo_answer : FileMap → List (Option Row) → List ℕ → ℕ → ℕ → Answer
solo_answer files ports name i n = ends (then_by (alone_program files name i) (alone_of ports i n))

abbrev pub same_text : List ℕ
same_text = codes "same\n"

-- whether a recorded trace is the text, and else in which line they first differ
abbrev pub comparison_of : List ℕ → List ℕ → Result (List ℕ) Answer
comparison_of text given =
    if bytes_eq given text then Ok same_text
    else Err (Says 1 (differs_text (first_differing_line given text)))

-- the answer of a comparison
abbrev pub said_by : Checked → Result (List ℕ) Answer
said_by Same = Ok same_text
said_by (Differs line) = Err (Says 1 (differs_text line))

abbrev pub checked_of : FileMap → List (Option Row) → ℕ → ℕ → List ℕ → Program →
    Result (List ℕ) Answer
checked_of files ports i n trace p =
    over_file (comparison_of (alone_text ports i n p)) (files trace)

abbrev pub check_answer : FileMap → List (Option Row) → List ℕ → ℕ → ℕ → List ℕ → Answer
check_answer files ports name i n trace =
    ends (then_by (alone_program files name i) (checked_of files ports i n trace))

-- a view of the thread in the machine of a program, except for the words of its port
pub record IsAloneOf (p : Program) (i n : ℕ) (a : Alone) : Type 0 where
  pub setup : a.setup ≡ p.setup
  pub thread : a.view.thread ≡ i
  pub cycles : a.cycles ≡ n
  pub views : (shown : List ℕ) → abstract_view a.view shown ≡ setup_view p.setup p.image i shown

pub record IsAlone (files : FileMap) (name : List ℕ) (i n : ℕ) (a : Alone) : Type 0 where
  pub made : Program
  pub is : alone_program files name i ≡ Ok made
  pub alone : IsAloneOf made i n a

-- the text of its run with the ports
abbrev pub told_alone : Alone → List (Option Row) → List ℕ
told_alone a ports =
    text (solo (abstract_view a.view (shown_to a.setup ports a.cycles a.view.thread)) a.cycles)
