-- What a command line does: the contract of `flexpret`, and the main theorem of this repository.
--
-- `asked` is the command that the arguments request, or None for a usage error. The objects for
-- files and sink may expose their contents, or not; `Outcome` holds for both, and `KnownOutcome` is
-- its part for files whose contents are known. The definitions of the commands' answers are in
-- Command.antt, and those of the guarantees for a thread in Headline.antt.
use Rattle.std.specs.Prelude.{◌≡◌, ◌≢◌, ◌⊎◌, ◌≤◌, ℕ, List, Option, None, IfSome, IsSomeAnd}
use Rattle.fp_io.specs.Causes.{HasRisen}
use Rattle.fp_io.specs.Content.{FileMap, Request}
use Rattle.fp_io.specs.declared.files.Files as files_trait
use Rattle.fp_io.specs.declared.sink.Sink as sink_trait
use Rattle.fp_ports.specs.PluggedPorts.{Row}
use Rattle.command_line.specs.declared.asked.Ask.{Ask}
use Rattle.commands.specs.Answer.Answer.{Missing}
use Rattle.commands.specs.Status.{IsStatus}
use Rattle.flexpret_top.specs.Command.{Answered, Began, IsAnswerTo, Said}
use Rattle.flexpret_top.specs.Command.{HasLeftBy, HasLeftCutShort, HasLeftUnrun}
use Rattle.flexpret_top.specs.Command.{OnlyReadsBy, UsesNoPortBy}
use Rattle.flexpret_top.specs.Headline.{BoundsCallVisits, BoundsVisits}
use Rattle.flexpret_top.specs.Headline.{WritesAsRun, WritesImage, WritesIsolated}
use Rattle.flexpret_top.specs.Requests.{IsAskedBy, LacksFirstBy}

-- Files, sink and ports at one moment, with what their contracts expose.
pub record State (F K P : Type 0) : Type 0 where
  -- the object for the files
  pub files : F
  -- the map of the files, if it is exposed
  pub contents : Option FileMap
  -- the requests so far, if they are exposed
  pub requests : Option (List Request)
  -- how many faults were met in reading
  pub read_faults : ℕ
  -- the object for the output
  pub sink : K
  -- the bytes it has taken, if they are exposed
  pub written : Option (List ℕ)
  -- how many faults were met in writing
  pub write_faults : ℕ
  -- the objects for the eight ports
  pub ports : P
  -- what these ports are: a latch, and a word for each cycle
  pub rows : List (Option Row)

-- the state of such objects, by the members of their traits
abbrev pub state : {F K P : Type 0} → files_trait.Ghosts F → sink_trait.Ghosts K → F → K → P →
    List (Option Row) → State F K P
state of_files of_sink f k p rows = record {
  files = f;
  contents = of_files.contents f;
  requests = of_files.requests f;
  read_faults = of_files.faults f;
  sink = k;
  written = of_sink.taken k;
  write_faults = of_sink.faults k;
  ports = p;
  rows = rows;
}

-- What a command does with files of known contents, up to its status.
pub record KnownOutcome {F K P : Type 0} (files : FileMap) (asked : Option Ask)
    (before after : State F K P) (status : ℕ) : Type 0 where
  -- The status and the whole text are those of the command's answer.
  pub said : status ≢ 7 → status ≢ 8 → status ≢ 9 →
      Said (IsAnswerTo asked files before.rows) status before.written after.written
  -- If the sink failed, a prefix of the answer's text was written.
  pub prefix : status ≡ 8 → Began (IsAnswerTo asked files before.rows) before.written after.written
  -- Without a fault of files or sink, the status is the answer's, unless memory ran out.
  pub complete : ¬ HasRisen before.read_faults after.read_faults →
      ¬ HasRisen before.write_faults after.write_faults →
      (status ≡ 9) ⊎ Answered (IsAnswerTo asked files before.rows) status
  -- Isolation: `run` wrote a trace that depends only on the confined thread's own view.
  pub isolated : status ≡ 0 →
      WritesIsolated asked files before.rows before.written after.written
  -- `solo` wrote, from only that view, the trace that `run` writes.
  pub as_run : status ≡ 0 → WritesAsRun asked files before.rows before.written after.written
  -- `bound` wrote a number of cycles that no visit of the section exceeds, and some path costs.
  pub visits : status ≡ 0 → BoundsVisits asked files before.written after.written
  -- So did `calls`, for a section with the functions that it calls.
  pub call_visits : status ≡ 0 → BoundsCallVisits asked files before.written after.written
  -- `elf` wrote a file that reads as the executable's image.
  pub imported : status ≡ 0 → WritesImage asked files before.written after.written
  -- The ports are those after the command's cycles.
  pub ports : status ≡ 0 → HasLeftBy asked files before.rows after.rows
  -- If the sink failed, they are those after some of these cycles.
  pub part : status ≡ 8 → HasLeftCutShort asked files before.rows after.rows
  -- If memory ran out, some of the setup's inputs were fed, and no cycle was run.
  pub unrun : status ≡ 9 → HasLeftUnrun asked files before.rows after.rows

-- What a command line does, with any files, sink and eight ports, up to its status.
pub record Outcome {F K P : Type 0} (looks_first : Type 0) (asked : Option Ask)
    (before after : State F K P) (status : ℕ) : Type 0 where
  -- There is no status but 0 to 10.
  pub statuses : IsStatus status
  -- Status 2 is for a usage error only, and a usage error has no other, unless memory ran out.
  pub usage : status ≡ 2 → asked ≡ None
  pub asks : asked ≡ None → (status ≡ 2) ⊎ (status ≡ 9)
  -- A usage error reads no file.
  pub untouched : asked ≡ None → after.files ≡ before.files
  -- A command requests its files in order, each with the size that it accepts, and no others.
  pub requests : IsAskedBy asked before.contents status before.requests after.requests
  -- Files keep their contents.
  pub contents : after.contents ≡ before.contents
  -- Status 7 means a fault in reading, or that a file isn't there.
  pub read : status ≡ 7 → HasRisen before.read_faults after.read_faults ⊎
      IsSomeAnd before.contents (λ files. IsAnswerTo asked files before.rows Missing)
  -- If the first file isn't there the status is 7, or memory ran out before any file was requested.
  pub missing : LacksFirstBy looks_first asked before.contents →
      (status ≡ 7) ⊎ ((status ≡ 9) × (after.files ≡ before.files))
  -- Status 8 means a fault in writing.
  pub write : status ≡ 8 → HasRisen before.write_faults after.write_faults
  -- With status 2, 7 and 9 nothing is written.
  pub nothing : (status ≡ 2) ⊎ ((status ≡ 7) ⊎ (status ≡ 9)) → after.sink ≡ before.sink
  -- Counts of faults never fall.
  pub counted_files : before.read_faults ≤ after.read_faults
  pub counted_out : before.write_faults ≤ after.write_faults
  -- With a refusal, and with 2 and 7, the ports are as they were handed in.
  pub kept : 2 ≤ status → status ≢ 8 → status ≢ 9 → after.ports ≡ before.ports
  -- So they are after a command that uses no port.
  pub apart : UsesNoPortBy asked → after.ports ≡ before.ports
  -- `solo` and `check` change neither a latch nor a word, and status 1 doesn't either.
  pub reads : OnlyReadsBy asked → after.rows ≡ before.rows
  pub differs : status ≡ 1 → after.rows ≡ before.rows
  -- If the contents of the files are known, text and ports are as defined.
  pub known : IfSome before.contents (λ files. KnownOutcome files asked before after status)
