-- The lines of a dump from the machine's fields, each by its number.
use Rattle.std.specs.Prelude.{◌≡◌, ℕ, ◌+◌, ◌-◌, ◌*◌, ◌/◌, ◌%◌, ◌==◌, nat_lt, not, ◌||◌}
use Rattle.std.specs.Prelude.{if◌then◌else◌}
use Rattle.std.specs.Prelude.{List, [], flat_map, slice_index_or, Bool, true, codes}
use Rattle.std.specs.List.{range_with_len}
use Rattle.region_guard.specs.Regions.{may_fetch}
use Rattle.core_model.specs.Thread.{no_own}
use Rattle.fp_ports.specs.PluggedPorts as rows
use Rattle.trace_print.specs.declared.dump_lines.StageContent.{StageContent}
use Rattle.trace_print.specs.declared.dump_lines.StageContent.TheVariants.{Nothing, Picked}
use Rattle.trace_print.specs.declared.dump_lines.StageContent.TheVariants.{Flushed, Issue}
use Rattle.trace_print.specs.DumpLines.{cycles_text, stage_text, word_text}
use Rattle.trace_print.specs.DumpLines.{thread_words_text, latch_text}
use Rattle.pipe_model.specs.declared.stage_registers.Held.{Held as InStage}
use Rattle.pipe_model.specs.declared.stage_registers.Held.TheVariants as stage
use Rattle.pipe_model.specs.declared.stage_registers.Fetched.{Fetched}
use Rattle.pipe_model.specs.declared.stage_registers.Decoded.{Decoded}
use Rattle.pipe_model.specs.declared.stage_registers.Executed.{Executed}
use Rattle.pipe_model.specs.declared.stage_registers.Stored.{Stored}
use Rattle.pipe_model.specs.declared.stage_registers.Written.{Written}
use Rattle.core_model.specs.World.{Registers}
use Rattle.pipe_model.specs.Stages.{StageRegisters, State}
use Rattle.machine.specs.DumpedState.{eight_from, traps_seen, timer_seen, words_seen}
use Rattle.core_model.specs.Thread.{reg_in}

-- the content of the first stage
abbrev pub fetched_held : InStage Fetched → StageContent
fetched_held stage.Bubble = Nothing
fetched_held (stage.Flushed k) = Picked k
fetched_held (stage.Issue k x) = Picked k

-- the word that the second stage shows: 0 if an expiry or a refused fetch will take the turn
abbrev pub shown_word : ℕ → List Bool → ℕ → ℕ → Decoded → ℕ
shown_word size confined iregions k x =
    if x.expired || not (may_fetch k size (slice_index_or confined k true) iregions x.pc)
    then 0
    else x.word

-- the content of the second stage
abbrev pub decoded_held : ℕ → List Bool → ℕ → InStage Decoded → StageContent
decoded_held size confined iregions stage.Bubble = Nothing
decoded_held size confined iregions (stage.Flushed k) = Flushed k
decoded_held size confined iregions (stage.Issue k x) =
    Issue k x.pc (shown_word size confined iregions k x)

-- what a stage behind D shows, where R relates an instruction's data to its address and word
abbrev pub IsTurnShown : {T : Type 0} → (T → ℕ × ℕ → Type 0) → InStage T → StageContent → Type 0
IsTurnShown R stage.Bubble shown = shown ≡ Nothing
IsTurnShown R (stage.Flushed k) shown = shown ≡ Flushed k
IsTurnShown R (stage.Issue k x) shown = (pc word : ℕ) × R x (pc, word) × (shown ≡ Issue k pc word)

-- the content of the third stage
abbrev pub executed_held : InStage Executed → StageContent
executed_held stage.Bubble = Nothing
executed_held (stage.Flushed k) = Flushed k
executed_held (stage.Issue k x) = Issue k x.pc x.word

-- the content of the fourth stage
abbrev pub stored_held : InStage Stored → StageContent
stored_held stage.Bubble = Nothing
stored_held (stage.Flushed k) = Flushed k
stored_held (stage.Issue k x) = Issue k x.pc x.word

-- the content of the fifth stage
abbrev pub written_held : InStage Written → StageContent
written_held stage.Bubble = Nothing
written_held (stage.Flushed k) = Flushed k
written_held (stage.Issue k x) = Issue k x.pc x.word

-- the ten lines of the machine
unfoldable pub head_line : StageRegisters → ℕ → List Bool → Registers → ℕ → ℕ → List ℕ
head_line p size confined registers at k =
    if k == 0 then cycles_text at
    else if k == 1 then stage_text (codes "F") (fetched_held p.f)
    else if k == 2 then stage_text (codes "D") (decoded_held size confined registers.iregions p.d)
    else if k == 3 then stage_text (codes "E") (executed_held p.e)
    else if k == 4 then stage_text (codes "M") (stored_held p.m)
    else if k == 5 then stage_text (codes "W") (written_held p.w)
    else if k == 6 then word_text (codes "slots") registers.slots
    else if k == 7 then word_text (codes "modes") registers.modes
    else if k == 8 then word_text (codes "dregions") registers.dregions
    else word_text (codes "iregions") registers.iregions

-- the seven lines of a thread
unfoldable pub thread_line : State → ℕ → ℕ → List ℕ
thread_line u i k =
    if k == 0
    then thread_words_text i (codes "x00") (eight_from (reg_in (slice_index_or u.bank i [])) 0)
    else if k == 1
    then thread_words_text i (codes "x08") (eight_from (reg_in (slice_index_or u.bank i [])) 8)
    else if k == 2
    then thread_words_text i (codes "x16") (eight_from (reg_in (slice_index_or u.bank i [])) 16)
    else if k == 3
    then thread_words_text i (codes "x24") (eight_from (reg_in (slice_index_or u.bank i [])) 24)
    else if k == 4 then traps_seen i (slice_index_or u.control.traps i no_own.trap)
    else if k == 5
    then timer_seen i (slice_index_or u.control.timers i no_own.timer)
    (slice_index_or u.control.sleeps i 0)
    else latch_text i (rows.latch_seen (rows.row_at u.ports i))

-- the number of lines of the machine, and of each thread
abbrev pub head_lines : ℕ
head_lines = 10

abbrev pub thread_lines : ℕ
thread_lines = 7

-- the number of the first line of the data scratchpad, after the lines of machine and threads
abbrev pub first_of_memory : ℕ
first_of_memory = head_lines + 8 * thread_lines

-- the line with number k
unfoldable pub dump_line : StageRegisters → State → ℕ → ℕ → List ℕ
dump_line p u at k =
    if nat_lt k head_lines then head_line p u.size u.confined u.control.registers at k
    else if nat_lt k first_of_memory
    then thread_line u ((k - head_lines) / thread_lines) ((k - head_lines) % thread_lines)
    else words_seen u.d_words (k - first_of_memory)

-- the lines before number k
abbrev pub lines_before : StageRegisters → State → ℕ → ℕ → List ℕ
lines_before p u at k = flat_map (dump_line p u at) (range_with_len 0 k)

-- the whole dump, from the fields of a machine
abbrev pub dump_of : StageRegisters → State → ℕ → List ℕ
dump_of p u at = lines_before p u at (first_of_memory + u.size / 32)
