-- The dump of the world after n cycles. Stages, registers, memory and ports are some cycles behind
-- the newest issue, as the pipeline updates each in its stage. The registers show the issues up to
-- cycle n - 5, and memory and latches those up to n - 4. Timers, trap registers, sleep moments and
-- the configuration registers show those up to n - 3. Before cycle 0 the world is the start.
-- Source: this project's format of dumps.
use Rattle.std.specs.Prelude.{ℕ, ◌+◌, ◌-◌, ◌*◌, ◌/◌, ◌==◌, nat_lt, Bool, true}
use Rattle.std.specs.Prelude.{false, ◌&&◌, if◌then◌else◌, List, [], ◌∷◌, ◌++◌}
use Rattle.std.specs.Prelude.{flat_map, slice_index_or, Option, Some, None, codes}
use Rattle.std.specs.List.{list_all, range_with_len}
use Rattle.region_guard.specs.MemoryMap.{data_start}
use Rattle.core_model.specs.declared.own.Trapping.{Trapping}
use Rattle.core_model.specs.Thread.{reg_in}
use Rattle.trace_print.specs.declared.dump_lines.StageContent.{StageContent}
use Rattle.trace_print.specs.declared.dump_lines.StageContent.TheVariants.{Nothing, Picked}
use Rattle.trace_print.specs.declared.dump_lines.StageContent.TheVariants.{Flushed, Issue}
use Rattle.trace_print.specs.DumpLines.{cycles_text, stage_text, word_text, thread_words_text}
use Rattle.trace_print.specs.DumpLines.{timer_text, latch_text, memory_text}
use Rattle.timer_unit.specs.declared.row.Timer.{Timer}
use Rattle.core_model.specs.World.{Start, Took, Registers, thread_of, world}
use Rattle.core_model.specs.World.Took.{Idle, Lost, Ran}
use Rattle.core_model.specs.Delays.{cycles_to_e, cycles_to_m, cycles_to_w}

-- the turn of cycle n - 1 - e, nobody's before cycle 0
abbrev pub turn_before : Start → ℕ → ℕ → Took
turn_before s n e = slice_index_or (world s n).turns e Idle

-- the content of the first stage, from its turn
abbrev pub picked_in : Took → StageContent
picked_in Idle = Nothing
picked_in (Lost k) = Picked k
picked_in (Ran k pc word effect) = Picked k

-- the content of a later stage, from its turn
abbrev pub held_in : Took → StageContent
held_in Idle = Nothing
held_in (Lost k) = Flushed k
held_in (Ran k pc word effect) = Issue k pc word

-- the five stages, in order
abbrev pub stages_seen : Start → ℕ → List ℕ
stages_seen s n =
    stage_text (codes "F") (picked_in (turn_before s n 0))
    ++ (stage_text (codes "D") (held_in (turn_before s n 1))
    ++ (stage_text (codes "E") (held_in (turn_before s n 2))
    ++ (stage_text (codes "M") (held_in (turn_before s n 3))
    ++ stage_text (codes "W") (held_in (turn_before s n 4)))))

-- the configuration registers
abbrev pub shared_seen : Registers → List ℕ
shared_seen r =
    word_text (codes "slots") r.slots
    ++ (word_text (codes "modes") r.modes
    ++ (word_text (codes "dregions") r.dregions
    ++ word_text (codes "iregions") r.iregions))

-- eight values in a row
abbrev pub eight_from : (ℕ → ℕ) → ℕ → List ℕ
eight_from f k =
    f k ∷ f (k + 1) ∷ f (k + 2) ∷ f (k + 3) ∷ f (k + 4) ∷ f (k + 5) ∷ f (k + 6) ∷ f (k + 7) ∷ []

-- the registers of a thread, eight a line
abbrev pub registers_seen : ℕ → List ℕ → List ℕ
registers_seen i regs =
    thread_words_text i (codes "x00") (eight_from (reg_in regs) 0)
    ++ (thread_words_text i (codes "x08") (eight_from (reg_in regs) 8)
    ++ (thread_words_text i (codes "x16") (eight_from (reg_in regs) 16)
    ++ thread_words_text i (codes "x24") (eight_from (reg_in regs) 24)))

-- the trap registers of a thread
abbrev pub traps_seen : ℕ → Trapping → List ℕ
traps_seen i t = thread_words_text i (codes "csr") (t.mtvec ∷ t.mscratch ∷ t.mepc ∷ t.mcause ∷ [])

-- its timer with its sleep moment
abbrev pub timer_seen : ℕ → Timer → ℕ → List ℕ
timer_seen i t sleep = timer_text i t.armed sleep t.high

-- whether a port that was handed in is still there after n cycles. The issues from cycle `unplug`
-- on find none, and they reach the port three cycles later
abbrev pub is_port_left : Option ℕ → ℕ → Bool
is_port_left None n = true
is_port_left (Some unplug) n = nat_lt n (unplug + cycles_to_w)

-- the latch of a thread's port, if the port is there
abbrev pub latch_seen : Start → ℕ → ℕ → Option ℕ
latch_seen s n i =
    if slice_index_or s.handed i false && is_port_left (slice_index_or s.unplugs i None) n
    then Some (slice_index_or (world s (n - cycles_to_m)).latches i 0)
    else None

-- a thread's lines
abbrev pub thread_seen : Start → ℕ → ℕ → List ℕ
thread_seen s n i =
    let own = (thread_of (world s (n - cycles_to_e)) i).own in
    registers_seen i (thread_of (world s (n - cycles_to_w)) i).regs
    ++ (traps_seen i own.trap
    ++ (timer_seen i own.timer own.sleep ++ latch_text i (latch_seen s n i)))

-- the line of eight words of the data scratchpad, by its number; empty if all are 0
unfoldable pub words_seen : List ℕ → ℕ → List ℕ
words_seen words k =
    let row = eight_from (λ j. slice_index_or words j 0) (8 * k) in
    if list_all (λ word. word == 0) row then [] else memory_text (data_start + 32 * k) row

-- the whole dump
unfoldable pub seen : Start → ℕ → List ℕ
seen s n =
    cycles_text n
    ++ (stages_seen s n
    ++ (shared_seen (world s (n - cycles_to_e)).registers
    ++ (flat_map (thread_seen s n) (range_with_len 0 8)
    ++ flat_map (words_seen (world s (n - cycles_to_m)).d_words) (range_with_len 0 (s.size / 32)))))
