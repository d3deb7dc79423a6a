-- One cycle of the pipeline, over plain values. Each stage computes its stage register from the one
-- before it, and updates the units. Threads, stages and registers are this project's profile of the
-- core.
use Rattle.std.specs.Prelude.{ℕ, ◌-◌, ◌==◌, Bool, true, false, ◌&&◌, if◌then◌else◌}
use Rattle.std.specs.Prelude.{List, [], slice_index_or, slice_set, Option, Some, None}
use Rattle.rv_decode.specs.Table.{ins}
use Rattle.rv_decode.specs.Lag.{plain_lag, late_lag}
use Rattle.rv_exec.specs.declared.outcome.Effect.{Effect}
use Rattle.rv_exec.specs.declared.outcome.Effect.TheVariants.{Store}
use Rattle.rv_exec.specs.declared.outcome.Event.{Event}
use Rattle.region_guard.specs.MemoryMap.{port_address}
use Rattle.slot_scheduler.specs.declared.picking.Pick.{Pick}
use Rattle.slot_scheduler.specs.declared.picking.Pick.TheVariants as chosen
use Rattle.slot_scheduler.specs.Picking.{Picked, pick}
use Rattle.timer_unit.specs.declared.row.Timer.{Timer}
use Rattle.timer_unit.specs.Time.{time, is_due, timer_of}
use Rattle.fp_ports.specs.PluggedPorts.{Row, row_at, word_seen, row_with_word}
use Rattle.core_model.specs.declared.own.Own.{Own}
use Rattle.core_model.specs.declared.own.Trapping.{Trapping}
use Rattle.core_model.specs.Thread.{Execution, no_own, with_late_value, regs_after}
use Rattle.core_model.specs.Outcomes.{plus}
use Rattle.core_model.specs.Issue.{execute_in, late_rd, late_value, source_1, source_2}
use Rattle.core_model.specs.Memory.{code_at, data_at}
use Rattle.core_model.specs.World.{Registers, sched_by, environment, words_after, registers_after}
use Rattle.pipe_model.specs.declared.stage_registers.Held.{Held}
use Rattle.pipe_model.specs.declared.stage_registers.Held.TheVariants.{Bubble, Flushed, Issue}
use Rattle.pipe_model.specs.declared.stage_registers.Fetched.{Fetched}
use Rattle.pipe_model.specs.declared.stage_registers.Decoded.{Decoded}
use Rattle.pipe_model.specs.declared.stage_registers.Executed.{Executed}
use Rattle.pipe_model.specs.declared.stage_registers.Stored.{Stored}
use Rattle.pipe_model.specs.declared.stage_registers.Written.{Written}
use Rattle.pipe_model.specs.declared.stage_registers.Redirect.{Redirect}
use Rattle.pipe_model.specs.declared.stage_registers.Flush.{Flush}
use Rattle.pipe_model.specs.declared.stage_registers.Flush.TheVariants.{Decode, DecodeAndFetch}
use Rattle.pipe_model.specs.Forwarding.{operand}
use Rattle.core_model.specs.Delays.{cycles_to_d, cycles_to_e, cycles_to_m, cycles_to_w}

-- the pc that each thread fetches next, and the stage registers
pub record StageRegisters : Type 0 where
  pub next : List ℕ
  pub f : Held Fetched
  pub d : Held Decoded
  pub e : Held Executed
  pub m : Held Stored
  pub w : Held Written

-- the state that the execute stage reads and writes: the configuration registers, and each thread's
-- timer, trap registers and sleep moment
pub record Control : Type 0 where
  pub registers : Registers
  pub timers : List Timer
  pub traps : List Trapping
  pub sleeps : List ℕ

-- the contents of the units and the ports
pub record State : Type 0 where
  pub bank : List (List ℕ)  -- x1 to x31 of each thread
  pub i_words : List ℕ  -- of the instruction scratchpad
  pub d_words : List ℕ  -- of the data scratchpad
  pub control : Control
  pub last : ℕ  -- the round-robin pointer: the soft thread that got a soft or an unused slot last
  pub period : ℕ  -- of a cycle, in nanoseconds
  pub size : ℕ  -- of each scratchpad, in bytes
  pub confined : List Bool
  pub permit : List Bool  -- who may access the configuration registers
  pub ports : List (Option Row)

-- W: the turn writes its register
unfoldable pub bank_after : Held Stored → List (List ℕ) → List (List ℕ)
bank_after Bubble bank = bank
bank_after (Flushed k) bank = bank
bank_after (Issue k x) bank = slice_set bank k (regs_after x.effect (slice_index_or bank k []))

unfoldable pub writeback_stage : Held Stored → Held Written
writeback_stage Bubble = Bubble
writeback_stage (Flushed k) = Flushed k
writeback_stage (Issue k x) = Issue k (record { pc = x.pc; word = x.word })

-- its event, with the cycle of its issue
abbrev pub event_at : ℕ → ℕ → ℕ → ℕ → Option Effect → Option Event
event_at cycle k pc word None = None
event_at cycle k pc word (Some effect) =
    Some (record { cycle = cycle; thread = k; pc = pc; word = word; effect = effect })

unfoldable pub retired_event : ℕ → Held Stored → Option Event
retired_event cycle Bubble = None
retired_event cycle (Flushed k) = None
retired_event cycle (Issue k x) = event_at cycle k x.pc x.word x.effect

-- M: the late value of a load, multiplication or division goes into its effect. A load reads its
-- word in a scratchpad, or at the thread's port, which shows the word of a cycle
unfoldable pub memory_stage : ℕ → List ℕ → List ℕ → List (Option Row) → ℕ →
    Held Executed → Held Stored
memory_stage size i_words d_words ports cycle Bubble = Bubble
memory_stage size i_words d_words ports cycle (Flushed k) = Flushed k
memory_stage size i_words d_words ports cycle (Issue k x) =
    let found = data_at size i_words d_words (word_seen (row_at ports k) cycle) x.address in
    let value = late_value (ins x.word) found x.address x.a x.b in
    Issue k (record {
      pc = x.pc;
      word = x.word;
      effect = with_late_value (late_rd (ins x.word)) value x.effect;
    })

-- and a store changes the words of the data scratchpad, or goes to the thread's port
unfoldable pub words_stored : ℕ → Held Stored → List ℕ → List ℕ
words_stored size Bubble words = words
words_stored size (Flushed k) words = words
words_stored size (Issue k x) words = words_after size x.effect words

abbrev pub put_at_port : ℕ → Option Effect → List (Option Row) → List (Option Row)
put_at_port k (Some (Store address width value)) ports =
    if address == port_address
    then slice_set ports k (row_with_word (row_at ports k) value)
    else ports
put_at_port k _ ports = ports

unfoldable pub ports_stored : Held Stored → List (Option Row) → List (Option Row)
ports_stored Bubble ports = ports
ports_stored (Flushed k) ports = ports
ports_stored (Issue k x) ports = put_at_port k x.effect ports

-- E: the thread's own state, which the instruction uses
abbrev pub own_in : Control → ℕ → Own
own_in u k = record {
  timer = slice_index_or u.timers k no_own.timer;
  trap = slice_index_or u.traps k no_own.trap;
  sleep = slice_index_or u.sleeps k no_own.sleep;
}

abbrev pub execute : ℕ → List Bool → List Bool → ℕ → Control → ℕ → Decoded → Execution
execute size confined permit now u k x =
    execute_in (environment now size confined permit u.registers k) x.pc
    (own_in u k) x.expired x.word x.a x.b

abbrev pub executed_of : Decoded → Execution → Executed
executed_of x d =
    record {
      pc = x.pc;
      word = d.word;
      a = if d.word == 0 then 0 else x.a;
      b = if d.word == 0 then 0 else x.b;
      address = d.address;
      effect = d.effect;
    }

abbrev pub control_after : ℕ → Execution → Control → Control
control_after k d u =
    record {
      registers = registers_after d.effect u.registers;
      timers = slice_set u.timers k d.own.timer;
      traps = slice_set u.traps k d.own.trap;
      sleeps = slice_set u.sleeps k d.own.sleep;
    }

-- the younger turns that the redirect of an execution flushes, from its lag
abbrev pub flush_of : Execution → Flush
flush_of d = if d.lag == late_lag then Decode else DecodeAndFetch

abbrev pub redirect_of : ℕ → Execution → Option Redirect
redirect_of k d =
    if d.lag == plain_lag then None else Some (record { thread = k; pc = d.pc; flush = flush_of d })

-- the result of E
pub record After : Type 0 where
  pub e : Held Executed
  pub control : Control
  pub redirect : Option Redirect

abbrev pub executes : ℕ → Decoded → Control → Execution → After
executes k x u d = record {
  e = Issue k (executed_of x d);
  control = control_after k d u;
  redirect = redirect_of k d;
}

unfoldable pub execute_stage : ℕ → List Bool → List Bool → ℕ → Control → Held Decoded → After
execute_stage size confined permit now u Bubble =
    record { e = Bubble; control = u; redirect = None }
execute_stage size confined permit now u (Flushed k) =
    record { e = Flushed k; control = u; redirect = None }
execute_stage size confined permit now u (Issue k x) =
    executes k x u (execute size confined permit now u k x)

-- whether a redirect flushes the turn of thread k in D, and in F; after a late value it flushes
-- only the turn in D
abbrev pub flushes_d : ℕ → Option Redirect → Bool
flushes_d k None = false
flushes_d k (Some r) = r.thread == k

abbrev pub includes_fetch : Flush → Bool
includes_fetch Decode = false
includes_fetch DecodeAndFetch = true

abbrev pub flushes_f : ℕ → Option Redirect → Bool
flushes_f k None = false
flushes_f k (Some r) = r.thread == k && includes_fetch r.flush

-- D: the turn is flushed, or it reads its sources and tests whether its armed moment is reached
unfoldable pub decode_stage : List (List ℕ) → Held Stored → Held Executed → List Timer →
    Option Redirect → ℕ → Held Fetched → Held Decoded
decode_stage bank m e timers r now Bubble = Bubble
decode_stage bank m e timers r now (Flushed k) = Flushed k
decode_stage bank m e timers r now (Issue k x) =
    if flushes_d k r then Flushed k
    else Issue k (record {
      pc = x.pc;
      word = x.word;
      expired = is_due (timer_of timers k).armed now;
      a = operand bank m e k (source_1 (ins x.word));
      b = operand bank m e k (source_2 (ins x.word));
    })

-- F: the redirected thread continues at the redirect's pc
unfoldable pub next_after_redirect : Option Redirect → List ℕ → List ℕ
next_after_redirect None next = next
next_after_redirect (Some r) next = slice_set next r.thread r.pc

-- the picked thread's turn is flushed, or it fetches its next word
unfoldable pub fetch_stage : ℕ → List ℕ → Option Redirect → List ℕ → Pick → Held Fetched
fetch_stage size i_words r next chosen.Bubble = Bubble
fetch_stage size i_words r next (chosen.Issue k) =
    if flushes_f k r then Flushed k
    else (let pc = slice_index_or next k 0 in
    Issue k (record { pc = pc; word = code_at size i_words pc }))

unfoldable pub next_after_fetch : Option Redirect → Pick → List ℕ → List ℕ
next_after_fetch r chosen.Bubble next = next
next_after_fetch r (chosen.Issue k) next =
    if flushes_f k r then next else slice_set next k (plus (slice_index_or next k 0) 4)

-- the state after a cycle, and the event that retires in it
pub record Ticked : Type 0 where
  pub stage_registers : StageRegisters
  pub state : State
  pub event : Option Event

-- the younger stages use the results of the older ones
abbrev pub finish : StageRegisters → State → ℕ → Picked → Held Stored → After → Ticked
finish p u c picked m e =
    let bank = bank_after p.m u.bank in
    let now_in_d = time u.period (c - cycles_to_d) in
    let next = next_after_redirect e.redirect p.next in
    record {
      stage_registers = record {
        next = next_after_fetch e.redirect picked.pick next;
        f = fetch_stage u.size u.i_words e.redirect next picked.pick;
        d = decode_stage bank m e.e e.control.timers e.redirect now_in_d p.f;
        e = e.e;
        m = m;
        w = writeback_stage p.m;
      };
      state = record u {
        bank = bank;
        d_words = words_stored u.size m u.d_words;
        control = e.control;
        last = picked.last;
        ports = ports_stored m u.ports;
      };
      event = retired_event (c - cycles_to_w) p.m;
    }

-- cycle c. The pick uses the registers as they are before E. The turn in M was issued three cycles
-- ago and sees the port's word of that cycle. The turn in E was issued two cycles ago and uses the
-- time of that cycle
unfoldable pub step : StageRegisters → State → ℕ → Ticked
step p u c =
    let picked = pick (sched_by u.control.registers u.control.sleeps) c (time u.period c) u.last in
    let m = memory_stage u.size u.i_words u.d_words u.ports (c - cycles_to_m) p.e in
    let now_in_e = time u.period (c - cycles_to_e) in
    let e = execute_stage u.size u.confined u.permit now_in_e u.control p.d in
    finish p u c picked m e
