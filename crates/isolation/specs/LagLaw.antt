-- The lag of an issue, by the table of lags.
use Rattle.std.specs.Prelude.{◌≡◌, ℕ, ◌+◌, Bool}
use Rattle.rv_decode.specs.Table.{ins}
use Rattle.rv_decode.specs.Lag.{lag}
use Rattle.rv_exec.specs.Result.{result_of}
use Rattle.core_model.specs.Thread.{Environment, Contents, Thread, Completion, reg_in}
use Rattle.core_model.specs.Traps.{is_trap}
use Rattle.core_model.specs.Issue.{source_1, source_2, issue}

-- the word at the thread's pc is a branch that is taken
abbrev pub is_taken_at : Contents → Thread → Bool
is_taken_at m t =
    let i = ins (m.code t.pc) in
    (result_of i t.pc (reg_in t.regs (source_1 i)) (reg_in t.regs (source_2 i))).taken

-- the lag of the instruction at the thread's pc. It depends on whether it takes a branch, and
-- whether it traps: by itself, or by an expiry or a refused fetch in its place
abbrev pub lag_at : Contents → Thread → Completion → ℕ
lag_at m t d = lag (ins (m.code t.pc)) (is_taken_at m t) (is_trap d.effect)

-- after an issue in cycle c the thread is ready that lag later
abbrev pub HasLagOfTable : Environment → Contents → ℕ → Thread → Type 0
HasLagOfTable a m c t = (issue a m c t).thread.ready ≡ c + lag_at m t (issue a m c t)
