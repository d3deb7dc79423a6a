use Rattle.std.proofs.Common.{ℕ, ◌<◌, ◌≤◌, arith}
use Rattle.machine.proofs.SleepLemmas.{before_moment, before_waking}
use Rattle.machine.proofs.state.Machine.first_awake_cycle.Goals as goal

pub returns : goal.returns
returns c cycle below =
    let period : ℕ = c.args.self.now.units.clock in
    let some : 0 < c.max-period.result = omega (arith, c.max-period.ensures) in
    let long : period ≤ c.max-period.result = omega (arith, c.max-period.ensures, c.now.ensures) in
    before_waking c.args.self.now.units.sched c.least_sleep_moment.result _
    c.least_sleep_moment.ensures (before_moment c.least_sleep_moment.result c.max-period.result
    c.div_ceil.result period cycle c.div_ceil.ensures some long below)
