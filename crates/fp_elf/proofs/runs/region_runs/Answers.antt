use Rattle.std.proofs.Common.{◌≡◌, ◌+◌, ◌-◌, ◌*◌, List, reverse, ap, ap₂, ◌∙◌, arith}
use Rattle.std.specs.Prelude.{if◌then◌else◌}
use Rattle.fp_elf.specs.Elf.{before_runs, has_word, runs_from}
use Rattle.fp_elf.specs.declared.runs.Run.{Run}
use Rattle.fp_elf.proofs.Loading.{runs-step}
use Rattle.fp_elf.proofs.runs.region_runs.Goals as goal

pub loop-step-preserved : goal.loop-step-preserved
loop-step-preserved c file loads h =
    let test = has_word loads in
    let a = c.args.base + 4 * (16383 - c.loop-step.step) in
    runs-step test c.args.base c.loop-step.step (reverse c.put_if_taken.new.runs.items)
    c.loop-step-test.true (c.in_ok-put_if_taken.ensures file loads h ∙ ap (λ (rs : List Run).
    if test a then before_runs a rs else rs) (c.loop-step.invariant file loads h))

pub returns : goal.returns
returns c file loads h =
    let all : c.loop-step.step ≡ 16384 =
    omega (arith, c.loop-step-test.false, c.loop-step.auto.step-end) in
    let at : c.args.base + 4 * (16384 - c.loop-step.step) ≡ c.args.base = omega (arith, all) in
    c.loop-step.invariant file loads h ∙ ap₂ (λ a n. runs_from (has_word loads) a n) at all

pub loop-step-init : goal.loop-step-init
unfolding runs_from
loop-step-init c file loads h = ap reverse c.new-runs.ensures.items
