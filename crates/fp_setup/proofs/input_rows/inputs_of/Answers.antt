use Rattle.std.proofs.Common.{rules, ◌∙◌, ◌≤◌}
use Rattle.std.proofs.lemmas.Result.{err_from_is_err_and}
use Rattle.std.proofs.lemmas.List.Elements.{All-push, All-same}
use Rattle.timer_unit.specs.Time.{most_cycles}
use Rattle.fp_setup.specs.declared.input_list.Input.{Input}
use Rattle.fp_setup.proofs.InputByInput.{found-more, found-here, found-none, read-more}
use Rattle.fp_setup.proofs.InputByInput.{read-all, read-few, rising-more, reached-more}
use Rattle.fp_setup.proofs.input_rows.inputs_of.Goals as goal

pub loop-index-preserved : goal.loop-index-preserved
loop-index-preserved c =
    let i = c.loop-index.index in
    let items = c.args.items.now in
    let x = c.index-items-index.result in
    let before = c.loop-index.invariant in
    let same = c.in_ok-input.ensures.read.1 in
    let good = rw c.element.ensures at c.in_ok-input.ensures.read.0 in
    record {
      found =
          before.found ∙ found-more items i x c.in_ok-input.input c.loop-index-test.true
          c.index-items-index.is same c.args.place c.loop-index.before good;
      read =
          read-more items i x c.in_ok-input.input c.loop-index-test.true c.index-items-index.is same
          c.loop-index.read.items _ c.in_ok-push.ensures.items before.read;
      within =
          All-same (λ (i : Input). i.at ≤ most_cycles) _ _ c.in_ok-push.ensures.items
          (All-push (λ (i : Input). i.at ≤ most_cycles) c.loop-index.read.items c.in_ok-input.input
          before.within c.in_ok-input.ensures.within);
      rising =
          rising-more c.loop-index.read.items _ c.in_ok-input.input c.loop-index.before
          c.in_ok-push.ensures.items before.reached c.in_ok-input.ensures.after before.rising;
      reached =
          reached-more c.loop-index.read.items _ c.in_ok-input.input c.loop-index.before
          c.in_ok-push.ensures.items before.reached c.in_ok-input.ensures.after;
    }

pub returns-in_err-input-clause-read : goal.returns-in_err-input-clause-read
returns-in_err-input-clause-read c =
    let before = c.loop-index.invariant in
    let p = err_from_is_err_and c.from_residual.result c.from_residual.ensures.1 in
    rw (p.1, p.2)
    (before.found ∙ found-here c.args.items.now c.loop-index.index c.index-items-index.result
    c.loop-index-test.true c.index-items-index.is c.args.place c.loop-index.before _
    (rw c.element.ensures at c.in_err-input.ensures.read))

pub returns-clause-read : goal.returns-clause-read
returns-clause-read c =
    let before = c.loop-index.invariant in (
      before.found ∙ found-none c.args.items.now c.loop-index.index c.loop-index-test.false
          c.args.place c.loop-index.before,
      c.from_vec.ensures
          ∙ read-all c.args.items.now c.loop-index.index c.loop-index-test.false _ before.read,
    )

pub returns-clause-rules : goal.returns-clause-rules
returns-clause-rules c = search rules

pub loop-index-init : goal.loop-index-init
loop-index-init c = search rules

pub from_vec-requires : goal.from_vec-requires
from_vec-requires c =
    let before = c.loop-index.invariant in
    record {
      few = read-few c.args.items.now c.loop-index.index _ c.requires before.read;
      within = before.within;
      rising = before.rising;
    }
