use Rattle.std.proofs.Common.{◌≡◌, arith, refl, ap, ◌∙◌}
use Rattle.machine.specs.FieldRelation.{ports_left_in}
use Rattle.machine.proofs.Retiring.{kept_more}
use Rattle.machine.proofs.state.Machine.take_due.Goals as goal

pub loop-thread-init : goal.loop-thread-init
loop-thread-init g c = record { eight = c.requires; rows = refl }

pub loop-thread-preserved : goal.loop-thread-preserved
loop-thread-preserved g c = record {
  eight = c.take_if_due.ensures.eight;
  rows =
      kept_more c.args.self.now.unplugs c.args.self.now.at _ _ _ c.loop-thread.thread
      c.loop-thread.invariant.rows c.take_if_due.ensures.rows;
}

pub returns-clause-rows : goal.returns-clause-rows
returns-clause-rows g c =
    let all : c.loop-thread.thread ≡ 8 = omega arith in c.loop-thread.invariant.rows
    ∙ ap (ports_left_in c.args.self.now.unplugs c.args.self.now.at _) all

pub returns-clause-eight : goal.returns-clause-eight
returns-clause-eight g c = c.loop-thread.invariant.eight
