use Rattle.std.proofs.Common.{refl, arith}
use Rattle.std.proofs.Math.Nat.{le_refl}
use Rattle.machine.proofs.SleepLemmas.{passed_over_with, stays}
use Rattle.machine.proofs.state.Machine.skip_empty.Goals as goal

pub returns-then-is_empty : goal.returns-then-is_empty
returns-then-is_empty c = record {
  stay = refl;
  only_at = refl;
  on = c.end_of_sleep-self.ensures.from;
  within = c.end_of_sleep-self.ensures.end;
  passed =
      λ s n ports w within eight st.
      passed_over_with s n c.end_of_sleep-self.result c.args.stages.now w c.args.self.now ports
      eight c.end_of_sleep-self.ensures.ports (λ v. c.is_empty.ensures.empty v c.if-is_empty.true)
      c.end_of_sleep-self.ensures.from c.end_of_sleep-self.ensures.asleep
      (omega (arith, c.end_of_sleep-self.ensures.end, within)) st;
}

pub returns-else-is_empty : goal.returns-else-is_empty
returns-else-is_empty c = record {
  stay = refl;
  only_at = refl;
  on = le_refl _;
  within = c.requires;
  passed = λ s n ports w within eight st. (w, stays s n _ _ ports st);
}
