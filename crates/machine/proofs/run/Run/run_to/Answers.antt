-- A run continues from put to put.
use Rattle.std.proofs.Math.Nat.{le_refl, le_trans}
use Rattle.machine.proofs.AdvanceLemmas.{knows_still, same_begins, same_run}
use Rattle.machine.proofs.RunLemmas.{left_all}
use Rattle.machine.proofs.WordLemmas.{words_on}
use Rattle.machine.proofs.run.Run.run_to.Goals as goal

pub loop-self-init : goal.loop-self-init
loop-self-init g c = record {
  within = c.requires.begun;
  eight = c.requires.eight;
  counted = le_refl _;
  words = left_all _;
  same = same_begins _;
  known = c.requires.known;
  runs = λ s from n first prior within run. run;
}

pub loop-self-preserved : goal.loop-self-preserved
loop-self-preserved g c =
    let inv = c.loop-self.invariant in
    let ahead = c.run_to_put.ensures in
    record {
      within = ahead.runs.within;
      eight = ahead.eight;
      counted = le_trans inv.counted ahead.counted;
      words = words_on _ _ _ inv.words ahead.runs.words;
      same = same_run inv.same ahead.runs.same;
      known = knows_still ahead.runs.same inv.known;
      runs =
          λ s from n first prior within run.
          c.in_default.ensures.runs.ok s from n first prior within
          (inv.runs s from n first prior within run);
    }

pub returns-in-Err-clause-runs : goal.returns-in-Err-clause-runs
returns-in-Err-clause-runs g c =
    let inv = c.loop-self.invariant in
    let stop = c.in-Err.ensures.runs in
    record {
      ok = tt;
      err =
          λ s from n first prior within run. stop.err s from n first prior within
          (inv.runs s from n first prior within run);
      fits = stop.fits;
      same = same_run inv.same stop.same;
      within = stop.within;
      words = words_on _ _ _ inv.words stop.words;
    }

pub returns-clause-runs : goal.returns-clause-runs
returns-clause-runs g c =
    let inv = c.loop-self.invariant in
    record {
      ok = inv.runs;
      err = tt;
      fits = tt;
      same = inv.same;
      within = inv.within;
      words = inv.words;
    }
