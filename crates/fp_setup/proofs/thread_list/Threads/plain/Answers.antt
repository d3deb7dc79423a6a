use Rattle.std.proofs.Common.{◌≡◌, ◌<◌, length, map, take, length-set}
use Rattle.std.proofs.Common.{refl, ap, subst, sym, ◌∙◌, lit<, arith}
use Rattle.std.proofs.lemmas.List.{take_all}
use Rattle.std.proofs.lemmas.List.Elements.{All-same, All-replicate, All-set}
use Rattle.fp_setup.specs.declared.thread_list.ThreadSetup.{ThreadSetup}
use Rattle.fp_setup.specs.Threads.{IsThread}
use Rattle.fp_setup.specs.SetupOfTables.{the_threads, default_thread}
use Rattle.fp_setup.specs.Plain.{plain_at, plain_threads}
use Rattle.fp_setup.proofs.RowPut.{unnamed-rules}
use Rattle.fp_setup.proofs.PlainThreads.{rules_at, made-more}
use Rattle.fp_setup.proofs.thread_list.Threads.plain.Goals as goal

pub set-requires-clause-rules : goal.set-requires-clause-rules
set-requires-clause-rules c =
    subst IsThread (sym c.plain.ensures)
    (rules_at c.args.entries c.args.confined c.loop-thread.thread (omega arith) c.requires).0

pub loop-thread-init : goal.loop-thread-init
loop-thread-init c =
    let threads = c.unnamed-threads.ensures in
    record {
      eight = ap length threads;
      made = refl;
      each = All-same IsThread _ _ threads (All-replicate IsThread 8 default_thread unnamed-rules);
      inside =
          All-same (λ (t : ThreadSetup). t.entry < 16384) _ _ threads
          (All-replicate (λ (t : ThreadSetup). t.entry < 16384) 8 default_thread (lit< tt));
    }

pub loop-thread-preserved : goal.loop-thread-preserved
loop-thread-preserved c =
    let rules =
    rules_at c.args.entries c.args.confined c.loop-thread.thread (omega arith) c.requires in
    let Inside : ThreadSetup → Type 0 = λ (t : ThreadSetup). t.entry < 16384 in
    record {
      eight = ap length c.set.ensures ∙ (length-set _ _ _ ∙ c.loop-thread.invariant.eight);
      made =
          made-more (plain_at c.args.entries c.args.confined) _ _ c.loop-thread.thread
          c.plain.result c.loop-thread-test.true c.loop-thread.invariant.eight c.plain.ensures
          c.set.ensures c.loop-thread.invariant.made;
      each =
          All-same IsThread _ _ c.set.ensures
          (All-set IsThread _ c.loop-thread.thread c.plain.result
          (subst IsThread (sym c.plain.ensures) rules.0) c.loop-thread.invariant.each);
      inside =
          All-same Inside _ _ c.set.ensures (All-set Inside _ c.loop-thread.thread c.plain.result
          (subst Inside (sym c.plain.ensures) rules.1) c.loop-thread.invariant.inside);
    }

pub returns-clause-threads : goal.returns-clause-threads
unfolding plain_threads
returns-clause-threads c =
    let done : c.loop-thread.thread ≡ 8 = omega arith in
    sym (take_all 8 c.loop-thread.threads (omega arith))
    ∙ (ap (λ k. take k c.loop-thread.threads) (sym done) ∙ (c.loop-thread.invariant.made
    ∙ ap (λ k. map (plain_at c.args.entries c.args.confined) (take k the_threads)) done))
