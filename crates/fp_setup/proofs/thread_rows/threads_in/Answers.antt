use Rattle.std.proofs.lemmas.Grind.{common_steps}
use Rattle.std.proofs.Common.{◌≡◌, ◌<◌, ◌==◌, ◌+◌, ℕ, List, [], ◌∷◌, ◌++◌, length, map, false}
use Rattle.std.proofs.Common.{None, nat_lt, take, length-set, refl, ap, subst, ◌∙◌, arith}
use Rattle.std.specs.List.{list_all, list_any}
use Rattle.std.proofs.lemmas.List.Elements.{All-same, All-replicate, All-set}
use Rattle.toml.specs.View.{view}
use Rattle.toml.specs.Data.{Members, as_table}
use Rattle.fp_setup.specs.declared.thread_list.ThreadSetup.{ThreadSetup}
use Rattle.fp_setup.specs.declared.thread_rows.ThreadRow.{ThreadRow}
use Rattle.fp_setup.specs.Threads.{IsThread}
use Rattle.fp_setup.specs.Values.{members}
use Rattle.fp_setup.specs.declared.refusal.Place.{Place}
use Rattle.fp_setup.specs.Faults.{thread_row}
use Rattle.fp_setup.specs.FaultOrder.{thread_fault}
use Rattle.fp_setup.specs.Rows.{thread_row_of}
use Rattle.fp_setup.specs.SetupOfTables.{id_at, modes_of, threads_of, default_thread}
use Rattle.fp_setup.proofs.RowPut.{tables, tables-more, unnamed-rules, ids-more}
use Rattle.fp_setup.proofs.RowPut.{found-more, modes-more, threads-more, few-more}
use Rattle.fp_setup.proofs.thread_rows.threads_in.Goals as goal

pub loop-index-init : goal.loop-index-init
unfolding modes_of threads_of
loop-index-init c =
    let threads = c.unnamed-rows.ensures.threads in
    record {
      eight = refl;
      eight_modes = ap length c.unnamed-rows.ensures.modes;
      eight_threads = ap length threads;
      ids = refl;
      found = refl;
      modes = c.unnamed-rows.ensures.modes;
      threads = threads;
      few = ap (list_all (λ n. nat_lt n 4)) c.unnamed-rows.ensures.modes;
      each = All-same IsThread _ _ threads (All-replicate IsThread 8 default_thread unnamed-rules);
      inside =
          All-same (λ (t : ThreadSetup). t.entry < c.args.size) _ _ threads (All-replicate
          (λ (t : ThreadSetup). t.entry < c.args.size) 8 default_thread (omega arith));
    }

pub loop-index-preserved : goal.loop-index-preserved
loop-index-preserved c =
    let i = c.loop-index.index in
    let before = c.loop-index.invariant in
    let row = c.in_ok-row.row in
    let x = c.index-items-index.result in
    let items = c.args.items.now in
    let inside : i < length items = omega arith in
    let more : tables (take (i + 1) items) ≡ tables (take i items) ++ members (view x) ∷ [] =
    tables-more items i x inside c.index-items-index.is in
    let same : row ≡ thread_row_of (members (view x)) = c.in_ok-row.ensures.read.1 in
    let r : Members = members (view x) in
    let id : row.id ≡ id_at r = ap (λ (w : ThreadRow). w.id) same in
    let Fresh : List ℕ → Type 0 = λ ids. list_any (λ n. n == row.id) ids ≡ false in
    let not_taken : list_any (λ n. n == row.id) (map id_at (tables (take i items))) ≡ false =
    subst Fresh before.ids c.in_ok-row.ensures.not_taken in
    let Good : Place → Type 0 =
    λ place. thread_fault c.args.size (take i c.loop-index.ids) place (as_table (view x)) ≡ None in
    let good : thread_fault c.args.size (take i c.loop-index.ids) (thread_row i) (as_table (view x))
    ≡ None = subst Good c.thread.ensures c.in_ok-row.ensures.read.0 in
    record {
      eight = length-set c.loop-index.ids i row.id ∙ before.eight;
      eight_modes =
          ap length c.put.ensures.modes
          ∙ (length-set c.loop-index.rows.modes row.id row.mode ∙ before.eight_modes);
      eight_threads =
          ap length c.put.ensures.threads
          ∙ (length-set c.loop-index.rows.threads row.id row.thread ∙ before.eight_threads);
      ids =
          ids-more c.loop-index.ids items i x row.id
          (omega arith) inside c.index-items-index.is id before.ids;
      found =
          found-more c.args.size _ c.loop-index.ids items i x row.id
          (omega arith) inside c.index-items-index.is id good before.found;
      modes =
          modes-more (tables (take i items)) (tables (take (i + 1) items)) r c.loop-index.rows.modes
          c.put.new.self.modes row.id row.mode more id (ap (λ (w : ThreadRow). w.mode) same)
          c.in_ok-row.ensures.id not_taken before.modes c.put.ensures.modes;
      threads =
          threads-more (tables (take i items)) (tables (take (i + 1) items)) r
          c.loop-index.rows.threads c.put.new.self.threads row.id row.thread more id
          (ap (λ (w : ThreadRow). w.thread) same) c.in_ok-row.ensures.id not_taken before.threads
          c.put.ensures.threads;
      few =
          few-more c.loop-index.rows.modes c.put.new.self.modes row.id row.mode
          c.in_ok-row.ensures.mode before.few c.put.ensures.modes;
      each =
          All-same IsThread _ _ c.put.ensures.threads (All-set IsThread c.loop-index.rows.threads
          row.id row.thread c.in_ok-row.ensures.rules before.each);
      inside =
          All-same (λ (t : ThreadSetup). t.entry < c.args.size) _ _ c.put.ensures.threads
          (All-set (λ (t : ThreadSetup). t.entry < c.args.size) c.loop-index.rows.threads row.id
          row.thread c.in_ok-row.ensures.inside before.inside);
    }

pub returns-in_err-row-clause-read : goal.returns-in_err-row-clause-read
returns-in_err-row-clause-read c = grind (arith, common_steps)

pub returns-clause-read : goal.returns-clause-read
returns-clause-read c = grind (arith, common_steps)
