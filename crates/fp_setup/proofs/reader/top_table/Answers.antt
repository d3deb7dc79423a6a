use Rattle.std.proofs.Common.{◌≡◌, ◌<◌, ap, subst, ◌∙◌, ℕ}
use Rattle.std.specs.List.{All}
use Rattle.std.proofs.lemmas.Result.{err_from_is_err_and}
use Rattle.toml.specs.Data.{Members}
use Rattle.toml.specs.View.{table_view}
use Rattle.fp_setup.specs.declared.thread_rows.ThreadRows.{ThreadRows}
use Rattle.fp_setup.specs.declared.thread_list.ThreadSetup.{ThreadSetup}
use Rattle.fp_setup.specs.declared.loop_list.LoopSetup.{LoopSetup}
use Rattle.fp_setup.specs.Settings.{size_of}
use Rattle.fp_setup.specs.SetupOfTables.{version_at, word_of}
use Rattle.fp_setup.proofs.TwoChecks.{past, found, found_in_memory}
use Rattle.fp_setup.proofs.TopTable.{IsGoodTo, table_checks, period_within}
use Rattle.fp_setup.proofs.TopTable.{size_within, settings-from}
use Rattle.fp_setup.proofs.reader.top_table.Goals.{After-version, After-size_of_version-size}
use Rattle.fp_setup.proofs.reader.top_table.Goals.{After-top_key-2, After-top_key-3}
use Rattle.fp_setup.proofs.reader.top_table.Goals.{After-top_key-4, After-top_key-5}
use Rattle.fp_setup.proofs.reader.top_table.Goals.{After-top_key-6, After-top_key-7}
use Rattle.fp_setup.proofs.reader.top_table.Goals.{After-word_of_modes}
use Rattle.fp_setup.proofs.reader.top_table.Goals as goal

-- nothing is found before a key of the table
abbrev Good : Members → ℕ → Type 0
Good ms n = IsGoodTo (size_of (version_at ms)) ms n

known : (c : After-version) → Good (table_view c.args.table.now) 0
known c = past (table_checks _ _) (rw c.top.ensures at c.in_ok-no_other_key.ensures.0)

version : (c : After-size_of_version-size) → Good (table_view c.args.table.now) 1
version c =
    past (known (goal.at.After-size_of_version-size c).After-version) c.in_ok-version.ensures.read.0

size : (c : After-size_of_version-size) →
    c.size_of_version-size.result ≡ size_of (version_at (table_view c.args.table.now))
size c = c.size_of_version-size.ensures.size ∙ ap size_of c.in_ok-version.ensures.read.1

period : (c : After-top_key-2) → Good (table_view c.args.table.now) 2
period c =
    past (version (goal.at.After-top_key-2 c).After-size_of_version-size)
    (rw (c.integers.ensures, c.top_key.ensures) at c.in_ok-period.ensures.read.0)

image : (c : After-top_key-3) → Good (table_view c.args.table.now) 3
image c =
    past (period (goal.at.After-top_key-3 c).After-top_key-2)
    (rw c.top_key-2.ensures at c.in_ok-image.ensures.read.0)

slots : (c : After-top_key-4) → Good (table_view c.args.table.now) 4
slots c =
    past (image (goal.at.After-top_key-4 c).After-top_key-3)
    (rw c.top_key-3.ensures at c.in_ok-slots.ensures.read.0)

iregions : (c : After-top_key-5) → Good (table_view c.args.table.now) 5
iregions c =
    past (slots (goal.at.After-top_key-5 c).After-top_key-4)
    (rw c.top_key-4.ensures at c.in_ok-iregions.ensures.read.0)

dregions : (c : After-top_key-6) → Good (table_view c.args.table.now) 6
dregions c =
    past (iregions (goal.at.After-top_key-6 c).After-top_key-5)
    (rw c.top_key-5.ensures at c.in_ok-dregions.ensures.read.0)

threads : (c : After-top_key-7) → Good (table_view c.args.table.now) 7
threads c =
    past (dregions (goal.at.After-top_key-7 c).After-top_key-6)
    (rw (size (goal.at.After-top_key-7 c).After-size_of_version-size, c.top_key-6.ensures) at
    c.in_ok-rows.ensures.read.0)

loops : (c : After-word_of_modes) → Good (table_view c.args.table.now) 8
loops c =
    past (threads (goal.at.After-word_of_modes c).After-top_key-7)
    (rw (size (goal.at.After-word_of_modes c).After-size_of_version-size, c.top_key-7.ensures) at
    c.in_ok-loops.ensures.read.0)

pub returns : goal.returns
returns c =
    let rows = c.in_ok-rows.ensures.read.1 in (
      loops (goal.at.returns c).After-word_of_modes,
      settings-from (table_view c.args.table.now) _ _ _ _ _ _ _ _ _ c.in_ok-version.ensures.read.1
          c.in_ok-period.ensures.read.1 c.in_ok-slots.ensures.read.1
          (c.word_of_modes.ensures.word ∙ ap (word_of 4) (ap (λ (r : ThreadRows). r.modes) rows))
          c.in_ok-iregions.ensures.read.1 c.in_ok-dregions.ensures.read.1
          c.in_ok-image.ensures.read.1
          (ap (λ (r : ThreadRows). r.threads) rows) c.in_ok-loops.ensures.read.1,
    )

pub returns-in_err-no_other_key : goal.returns-in_err-no_other_key
returns-in_err-no_other_key c =
    let p = err_from_is_err_and c.from_residual.result c.from_residual.ensures.1 in
    rw (p.1, p.2) (found _ (table_checks _ _) (rw c.top.ensures at c.in_err-no_other_key.ensures))

pub returns-in_err-version : goal.returns-in_err-version
returns-in_err-version c =
    let p = err_from_is_err_and c.from_residual-in_err-version.result
    c.from_residual-in_err-version.ensures.1 in
    rw (p.1, p.2)
    (found _ (known (goal.at.returns-in_err-version c).After-version) c.in_err-version.ensures.read)

pub returns-in_err-period : goal.returns-in_err-period
returns-in_err-period c =
    let p = err_from_is_err_and c.from_residual-in_err-period.result
    c.from_residual-in_err-period.ensures.1 in
    rw (p.1, p.2) (found _ (version (goal.at.returns-in_err-period c).After-size_of_version-size)
    (rw (c.integers.ensures, c.top_key.ensures) at c.in_err-period.ensures.read))

pub returns-in_err-image : goal.returns-in_err-image
returns-in_err-image c =
    let p = err_from_is_err_and c.from_residual-in_err-image.result
    c.from_residual-in_err-image.ensures.1 in
    rw (p.1, p.2) (found_in_memory _ _ _ _ (period (goal.at.returns-in_err-image c).After-top_key-2)
    (rw c.top_key-2.ensures at c.in_err-image.ensures.read))

pub returns-in_err-slots : goal.returns-in_err-slots
returns-in_err-slots c =
    let p = err_from_is_err_and c.from_residual-in_err-slots.result
    c.from_residual-in_err-slots.ensures.1 in
    rw (p.1, p.2) (found _ (image (goal.at.returns-in_err-slots c).After-top_key-3)
    (rw c.top_key-3.ensures at c.in_err-slots.ensures.read))

pub returns-in_err-iregions : goal.returns-in_err-iregions
returns-in_err-iregions c =
    let p = err_from_is_err_and c.from_residual-in_err-iregions.result
    c.from_residual-in_err-iregions.ensures.1 in
    rw (p.1, p.2) (found _ (slots (goal.at.returns-in_err-iregions c).After-top_key-4)
    (rw c.top_key-4.ensures at c.in_err-iregions.ensures.read))

pub returns-in_err-dregions : goal.returns-in_err-dregions
returns-in_err-dregions c =
    let p = err_from_is_err_and c.from_residual-in_err-dregions.result
    c.from_residual-in_err-dregions.ensures.1 in
    rw (p.1, p.2) (found _ (iregions (goal.at.returns-in_err-dregions c).After-top_key-5)
    (rw c.top_key-5.ensures at c.in_err-dregions.ensures.read))

pub returns-in_err-rows : goal.returns-in_err-rows
returns-in_err-rows c =
    let p =
    err_from_is_err_and c.from_residual-in_err-rows.result c.from_residual-in_err-rows.ensures.1 in
    rw (p.1, p.2)
    (found_in_memory _ _ _ _ (dregions (goal.at.returns-in_err-rows c).After-top_key-6)
    (rw (size (goal.at.returns-in_err-rows c).After-size_of_version-size, c.top_key-6.ensures) at
    c.in_err-rows.ensures.read))

pub returns-in_err-loops : goal.returns-in_err-loops
returns-in_err-loops c =
    let p = err_from_is_err_and c.from_residual-in_err-loops.result
    c.from_residual-in_err-loops.ensures.1 in
    rw (p.1, p.2)
    (found_in_memory _ _ _ _ (threads (goal.at.returns-in_err-loops c).After-top_key-7)
    (rw (size (goal.at.returns-in_err-loops c).After-size_of_version-size, c.top_key-7.ensures) at
    c.in_err-loops.ensures.read))

pub invariant_of-result : goal.invariant_of-result
invariant_of-result c =
    let period =
    period_within c.in_ok-period.period (rw c.integers.ensures at c.in_ok-period.ensures.within) in
    let size = c.size_of_version-size.ensures.size in
    record {
      version = c.in_ok-version.ensures.one_of;
      period_low = period.0;
      period_high = period.1;
      slots = c.in_ok-slots.ensures.values;
      modes = c.word_of_modes.ensures.small;
      iregions = c.in_ok-iregions.ensures.values;
      dregions = c.in_ok-dregions.ensures.values;
      named = c.in_ok-image.ensures.lengths.0;
      name_short = c.in_ok-image.ensures.lengths.1;
      threads = c.in_ok-rows.ensures.rules;
      entries =
          subst (λ n. All (λ (t : ThreadSetup). t.entry < n) c.in_ok-rows.rows.threads) size
          c.in_ok-rows.ensures.inside;
      loops = c.in_ok-loops.ensures.rules;
      ends =
          subst (λ n. All (λ (l : LoopSetup). l.last < n) c.in_ok-loops.loops) size
          c.in_ok-loops.ensures.inside;
    }

pub threads_or_none-requires : goal.threads_or_none-requires
threads_or_none-requires c =
    let within = size_within _ c.size_of_version-size.ensures.one_of in
    record { low = within.0; high = within.1 }

pub loops_or_none-requires : goal.loops_or_none-requires
loops_or_none-requires c = record { low = (size_within _ c.size_of_version-size.ensures.one_of).0 }

pub word_of_modes-requires : goal.word_of_modes-requires
word_of_modes-requires c = c.in_ok-rows.ensures.modes
