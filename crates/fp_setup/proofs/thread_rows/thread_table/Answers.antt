use Rattle.std.proofs.Common.{◌∙◌}
use Rattle.std.proofs.lemmas.Result.{err_from_is_err_and}
use Rattle.toml.specs.View.{table_view}
use Rattle.fp_setup.proofs.TwoChecks.{past, found, found_in_memory}
use Rattle.fp_setup.proofs.ThreadTable.{IsGoodTo, table_checks, id_below, mode_below}
use Rattle.fp_setup.proofs.ThreadTable.{entry_inside, is_thread, row-from}
use Rattle.fp_setup.proofs.thread_rows.thread_table.Goals.{After-key, After-key-2, After-key-3}
use Rattle.fp_setup.proofs.thread_rows.thread_table.Goals.{After-key-4, After-key-5, After-key-6}
use Rattle.fp_setup.proofs.thread_rows.thread_table.Goals.{After-key-7, After-as_cycle}
use Rattle.fp_setup.proofs.thread_rows.thread_table.Goals as goal

known : (c : After-key) →
    IsGoodTo c.args.size c.args.ids.now c.args.row (table_view c.args.table.now) 0
known c = past (table_checks _ _ _ _) c.in_ok-no_other_key.ensures.0

id : (c : After-key-2) →
    IsGoodTo c.args.size c.args.ids.now c.args.row (table_view c.args.table.now) 1
id c =
    past (known (goal.at.After-key-2 c).After-key)
    (rw (c.integers.ensures, c.key.ensures) at c.in_ok-id.ensures.read.0)

mode : (c : After-key-3) →
    IsGoodTo c.args.size c.args.ids.now c.args.row (table_view c.args.table.now) 2
mode c =
    past (id (goal.at.After-key-3 c).After-key-2)
    (rw c.key-2.ensures at c.in_ok-mode.ensures.read.0)

entry : (c : After-key-4) →
    IsGoodTo c.args.size c.args.ids.now c.args.row (table_view c.args.table.now) 3
entry c =
    past (mode (goal.at.After-key-4 c).After-key-3)
    (rw (c.addresses.ensures, c.key-3.ensures) at c.in_ok-entry.ensures.read.0)

confined : (c : After-key-5) →
    IsGoodTo c.args.size c.args.ids.now c.args.row (table_view c.args.table.now) 4
confined c =
    past (entry (goal.at.After-key-5 c).After-key-4)
    (rw c.key-4.ensures at c.in_ok-confined.ensures.0)

permit : (c : After-key-6) →
    IsGoodTo c.args.size c.args.ids.now c.args.row (table_view c.args.table.now) 5
permit c =
    past (confined (goal.at.After-key-6 c).After-key-5)
    (rw (c.in_ok-confined.ensures.1, c.key-5.ensures) at c.in_ok-permit.ensures.read.0)

unplug : (c : After-key-7) →
    IsGoodTo c.args.size c.args.ids.now c.args.row (table_view c.args.table.now) 6
unplug c =
    past (permit (goal.at.After-key-7 c).After-key-6)
    (rw (c.integers-2.ensures, c.key-6.ensures) at c.in_ok-unplug.ensures.read.0)

inputs : (c : After-as_cycle) →
    IsGoodTo c.args.size c.args.ids.now c.args.row (table_view c.args.table.now) 7
inputs c =
    past (unplug (goal.at.After-as_cycle c).After-key-7)
    (rw c.key-7.ensures at c.in_ok-inputs.ensures.read.0)

pub returns-in_err-no_other_key : goal.returns-in_err-no_other_key
returns-in_err-no_other_key c =
    let p = err_from_is_err_and c.from_residual.result c.from_residual.ensures.1 in
    rw (p.1, p.2) (record {
      read = found _ (table_checks _ _ _ _) c.in_err-no_other_key.ensures;
      id = tt;
      not_taken = tt;
      mode = tt;
      rules = tt;
      inside = tt;
    })

pub returns-in_err-id : goal.returns-in_err-id
returns-in_err-id c =
    let p =
    err_from_is_err_and c.from_residual-in_err-id.result c.from_residual-in_err-id.ensures.1 in
    rw (p.1, p.2) (record {
      read =
          found _ (known (goal.at.returns-in_err-id c).After-key)
          (rw (c.integers.ensures, c.key.ensures) at c.in_err-id.ensures.read);
      id = tt;
      not_taken = tt;
      mode = tt;
      rules = tt;
      inside = tt;
    })

pub returns-in_err-mode : goal.returns-in_err-mode
returns-in_err-mode c =
    let p =
    err_from_is_err_and c.from_residual-in_err-mode.result c.from_residual-in_err-mode.ensures.1 in
    rw (p.1, p.2) (record {
      read =
          found _ (id (goal.at.returns-in_err-mode c).After-key-2)
          (rw c.key-2.ensures at c.in_err-mode.ensures.read);
      id = tt;
      not_taken = tt;
      mode = tt;
      rules = tt;
      inside = tt;
    })

pub returns-in_err-entry : goal.returns-in_err-entry
returns-in_err-entry c =
    let p = err_from_is_err_and c.from_residual-in_err-entry.result
    c.from_residual-in_err-entry.ensures.1 in
    rw (p.1, p.2) (record {
      read =
          found _ (mode (goal.at.returns-in_err-entry c).After-key-3)
          (rw (c.addresses.ensures, c.key-3.ensures) at c.in_err-entry.ensures.read);
      id = tt;
      not_taken = tt;
      mode = tt;
      rules = tt;
      inside = tt;
    })

pub returns-in_err-confined : goal.returns-in_err-confined
returns-in_err-confined c =
    let p = err_from_is_err_and c.from_residual-in_err-confined.result
    c.from_residual-in_err-confined.ensures.1 in
    rw (p.1, p.2) (record {
      read =
          found _ (entry (goal.at.returns-in_err-confined c).After-key-4)
          (rw c.key-4.ensures at c.in_err-confined.ensures);
      id = tt;
      not_taken = tt;
      mode = tt;
      rules = tt;
      inside = tt;
    })

pub returns-in_err-permit : goal.returns-in_err-permit
returns-in_err-permit c =
    let p = err_from_is_err_and c.from_residual-in_err-permit.result
    c.from_residual-in_err-permit.ensures.1 in
    rw (p.1, p.2) (record {
      read =
          found _ (confined (goal.at.returns-in_err-permit c).After-key-5)
          (rw (c.in_ok-confined.ensures.1, c.key-5.ensures) at c.in_err-permit.ensures.read);
      id = tt;
      not_taken = tt;
      mode = tt;
      rules = tt;
      inside = tt;
    })

pub returns-in_err-unplug : goal.returns-in_err-unplug
returns-in_err-unplug c =
    let p = err_from_is_err_and c.from_residual-in_err-unplug.result
    c.from_residual-in_err-unplug.ensures.1 in
    rw (p.1, p.2) (record {
      read =
          found _ (permit (goal.at.returns-in_err-unplug c).After-key-6)
          (rw (c.integers-2.ensures, c.key-6.ensures) at c.in_err-unplug.ensures.read);
      id = tt;
      not_taken = tt;
      mode = tt;
      rules = tt;
      inside = tt;
    })

pub returns-in_err-inputs : goal.returns-in_err-inputs
returns-in_err-inputs c =
    let p = err_from_is_err_and c.from_residual-in_err-inputs.result
    c.from_residual-in_err-inputs.ensures.1 in
    rw (p.1, p.2) (record {
      read =
          found_in_memory _ _ _ _ (unplug (goal.at.returns-in_err-inputs c).After-key-7)
          (rw c.key-7.ensures at c.in_err-inputs.ensures.read);
      id = tt;
      not_taken = tt;
      mode = tt;
      rules = tt;
      inside = tt;
    })

pub returns-clause-rules : goal.returns-clause-rules
returns-clause-rules c =
    is_thread c.args.size _ c.integers-2.result c.in_ok-unplug.unplug c.requires.low c.requires.high
    (rw c.addresses.ensures at c.in_ok-entry.ensures.within)
    c.in_ok-permit.ensures.one_of_both c.integers-2.ensures c.as_cycle.ensures
    c.in_ok-unplug.ensures.within c.in_ok-inputs.ensures.rules

pub returns-clause-inside : goal.returns-clause-inside
returns-clause-inside c =
    entry_inside _ _ c.requires.low (rw c.addresses.ensures at c.in_ok-entry.ensures.within)

pub returns-clause-id : goal.returns-clause-id
returns-clause-id c = id_below _ (rw c.integers.ensures at c.in_ok-id.ensures.within)

pub returns-clause-not_taken : goal.returns-clause-not_taken
returns-clause-not_taken c = c.in_ok-id.ensures.not_taken

pub returns-clause-mode : goal.returns-clause-mode
returns-clause-mode c = mode_below _ c.in_ok-mode.ensures.value

pub returns-clause-read : goal.returns-clause-read
returns-clause-read c = (
  inputs c,
  row-from _ _ _ _ _ _ _ _ c.in_ok-id.ensures.read.1 c.in_ok-mode.ensures.read.1
      c.in_ok-entry.ensures.read.1 c.in_ok-confined.ensures.1 c.in_ok-permit.ensures.read.1
      (c.as_cycle.ensures ∙ c.in_ok-unplug.ensures.read.1) c.in_ok-inputs.ensures.read.1,
)
