use Rattle.fp_asm.proofs.Rows.{table_row, in_first, in_second, in_third}
use Rattle.fp_asm.proofs.mnemonics.mnemonic.Goals as goal

pub returns-in-Some : goal.returns-in-Some
returns-in-Some c =
    let text = c.args.text.now in
    in_first text _ (table_row _ _ text _ c.computing.ensures c.in-Some.ensures)

pub returns-in-Some-mnemonic_row : goal.returns-in-Some-mnemonic_row
returns-in-Some-mnemonic_row c =
    let text = c.args.text.now in
    in_second text _ (table_row _ _ text _ c.computing.ensures c.in_default.ensures)
    (table_row _ _ text _ c.acting.ensures c.in-Some-mnemonic_row.ensures)

pub returns : goal.returns
returns c =
    let text = c.args.text.now in
    in_third text _ (table_row _ _ text _ c.computing.ensures c.in_default.ensures)
    (table_row _ _ text _ c.acting.ensures c.in_default-mnemonic_row.ensures)
    (table_row _ _ text _ c.shorthands.ensures c.mnemonic_row-3.ensures)
