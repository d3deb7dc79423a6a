use Rattle.std.proofs.Common.{length}
use Rattle.std.proofs.lemmas.Result.{IfOk-weaker}
use Rattle.call_bounds.specs.Build.{IsRow, IsRowTo}
use Rattle.call_bounds.proofs.TableLaws.{row-all}
use Rattle.call_bounds.proofs.call_table.callees.Goals as goal

pub returns : goal.returns
returns c =
    let l = c.args.code.now in
    let t = c.in_ok-draft.draft in
    IfOk-weaker c.called_functions.result (λ row. IsRowTo l t (length t.words) row.items)
    (λ row. IsRow l c.args.function row.items) (λ row h. row-all l t c.args.function row.items
    c.requires.listing c.requires.function c.in_ok-draft.ensures h) c.called_functions.ensures
