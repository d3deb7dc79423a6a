use Rattle.call_bounds.proofs.TableLaws.{table-next}
use Rattle.std.proofs.Common.{◌≡◌, ◌++◌, ◌∙◌, List, Bool, arith, ap, subst, sym}
use Rattle.call_bounds.specs.Build.{IsTableTo}
use Rattle.call_bounds.specs.Listing.{function_count}
use Rattle.call_bounds.proofs.call_table.call_table.Goals as goal

pub loop-function-init : goal.loop-function-init
loop-function-init c =
    subst (λ (items : List Bool). IsTableTo c.args.code.now 0 items) (sym c.new-table.ensures.items)
    (record { count = omega arith; exact = λ j k below within. absurd (omega arith) })

pub callees-requires-clause-listing : goal.callees-requires-clause-listing
callees-requires-clause-listing c = c.function_count-function-end.ensures.rules

pub callees-requires-clause-function : goal.callees-requires-clause-function
callees-requires-clause-function c =
    omega (arith, c.loop-function-test.true, c.function_count-function-end.ensures.value)

pub loop-function-preserved : goal.loop-function-preserved
loop-function-preserved c =
    table-next c.args.code.now c.loop-function.function c.loop-function.table.items
    c.in_ok-row.row.items
    c.extend_from_slice.new.self.items (c.in_ok-extend_from_slice.ensures.items
    ∙ ap (λ r. c.loop-function.table.items ++ r) c.as_slice.ensures.value) c.in_ok-row.ensures
    c.loop-function.invariant

pub returns : goal.returns
returns c =
    let all : c.loop-function.function ≡ function_count c.args.code.now = omega (
      arith,
      c.loop-function-test.false,
      c.loop-function.auto.function-end,
      c.function_count-function-end.ensures.value,
    ) in
    subst (λ n. IsTableTo c.args.code.now n c.loop-function.table.items) all
    c.loop-function.invariant
