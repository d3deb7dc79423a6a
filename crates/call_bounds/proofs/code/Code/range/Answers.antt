use Rattle.std.proofs.Common.{◌-◌, ◌<◌, arith, ap, length}
use Rattle.call_bounds.proofs.CodeLaws.{routine-is}
use Rattle.call_bounds.proofs.Numbers.{routine-section}
use Rattle.call_bounds.proofs.code.Code.range.Goals as goal

pub overflow_add-result : goal.overflow_add-result
overflow_add-result c =
    let same = ap length c.routines.ensures.value in
    let lt : c.args.function - 1 < length c.routines.result.now = omega (
      arith,
      c.if-function-eq0.false,
    ) in
    let e = (routine-is c.routines.result.now (c.args.function - 1)
    (record { head = 0; last = 0 }) c.routines.ensures.rules lt).end in
    omega arith

pub returns-clause-rules : goal.returns-clause-rules
returns-clause-rules c =
    let same = ap length c.routines.ensures.value in
    let lt : c.args.function - 1 < length c.routines.result.now = omega (
      arith,
      c.if-function-eq0.false,
    ) in
    routine-section _ (routine-is c.routines.result.now (c.args.function - 1)
    (record { head = 0; last = 0 }) c.routines.ensures.rules lt)

pub overflow_sub-routine : goal.overflow_sub-routine
overflow_sub-routine c = let some = c.if-function-eq0.false in omega arith

pub offset_bounds-routines-function : goal.offset_bounds-routines-function
offset_bounds-routines-function c = omega (
  arith,
  c.requires,
  c.self.invariant.listing.routines.few,
  ap length c.routines.ensures.value,
  c.routines.ensures.rules.few,
)

pub bounds-routines-function : goal.bounds-routines-function
bounds-routines-function c =
    let same = ap length c.routines.ensures.value in omega (
      arith,
      c.if-function-eq0.false,
      c.requires,
    )
