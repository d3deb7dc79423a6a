-- The edges in a refusal of a function are plain.
use Rattle.std.proofs.Common.{Some, None}
use Rattle.region_tree.specs.Tree.{IsSection}
use Rattle.call_bounds.specs.CallRefusals.{IsListing}
use Rattle.call_bounds.specs.Calls.{Calls, IsReached, Function, range}
use Rattle.call_bounds.specs.PlainRows.{RowsNamePlainEdges}
use Rattle.call_bounds.proofs.CallEdges.{entered-plain, unbounded-plain}
use Rattle.call_bounds.proofs.Facts.{reached-listed}
use Rattle.call_bounds.proofs.Numbers.{routine-section}

reached-section : (x : Calls) (p : Function) → IsListing x → IsReached x p → IsSection (range x p)
reached-section x None is r = is.section
reached-section x (Some t) is r = routine-section t (is.routines.each t (reached-listed x t r))

pub rows-name-plain-edges : RowsNamePlainEdges
rows-name-plain-edges x is p r = (
  (λ a h. entered-plain x p a (reached-section x p is r) is.loops h),
  (λ u h. unbounded-plain x p u h),
)
