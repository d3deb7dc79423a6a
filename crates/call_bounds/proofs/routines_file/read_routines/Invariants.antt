-- the routines so far, and the rest of the bytes
use Rattle.std.proofs.Common.{◌≡◌, suc, length}
use Rattle.call_bounds.specs.Routines.{AreRoutines}
use Rattle.call_bounds.specs.RoutinesFile.{lines_of, routines_from, routines_of}
use Rattle.call_bounds.proofs.RoutineLines.{joined}
use Rattle.call_bounds.proofs.RisingRoutines.{EndAt}
use Rattle.call_bounds.proofs.routines_file.read_routines.Given as goal

abbrev pub invariant-loop-line : goal.invariant-loop-line
invariant-loop-line l = record {
  whole : routines_of l.size l.bytes ≡ joined l.items.items (routines_from l.size
      (suc (length l.items.items)) l.before (lines_of l.line-iterator.rest.now));
  width : l.line-iterator.size ≡ 18;
  rules : AreRoutines l.items.items;
  end : EndAt l.before l.items.items;
}
