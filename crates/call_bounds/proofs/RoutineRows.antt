-- The definition of a file of routines, computed on some files.
use Rattle.std.proofs.Common.{◌≡◌, ℕ, List, [], ◌∷◌, None, Result, Ok, Err, refl}
use Rattle.std.specs.Prelude.{codes}
use Rattle.call_bounds.specs.RoutinesFile.{lines_of, number_from, routine_at}
use Rattle.call_bounds.specs.RoutinesFile.{routines_from, routines_of}
use Rattle.call_bounds.specs.declared.routines_refusals.RoutinesNo.TheVariants.{TooMany, BadLine}
use Rattle.call_bounds.specs.declared.routines_refusals.RoutinesNo.TheVariants.{BadPlace, Order}
use Rattle.call_bounds.specs.declared.routines_refusals.RoutinesRefused.{RoutinesRefused}
use Rattle.call_bounds.specs.declared.routines_refusals.RoutinesRefused.TheVariants.{Fault}
use Rattle.call_bounds.specs.declared.routines.Routine.{Routine}

-- by scratchpads of 16,384 bytes
abbrev read : List ℕ → Result (List Routine) RoutinesRefused
read file = routines_of 16384 file

none : read [] ≡ Ok []
unfolding routines_of routines_from lines_of
none = refl

one : read (codes "00000100 00000104\n") ≡ Ok (record { head = 0x100; last = 0x104 } ∷ [])
unfolding routines_of routines_from lines_of routine_at number_from
one = refl

two : read (codes "00000100 00000104\n00000108 00003ffc\n")
    ≡ Ok (record { head = 0x100; last = 0x104 } ∷ record { head = 0x108; last = 0x3ffc } ∷ [])
unfolding routines_of routines_from lines_of routine_at number_from
two = refl

two-spaces : read (codes "00000100  00000104\n") ≡ Err (Fault 1 BadLine)
unfolding routines_of routines_from lines_of routine_at number_from
two-spaces = refl

no-line-feed : read (codes "00000100 00000104\n00000108 0000010c") ≡ Err (Fault 2 BadLine)
unfolding routines_of routines_from lines_of routine_at number_from
no-line-feed = refl

upper-case : read (codes "00000100 0000010C\n") ≡ Err (Fault 1 BadLine)
unfolding routines_of routines_from lines_of routine_at number_from
upper-case = refl

outside : read (codes "00000100 00004000\n") ≡ Err (Fault 1 BadPlace)
unfolding routines_of routines_from lines_of routine_at number_from
outside = refl

backwards : read (codes "00000104 00000100\n\n") ≡ Err (Fault 1 BadPlace)
unfolding routines_of routines_from lines_of routine_at number_from
backwards = refl

twice : read (codes "00000100 00000104\n00000104 00000108\n") ≡ Err (Fault 2 Order)
unfolding routines_of routines_from lines_of routine_at number_from
twice = refl

-- a line after the 64th
too-many : routines_from 16384 65 None (lines_of (codes "\n")) ≡ Err (Fault 65 TooMany)
unfolding routines_from lines_of routine_at
too-many = refl
