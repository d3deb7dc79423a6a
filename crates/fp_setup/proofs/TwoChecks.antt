-- Two checks, one after the other.
use Rattle.std.proofs.Common.{◌≡◌, Option, Some, None}
use Rattle.fp_setup.specs.declared.refusal.Fault.{Fault}
use Rattle.fp_setup.specs.declared.refusal.SetupRefused.{SetupRefused}
use Rattle.fp_setup.specs.declared.refusal.SetupRefused.TheVariants as refused
use Rattle.fp_setup.specs.Faults.{first}
use Rattle.fp_setup.specs.Reading.{IsFound}

-- the result of two checks is that of the second, if the first finds nothing
pub past : {all here later : Option Fault} → all ≡ first here later → here ≡ None → all ≡ later
past e h = rw h at e

-- otherwise it is that of the first
pub found : {all here : Option Fault} (later : Option Fault) {f : Fault} → all ≡ first here later →
    here ≡ Some f → all ≡ Some f
found later e h = rw h at e

pub found_in_memory : (e : SetupRefused) (all here later : Option Fault) → all ≡ first here later →
    IsFound e here → IsFound e all
found_in_memory (refused.Fault code place) all here later e h = found later e h
found_in_memory refused.NoMemory all here later e h = tt
