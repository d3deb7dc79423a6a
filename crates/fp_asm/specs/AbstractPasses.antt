-- Abstraction functions of the two passes.
use Rattle.fp_asm.specs.First.{Placed}
use Rattle.fp_asm.specs.Second.{Written}
use Rattle.fp_asm.specs.AbstractPieces.{abstract_labels}
use Rattle.fp_asm.specs.declared.first_pass.First.{First}
use Rattle.fp_asm.specs.declared.second_pass.Second.{Second}

-- the state of the first pass, as plain data
abbrev pub abstract_first : First → Placed
abstract_first f =
    record { location = f.location; labels = abstract_labels f.labels; taken = f.taken.keys }

-- the state of the second pass, as plain data
abbrev pub abstract_second : Second → Written
abstract_second s = record { location = s.location; memory = s.memory.entries }
