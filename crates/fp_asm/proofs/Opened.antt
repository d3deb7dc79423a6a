-- The definitions that each function's proofs open, under one name.
use Rattle.fp_asm.specs.Names.{register_number}
use Rattle.fp_asm.specs.Operands.{all_filled}
use Rattle.fp_asm.specs.Second.{written_by}
use Rattle.fp_asm.specs.Statements.{size_of}

-- the number of bytes of a statement
unfoldable pub sizes : Type 0
unfolding size_of
sizes = Unit

-- operands in a form
unfoldable pub filled : Type 0
unfolding all_filled
filled = Unit

-- the words of a statement
unfoldable pub put : Type 0
unfolding written_by
put = Unit

-- the number of a register's name
unfoldable pub number : Type 0
unfolding register_number
number = Unit
