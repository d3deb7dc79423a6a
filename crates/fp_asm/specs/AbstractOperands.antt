-- Abstraction functions of targets, operands and statements.
use Rattle.std.specs.Prelude.{map}
use Rattle.fp_asm.specs.Operands.{Target, plain, label, Operands}
use Rattle.fp_asm.specs.declared.operands.Target.TheVariants as target
use Rattle.fp_asm.specs.declared.operands.Operands.{Operands as Given}
use Rattle.fp_asm.specs.Statements.{Statement}
use Rattle.fp_asm.specs.declared.statement.Statement.{Statement as Made}

-- a target, as plain data
abbrev pub abstract_target : target.the_data → Target
abstract_target (target.Plain n) = plain n
abstract_target (target.Label x n) = label x.now n

-- the operands of a line, as plain data
abbrev pub abstract_operands : Given → Operands
abstract_operands o = record {
  rd = o.rd;
  rs1 = o.rs1;
  rs2 = o.rs2;
  csr_number = o.csr_number;
  given = o.given;
  target = abstract_target o.target;
}

-- a statement, as plain data
abbrev pub abstract_statement : Made → Statement
abstract_statement s = record {
  makes = s.makes;
  operands = abstract_operands s.operands;
  values = map abstract_target s.values.items;
}
