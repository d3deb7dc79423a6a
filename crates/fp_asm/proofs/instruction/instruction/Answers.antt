use Rattle.fp_asm.specs.Words.{instruction}
use Rattle.fp_asm.proofs.instruction.instruction.Goals as goal

pub returns-in-Op-clause-instruction : goal.returns-in-Op-clause-instruction
unfolding instruction
returns-in-Op-clause-instruction c = rw c.in-Op.is

pub returns-in-Muldiv-clause-instruction : goal.returns-in-Muldiv-clause-instruction
unfolding instruction
returns-in-Muldiv-clause-instruction c = rw c.in-Muldiv.is

pub returns-in-OpImm-clause-instruction : goal.returns-in-OpImm-clause-instruction
returns-in-OpImm-clause-instruction c = rw c.in-OpImm.is c.op_imm.ensures.instruction

pub returns-in-OpImm-clause-in_range : goal.returns-in-OpImm-clause-in_range
returns-in-OpImm-clause-in_range c = c.op_imm.ensures.in_range

pub returns-in-Shift-clause-instruction : goal.returns-in-Shift-clause-instruction
returns-in-Shift-clause-instruction c = rw c.in-Shift.is c.shift.ensures.instruction

pub returns-in-Shift-clause-in_range : goal.returns-in-Shift-clause-in_range
returns-in-Shift-clause-in_range c = c.shift.ensures.in_range

pub returns-in-Load-clause-instruction : goal.returns-in-Load-clause-instruction
returns-in-Load-clause-instruction c = rw c.in-Load.is c.load.ensures.instruction

pub returns-in-Load-clause-in_range : goal.returns-in-Load-clause-in_range
returns-in-Load-clause-in_range c = c.load.ensures.in_range

pub returns-in-Store-clause-instruction : goal.returns-in-Store-clause-instruction
returns-in-Store-clause-instruction c = rw c.in-Store.is c.store.ensures.instruction

pub returns-in-Store-clause-in_range : goal.returns-in-Store-clause-in_range
returns-in-Store-clause-in_range c = c.store.ensures.in_range

pub returns-in-Jalr-clause-instruction : goal.returns-in-Jalr-clause-instruction
returns-in-Jalr-clause-instruction c = rw c.in-Jalr.is c.jalr.ensures.instruction

pub returns-in-Jalr-clause-in_range : goal.returns-in-Jalr-clause-in_range
returns-in-Jalr-clause-in_range c = c.jalr.ensures.in_range

pub returns-in-Lui-clause-instruction : goal.returns-in-Lui-clause-instruction
returns-in-Lui-clause-instruction c = rw c.in-Lui.is c.lui.ensures.instruction

pub returns-in-Lui-clause-in_range : goal.returns-in-Lui-clause-in_range
returns-in-Lui-clause-in_range c = c.lui.ensures.in_range

pub returns-in-Auipc-clause-instruction : goal.returns-in-Auipc-clause-instruction
returns-in-Auipc-clause-instruction c = rw c.in-Auipc.is c.auipc.ensures.instruction

pub returns-in-Auipc-clause-in_range : goal.returns-in-Auipc-clause-in_range
returns-in-Auipc-clause-in_range c = c.auipc.ensures.in_range

pub returns-in-Csr-clause-instruction : goal.returns-in-Csr-clause-instruction
returns-in-Csr-clause-instruction c = rw c.in-Csr.is c.csr.ensures.instruction

pub returns-in-Csr-clause-in_range : goal.returns-in-Csr-clause-in_range
returns-in-Csr-clause-in_range c = c.csr.ensures.in_range

pub returns-in-CsrImm-clause-instruction : goal.returns-in-CsrImm-clause-instruction
returns-in-CsrImm-clause-instruction c = rw c.in-CsrImm.is c.csr_imm.ensures.instruction

pub returns-in-CsrImm-clause-in_range : goal.returns-in-CsrImm-clause-in_range
returns-in-CsrImm-clause-in_range c = c.csr_imm.ensures.in_range

pub returns-in-Gt-clause-instruction : goal.returns-in-Gt-clause-instruction
unfolding instruction
returns-in-Gt-clause-instruction c = rw c.in-Gt.is

pub returns-in-Gth-clause-instruction : goal.returns-in-Gth-clause-instruction
unfolding instruction
returns-in-Gth-clause-instruction c = rw c.in-Gth.is

pub returns-in-Du-clause-instruction : goal.returns-in-Du-clause-instruction
unfolding instruction
returns-in-Du-clause-instruction c = rw c.in-Du.is

pub returns-in-Wu-clause-instruction : goal.returns-in-Wu-clause-instruction
unfolding instruction
returns-in-Wu-clause-instruction c = rw c.in-Wu.is

pub returns-in-Ee-clause-instruction : goal.returns-in-Ee-clause-instruction
unfolding instruction
returns-in-Ee-clause-instruction c = rw c.in-Ee.is

pub returns-in-De-clause-instruction : goal.returns-in-De-clause-instruction
unfolding instruction
returns-in-De-clause-instruction c = rw c.in-De.is

pub returns-in-Ecall-clause-instruction : goal.returns-in-Ecall-clause-instruction
unfolding instruction
returns-in-Ecall-clause-instruction c = rw c.in-Ecall.is

pub returns-in-Ebreak-clause-instruction : goal.returns-in-Ebreak-clause-instruction
unfolding instruction
returns-in-Ebreak-clause-instruction c = rw c.in-Ebreak.is

pub returns-in-Mret-clause-instruction : goal.returns-in-Mret-clause-instruction
unfolding instruction
returns-in-Mret-clause-instruction c = rw c.in-Mret.is

pub returns-in-Fence-clause-instruction : goal.returns-in-Fence-clause-instruction
unfolding instruction
returns-in-Fence-clause-instruction c = rw c.in-Fence.is

pub returns-in-FenceI-clause-instruction : goal.returns-in-FenceI-clause-instruction
unfolding instruction
returns-in-FenceI-clause-instruction c = rw c.in-FenceI.is

pub returns-in-Not-clause-instruction : goal.returns-in-Not-clause-instruction
unfolding instruction
returns-in-Not-clause-instruction c = rw c.in-Not.is

pub returns-in-Ret-clause-instruction : goal.returns-in-Ret-clause-instruction
unfolding instruction
returns-in-Ret-clause-instruction c = rw c.in-Ret.is
