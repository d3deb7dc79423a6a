-- Each arm knows its opcode, and so the rows that can match.
use Rattle.std.proofs.Common.{rules, sym, ◌∙◌}
use Rattle.rv_decode.proofs.ByOpcode.{ins-lui, ins-auipc, ins-jal, ins-jalr}
use Rattle.rv_decode.proofs.ByOpcode.{ins-branch, ins-load, ins-store, ins-imm, ins-op}
use Rattle.rv_decode.proofs.ByOpcode.{ins-fence, ins-system, ins-time, ins-none}
use Rattle.rv_decode.proofs.decoder.by_opcode.Goals as goal

pub returns-in-55 : goal.returns-in-55
returns-in-55 c = c.lui.ensures ∙ sym (ins-lui c.args.word (search rules))

pub returns-in-23 : goal.returns-in-23
returns-in-23 c = c.auipc.ensures ∙ sym (ins-auipc c.args.word (search rules))

pub returns-in-111 : goal.returns-in-111
returns-in-111 c = c.jal.ensures ∙ sym (ins-jal c.args.word (search rules))

pub returns-in-103 : goal.returns-in-103
returns-in-103 c = c.jalr.ensures ∙ sym (ins-jalr c.args.word (search rules))

pub returns-in-99 : goal.returns-in-99
returns-in-99 c = c.conditional_branch.ensures ∙ sym (ins-branch c.args.word (search rules))

pub returns-in-3 : goal.returns-in-3
returns-in-3 c = c.load.ensures ∙ sym (ins-load c.args.word (search rules))

pub returns-in-35 : goal.returns-in-35
returns-in-35 c = c.store.ensures ∙ sym (ins-store c.args.word (search rules))

pub returns-in-19 : goal.returns-in-19
returns-in-19 c = c.op_imm.ensures ∙ sym (ins-imm c.args.word (search rules))

pub returns-in-51 : goal.returns-in-51
returns-in-51 c = c.op.ensures ∙ sym (ins-op c.args.word (search rules))

pub returns-in-15 : goal.returns-in-15
returns-in-15 c = c.fence.ensures ∙ sym (ins-fence c.args.word (search rules))

pub returns-in-115 : goal.returns-in-115
returns-in-115 c = c.system.ensures ∙ sym (ins-system c.args.word (search rules))

pub returns-in-11 : goal.returns-in-11
returns-in-11 c = c.timing.ensures ∙ sym (ins-time c.args.word (search rules))

pub returns-in_default : goal.returns-in_default
returns-in_default c =
    sym (ins-none c.args.word (search rules) (search rules) (search rules) (search rules)
    (search rules) (search rules) (search rules) (search rules) (search rules) (search rules)
    (search rules) (search rules))
