-- The instruction of every word is in range.
use Rattle.std.proofs.Common.{sym, subst}
use Rattle.rv_decode.specs.Range.{InRange}
use Rattle.rv_decode.specs.declared.instruction.Ins.{Ins}
use Rattle.rv_decode.proofs.Ranges.{ins-range, range-registers}
use Rattle.rv_decode.proofs.decoder.decode.Goals as goal

pub returns-clause-range : goal.returns-clause-range
returns-clause-range c =
    let P : Ins → Type 0 = λ i. InRange i in subst P (sym c.by_opcode.ensures) (ins-range c.args.w)

pub returns-clause-registers : goal.returns-clause-registers
returns-clause-registers c = range-registers c.by_opcode.result (returns-clause-range c)
