-- The table, if all bits that must be clear are clear.
use Rattle.std.proofs.Common.{arith}
use Rattle.std.proofs.lemmas.Grind.{common_steps}
use Rattle.hart_exec.proofs.WordSources.{named}
use Rattle.hart_exec.proofs.word_sources.sources_in.Goals as goal

pub overflow_cast-result-2 : goal.overflow_cast-result-2
overflow_cast-result-2 c = omega (
  arith,
  (named c.args.word c.entry_of.result
      (omega (arith, c.ranges.word.fits)) c.entry_of.ensures c.if-fields-ne0.false).2,
)

pub returns-clause-first : goal.returns-clause-first
returns-clause-first c =
    (named c.args.word c.entry_of.result
    (omega (arith, c.ranges.word.fits)) c.entry_of.ensures c.if-fields-ne0.false).0

pub returns-clause-second : goal.returns-clause-second
returns-clause-second c =
    (named c.args.word c.entry_of.result
    (omega (arith, c.ranges.word.fits)) c.entry_of.ensures c.if-fields-ne0.false).1

pub returns-clause-small : goal.returns-clause-small
returns-clause-small c =
    let small = (named c.args.word c.entry_of.result (omega (arith, c.ranges.word.fits))
    c.entry_of.ensures c.if-fields-ne0.false).2 in grind (arith, common_steps)
