use Rattle.std.proofs.Common.{◌<◌, ◌∙◌, [], length, arith}
use Rattle.std.proofs.lemmas.List.{length-set}
use Rattle.trace_print.specs.Digits.{two_digits}
use Rattle.selfrun.specs.Folds.{IsPiece, name_text}
use Rattle.selfrun.proofs.FoldLemmas.{one_more, piece_empty}
use Rattle.selfrun.proofs.line_fold.register_names.Goals as goal

pub loop-rd-preserved : goal.loop-rd-preserved
unfolding two_digits
loop-rd-preserved c =
    let inv = c.loop-rd.invariant in
    let within : c.loop-rd.rd < length c.loop-rd.names =
    omega (arith, inv.count, c.loop-rd-test.true) in
    let made = c.then-in-loop-rd.ensures _
    (c.then-name.ensures _ (c.then.ensures _ (c.then-letter.ensures [] piece_empty))) in
    rw c.from.ensures (record {
      count = length-set c.loop-rd.names c.loop-rd.rd c.then-in-loop-rd.result ∙ inv.count;
      set =
          one_more (λ rd p. IsPiece p (name_text rd)) c.loop-rd.names c.loop-rd.rd
          c.then-in-loop-rd.result _ within inv.set made;
    })
