use Rattle.std.proofs.Common.{◌<◌, ◌∙◌, [], length, arith}
use Rattle.std.proofs.lemmas.List.{length-set}
use Rattle.trace_print.specs.Digits.{two_digits}
use Rattle.selfrun.specs.Folds.{IsPiece, lower_text}
use Rattle.selfrun.proofs.FoldLemmas.{one_more, piece_empty}
use Rattle.selfrun.proofs.cycles.lower_pieces.Goals as goal

pub loop-n-preserved : goal.loop-n-preserved
unfolding two_digits
loop-n-preserved c =
    let inv = c.loop-n.invariant in
    let within : c.loop-n.n < length c.loop-n.pieces =
    omega (arith, inv.count, c.loop-n-test.true) in
    let made =
    c.then-in-loop-n.ensures _ (c.then-digits.ensures _ (c.then.ensures [] piece_empty)) in
    rw c.from.ensures (record {
      count = length-set c.loop-n.pieces c.loop-n.n c.then-in-loop-n.result ∙ inv.count;
      set =
          one_more (λ n p. IsPiece p (lower_text n)) c.loop-n.pieces c.loop-n.n
          c.then-in-loop-n.result _ within inv.set made;
    })
