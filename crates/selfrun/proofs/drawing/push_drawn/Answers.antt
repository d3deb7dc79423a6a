use Rattle.std.proofs.Common.{◌≡◌, ◌++◌, [], ◌∷◌, ap, arith, sym, ◌∙◌}
use Rattle.selfrun.specs.Drawn.{bytes_of, drawn_from, drawn_ins, next_draw}
use Rattle.selfrun.proofs.DrawnLemmas.{more_drawn, drawn-next, drawn-zero, no_draws}
use Rattle.selfrun.proofs.drawing.push_drawn.Goals as goal

pub loop-draw-init : goal.loop-draw-init
loop-draw-init c =
    record { bytes = no_draws c.args.bytes.now.items c.args.first; x = drawn-zero c.args.first }

pub loop-draw-preserved : goal.loop-draw-preserved
loop-draw-preserved c =
    let inv = c.loop-draw.invariant in
    record {
      bytes =
          c.in_ok-push_ins.ensures
          ∙ ap (λ i. c.loop-draw.bytes.items ++ bytes_of (i ∷ []))
          (c.drawn_ins.ensures.ins ∙ ap drawn_ins c.next_draw-x.ensures)
          ∙ more_drawn c.args.bytes.now.items c.loop-draw.bytes.items c.args.first c.loop-draw._draw
          c.loop-draw.x inv.bytes inv.x;
      x =
          c.next_draw-x.ensures ∙ ap next_draw inv.x
          ∙ sym (drawn-next c.args.first c.loop-draw._draw);
    }

pub returns-clause-bytes : goal.returns-clause-bytes
returns-clause-bytes c =
    let end : c.loop-draw._draw ≡ 124 =
    omega (arith, c.loop-draw-test.false, c.loop-draw.auto._draw-end) in
    c.loop-draw.invariant.bytes
    ∙ ap (λ n. c.args.bytes.now.items ++ bytes_of (drawn_from c.args.first n)) end
