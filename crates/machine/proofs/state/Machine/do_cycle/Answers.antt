use Rattle.std.proofs.Common.{◌≡◌, length, refl, arith, ◌∙◌}
use Rattle.std.proofs.lemmas.List.{length-map}
use Rattle.pipe_model.specs.declared.stage_registers.Held.TheVariants.{Bubble}
use Rattle.machine.proofs.RunLemmas.{ticks_by_step}
use Rattle.machine.proofs.WordLemmas.{cycle_words}
use Rattle.machine.proofs.state.Machine.do_cycle.Goals as goal

pub returns-clause-cycle : goal.returns-clause-cycle
returns-clause-cycle g c =
    let same : length c.args.ports.now.items ≡ 8 = omega arith in
    record {
      relation =
          λ s n w within st. ticks_by_step s n _ _ c.args.self.now _ _ _ _ _
          (length-map c.args.ports.now.items _ ∙ same) c.take_if_any.ensures.rows within st
          (c.tick.ensures.step w) refl refl;
      at = refl;
      unplugs = refl;
      words =
          cycle_words c.args.self.now _ _ _ _ (length-map c.args.ports.now.items _ ∙ same)
          c.take_if_any.ensures.rows (c.tick.ensures.step Bubble);
    }
