-- A machine that refines a cycle of a world refines it for each start with the same worlds so far.
use Rattle.std.proofs.Common.{◌≡◌, ℕ, ◌-◌, ◌≤◌, List, get_or, Option, ap, ap₂, ◌∙◌, subst, arith}
use Rattle.std.specs.Prelude.{IfSome}
use Rattle.fp_ports.specs.PluggedPorts.{Row, row_at}
use Rattle.core_model.specs.World.{Start, World, world}
use Rattle.core_model.specs.World.Took.{Idle}
use Rattle.pipe_model.specs.Stages.{StageRegisters, State}
use Rattle.pipe_model.specs.Relation.{HasLatches, PipelineRefines, bank_in, control_in, in_decode}
use Rattle.pipe_model.specs.Relation.{in_execute, in_fetch, in_memory, in_write, next_of, pick_in}
use Rattle.closed_loops.specs.Answered.{with_all_shown}

-- the stage registers, by the worlds
abbrev stages_in : Start → ℕ → World → World → World → List ℕ → StageRegisters
stages_in s c now two three next =
    record {
      next = next;
      f = in_fetch s c two (get_or now.turns 1 Idle) (pick_in (get_or now.turns 0 Idle));
      d = in_decode s (c - 2) two (get_or now.turns 1 Idle);
      e = in_execute s (c - 3) three (get_or now.turns 2 Idle);
      m = in_memory (get_or now.turns 3 Idle);
      w = in_write (get_or now.turns 4 Idle);
    }

-- the units, by the worlds
abbrev units_in : Start → World → World → World → World → List (Option Row) → State
units_in s now two three four ports =
    record {
      bank = bank_in four;
      i_words = s.i_words;
      d_words = three.d_words;
      control = control_in two;
      last = now.last;
      period = s.period;
      size = s.size;
      confined = s.confined;
      permit = s.permit;
      ports = ports;
    }

-- other words at the ports, and the same worlds up to cycle c
module _ (s : Start) (shown : List (List ℕ)) (c : ℕ)
    (same : (d : ℕ) → d ≤ c → world s d ≡ world (with_all_shown s shown) d) where
  now : world s c ≡ world (with_all_shown s shown) c
  now = same c (omega arith)

  two : world s (c - 2) ≡ world (with_all_shown s shown) (c - 2)
  two = same (c - 2) (omega arith)

  three : world s (c - 3) ≡ world (with_all_shown s shown) (c - 3)
  three = same (c - 3) (omega arith)

  four : world s (c - 4) ≡ world (with_all_shown s shown) (c - 4)
  four = same (c - 4) (omega arith)

  stages-same : (p : StageRegisters) → p ≡ stages_in s c (world s c) (world s (c - 2))
      (world s (c - 3)) p.next → p ≡ stages_in s c (world (with_all_shown s shown) c)
      (world (with_all_shown s shown) (c - 2)) (world (with_all_shown s shown) (c - 3)) p.next
  stages-same p h =
      h ∙ ap₂ (λ (v w : World). stages_in s c v w (world s (c - 3)) p.next) now two
      ∙ ap (λ (w : World). stages_in s c (world (with_all_shown s shown) c)
      (world (with_all_shown s shown) (c - 2)) w p.next) three

  units-same : (u : State) (ports : List (Option Row)) → u ≡ units_in s (world s c)
      (world s (c - 2)) (world s (c - 3)) (world s (c - 4)) u.ports → record u { ports = ports }
      ≡ units_in s (world (with_all_shown s shown) c) (world (with_all_shown s shown) (c - 2))
      (world (with_all_shown s shown) (c - 3)) (world (with_all_shown s shown) (c - 4)) ports
  units-same u ports h =
      ap (λ (v : State). let x : State = record v { ports = ports } in x) h
      ∙ ap₂ (λ (v w : World). units_in s v w (world s (c - 3)) (world s (c - 4)) ports) now two
      ∙ ap₂ (λ (v w : World). units_in s (world (with_all_shown s shown) c)
      (world (with_all_shown s shown) (c - 2)) v w ports) three four

  pub refines-same : (p : StageRegisters) (u : State) (ports : List (Option Row)) →
      PipelineRefines s c p u → HasLatches (world s (c - 3)) ports →
      PipelineRefines (with_all_shown s shown) c p (record u { ports = ports })
  refines-same p u ports st latches = record {
    stage_registers = stages-same p st.stage_registers;
    fronts = record {
      count = st.fronts.count;
      next =
          λ k below. st.fronts.next k below
          ∙ ap₂ (λ (v w : World). next_of v (get_or w.turns 1 Idle) p.f k) two now;
    };
    units = units-same u ports st.units;
    ports =
        λ k below. subst (λ (w : World). IfSome (row_at ports k)
        (λ (row : Row). row.latch ≡ get_or w.latches k 0)) three (latches k below);
  }
