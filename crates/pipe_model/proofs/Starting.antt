-- The relation at the start.
use Rattle.std.proofs.Common.{ℕ, refl, ◌∙◌}
use Rattle.std.proofs.Math.ListN.{get_or-map, length-map}
use Rattle.core_model.specs.Thread.{Thread, fresh}
use Rattle.core_model.specs.World.{world, recent}
use Rattle.pipe_model.specs.PipelineLaws.{StartRefines}

pub starts : StartRefines
unfolding world recent
starts s ports b h = record {
  stage_registers = refl;
  fronts = record {
    count = length-map s.threads pc ∙ b.eight;
    next = λ k l. get_or-map pc s.threads k (fresh 0);
  };
  units = refl;
  ports = h;
}
  where
    pc : Thread → ℕ
    pc t = t.pc
