-- A thread in loops with sampled plants.
use Rattle.std.proofs.Common.{ℕ, List, arith}
use Rattle.core_model.specs.Viewed.{setting_of, view}
use Rattle.core_model.specs.World.{Start}
use Rattle.isolation.specs.Isolation.{StartsConfined, StartsConfinedHard, QuietUnpermitted}
use Rattle.closed_loops.specs.Answered.{with_all_shown}
use Rattle.closed_loops.specs.LoopLaws.{LoopIsolation, LoopsExist, PhasedLoops}
use Rattle.closed_loops.specs.Sampled.{plant_of}
use Rattle.loop_runs.specs.Plants.{loop_start, response_at}
use Rattle.loop_runs.specs.SampledLaws.{SampledAlone, SampledPhased, SampledUnpermitted}

confined-still : (s : Start) (shown : List (List ℕ)) (i : ℕ) → StartsConfinedHard s i →
    StartsConfinedHard (with_all_shown s shown) i
confined-still s shown i p = record {
  size = p.size;
  thread = p.thread;
  eight = p.eight;
  confined = p.confined;
  permit = p.permit;
  hard = p.hard;
}

apart-still : (s : Start) (shown : List (List ℕ)) (i : ℕ) → StartsConfined s i →
    StartsConfined (with_all_shown s shown) i
apart-still s shown i p = record {
  size = p.size;
  thread = p.thread;
  eight = p.eight;
  confined = p.confined;
  permit = p.permit;
}

pub sampled-alone : LoopIsolation → LoopsExist → SampledAlone
unfolding view setting_of
sampled-alone alone exist responses every s n i c p l quiet =
    let t = loop_start responses every s n in
    alone (plant_of s every i (response_at responses i)) t i c (confined-still s t.shown i p) quiet
    (λ a h.
    exist (λ k. plant_of s every k (response_at responses k)) s i n p.thread a (omega arith))

pub sampled-unpermitted : SampledAlone → QuietUnpermitted → SampledUnpermitted
sampled-unpermitted alone quiet responses every s n i c p l free =
    alone responses every s n i c p l (quiet (loop_start responses every s n) free c)

pub sampled-phased : PhasedLoops → LoopsExist → SampledPhased
unfolding view setting_of
sampled-phased alone exist responses every s n i c p l never kept =
    let t = loop_start responses every s n in
    alone (plant_of s every i (response_at responses i)) t i c
    (apart-still s t.shown i p) never kept (λ a h.
    exist (λ k. plant_of s every k (response_at responses k)) s i n p.thread a (omega arith))
