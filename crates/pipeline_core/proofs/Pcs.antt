-- Pcs stay multiples of four.
use Rattle.std.proofs.Common.{ℕ, ◌<◌, List, length, arith}
use Rattle.std.specs.Prelude.{slice_index_or, slice_set, All}
use Rattle.std.proofs.lemmas.List.Elements.{All-set, All-get_or}
use Rattle.core_model.specs.Outcomes.{plus}
use Rattle.pipeline_core.specs.StageFacts.{IsPc}

pub pcs_set : (next : List ℕ) (k pc : ℕ) → IsPc pc → All IsPc next → All IsPc (slice_set next k pc)
pcs_set next k pc h all = All-set IsPc next k pc h all

pub pc_at : (next : List ℕ) (k : ℕ) → k < length next → All IsPc next →
    IsPc (slice_index_or next k 0)
pc_at next k h all = All-get_or IsPc next k 0 h all

pub pc_after : (pc : ℕ) → IsPc pc → IsPc (plus pc 4)
pc_after pc h = omega arith

-- the pcs after a fetch
pub ruleset moving = (pcs_set, pc_at, pc_after)
