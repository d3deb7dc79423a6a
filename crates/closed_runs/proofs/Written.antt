-- The text of a run in loops, from the theorems on closed loops.
use Rattle.std.proofs.Common.{◌≡◌, ℕ, ◌≤◌, ◌^◌, List, Option, Some, None, Result, Ok, Err, subst}
use Rattle.std.proofs.Common.{sym, append-nil, arith}
use Rattle.std.specs.Prelude.{length, OnErr}
use Rattle.fp_io.specs.Content.{AppendsPrefix}
use Rattle.std.specs.Io.KnownBytes.{Appends}
use Rattle.fp_image.specs.declared.parts.Segment.{Segment}
use Rattle.fp_ports.specs.PluggedPorts.{Row}
use Rattle.fp_setup.specs.Settings.{Settings}
use Rattle.core_model.specs.World.{Start}
use Rattle.setup_model.specs.Start.{start}
use Rattle.machine.specs.Feeding.{fed_all}
use Rattle.machine.specs.PortLaws.{FeedsStart}
use Rattle.machine.specs.WorldRelation.{Refines, start_with_ports}
use Rattle.machine.specs.declared.state.Machine.{Machine as Loaded}
use Rattle.isolation.specs.TraceLaws.{Machine}
use Rattle.closed_laws.specs.ClosedTraces.{LoopTraceAlone, LoopTraceByPhases, QuietLoops}
use Rattle.closed_laws.specs.ClosedTraces.{Responses, loop_trace}
use Rattle.closed_runs.specs.ClosedRuns.{WritesLoops}

pub written : LoopTraceAlone → QuietLoops → LoopTraceByPhases → (m : Machine)
    (responses : Responses) (every i n : ℕ) (before after : Option (List ℕ)) →
    Appends before after (loop_trace m responses every i n) →
    WritesLoops m responses every i n before after
written alone quiet phased m responses every i n before after h =
    let After : List ℕ → Type 0 = λ x. Appends before after x in
    record {
      trace_is = h;
      alone = λ r c q. subst After (alone m responses every i n r c q) h;
      unpermitted =
          λ r c p. subst After (alone m responses every i n r c (quiet m responses every n p)) h;
      phased = λ r c k. subst After (phased m responses every i n r c k) h;
    }

-- the loaded machine refines the start of the setup, once its ports are fed
pub starts : FeedsStart → (s : Settings) (image : List Segment) (m : Loaded)
    (ports fed : List (Option Row)) (n : ℕ) → length ports ≡ 8 → length fed ≡ 8 → n ≤ 2 ^ 64 →
    fed ≡ fed_all s ports →
    ((ports : List (Option Row)) (n : ℕ) → length ports ≡ 8 →
    Refines (start_with_ports s image ports n) 0 n m ports) →
    Refines (start s image ports n) 0 n m fed
starts law s image m ports fed n eight also low is loaded =
    let at : Refines (start_with_ports s image fed n) 0 n m fed = loaded fed n also in
    let By : List (Option Row) → Type 0 = λ rows. Refines (start_with_ports s image rows n)
    0 n m fed in
    subst (λ (t : Start). Refines t 0 n m fed) (law s image ports n eight low) (subst By is at)

-- a sink that was given nothing has taken a prefix of any text
pub none-put : (contents : Option (List ℕ)) (bytes : List ℕ) → AppendsPrefix contents contents bytes
none-put None bytes = tt
none-put (Some xs) bytes = (0, omega arith, sym (append-nil xs))

pub on-error : {T E P : Type 0} (r : Result T E) → P → OnErr r P
on-error (Ok x) p = tt
on-error (Err e) p = p
