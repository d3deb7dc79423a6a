-- A run in loops, with equal responses.
use Rattle.std.proofs.Common.{◌≡◌, ℕ, List, Option, subst}
use Rattle.fp_ports.specs.PluggedPorts.{Row}
use Rattle.core_model.specs.World.{Start}
use Rattle.machine.specs.declared.state.Machine.{Machine}
use Rattle.loop_runs.specs.Plants.{Response}
use Rattle.loop_runs.specs.Looping.{HasLooped}

pub with-responses : (first other now : List (Option Response)) (every : ℕ) (s : Start)
    (n q i c thread : ℕ) (m : Machine) (ports : List (Option Row))
    (before after : Option (List ℕ)) →
    first ≡ other → HasLooped first now every s n q i c thread m ports before after →
    HasLooped other now every s n q i c thread m ports before after
with-responses first other now every s n q i c thread m ports before after e h =
    subst (λ (rs : List (Option Response)).
    HasLooped rs now every s n q i c thread m ports before after) e h
