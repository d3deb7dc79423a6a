-- A cycle after its ports were read: reading doesn't change their rows.
use Rattle.std.proofs.Common.{◌≡◌, ℕ, ◌+◌, ◌-◌, ◌<◌, List, Option, subst}
use Rattle.fp_ports.specs.PluggedPorts.{Row}
use Rattle.rv_exec.specs.declared.outcome.Event.{Event}
use Rattle.core_model.specs.World.{Start}
use Rattle.pipe_model.specs.Stages.{retired_event}
use Rattle.machine.proofs.Retiring.{ticks_by}
use Rattle.machine.specs.declared.state.Machine.{Machine}
use Rattle.machine.specs.WorldRelation.{AreLeft, Refines, Ticks}
use Rattle.pipe_view.specs.Watching.{IsTick}

pub tick_beside : (m : Machine) (ports read : List (Option Row))
    (next : Machine) (ports_next : List (Option Row)) (event : Option Event) →
    read ≡ ports → event ≡ retired_event (m.at - 4) m.pipe.m →
    ((s : Start) (n : ℕ) → m.at < n + 3 → Refines s m.at n m read →
    Ticks s m.at n read next ports_next event) → IsTick m ports next ports_next
tick_beside m ports read next ports_next event same is h =
    subst (λ (rows : List (Option Row)). IsTick m rows next ports_next) same
    (λ s n within st. ticks_by s _ n _ _ _ _ _ is (h s n within st))

pub left_beside : (ports read ports_next : List (Option Row)) → read ≡ ports →
    AreLeft read ports_next → AreLeft ports ports_next
left_beside ports read ports_next same h =
    subst (λ (rows : List (Option Row)). AreLeft rows ports_next) same h
