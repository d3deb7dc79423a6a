-- Theorems on feeding the ports, and on the ports that are left.
use Rattle.std.specs.Prelude.{◌≡◌, ℕ, ◌^◌, ◌≤◌, List, length, Option}
use Rattle.fp_image.specs.declared.parts.Segment.{Segment}
use Rattle.fp_ports.specs.PluggedPorts.{Row}
use Rattle.fp_setup.specs.Settings.{Settings}
use Rattle.setup_model.specs.Start.{start}
use Rattle.core_model.specs.World.{Start}
use Rattle.machine.specs.declared.state.Machine.{Machine}
use Rattle.machine.specs.Feeding.{fed_all}
use Rattle.machine.specs.WorldRelation.{Refines, AreLeft, PortsAfter, start_with_ports}

-- the start with ports that were fed the setup's inputs is the start of the setup with the ports
-- before they were fed
abbrev pub FeedsStart : Type 0
FeedsStart =
    (s : Settings) (image : List Segment) (ports : List (Option Row)) (n : ℕ) → length ports ≡ 8 →
    n ≤ 2 ^ 64 → start_with_ports s image (fed_all s ports) n ≡ start s image ports n

-- Take ports that refine cycle c of a world and show the same words as earlier ports. They are the
-- earlier ports with the world's latches, without the removed ones.
abbrev pub LeavesPorts : Type 0
LeavesPorts =
    (s : Start) (c n : ℕ) (m : Machine) (before after : List (Option Row)) → Refines s c n m after →
    AreLeft before after → PortsAfter s c before after
