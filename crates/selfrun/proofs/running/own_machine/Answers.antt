use Rattle.std.proofs.Common.{◌≡◌, ℕ, List, Option, length, IfOk, subst}
use Rattle.fp_ports.specs.PluggedPorts.{Row}
use Rattle.selfrun.specs.Drawn.{programs}
use Rattle.machine.specs.WorldRelation.{Refines, start_with_ports}
use Rattle.selfrun.proofs.running.own_machine.Goals as goal

-- the setup is the machine's own, and the image has the drawn programs
pub returns-clause-refines : goal.returns-clause-refines
returns-clause-refines c =
    subst (λ s. IfOk c.load.result (λ m. (ports : List (Option Row)) (n : ℕ) → length ports ≡ 8
    → Refines (start_with_ports s (programs c.args.number) ports n) 0 n m ports))
    c.in_ok-setup.ensures
    (subst (λ i. IfOk c.load.result (λ m. (ports : List (Option Row)) (n : ℕ) → length ports ≡ 8
    → Refines (start_with_ports c.in_ok-setup.setup i ports n) 0 n m ports)) c.in_ok-image.ensures
    c.load.ensures.refines)
