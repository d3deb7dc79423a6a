use Rattle.std.proofs.Common.{rules, ap, ◌∙◌, None}
use Rattle.fp_setup.specs.SetupOfTables.{default_thread}
use Rattle.fp_setup.specs.declared.thread_list.ThreadSetup.{ThreadSetup}
use Rattle.machine.proofs.Mapped.{mapped}
use Rattle.machine.proofs.loading.unplugs.Goals as goal

pub returns : goal.returns
returns c = mapped _ _ c.each.result c.map.result 8 (λ t. t.now) (λ (t : ThreadSetup). t.unplug)
    (record { ref_ptr = c.args.setup.ref_ptr; now = default_thread }) None _ c.each.ensures.eight
    (c.each.ensures.settings ∙ ap (λ s. s.threads) c.setup.view_is) (λ p q x y called. search rules)
    c.map.ensures.items
