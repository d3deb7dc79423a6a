use Rattle.std.proofs.Common.{rules, ◌≡◌, ap, ◌∙◌, subst, sym, map}
use Rattle.std.specs.List.{All}
use Rattle.std.proofs.lemmas.List.Elements.{All-map}
use Rattle.fp_setup.specs.SetupOfTables.{default_thread}
use Rattle.fp_setup.specs.declared.thread_list.ThreadSetup.{ThreadSetup}
use Rattle.pipeline_core.specs.StageFacts.{IsPc}
use Rattle.machine.proofs.Mapped.{mapped}
use Rattle.machine.proofs.loading.entries.Goals as goal

pub returns-clause-entries : goal.returns-clause-entries
returns-clause-entries c = mapped _ _ c.each.result c.map.result 8 (λ t. t.now)
    (λ (t : ThreadSetup). t.entry)
    (record { ref_ptr = c.args.setup.ref_ptr; now = default_thread }) 0 _ c.each.ensures.eight
    (c.each.ensures.settings ∙ ap (λ s. s.threads) c.setup.view_is) (λ p q x y called. search rules)
    c.map.ensures.items

pub returns-clause-pcs : goal.returns-clause-pcs
returns-clause-pcs c =
    let entries : map (λ (t : ThreadSetup). t.entry) c.setup.inside.threads ≡ c.map.result =
    sym (returns-clause-entries c
    ∙ ap (λ s. map (λ (t : ThreadSetup). t.entry) s.threads) (sym c.setup.view_is)) in
    subst (All IsPc) entries (All-map IsPc (λ (t : ThreadSetup). t.entry) c.setup.inside.threads
    (λ k d below. (c.each.ensures.rules.each k d below).aligned))
