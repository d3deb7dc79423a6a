-- The theorems for machines of setups, from those on starts.
use Rattle.std.proofs.Common.{ap, sym, ◌∙◌}
use Rattle.core_model.specs.View.{View}
use Rattle.core_model.specs.Solo.{solo}
use Rattle.trace_print.specs.Text.{text}
use Rattle.isolation.specs.Isolation.{QuietUnpermitted}
use Rattle.isolation.specs.RetiredIsolation.{RetiredIsolation, RetiredPhasedIsolation}
use Rattle.isolation.specs.RetiredIsolation.{RetiredWideIsolation}
use Rattle.isolation.specs.RetiredTraces.{RetiredEqualTraces, RetiredTraceAlone}
use Rattle.isolation.specs.RetiredTraces.{RetiredTraceByPhases, RetiredTraceByWideView}
use Rattle.setup_model.specs.Start.{start}
use Rattle.isolation.specs.TraceLaws.{QuietSetup}
use Rattle.isolation.proofs.Starts.{apart-start, confined-start, free-start, unpermitted-start}

pub retired-trace-alone : RetiredIsolation → RetiredTraceAlone
retired-trace-alone law m i n r c q =
    ap text (law (start m.setup m.image m.ports n) i n (confined-start m i n r c) q)

pub retired-trace-by-phases : RetiredPhasedIsolation → RetiredTraceByPhases
retired-trace-by-phases law m i n r c kept =
    ap text (law (start m.setup m.image m.ports n) i n (apart-start m i n r c) c.never kept)

pub retired-equal-traces : RetiredTraceAlone → RetiredEqualTraces
retired-equal-traces law m k i n r t c d p q e =
    law m i n r c p ∙ ap (λ (v : View). text (solo v n)) e ∙ sym (law k i n t d q)

pub quiet-setup : QuietUnpermitted → QuietSetup
unfolding start
quiet-setup law m n h =
    law (start m.setup m.image m.ports n) (unpermitted-start m.setup.threads h) n

pub retired-trace-by-wide-view : RetiredWideIsolation → RetiredTraceByWideView
retired-trace-by-wide-view law m i n r c q =
    ap text (law (start m.setup m.image m.ports n) i n (free-start m i n r c) q)
