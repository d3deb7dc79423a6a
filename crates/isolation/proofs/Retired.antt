-- If no issue writes the registers, retired or in flight, no retired issue does. So each theorem
-- follows from the stronger one.
use Rattle.core_model.specs.Phases.{leaves_regions}
use Rattle.isolation.specs.Isolation.{EqualViews, Isolation, PhasedIsolation, WideIsolation}
use Rattle.isolation.specs.RetiredIsolation.{RetiredEqualViews, RetiredIsolation}
use Rattle.isolation.specs.RetiredIsolation.{RetiredPhasedIsolation, RetiredWideIsolation}
use Rattle.isolation.specs.RetiredTraces.{RetiredEqualTraces, RetiredTraceAlone}
use Rattle.isolation.specs.RetiredTraces.{RetiredTraceByPhases, RetiredTraceByWideView}
use Rattle.isolation.specs.TraceLaws.{EqualTraces, TraceAlone, TraceByPhases, TraceByWideView}
use Rattle.isolation.proofs.Induction.{all_earlier, quiet_earlier}
use Rattle.setup_model.specs.Start.{start}

pub isolation-from : RetiredIsolation → Isolation
isolation-from law s i n p quiet = law s i n p (quiet_earlier s n quiet)

pub phased-from : RetiredPhasedIsolation → PhasedIsolation
phased-from law s i n p never kept = law s i n p never (all_earlier leaves_regions s n kept)

pub equal-views-from : RetiredEqualViews → EqualViews
equal-views-from law s t i n p q a b e =
    law s t i n p q (quiet_earlier s n a) (quiet_earlier t n b) e

pub wide-from : RetiredWideIsolation → WideIsolation
wide-from law s i n p quiet = law s i n p (quiet_earlier s n quiet)

pub trace-alone-from : RetiredTraceAlone → TraceAlone
trace-alone-from law m i n r c q =
    law m i n r c (quiet_earlier (start m.setup m.image m.ports n) n q)

pub trace-by-phases-from : RetiredTraceByPhases → TraceByPhases
trace-by-phases-from law m i n r c kept =
    law m i n r c (all_earlier leaves_regions (start m.setup m.image m.ports n) n kept)

pub equal-traces-from : RetiredEqualTraces → EqualTraces
equal-traces-from law m k i n r t c d p q e =
    law m k i n r t c d (quiet_earlier (start m.setup m.image m.ports n) n p)
    (quiet_earlier (start k.setup k.image k.ports n) n q) e

pub trace-by-wide-view-from : RetiredTraceByWideView → TraceByWideView
trace-by-wide-view-from law m i n r c q =
    law m i n r c (quiet_earlier (start m.setup m.image m.ports n) n q)
