-- The theorems for the machines of setups in closed loops, from those on starts.
use Rattle.std.proofs.Common.{◌-◌, ap, sym, ◌∙◌}
use Rattle.trace_print.specs.Text.{text}
use Rattle.core_model.specs.Viewed.{view, setting_of}
use Rattle.core_model.specs.World.{Start}
use Rattle.setup_model.specs.Start.{start}
use Rattle.isolation.specs.Isolation.{QuietUnpermitted}
use Rattle.isolation.specs.RetiredIsolation.{RetiredIsolation}
use Rattle.closed_loops.specs.Loop.{LoopView, Plant, solo_in_loop}
use Rattle.closed_loops.specs.LoopLaws.{LoopsExist}
use Rattle.closed_loops.specs.Sampled.{plant_of}
use Rattle.closed_laws.specs.ClosedTraces.{EqualLoopTraces, LoopTraceAlone, LoopTraceByPhases}
use Rattle.closed_laws.specs.ClosedTraces.{QuietLoops, loop_run, loop_view_of, plant_in}
use Rattle.closed_laws.proofs.Starts.{loop-start, loop-start-hard, unpermitted}
use Rattle.closed_laws.proofs.Retired.{retired-loop, retired-phased-loop}

pub trace-alone-in-loop : RetiredIsolation → LoopsExist → LoopTraceAlone
unfolding view setting_of
trace-alone-in-loop law exist m responses every i n r c quiet =
    let s : Start = start m.setup m.image m.ports n in
    let p = loop-start-hard m responses every i n r c.confined c.hard in
    ap text (retired-loop law (plant_in m responses every i n) (loop_run m responses every n) i n p
    quiet (exist (λ k. plant_of s every k (responses k)) s i n p.thread))

pub equal-loop-traces : LoopTraceAlone → EqualLoopTraces
equal-loop-traces law m k p q every other i n r t c d x y v e =
    law m p every i n r c x
    ∙ ap (λ (w : LoopView). text (solo_in_loop w (plant_in m p every i n) n)) v
    ∙ ap (λ (z : Plant). text (solo_in_loop (loop_view_of k i n) z n)) e
    ∙ sym (law k q other i n t d y)

pub trace-by-phases-in-loop : LoopsExist → LoopTraceByPhases
unfolding view setting_of
trace-by-phases-in-loop exist m responses every i n r c kept =
    let s : Start = start m.setup m.image m.ports n in
    let p = loop-start m responses every i n r c.confined in
    ap text (retired-phased-loop (plant_in m responses every i n) (loop_run m responses every n) i n
    p c.never kept (exist (λ k. plant_of s every k (responses k)) s i n p.thread))

pub quiet-loops : QuietUnpermitted → QuietLoops
unfolding start
quiet-loops law m responses every n h =
    law (loop_run m responses every n) (unpermitted m.setup.threads h) (n - 4)
