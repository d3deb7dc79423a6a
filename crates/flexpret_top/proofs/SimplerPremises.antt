-- The guarantees by simpler premises.
use Rattle.std.proofs.Common.{◌+◌, ◌-◌, ◌<◌, ◌≤◌, ◌++◌, arith}
use Rattle.call_bounds.specs.Listing.{calls}
use Rattle.core_model.specs.Phases.{leaves_regions}
use Rattle.isolation.proofs.Induction.{all_earlier, quiet_earlier}
use Rattle.visit_bounds.specs.Premises.{AlikeHasSameWords, AlikeHasSameWordsOfFunctions}
use Rattle.visit_bounds.specs.Premises.{IssuesAreEarlier, PhaseIsSet, QuietKeepsScheduling}
use Rattle.visit_bounds.specs.Premises.{SetupIsSet}
use Rattle.setup_model.specs.Start.{start}
use Rattle.commands.specs.CallsAnswer.{section_listing}
use Rattle.flexpret_top.specs.Corollaries.{LongestByCallsByPhases, LongestByPhases}
use Rattle.flexpret_top.specs.Corollaries.{LongestByCallsWhileQuiet, LongestWhileQuiet}
use Rattle.flexpret_top.specs.Corollaries.{LongestByCallsWhileScheduled}
use Rattle.flexpret_top.specs.Corollaries.{LongestWhileScheduled}
use Rattle.flexpret_top.specs.Corollaries.{QuietIsolation, QuietIsolationByPhases}

pub quiet-isolation : QuietIsolation
quiet-isolation m i n before after h hard quiet =
    h.by_view hard (quiet_earlier (start m.setup m.image m.ports n) n quiet)

pub quiet-isolation-by-phases : QuietIsolationByPhases
quiet-isolation-by-phases m i n before after h through kept =
    h.by_phases through (all_earlier leaves_regions (start m.setup m.image m.ports n) n kept)

pub while-scheduled : SetupIsSet → IssuesAreEarlier → LongestWhileScheduled
while-scheduled set below p i section before after h m n rules starts words kept last earlier v
    keeps =
    let end : last.cycle < n = below (start m.setup m.image m.ports n) i n v.later last
    (earlier ++ v.earlier) v.among in
    h.longest m n rules words last earlier (λ c low high. set m p.setup.slots i n starts kept c
    (let less : c < n = omega arith in less)) v keeps

pub calls-while-scheduled : SetupIsSet → IssuesAreEarlier → LongestByCallsWhileScheduled
calls-while-scheduled set below p i section file before after h m n rules starts words kept last
    earlier v returns keeps =
    let end : last.cycle < n = below (start m.setup m.image m.ports n) i n v.later last
    (earlier ++ v.earlier) v.among in
    h.longest m n rules words last earlier (λ c low high. set m p.setup.slots i n starts kept c
    (let less : c < n = omega arith in less)) v returns keeps

pub by-phases : PhaseIsSet → LongestByPhases
by-phases set p i section before after h m n rules words last earlier up here v keeps =
    h.longest m n rules words last earlier (λ c low high. set m p.setup.slots i n c
    (let le : c ≤ n - 4 + 2 = omega arith in le) (here c low high)) v keeps

pub calls-by-phases : PhaseIsSet → LongestByCallsByPhases
calls-by-phases set p i section file before after h m n rules words last earlier up here v returns
    keeps =
    h.longest m n rules words last earlier (λ c low high. set m p.setup.slots i n c
    (let le : c ≤ n - 4 + 2 = omega arith in le) (here c low high)) v returns keeps

pub while-quiet : QuietKeepsScheduling → AlikeHasSameWords → LongestWhileScheduled →
    LongestWhileQuiet
while-quiet kept same law p i section before after h m n rules alike quiet =
    law p i section before after h m n rules
    (record { same_slots = alike.same_slots; hard = alike.hard })
    (same p.setup p.image section m i p.setup.slots h.accepted alike)
    (kept (start m.setup m.image m.ports n) n quiet)

pub calls-while-quiet : QuietKeepsScheduling → AlikeHasSameWordsOfFunctions →
    LongestByCallsWhileScheduled → LongestByCallsWhileQuiet
calls-while-quiet kept same law p i section file before after h m n rules alike quiet =
    law p i section file before after h m n rules
    (record { same_slots = alike.same_slots; hard = alike.hard })
    (same (calls (section_listing p section h.routines)) m i p.setup.slots h.listing alike)
    (kept (start m.setup m.image m.ports n) n quiet)
