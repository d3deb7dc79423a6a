-- The world before a cycle depends only on the words of the cycles before it.
use Rattle.std.proofs.Common.{◌≡◌, ℕ, zero, suc, ◌<◌, List, refl, ap, ◌∙◌, arith}
use Rattle.std.specs.Prelude.{if◌then◌else◌, nat_lt}
use Rattle.core_model.specs.Issue.{issue}
use Rattle.core_model.specs.Solo.{contents_by}
use Rattle.slot_scheduler.specs.declared.picking.Pick.{Pick}
use Rattle.slot_scheduler.specs.declared.picking.Pick.TheVariants.{Issue, Bubble}
use Rattle.slot_scheduler.specs.declared.picking.Sched.{Sched}
use Rattle.slot_scheduler.specs.Picking.{pick}
use Rattle.timer_unit.specs.Time.{time}
use Rattle.core_model.specs.World.{Recent, Start, World, after_turn, after_issue}
use Rattle.core_model.specs.World.{after_no_issue, port_word, recent, sched_of}
use Rattle.core_model.specs.World.{environment_at, after_pick, thread_of, world}
use Rattle.core_model.specs.World.Took.{Lost}
use Rattle.closed_loops.specs.Answered.{with_all_shown}
use Rattle.closed_loops.specs.LoopLaws.{PastWords}

-- the turn of a picked thread, with the word that its port shows
abbrev taken : Start → ℕ → World → ℕ → ℕ → ℕ → World
taken s c w last k port =
    if nat_lt c (thread_of w k).ready then after_no_issue w last (Lost k)
    else after_issue s c w last k
    (issue (environment_at s c w k) (contents_by s.size s.i_words w.d_words port) c (thread_of w k))

takes-same : (s : Start) (shown : List (List ℕ)) (c : ℕ) (w : World) (last : ℕ) (o : Pick) →
    ((k : ℕ) → port_word (with_all_shown s shown) c k ≡ port_word s c k) →
    after_pick (with_all_shown s shown) c w last o ≡ after_pick s c w last o
takes-same s shown c w last Bubble h = refl
takes-same s shown c w last (Issue k) h = ap (λ (port : ℕ). taken s c w last k port) (h k)

turn-same : (s : Start) (shown : List (List ℕ)) (c : ℕ) (w : World) (q : Sched) →
    ((k : ℕ) → port_word (with_all_shown s shown) c k ≡ port_word s c k) →
    after_turn (with_all_shown s shown) c w q ≡ after_turn s c w q
unfolding after_turn
turn-same s shown c w q h =
    let p = pick q c (time s.period c) w.last in takes-same s shown c w p.last p.pick h

abbrev next_recent : Start → ℕ → Recent → Recent
next_recent s c r =
    record { now = after_turn s c r.now (sched_of r.earlier); before = r.now; earlier = r.before }

abbrev with_now : Recent → World → Recent
with_now r w = record { now = w; before = r.now; earlier = r.before }

recent-same : (s : Start) (shown : List (List ℕ)) (c : ℕ) →
    ((at k : ℕ) → at < c → port_word (with_all_shown s shown) at k ≡ port_word s at k) →
    recent (with_all_shown s shown) c ≡ recent s c
unfolding recent
recent-same s shown zero h = refl
recent-same s shown (suc c) h =
    ap (λ (r : Recent). next_recent (with_all_shown s shown) c r)
    (recent-same s shown c (λ at k l. h at k (omega arith)))
    ∙ ap (λ (w : World). with_now (recent s c) w) (turn-same s shown c (recent s c).now
    (sched_of (recent s c).earlier) (λ k. h c k (omega arith)))

pub past-words : PastWords
unfolding world
past-words s shown c h = ap (λ (r : Recent). r.now) (recent-same s shown c h)
