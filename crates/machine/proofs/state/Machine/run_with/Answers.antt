-- A run is all cycles but the last, and the last cycle.
use Rattle.std.proofs.Common.{◌≡◌, ◌≢◌, ℕ, ◌+◌, ◌-◌, ◌≤◌, ◌<◌, arith, ap, ◌∙◌, rules}
use Rattle.machine.proofs.AdvanceLemmas.{given_part, given_seen, ran_in_part, ran_nothing}
use Rattle.machine.proofs.AdvanceLemmas.{ran_quietly, ran_to_put, runs_begin, runs_to_put}
use Rattle.machine.proofs.AdvanceLemmas.{stopped_given_back}
use Rattle.machine.specs.declared.state.Machine.{Machine}
use Rattle.machine.proofs.OnResults.{map_err, map_ok}
use Rattle.machine.proofs.RunLemmas.{ticks_given_back}
use Rattle.machine.proofs.WordLemmas.{words_on}
use Rattle.machine.proofs.state.Machine.run_with.Goals as goal

less : (end n : ℕ) → end ≤ n + 3 → end - 1 ≤ n + 3
less end n within = omega arith

in_reach : (at end now n : ℕ) → at ≤ end → at ≢ end → now ≡ end - 1 → end ≤ n + 3 → now < n + 3
in_reach at end now n begun other is within = omega arith

next : (at end now after : ℕ) → at ≤ end → at ≢ end → now ≡ end - 1 → after ≡ now + 1 → after ≡ end
next at end now after begun other is on = omega arith

pub returns-then-self-end-clause-ok : goal.returns-then-self-end-clause-ok
returns-then-self-end-clause-ok g c s n within st =
    ran_nothing g.O.Observer.acts s n c.args.end c.args.self.now _ c.args.observer.now
    (g.K.Sink.taken c.args.out.now) c.if-self-end.true st

pub returns-in-Err-clause-err : goal.returns-in-Err-clause-err
returns-in-Err-clause-err g c s n within st =
    let acts = g.O.Observer.acts in
    let o = c.args.observer.now in
    let prior = g.K.Sink.taken c.args.out.now in
    given_part acts s c.args.self.now.at n o _ prior (g.K.Sink.taken c.run_to.new.out)
    c.self-1.given.0 c.finish.new.self.0
    (stopped_given_back acts s c.args.self.now.at n o _ c.run_to.new.self.machine.now
    c.finish.new.self.0 _ prior (g.K.Sink.taken c.run_to.new.out) c.finish.ensures.stages
    c.finish.ensures.same
    (c.in-Err.ensures.runs.err s c.args.self.now.at n o prior (less c.args.end n within)
    (runs_begin acts s n o c.of-stages.result c.args.self.now _ prior c.of-stages.ensures st)))
    (search rules)

pub returns-then-puts-clause-ok : goal.returns-then-puts-clause-ok
returns-then-puts-clause-ok g c =
    let acts = g.O.Observer.acts in
    let o = c.args.observer.now in
    let prior = g.K.Sink.taken c.args.out.now in
    let at = c.run_to.new.self.machine.now.at in
    map_ok c.write.result _ _ c.write.ensures.ok (λ put s n within st.
    given_seen acts s c.args.self.now.at n c.args.end o c.observe-puts.new.observer _ prior
    (g.K.Sink.taken c.write.new.out) c.self-2-1.given.0 c.finish-2.new.self.0
    (ran_to_put acts s c.args.self.now.at n c.args.end o c.finish-2.new.self.0 _
    c.observe-puts.new.observer prior
    (g.K.Sink.taken c.run_to.new.out) (g.K.Sink.taken c.write.new.out)
    (next c.args.self.now.at c.args.end at _ c.requires.begun c.if-self-end.false
    c.in_default.ensures.cycles (ap (λ (m : Machine). m.at) c.finish-2.ensures.same ∙
    c.last-w.ensures.cycle.at))
    (runs_to_put acts s c.args.self.now.at n o c.run_to.new.self.stages.now _
    c.run_to.new.self.machine.now _ _ _ c.run_to.new.observer c.observe-puts.new.observer _ prior
    (g.K.Sink.taken c.run_to.new.out)
    (c.in_default.ensures.runs.ok s c.args.self.now.at n o prior (less c.args.end n within)
    (runs_begin acts s n o c.of-stages.result c.args.self.now _ prior c.of-stages.ensures st))
    (λ w here. ticks_given_back s at n _ c.last-w.new.self.machine.now c.finish-2.new.self.0 _ _ _
    c.finish-2.ensures.stages c.finish-2.ensures.same
    (c.last-w.ensures.cycle.relation s n w
    (in_reach c.args.self.now.at c.args.end at n c.requires.begun
    c.if-self-end.false c.in_default.ensures.cycles within) here))
    (ap (λ (m : Machine). m.at) c.finish-2.ensures.same ∙ c.last-w.ensures.cycle.at)
    c.observe-puts.ensures.state
    (rw c.if-puts.true at c.observe-puts.ensures.bytes)) put) (search rules))

pub returns-then-puts-clause-err : goal.returns-then-puts-clause-err
returns-then-puts-clause-err g c =
    let acts = g.O.Observer.acts in
    let o = c.args.observer.now in
    let prior = g.K.Sink.taken c.args.out.now in
    let at = c.run_to.new.self.machine.now.at in
    map_err c.write.result _ _ c.write.ensures.err (λ put s n within st.
    given_part acts s c.args.self.now.at n o _ prior (g.K.Sink.taken c.write.new.out)
    c.self-2-1.given.0 c.finish-2.new.self.0
    (ran_in_part acts s c.args.self.now.at n o c.finish-2.new.self.0 _ c.observe-puts.new.observer
    prior
    (g.K.Sink.taken c.run_to.new.out) (g.K.Sink.taken c.write.new.out)
    (runs_to_put acts s c.args.self.now.at n o c.run_to.new.self.stages.now _
    c.run_to.new.self.machine.now _ _ _ c.run_to.new.observer c.observe-puts.new.observer _ prior
    (g.K.Sink.taken c.run_to.new.out)
    (c.in_default.ensures.runs.ok s c.args.self.now.at n o prior (less c.args.end n within)
    (runs_begin acts s n o c.of-stages.result c.args.self.now _ prior c.of-stages.ensures st))
    (λ w here. ticks_given_back s at n _ c.last-w.new.self.machine.now c.finish-2.new.self.0 _ _ _
    c.finish-2.ensures.stages c.finish-2.ensures.same
    (c.last-w.ensures.cycle.relation s n w
    (in_reach c.args.self.now.at c.args.end at n c.requires.begun
    c.if-self-end.false c.in_default.ensures.cycles within) here))
    (ap (λ (m : Machine). m.at) c.finish-2.ensures.same ∙ c.last-w.ensures.cycle.at)
    c.observe-puts.ensures.state
    (rw c.if-puts.true at c.observe-puts.ensures.bytes)) put) (search rules))

pub returns-clause-ok : goal.returns-clause-ok
returns-clause-ok g c s n within st =
    let acts = g.O.Observer.acts in
    let o = c.args.observer.now in
    let prior = g.K.Sink.taken c.args.out.now in
    let at = c.run_to.new.self.machine.now.at in
    given_seen acts s c.args.self.now.at n c.args.end o c.observe-puts.new.observer _ prior
    (g.K.Sink.taken c.run_to.new.out) c.self-2-1.given.0 c.finish-2.new.self.0
    (ran_quietly acts s c.args.self.now.at n c.args.end o c.run_to.new.self.stages.now
    c.run_to.new.self.machine.now c.finish-2.new.self.0 _ _ c.run_to.new.observer
    c.observe-puts.new.observer _ prior
    (g.K.Sink.taken c.run_to.new.out)
    (c.in_default.ensures.runs.ok s c.args.self.now.at n o prior (less c.args.end n within)
    (runs_begin acts s n o c.of-stages.result c.args.self.now _ prior c.of-stages.ensures st))
    (λ w here. ticks_given_back s at n _ c.last-w.new.self.machine.now c.finish-2.new.self.0 _ _ _
    c.finish-2.ensures.stages c.finish-2.ensures.same
    (c.last-w.ensures.cycle.relation s n w
    (in_reach c.args.self.now.at c.args.end at n c.requires.begun
    c.if-self-end.false c.in_default.ensures.cycles within) here))
    (ap (λ (m : Machine). m.at) c.finish-2.ensures.same ∙ c.last-w.ensures.cycle.at) (next
    c.args.self.now.at c.args.end at _ c.requires.begun
    c.if-self-end.false c.in_default.ensures.cycles (ap (λ (m : Machine). m.at)
    c.finish-2.ensures.same ∙ c.last-w.ensures.cycle.at))
    c.observe-puts.ensures.state (rw c.if-puts.false at c.observe-puts.ensures.bytes))
    (search rules)

pub returns-clause-words : goal.returns-clause-words
returns-clause-words g c = words_on _ _ _ c.run_to.ensures.runs.words c.last-w.ensures.cycle.words

pub returns-then-puts-clause-words : goal.returns-then-puts-clause-words
returns-then-puts-clause-words g c =
    words_on _ _ _ c.run_to.ensures.runs.words c.last-w.ensures.cycle.words
