-- Runs in closed loops, with their text.
use Rattle.std.proofs.Common.{◌≡◌, ℕ, zero, suc, ◌+◌, ◌*◌, ◌/◌, ◌-◌, ◌<◌, ◌≤◌}
use Rattle.std.proofs.Common.{List, [], ◌++◌, Some, None, Option, add-zero}
use Rattle.std.proofs.Common.{append_assoc, refl, ap, sym, ◌∙◌, subst, arith}
use Rattle.std.proofs.Math.Nat.{add-mul, lt-div-mul-add, suc-mul, mul-le-mul_right}
use Rattle.std.specs.Io.KnownBytes.{Appends}
use Rattle.std.proofs.lemmas.List.{append-nil}
use Rattle.fp_io.specs.Causes.{HasRisen}
use Rattle.fp_io.specs.Content.{AppendsPrefix}
use Rattle.fp_io.proofs.Prefixes.{appends_prefix, appends_nothing, prefix_of_more}
use Rattle.rv_exec.specs.declared.outcome.Event.{Event}
use Rattle.pipe_model.specs.PipelineLaws.{EventsGrow}
use Rattle.pipe_model.specs.Relation.{event_in, of_thread, turn_at}
use Rattle.fp_ports.specs.PluggedPorts.{Row}
use Rattle.trace_print.specs.Text.{text}
use Rattle.core_model.specs.World.{Start, events, recent, world}
use Rattle.machine.specs.WorldRelation.{HasRun, Stopped}
use Rattle.machine.specs.declared.state.Machine.{Machine}
use Rattle.machine.proofs.RunLemmas.{left_all, text-next}
use Rattle.closed_loops.specs.Answered.{with_all_shown}
use Rattle.loop_runs.specs.Plants.{Response, loop_start}
use Rattle.loop_runs.specs.Looping.{HasLooped, Looping}
use Rattle.loop_runs.proofs.Steps.{run-step, text-so-far}

pub begins-looped : (first : List (Option Response)) (every : ℕ) (s : Start)
    (n c thread : ℕ) (m : Machine) (ports : List (Option Row)) (contents : Option (List ℕ)) →
    c ≡ 0 → Looping first first every s n 0 8 c m ports →
    HasLooped first first every s n 0 8 c thread m ports contents contents
unfolding world recent
begins-looped first every s n c thread m ports contents e h =
    let Told : ℕ → Type 0 =
    λ d. Appends contents contents (text (events (loop_start first every s n) thread d)) in
    record { looping = h; put = subst Told (sym e) (appends_nothing contents) }

-- the machine has run to cycle e
pub ran-step : (first now : List (Option Response)) (every : ℕ) (s : Start) (n k c e thread : ℕ)
    (m l : Machine) (ports later : List (Option Row)) (contents between after : Option (List ℕ)) →
    (h : HasLooped first now every s n k 8 c thread m ports contents between) →
    c ≤ e → e ≤ n → e ≤ suc k * every →
    (HasRun (with_all_shown s h.looping.shown) c n thread ports m ports contents between →
    HasRun (with_all_shown s h.looping.shown) e n thread ports l later contents after) →
    HasLooped first now every s n k 8 e thread l later contents after
ran-step first now every s n k c e thread m l ports
    later contents between after h forth within reach ran =
    let t = with_all_shown s h.looping.shown in
    let Between : List ℕ → Type 0 = λ x. Appends contents between x in
    let After : List ℕ → Type 0 = λ x. Appends contents after x in
    let before : HasRun t c n thread ports m ports contents between = record {
      put =
          subst Between (sym (text-so-far first now every s n k c c thread m ports h.looping
          (omega arith) (omega arith))) h.put;
      refines = h.looping.refines;
      left = left_all ports;
    } in
    let run : HasRun t e n thread ports l later contents after = ran before in
    record {
      looping = run-step first now every s n k 8 c e m l ports later h.looping forth run.refines;
      put =
          subst After
          (text-so-far first now every s n k c e thread m ports h.looping within reach) run.put;
    }

-- the same, by an equal cycle and an equal number of steps
pub looped-at : (first now : List (Option Response)) (every : ℕ) (s : Start) (n k j c d thread : ℕ)
    (m : Machine) (ports : List (Option Row)) (contents after : Option (List ℕ)) →
    k ≡ j → c ≡ d → HasLooped first now every s n k 8 c thread m ports contents after →
    HasLooped first now every s n j 8 d thread m ports contents after
looped-at first now every s n k j c d thread m ports contents after e f h =
    subst (λ (x : ℕ). HasLooped first now every s n x 8 d thread m ports contents after) e
    (subst (λ (x : ℕ). HasLooped first now every s n k 8 x thread m ports contents after) f h)

-- the plants have done their step: the text stays
pub stepped-looped : (first now after : List (Option Response))
    (every : ℕ) (s : Start) (n k c thread : ℕ) (m : Machine)
    (ports later : List (Option Row)) (contents between : Option (List ℕ)) →
    HasLooped first now every s n k 8 c thread m ports contents between →
    Looping first after every s n (suc k) 8 c m later →
    HasLooped first after every s n (suc k) 8 c thread m later contents between
stepped-looped first now after every s n k c thread m ports later contents between h g =
    record { looping = g; put = h.put }

pub next-cycle : (k every at after : ℕ) → at ≡ k * every → after ≡ at + every →
    after ≡ suc k * every
next-cycle k every at after e f = omega (arith, e, f, suc-mul k every)

pub come-to : (k steps every first at : ℕ) → first ≡ k * every → at ≡ first + steps * every →
    at ≡ (k + steps) * every
come-to k steps every first at e f =
    f ∙ ap (λ (x : ℕ). x + steps * every) e ∙ sym (add-mul k steps every)

pub one-more : (steps every first at after : ℕ) → at ≡ first + steps * every → after ≡ at + every →
    after ≡ first + (steps + 1) * every
one-more steps every first at after e f =
    let one : suc steps ≡ steps + 1 = omega arith in
    let m : (steps + 1) * every ≡ steps * every + every =
    subst (λ (x : ℕ). x * every ≡ steps * every + every) one (suc-mul steps every) in
    omega (arith, e, f, m)

-- one more step is within the run
pub room-for : (done steps every first at n : ℕ) → done < steps → at ≡ first + done * every →
    first + steps * every ≤ n → at + every ≤ n
room-for done steps every first at n l e h =
    let m : suc done * every ≤ steps * every = mul-le-mul_right every (omega arith) in
    omega (arith, m, e, h, suc-mul done every)

-- the last sample is less than a step before the end
pub next-multiple : (n every : ℕ) → 0 < every → n ≤ suc (0 + n / every) * every
next-multiple n every some =
    let e : 0 + n / every ≡ n / every = omega arith in
    let less : n < n / every * every + every = lt-div-mul-add some in
    subst (λ (q : ℕ). n ≤ suc q * every) (sym e) (omega (arith, less, suc-mul (n / every) every))

-- later cycles add to the text of a run
text-longer : EventsGrow → (t : Start) (i c more : ℕ) →
    (rest : List ℕ) × (text (events t i (c + more)) ≡ text (events t i c) ++ rest)
text-longer grow t i c zero = ([], rw (add-zero c) (sym (append-nil (text (events t i c)))))
text-longer grow t i c (suc more) =
    let (rest, is) = text-longer grow t i c more in
    let e : Option Event = event_in (c + more - 4) (turn_at t (c + more) 3) in
    let next : c + suc more ≡ suc (c + more) = omega arith in (
      rest ++ text (of_thread i e),
      ap (λ k. text (events t i k)) next ∙ text-next grow t i (c + more) e refl
          ∙ ap (λ zs. zs ++ text (of_thread i e)) is
          ∙ append_assoc (text (events t i c)) rest (text (of_thread i e)),
    )

-- a prefix of the text of a run is one of the text of a longer run
pub prefix-longer : EventsGrow → (t : Start) (i c n : ℕ) (contents after : Option (List ℕ)) → c ≤ n
    →
    AppendsPrefix contents after (text (events t i c)) → AppendsPrefix contents after (text
    (events t i n))
prefix-longer grow t i c n contents after l prefix =
    let (rest, is) = text-longer grow t i c (n - c) in
    let end : c + (n - c) ≡ n = omega arith in
    let whole : text (events t i n) ≡ text (events t i c) ++ rest =
    ap (λ k. text (events t i k)) (sym end) ∙ is in
    subst (λ (x : List ℕ). AppendsPrefix contents after x) (sym whole)
    (prefix_of_more contents after (text (events t i c)) rest prefix)

prefix-none : (contents : Option (List ℕ)) → AppendsPrefix contents contents []
prefix-none None = tt
prefix-none (Some xs) = (0, omega arith, sym (append-nil xs))

prefix-all : (contents after : Option (List ℕ)) (xs : List ℕ) → Appends contents after xs →
    AppendsPrefix contents after xs
prefix-all contents after xs put =
    appends_prefix contents after after xs [] [] xs (sym (append-nil (xs ++ [])
    ∙ append-nil xs)) put
    (prefix-none after)

-- no text was written
pub prefix-nothing : (contents : Option (List ℕ)) (xs : List ℕ) → AppendsPrefix contents contents xs
prefix-nothing contents xs = prefix_of_more contents contents [] xs (prefix-none contents)

-- the whole text so far was written
pub looped-prefix : EventsGrow → (first now : List (Option Response)) (every : ℕ) (s : Start)
    (n k c thread : ℕ) (m : Machine) (ports : List (Option Row)) (contents after : Option (List ℕ))
    →
    c ≤ n → HasLooped first now every s n k 8 c thread m ports contents after →
    AppendsPrefix contents after (text (events (loop_start first every s n) thread n))
looped-prefix grow first now every s n k c thread m ports contents after l h =
    prefix-longer grow (loop_start first every s n) thread c n contents after l
    (prefix-all contents after (text (events (loop_start first every s n) thread c)) h.put)

-- the sink stopped the machine before cycle e
pub stopped-prefix : EventsGrow →
    (first now : List (Option Response)) (every : ℕ) (s : Start) (n k c e thread : ℕ)
    (m l : Machine) (ports later : List (Option Row)) (contents between after : Option (List ℕ)) →
    (h : HasLooped first now every s n k 8 c thread m ports contents between) →
    c ≤ e → e ≤ n → e ≤ suc k * every → l.at ≤ e →
    (HasRun (with_all_shown s h.looping.shown) c n thread ports m ports contents between →
    Stopped (with_all_shown s h.looping.shown) n thread ports l later contents after) →
    AppendsPrefix contents after (text (events (loop_start first every s n) thread n))
stopped-prefix grow first now every s n k c e thread m l ports
    later contents between after h forth within reach before stops =
    let t = with_all_shown s h.looping.shown in
    let Between : List ℕ → Type 0 = λ x. Appends contents between x in
    let After : List ℕ → Type 0 = λ x. AppendsPrefix contents after x in
    let run : HasRun t c n thread ports m ports contents between = record {
      put =
          subst Between (sym (text-so-far first now every s n k c c thread m ports h.looping
          (omega arith) (omega arith))) h.put;
      refines = h.looping.refines;
      left = left_all ports;
    } in
    let stopped : Stopped t n thread ports l later contents after = stops run in
    prefix-longer grow (loop_start first every s n) thread l.at n contents after (omega arith)
    (subst After (text-so-far first now every s n k c l.at thread m ports h.looping (omega arith)
    (omega arith)) stopped.with_last)

-- if a count rose in a later call, it rose in the whole run
pub rose-later : (a b c : ℕ) → a ≤ b → HasRisen b c → HasRisen a c
rose-later a b c l rose = omega arith
