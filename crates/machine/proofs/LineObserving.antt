-- An observer that puts the lines of a thread's events puts their text.
use Rattle.std.proofs.Common.{◌≡◌, ◌≢◌, ℕ, zero, suc, ◌+◌, ◌-◌, ◌<◌, ◌≤◌, List, [], ◌∷◌, ◌++◌, Bool}
use Rattle.std.proofs.Common.{true, false, Option, Some, None, IfSome, nat_lt, refl, ap, sym, subst}
use Rattle.std.proofs.Common.{◌∙◌, arith, add-zero, append_assoc}
use Rattle.std.specs.Prelude.{◌==◌, if◌then◌else◌, is_some}
use Rattle.std.specs.Io.KnownBytes.{Appends}
use Rattle.std.proofs.lemmas.Bool.Decides.{nat_tests}
use Rattle.std.proofs.lemmas.List.{append-nil}
use Rattle.fp_io.specs.Content.{AppendsPrefix}
use Rattle.fp_io.proofs.Prefixes.{appends_more, appends_prefix, prefix_after}
use Rattle.fp_ports.specs.PluggedPorts.{Row}
use Rattle.rv_exec.specs.declared.outcome.Effect.{Effect}
use Rattle.rv_exec.specs.declared.outcome.Event.{Event}
use Rattle.trace_print.specs.Text.{line_text, text}
use Rattle.core_model.specs.World.{Start, events}
use Rattle.pipe_model.specs.declared.stage_registers.Held.TheVariants.{Bubble, Flushed, Issue}
use Rattle.pipe_model.specs.declared.stage_registers.Stored.{Stored}
use Rattle.pipe_model.specs.PipelineLaws.{EventsGrow}
use Rattle.pipe_model.specs.Relation.{of_thread}
use Rattle.pipe_model.specs.Stages.{event_at, retired_event}
use Rattle.pipeline_core.specs.Turns.{turn_of}
use Rattle.machine.specs.declared.state.Machine.{Machine}
use Rattle.machine.specs.declared.thread_lines.ThreadLines.{ThreadLines}
use Rattle.machine.specs.declared.unseen.Unseen.{Unseen}
use Rattle.machine.specs.Observing.{HasSeen, SawInPart, next_with, observer_after, puts_in}
use Rattle.machine.specs.Observing.{puts_with, retires}
use Rattle.machine.specs.ThreadLines.{line_acts, line_with}
use Rattle.machine.specs.Unseen.{no_acts}
use Rattle.machine.specs.WorldRelation.{AreLeft, HasRun, Refines, Stopped}
use Rattle.machine.proofs.RunLemmas.{beyond, text-next, text_goes_on}
use Rattle.machine.proofs.WordLemmas.{words_on}

-- an observer that takes no notice stays as it is, and puts nothing
pub unseen_next : (o : Unseen) (e : Option Event) → o ≡ next_with no_acts o e
unseen_next o None = refl
unseen_next o (Some e) = refl

pub unseen_puts : (o : Unseen) (e : Option Event) → puts_with no_acts o e ≡ []
unseen_puts o None = refl
unseen_puts o (Some e) = refl

-- the event of a turn has the turn's number as its thread
event_thread : (cycle turn : ℕ) (x : Stored) →
    IfSome (retired_event cycle (turn_of turn x)) (λ e. e.thread ≡ turn)
unfolding turn_of retired_event
event_thread cycle turn x = go (nat_lt turn 8) (nat_lt turn 16)
  where
    shown : (effect : Option Effect) →
        IfSome (event_at cycle turn x.pc x.word effect) (λ e. e.thread ≡ turn)
    shown None = tt
    shown (Some effect) = refl

    go : (a b : Bool) → IfSome (retired_event cycle
        (if a then Issue turn x else if b then Flushed (turn - 8) else Bubble))
        (λ e. e.thread ≡ turn)
    go true b = shown x.effect
    go false true = tt
    go false false = tt

-- the observer after an event of its thread, and of another one
abbrev pub with_text : ThreadLines → List ℕ → ThreadLines
with_text o line = record { thread = o.thread; line = line }

abbrev with_line : ThreadLines → Option Event → ThreadLines
with_line o e = with_text o (line_with o.line e)

own_next : (o : ThreadLines) (e : Option Event) → IfSome e (λ e. e.thread ≡ o.thread) →
    with_line o e ≡ next_with line_acts o e
own_next o None same = refl
own_next o (Some e) same =
    let tested : (e.thread == o.thread) ≡ true = grind (arith, nat_tests) in
    rw tested refl

own_puts : (o : ThreadLines) (e : Option Event) → IfSome e (λ e. e.thread ≡ o.thread) →
    puts_with line_acts o e ≡ (if is_some e then line_with o.line e else [])
own_puts o None same = refl
own_puts o (Some e) same =
    let tested : (e.thread == o.thread) ≡ true = grind (arith, nat_tests) in
    rw tested refl

other_next : (o : ThreadLines) (turn : ℕ) (e : Option Event) → IfSome e (λ e. e.thread ≡ turn) →
    turn ≢ o.thread → o ≡ next_with line_acts o e
other_next o turn None is other = refl
other_next o turn (Some e) is other =
    let tested : (e.thread == o.thread) ≡ false = grind (arith, nat_tests) in
    rw tested refl

other_puts : (o : ThreadLines) (turn : ℕ) (e : Option Event) → IfSome e (λ e. e.thread ≡ turn) →
    turn ≢ o.thread → puts_with line_acts o e ≡ []
other_puts o turn None is other = refl
other_puts o turn (Some e) is other =
    let tested : (e.thread == o.thread) ≡ false = grind (arith, nat_tests) in
    rw tested refl

-- a turn of the thread, and one of another thread
pub own_turn_next : (o : ThreadLines) (cycle turn : ℕ) (x : Stored) → turn ≡ o.thread →
    with_line o (retired_event cycle (turn_of turn x))
    ≡ next_with line_acts o (retired_event cycle (turn_of turn x))
own_turn_next o cycle turn x same =
    let e : Option Event = retired_event cycle (turn_of turn x) in
    own_next o e (subst (λ i. IfSome e (λ e. e.thread ≡ i)) same (event_thread cycle turn x))

pub own_turn_puts : (o : ThreadLines) (cycle turn : ℕ) (x : Stored) → turn ≡ o.thread →
    (let e : Option Event = retired_event cycle (turn_of turn x) in
    puts_with line_acts o e ≡ (if is_some e then line_with o.line e else []))
own_turn_puts o cycle turn x same =
    let e : Option Event = retired_event cycle (turn_of turn x) in
    own_puts o e (subst (λ i. IfSome e (λ e. e.thread ≡ i)) same (event_thread cycle turn x))

pub other_turn_next : (o : ThreadLines) (cycle turn : ℕ) (x : Stored) → turn ≢ o.thread →
    o ≡ next_with line_acts o (retired_event cycle (turn_of turn x))
other_turn_next o cycle turn x other =
    other_next o turn (retired_event cycle (turn_of turn x)) (event_thread cycle turn x) other

pub other_turn_puts : (o : ThreadLines) (cycle turn : ℕ) (x : Stored) → turn ≢ o.thread →
    puts_with line_acts o (retired_event cycle (turn_of turn x))
    ≡ (if turn == o.thread then o.line else [])
other_turn_puts o cycle turn x other =
    let tested : false ≡ (turn == o.thread) = sym (let is : (turn == o.thread) ≡ false =
    grind (arith, nat_tests) in is) in
    other_puts o turn (retired_event cycle (turn_of turn x)) (event_thread cycle turn x) other
    ∙ ap (λ (b : Bool). if b then o.line else []) tested

-- the thread of the observer stays
next_thread : (o : ThreadLines) (e : Option Event) → (next_with line_acts o e).thread ≡ o.thread
next_thread o None = refl
next_thread o (Some e) = go (e.thread == o.thread)
  where
    go : (b : Bool) → (let p : ThreadLines =
        if b then record { thread = o.thread; line = line_text e } else o in p.thread) ≡ o.thread
    go true = refl
    go false = refl

thread_after : (s : Start) (c : ℕ) (o : ThreadLines) (k : ℕ) →
    (observer_after line_acts s c o k).thread ≡ o.thread
thread_after s c o zero = refl
thread_after s c o (suc k) =
    next_thread (observer_after line_acts s c o k) (retires s (c + k)) ∙ thread_after s c o k

-- its bytes are the text of the event, if the thread has it
line_bytes : (o : ThreadLines) (i : ℕ) (e : Option Event) → o.thread ≡ i →
    puts_with line_acts o e ≡ text (of_thread i e)
line_bytes o i None same = refl
line_bytes o i (Some e) same =
    go (e.thread == o.thread)
    ∙ ap (λ k. text (if e.thread == k then e ∷ [] else [])) same
  where
    go : (b : Bool) → (if b then line_text e else []) ≡ text (if b then e ∷ [] else [])
    go true = sym (append-nil (line_text e))
    go false = refl

text_more : EventsGrow → (s : Start) (c : ℕ) (o : ThreadLines) (k : ℕ) →
    text (events s o.thread (c + k)) ≡ text (events s o.thread c) ++ puts_in line_acts s c o k
text_more grows s c o zero = rw (add-zero c) (sym (append-nil (text (events s o.thread c))))
text_more grows s c o (suc k) =
    let i : ℕ = o.thread in
    let e : Option Event = retires s (c + k) in
    let prior : List ℕ = text (events s i c) in
    let so_far : List ℕ = puts_in line_acts s c o k in
    let next : c + suc k ≡ suc (c + k) = omega arith in
    ap (λ d. text (events s i d)) next ∙ text-next grows s i (c + k) e refl
    ∙ ap (λ xs. xs ++ text (of_thread i e)) (text_more grows s c o k)
    ∙ append_assoc prior so_far (text (of_thread i e))
    ∙ ap (λ xs. prior ++ (so_far ++ xs))
    (sym (line_bytes (observer_after line_acts s c o k) i e (thread_after s c o k)))

-- a run whose lines were put has put the text of the cycles so far
lines_put : EventsGrow → (s : Start) (c d : ℕ) (first now : ThreadLines)
    (before between after : Option (List ℕ)) → HasSeen line_acts s c d first now between after →
    Appends before between (text (events s first.thread c)) →
    Appends before after (text (events s first.thread d))
lines_put grows s c d first now before between after seen put =
    let i : ℕ = first.thread in
    let there : c + (d - c) ≡ d = omega (arith, seen.low) in
    let Put : List ℕ → Type 0 = λ xs. Appends before after xs in
    subst Put (sym (text_more grows s c first (d - c)) ∙ ap (λ e. text (events s i e)) there)
    (appends_more before between after (text (events s i c))
    (puts_in line_acts s c first (d - c)) put seen.put)

pub lines_run : EventsGrow → (s : Start) (c d n thread : ℕ) (first : List (Option Row))
    (m later : Machine) (rows new : List (Option Row)) (o now : ThreadLines)
    (before between after : Option (List ℕ)) → o.thread ≡ thread →
    HasRun s c n thread first m rows before between → Refines s d n later new →
    HasSeen line_acts s c d o now between after → AreLeft rows new →
    HasRun s d n thread first later new before after
lines_run grows s c d n thread first m later rows new o now before between after same run st seen
    left =
    let Put : ℕ → ℕ → Option (List ℕ) → Type 0 = λ e i x. Appends before x (text (events s i e)) in
    record {
      put =
          subst (λ i. Put d i after) same (lines_put grows s c d o now before between after seen
          (subst (λ i. Put c i between) (sym same) run.put));
      refines = st;
      left = words_on first rows new run.left left;
    }

-- a run whose last line was put in part
stopped_at : EventsGrow → (s : Start) (n i : ℕ) (first : List (Option Row)) (m : Machine)
    (new : List (Option Row)) (before between after : Option (List ℕ)) (line : List ℕ) →
    0 < m.at → m.at ≤ n → line ≡ text (of_thread i (retires s (m.at - 1))) →
    Refines s m.at n m new → Appends before between (text (events s i (m.at - 1))) →
    AppendsPrefix between after line → AreLeft first new →
    Stopped s n i first m new before after
stopped_at grows s n i first m new before between after line some within is st put part left =
    let prior : List ℕ = text (events s i (m.at - 1)) in
    let there : suc (m.at - 1) ≡ m.at = omega (arith, some) in
    let grown : text (events s i m.at) ≡ prior ++ line =
    ap (λ d. text (events s i d)) (sym there)
    ∙ text-next grows s i (m.at - 1) (retires s (m.at - 1)) refl
    ∙ ap (λ xs. prior ++ xs) (sym is) in
    let (rest, goes) = text_goes_on grows s i m.at (n - m.at) in
    let end : n ≡ m.at + (n - m.at) = omega (arith, within) in
    let whole : text (events s i n) ≡ (prior ++ line) ++ rest =
    ap (λ d. text (events s i d)) end ∙ goes ∙ ap (λ xs. xs ++ rest) grown in
    let Front : List ℕ → Type 0 = λ xs. AppendsPrefix before after xs in
    record {
      put = appends_prefix before between after prior line rest (text (events s i n))
          whole put part;
      before_last = beyond before between after prior line put part;
      with_last = subst Front (sym grown) (prefix_after before between after prior line put part);
      within = within;
      refines = st;
      left = left;
    }

pub lines_stop : EventsGrow → (s : Start) (c n thread : ℕ) (first : List (Option Row))
    (m later : Machine) (rows new : List (Option Row)) (o : ThreadLines)
    (before between after : Option (List ℕ)) → o.thread ≡ thread → later.at ≤ n →
    HasRun s c n thread first m rows before between → Refines s later.at n later new →
    SawInPart line_acts s c later.at o between after → AreLeft rows new →
    Stopped s n thread first later new before after
lines_stop grows s c n thread first m later rows new o before between after same within run st saw
    left =
    let Put : ℕ → Type 0 = λ i. Appends before between (text (events s i c)) in
    let last_thread : saw.last.thread ≡ o.thread =
    ap (λ (x : ThreadLines). x.thread) saw.earlier.is
    ∙ thread_after s c o (later.at - 1 - c) in
    subst (λ i. Stopped s n i first later new before after) same
    (stopped_at grows s n o.thread first later new before saw.between after
    (puts_with line_acts saw.last (retires s (later.at - 1))) (omega (arith, saw.some)) within
    (line_bytes saw.last o.thread (retires s (later.at - 1)) last_thread) st
    (lines_put grows s c (later.at - 1) o saw.last before between saw.between saw.earlier
    (subst Put (sym same) run.put)) saw.part (words_on first rows new run.left left))
