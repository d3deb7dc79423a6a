-- The tallies, by the events of a world.
use Rattle.std.proofs.Common.{◌≡◌, ◌≢◌, ℕ, zero, suc, ◌+◌, ◌-◌, ◌%◌, ◌^◌, ◌<◌, ◌≤◌, List, []}
use Rattle.std.proofs.Common.{◌∷◌, ◌++◌, length, Bool, true, Option, Some, None, eq-eqb}
use Rattle.std.proofs.Common.{inl, inr, arith, refl, ap, sym, subst, ◌∙◌, add-one}
use Rattle.std.specs.Prelude.{◌==◌, if◌then◌else◌, map, fold, slice_set}
use Rattle.std.specs.List.{range_with_len}
use Rattle.std.proofs.lemmas.Bool.Decides.{eqb_tells}
use Rattle.std.proofs.lemmas.List.FromFn.{get_or-map-range_with_len}
use Rattle.std.proofs.lemmas.List.{append-nil, length-append}
use Rattle.std.proofs.lemmas.Grind.{flat_map-append, fold-append}
use Rattle.fp_ports.specs.PluggedPorts.{Row}
use Rattle.fp_setup.specs.SetupOfTables.{the_threads}
use Rattle.rv_exec.specs.declared.outcome.Event.{Event}
use Rattle.trace_print.specs.Text.{line_text, text}
use Rattle.core_model.specs.World.{Start, recent, world, events}
use Rattle.pipe_model.specs.Relation.{of_thread, event_in, turn_at}
use Rattle.pipe_model.specs.PipelineLaws.{EventsGrow}
use Rattle.machine.specs.Observing.{HasSeen, next_with, observer_after, retires}
use Rattle.machine.specs.WorldRelation.{Refines, start_with_ports}
use Rattle.fp_image.specs.declared.parts.Segment.{Segment}
use Rattle.fp_setup.specs.Settings.{Settings}
use Rattle.fp_setup.specs.Plain.{plain_threads}
use Rattle.setup_model.specs.Start.{start, no_ports}
use Rattle.selfrun.specs.Drawn.{own_setup, programs}
use Rattle.machine.specs.declared.state.Machine.{Machine}
use Rattle.selfrun.specs.declared.tally.Tally.{Tally}
use Rattle.selfrun.specs.Text.{with_byte, fold_of, tally_of, no_tally}
use Rattle.selfrun.specs.Text.{tally_at, own_start, own_tallies}
use Rattle.selfrun.specs.Counted.{count_acts, counted}
use Rattle.selfrun.specs.Counting.{with_event, tallies_with, AreFew, tallies_of}
use Rattle.selfrun.specs.declared.running.Count.{Count}

tally-nil : tally_of [] ≡ no_tally
unfolding tally_of fold_of
tally-nil = refl

-- one more event
tally-more : (es : List Event) (e : Event) → tally_of (es ++ e ∷ []) ≡ with_event (tally_of es) e
unfolding tally_of fold_of
tally-more es e =
    let long : length (es ++ e ∷ []) ≡ length es + 1 = length-append es (e ∷ []) in
    let words : text (es ++ e ∷ []) ≡ text es ++ line_text e =
    flat_map-append line_text es (e ∷ []) ∙ ap (λ xs. text es ++ xs) (append-nil (line_text e)) in
    let sum : fold with_byte 0 (text (es ++ e ∷ []))
    ≡ fold with_byte (fold with_byte 0 (text es)) (line_text e) =
    ap (λ xs. fold with_byte 0 xs) words ∙ fold-append with_byte 0 (text es) (line_text e) in
    let Made : ℕ → ℕ → Tally = λ n h. record { events = n; fold = h } in
    ap (λ n. Made n (fold with_byte 0 (text (es ++ e ∷ [])))) long ∙ ap (Made (length es + 1)) sum

-- a list in which at most one value changes
one_changed : (F G : ℕ → Tally) (v : Tally) (a n j : ℕ) →
    ((k : ℕ) → k ≢ a + j → G k ≡ F k) → (j < n → G (a + j) ≡ v) →
    map G (range_with_len a n) ≡ slice_set (map F (range_with_len a n)) j v
one_changed F G v a zero j others this = refl
one_changed F G v a (suc n) zero others this =
    let rest : map G (range_with_len (a + 1) n) ≡ map F (range_with_len (a + 1) n) =
    same (a + 1) n (λ k above. others k (omega arith)) in
    let here : a + 0 ≡ a = omega arith in
    let head : G a ≡ v = ap G (sym here) ∙ this (omega arith) in
    ap (λ x. x ∷ map G (range_with_len (a + 1) n)) head ∙ ap (λ xs. v ∷ xs) rest
  where
    same : (b m : ℕ) → ((k : ℕ) → b ≤ k → G k ≡ F k) →
        map G (range_with_len b m) ≡ map F (range_with_len b m)
    same b zero all = refl
    same b (suc m) all =
        ap (λ x. x ∷ map G (range_with_len (b + 1) m)) (all b (omega arith))
        ∙ ap (λ xs. F b ∷ xs) (same (b + 1) m (λ k above. all k (omega arith)))
one_changed F G v a (suc n) (suc j) others this =
    let moved : a + 1 + j ≡ a + suc j = omega arith in
    let head : G a ≡ F a = others a (omega arith) in
    let rest : map G (range_with_len (a + 1) n) ≡ slice_set (map F (range_with_len (a + 1) n)) j v =
    one_changed F G v (a + 1) n j (λ k ne. others k (λ e. ne (e ∙ sym moved)))
    (λ below. ap G moved ∙ this (omega arith)) in
    ap (λ x. x ∷ map G (range_with_len (a + 1) n)) head ∙ ap (λ xs. F a ∷ xs) rest

of_other : (k : ℕ) (e : Event) → k ≢ e.thread → of_thread k (Some e) ≡ []
of_other k e other =
    elim (eqb_tells e.thread k) [
      | inl is ↦ absurd (other (sym is.1))
      | inr not_is ↦ ap (λ (b : Bool). if b then e ∷ [] else []) not_is.0
    ]

of_same : (e : Event) → of_thread e.thread (Some e) ≡ e ∷ []
of_same e =
    let is : (e.thread == e.thread) ≡ true = eq-eqb e.thread e.thread refl in
    ap (λ (b : Bool). if b then e ∷ [] else []) is

-- the tallies after a cycle, by its event
counted_by : (old new : ℕ → List Event) (event : Option Event) →
    ((k : ℕ) → new k ≡ old k ++ of_thread k event) →
    map (λ k. tally_of (new k)) (range_with_len 0 8)
    ≡ tallies_with (map (λ k. tally_of (old k)) (range_with_len 0 8)) event
counted_by old new None grows =
    let v : Tally = tally_of (new 8) in
    let whole : (k : ℕ) → tally_of (new k) ≡ tally_of (old k) =
    λ k. ap tally_of (grows k ∙ append-nil (old k)) in
    one_changed (λ k. tally_of (old k)) (λ k. tally_of (new k)) v 0 8 8 (λ k ne. whole k)
    (λ below. refl)
counted_by old new (Some e) grows =
    let F : ℕ → Tally = λ k. tally_of (old k) in
    let G : ℕ → Tally = λ k. tally_of (new k) in
    let v : Tally = with_event (tally_at (map F (range_with_len 0 8)) e.thread) e in
    let others : (k : ℕ) → k ≢ 0 + e.thread → G k ≡ F k =
    λ k ne. ap tally_of (grows k ∙ ap (λ xs. old k ++ xs)
    (of_other k e (λ is. ne (let z : k ≡ 0 + e.thread = omega arith in z))) ∙ append-nil (old k)) in
    let own : G e.thread ≡ with_event (F e.thread) e =
    ap tally_of (grows e.thread ∙ ap (λ xs. old e.thread ++ xs) (of_same e))
    ∙ tally-more (old e.thread) e in
    one_changed F G v 0 8 e.thread others (λ below.
    ap G (let z : 0 + e.thread ≡ e.thread = omega arith in z) ∙ own ∙ ap (λ t. with_event t e)
    (sym (get_or-map-range_with_len F 0 8 e.thread e.thread no_tally below (omega arith))))

next_tallies : EventsGrow → (s : Start) (c : ℕ) (event : Option Event) → event ≡ event_in (c - 4)
    (turn_at s c 3) → tallies_of s (suc c) ≡ tallies_with (tallies_of s c) event
next_tallies grows s c event is =
    counted_by (λ k. events s k c) (λ k. events s k (suc c)) event
    (λ k. grows s k c ∙ ap (λ e. events s k c ++ of_thread k e) (sym is))

no_events : (s : Start) (i : ℕ) → events s i 0 ≡ []
unfolding world recent
no_events s i = refl

tallies_begin : (s : Start) → map (λ k. no_tally) the_threads ≡ tallies_of s 0
tallies_begin s =
    let zero_of : (k : ℕ) → tally_of (events s k 0) ≡ no_tally =
    λ k. ap tally_of (no_events s k) ∙ tally-nil in
    let same : map (λ k. tally_of (events s k 0)) (range_with_len 0 8)
    ≡ slice_set (map (λ k. no_tally) (range_with_len 0 8)) 8 no_tally =
    one_changed (λ k. no_tally) (λ k. tally_of (events s k 0)) no_tally 0 8 8
    (λ k ne. zero_of k) (λ below. zero_of 8) in
    sym same

few_set : (ts : List Tally) (i : ℕ) (v : Tally) (most : ℕ) → AreFew ts most → v.events ≤ most →
    AreFew (slice_set ts i v) most
few_set [] i v most few small = few
few_set (t ∷ ts) zero v most few small = head
  where
    head : (k : ℕ) → (tally_at (v ∷ ts) k).events ≤ most
    head zero = small
    head (suc k) = few (suc k)
few_set (t ∷ ts) (suc i) v most few small = tail (few_set ts i v most (λ j. few (suc j)) small)
  where
    tail : AreFew (slice_set ts i v) most → (k : ℕ) →
        (tally_at (t ∷ slice_set ts i v) k).events ≤ most
    tail rest zero = few 0
    tail rest (suc k) = rest k

-- in a cycle at most one event is counted
few_more : (ts : List Tally) (event : Option Event) (most : ℕ) → AreFew ts most →
    AreFew (tallies_with ts event) (most + 1)
few_more ts None most few = λ k. let small : (tally_at ts k).events ≤ most = few k in omega arith
few_more ts (Some e) most few =
    few_set ts e.thread (with_event (tally_at ts e.thread) e) (most + 1)
    (λ k. let small : (tally_at ts k).events ≤ most = few k in omega arith)
    (let small : (tally_at ts e.thread).events ≤ most = few e.thread in omega arith)

few_none : AreFew (map (λ k. no_tally) the_threads) 0
few_none zero = omega arith
few_none (suc zero) = omega arith
few_none (suc (suc zero)) = omega arith
few_none (suc (suc (suc zero))) = omega arith
few_none (suc (suc (suc (suc zero)))) = omega arith
few_none (suc (suc (suc (suc (suc zero))))) = omega arith
few_none (suc (suc (suc (suc (suc (suc zero)))))) = omega arith
few_none (suc (suc (suc (suc (suc (suc (suc zero))))))) = omega arith
few_none (suc (suc (suc (suc (suc (suc (suc (suc k)))))))) = omega arith

-- after n cycles no tally has more than n events
tallies_few : EventsGrow → (s : Start) (n : ℕ) → AreFew (tallies_of s n) n
tallies_few grows s zero = subst (λ ts. AreFew ts 0) (tallies_begin s) few_none
tallies_few grows s (suc n) =
    let e : Option Event = retires s n in
    let more : AreFew (tallies_with (tallies_of s n) e) (n + 1) =
    few_more (tallies_of s n) e n (tallies_few grows s n) in
    subst (λ k. AreFew (tallies_of s (suc n)) k) (add-one n)
    (subst (λ ts. AreFew ts (n + 1)) (sym (next_tallies grows s n e refl)) more)

-- a count of few events doesn't wrap
counted_is : (t : Tally) (e : Event) → t.events ≤ 100000 → counted t e ≡ with_event t e
counted_is t e few =
    let Made : ℕ → Tally = λ n. record { events = n; fold = fold_of t.fold (line_text e) } in
    ap Made (let same : (t.events + 1) % 2 ^ 32 ≡ t.events + 1 = omega (arith, few) in same)

count_with : (o : Count) (e : Option Event) → AreFew o.tallies 100000 →
    (next_with count_acts o e).tallies ≡ tallies_with o.tallies e
count_with o None few = refl
count_with o (Some e) few =
    ap (λ t. slice_set o.tallies e.thread t)
    (counted_is (tally_at o.tallies e.thread) e (few e.thread))

-- the tallies of the observer are those of the world
count_after : EventsGrow → (s : Start) (o : Count) (n : ℕ) →
    o.tallies ≡ map (λ k. no_tally) the_threads → n ≤ 100000 →
    (observer_after count_acts s 0 o n).tallies ≡ tallies_of s n
count_after grows s o zero none few = none ∙ tallies_begin s
count_after grows s o (suc n) none few =
    let now : Count = observer_after count_acts s 0 o n in
    let there : 0 + n ≡ n = omega arith in
    let so_far : now.tallies ≡ tallies_of s n = count_after grows s o n none (omega (arith, few)) in
    let all_few : AreFew (tallies_of s n) 100000 =
    λ k. let small : (tally_at (tallies_of s n) k).events ≤ n = tallies_few grows s n k in
    omega (arith, few, small) in
    count_with now (retires s (0 + n)) (subst (λ ts. AreFew ts 100000) (sym so_far) all_few)
    ∙ ap (λ ts. tallies_with ts (retires s (0 + n))) so_far
    ∙ ap (λ c. tallies_with (tallies_of s n) (retires s c)) there
    ∙ sym (next_tallies grows s n (retires s n) refl)

pub count_ends : EventsGrow → (s : Start) (at n : ℕ) (first now : Count)
    (before after : Option (List ℕ)) → at ≡ 0 →
    first.tallies ≡ map (λ k. no_tally) the_threads → n ≤ 100000 →
    HasSeen count_acts s at n first now before after → now.tallies ≡ tallies_of s n
count_ends grows s at n first now before after start none few seen =
    let all : n - at ≡ n = omega (arith, start) in
    ap (λ (x : Count). x.tallies) seen.is
    ∙ ap (λ k. (observer_after count_acts s at first k).tallies) all
    ∙ ap (λ c. (observer_after count_acts s c first n).tallies) start
    ∙ count_after grows s first n none few

-- without ports no input is fed
beside_none : (number n : ℕ) →
    start_with_ports own_setup (programs number) no_ports n ≡ own_start number n
unfolding own_start start plain_threads
beside_none number n = refl

-- the tallies of the first 100,000 cycles are those of the machine's own run
own_tallies_are : (number n : ℕ) → n ≡ 100000 →
    tallies_of (own_start number n) n ≡ own_tallies number
unfolding own_tallies
own_tallies_are number n is = ap (λ c. tallies_of (own_start number c) c) is

-- the results of the machine of the setup and the image are those of its world
pub own_run : (number n : ℕ) (setup : Settings) (image : List Segment)
    (rows : List (Option Row)) (m : Machine) (ts : List Tally) →
    setup ≡ own_setup → image ≡ programs number → rows ≡ no_ports →
    ((ports : List (Option Row)) (n : ℕ) → length ports ≡ 8 →
    Refines (start_with_ports setup image ports n) 0 n m ports) →
    ((s : Start) → Refines s 0 n m rows → ts ≡ tallies_of s n) → n ≡ 100000 →
    ts ≡ own_tallies number
own_run number n setup image rows m ts same_setup same_image same_rows refines ran is =
    let A : List (Option Row) → Type 0 = λ ports. Refines (own_start number n) 0 n m ports in
    let B : Start → Type 0 = λ s. Refines s 0 n m no_ports in
    let C : List Segment → Type 0 =
    λ xs. Refines (start_with_ports own_setup xs no_ports n) 0 n m no_ports in
    let D : Settings → Type 0 = λ s. Refines (start_with_ports s image no_ports n) 0 n m no_ports in
    ran (own_start number n) (subst A (sym same_rows) (subst B (beside_none number n)
    (subst C same_image (subst D same_setup (refines no_ports n refl)))))
    ∙ own_tallies_are number n is

-- a machine at its start refines its current cycle
pub at_start : (s : Start) (n : ℕ) (m : Machine) (rows : List (Option Row)) → m.at ≡ 0 →
    Refines s 0 n m rows → Refines s m.at n m rows
at_start s n m rows start st = subst (λ a. Refines s a n m rows) (sym start) st
