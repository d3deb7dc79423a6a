-- The lines from the machine's fields are those of the world.
use Rattle.std.proofs.Common.{◌≡◌, ℕ, zero, suc, ◌+◌, ◌-◌, ◌/◌, ◌%◌, ◌<◌, Bool, true}
use Rattle.std.proofs.Common.{false, List, [], ◌∷◌, ◌++◌, get_or, length, Some, None}
use Rattle.std.proofs.Common.{Option, refl, ap, ap₂, sym, ◌∙◌, arith, lit<, append_assoc}
use Rattle.std.specs.Prelude.{if◌then◌else◌, ◌||◌, not, is_some, nat_lt, flat_map, IfSome, codes}
use Rattle.std.specs.List.{range_with_len}
use Rattle.std.proofs.lemmas.Bool.Decides.{nat_tests}
use Rattle.std.proofs.lemmas.List.{append-nil, get_or-map}
use Rattle.std.proofs.lemmas.Grind.{flat_map-append}
use Rattle.timer_unit.specs.Time.{time, is_due}
use Rattle.timer_unit.specs.declared.row.Timer.{Timer}
use Rattle.region_guard.specs.Regions.{may_fetch}
use Rattle.core_model.specs.declared.own.Trapping.{Trapping}
use Rattle.core_model.specs.Thread.{Thread, Environment, fresh, no_own}
use Rattle.core_model.specs.Issue.{execute_in, execute_word, issue}
use Rattle.core_model.specs.Memory.{code_at}
use Rattle.rv_decode.specs.Table.{ins}
use Rattle.fp_ports.specs.PluggedPorts.{Row, row_at, latch_seen as latch_shown}
use Rattle.trace_print.specs.declared.dump_lines.StageContent.{StageContent}
use Rattle.trace_print.specs.declared.dump_lines.StageContent.TheVariants.{Picked, Issue}
use Rattle.trace_print.specs.DumpLines.{cycles_text, stage_text, latch_text}
use Rattle.core_model.specs.World.{Start, World, Took, thread_of, recent}
use Rattle.core_model.specs.World.{world, environment, environment_at, issue_of}
use Rattle.core_model.specs.World.Took.{Idle, Lost, Ran}
use Rattle.core_model.proofs.Turns.{Turned, nexts, behind}
use Rattle.core_model.proofs.Pace.{run-word}
use Rattle.pipe_model.specs.declared.stage_registers.Held.TheVariants as stage
use Rattle.pipe_model.specs.declared.stage_registers.Fetched.{Fetched}
use Rattle.pipe_model.specs.Stages.{StageRegisters, State}
use Rattle.pipe_model.specs.Relation.{Begins, pick_in, in_fetch, in_decode, in_execute, in_memory}
use Rattle.pipe_model.specs.Relation.{in_write, execution_in, units_of, stage_registers_of, turn_at}
use Rattle.std.proofs.Math.ListN.{length-set}
use Rattle.machine.specs.DumpedState.{picked_in, held_in, stages_seen, shared_seen, registers_seen}
use Rattle.machine.specs.DumpedState.{traps_seen, timer_seen, thread_seen, words_seen, seen}
use Rattle.machine.specs.Fields.{fetched_held, decoded_held, executed_held, stored_held}
use Rattle.machine.specs.Fields.{written_held, head_line, thread_line, dump_line, dump_of}
use Rattle.machine.specs.FieldRelation.{FieldsRefine}
use Rattle.machine.specs.FieldLaws.{Dumps}

-- eight threads
eight_after : (s : Start) (n : ℕ) (w after : World) (took : Took) → Turned s n w took after →
    length after.threads ≡ length w.threads
eight_after s n w after Idle t = ap length t.threads
eight_after s n w after (Lost j) t = ap length t.same.threads
eight_after s n w after (Ran j pc word effect) t =
    ap length t.threads ∙ length-set w.threads j (issue_of s n w j).thread

eight : (s : Start) (c : ℕ) → Begins s → length (world s c).threads ≡ 8
unfolding world recent
eight s zero b = b.eight
eight s (suc c) b = eight_after s c (world s c) (world s (suc c)) _ (nexts s c).turned ∙ eight s c b

-- the shown content of the stage registers
flushed-or : (b : Bool) (k : ℕ) (x : Fetched) →
    fetched_held (if b then stage.Flushed k else stage.Issue k x) ≡ Picked k
flushed-or true k x = refl
flushed-or false k x = refl

held-f : (s : Start) (c : ℕ) (w : World) (turn took : Took) →
    fetched_held (in_fetch s c w turn (pick_in took)) ≡ picked_in took
held-f s c w turn Idle = refl
held-f s c w turn (Lost k) = flushed-or _ k _
held-f s c w turn (Ran k pc word effect) = flushed-or _ k _

act-shown : (a : Environment) (t : Thread) (expired fetches : Bool) (word x y : ℕ) →
    a.fetch t.pc ≡ fetches →
    (execute_in a t.pc t.own expired word x y).word ≡ (if expired || not fetches then 0 else word)
unfolding execute_in
act-shown a t true fetches word x y e = refl
act-shown a t false true word x y e = rw e (run-word a t.pc t.own word x y (ins word))
act-shown a t false false word x y e = rw e refl

issue-word : (s : Start) (n : ℕ) (w : World) (k : ℕ) →
    (issue_of s n w k).word ≡ (execution_in s n w k).word
unfolding issue
issue-word s n w k = refl

did-word : (s : Start) (n : ℕ) (w : World) (k : ℕ) →
    let t = thread_of w k in (execution_in s n w k).word
    ≡ (if is_due t.own.timer.armed (time s.period n) || not (may_fetch k s.size
    (get_or s.confined k true) w.registers.iregions t.pc) then 0
    else code_at s.size s.i_words t.pc)
unfolding execute_word environment
did-word s n w k =
    act-shown (environment_at s n w k) (thread_of w k)
    (is_due (thread_of w k).own.timer.armed (time s.period n)) _
    (code_at s.size s.i_words (thread_of w k).pc) _ _ refl

held-d : (s : Start) (c n : ℕ) (w after : World) (took : Took) (ports : List (Option Row)) →
    world s (c - 2) ≡ w → Turned s n w took after →
    decoded_held s.size s.confined (world s (c - 2)).registers.iregions (in_decode s n w took)
    ≡ held_in took
held-d s c n w after Idle ports e t = refl
held-d s c n w after (Lost k) ports e t = refl
held-d s c n w after (Ran k pc word effect) ports e t =
    let registers : (world s (c - 2)).registers ≡ w.registers = ap (λ (x : World). x.registers) e in
    ap₂ (λ a b. Issue k a b) (sym t.pc_is)
    (rw registers (sym (t.word_is ∙ issue-word s n w k ∙ did-word s n w k)))

held-e : (s : Start) (n : ℕ) (w after : World) (took : Took) → Turned s n w took after →
    executed_held (in_execute s n w took) ≡ held_in took
held-e s n w after Idle t = refl
held-e s n w after (Lost k) t = refl
held-e s n w after (Ran k pc word effect) t =
    ap₂ (λ a b. Issue k a b) (sym t.pc_is) (sym (t.word_is ∙ issue-word s n w k))

held-m : (took : Took) → stored_held (in_memory took) ≡ held_in took
held-m Idle = refl
held-m (Lost k) = refl
held-m (Ran k pc word effect) = refl

held-w : (took : Took) → written_held (in_write took) ≡ held_in took
held-w Idle = refl
held-w (Lost k) = refl
held-w (Ran k pc word effect) = refl

-- the lines of the stages
abbrev stages_of : StageRegisters → State → List ℕ
stages_of p u =
    stage_text (codes "F") (fetched_held p.f)
    ++ (stage_text (codes "D") (decoded_held u.size u.confined u.control.registers.iregions p.d)
    ++ (stage_text (codes "E") (executed_held p.e)
    ++ (stage_text (codes "M") (stored_held p.m)
    ++ stage_text (codes "W") (written_held p.w))))

five : (a b c d e a' b' c' d' e' : StageContent) → a ≡ a' → b ≡ b' → c ≡ c' → d ≡ d' → e ≡ e' →
    (stage_text (codes "F") a ++ (stage_text (codes "D") b
    ++ (stage_text (codes "E") c ++ (stage_text (codes "M") d ++ stage_text (codes "W") e))))
    ≡ (stage_text (codes "F") a' ++ (stage_text (codes "D") b'
    ++ (stage_text (codes "E") c' ++ (stage_text (codes "M") d' ++ stage_text (codes "W") e'))))
five a b c d e a' b' c' d' e' p q r s t = cc

stages-are : (s : Start) (c : ℕ) (next : List ℕ) (ports : List (Option Row)) →
    stages_of (stage_registers_of s c next) (units_of s c ports) ≡ stages_seen s c
stages-are s c next ports =
    five _ _ _ _ _ _ _ _ _ _
    (held-f s c (world s (c - 2)) (turn_at s c 1) (turn_at s c 0))
    (held-d s c (c - 2) (world s (c - 2)) (world s (c - 1))
    (turn_at s c 1) ports refl (behind s c 1))
    (held-e s (c - 3) (world s (c - 3)) (world s (c - 2)) (turn_at s c 2) (behind s c 2))
    (held-m (turn_at s c 3))
    (held-w (turn_at s c 4))

abbrev head_of : StageRegisters → State → ℕ → List ℕ
head_of p u at = cycles_text at ++ (stages_of p u ++ shared_seen u.control.registers)

head-is : (p : StageRegisters) (u : State) (at : ℕ) →
    flat_map (dump_line p u at) (range_with_len 0 10) ≡ head_of p u at
unfolding dump_line head_line
head-is p u at = simp (append_assoc, append-nil)

-- the lines of a thread
abbrev thread_lines : State → ℕ → List ℕ
thread_lines u i = flat_map (thread_line u i) (range_with_len 0 7)

abbrev thread_by : ℕ → List ℕ → Trapping → Timer → ℕ → Option ℕ → List ℕ
thread_by i regs trap timer sleep latch =
    registers_seen i regs ++ (traps_seen i trap ++ (timer_seen i timer sleep ++ latch_text i latch))

thread-is : (u : State) (i : ℕ) → thread_lines u i ≡ thread_by i (get_or u.bank i [])
    (get_or u.control.traps i no_own.trap) (get_or u.control.timers i no_own.timer)
    (get_or u.control.sleeps i 0) (latch_shown (row_at u.ports i))
unfolding thread_line
thread-is u i = simp (append_assoc, append-nil)

latch-is : (o : Option Row) (there : Bool) (v : ℕ) → is_some o ≡ there →
    IfSome o (λ r. r.latch ≡ v) → latch_shown o ≡ (if there then Some v else None)
latch-is None false v e h = refl
latch-is None true v e h = cc
latch-is (Some r) true v e h = ap Some h
latch-is (Some r) false v e h = cc

six : (i : ℕ) (regs regs' : List ℕ) (trap trap' : Trapping) (timer timer' : Timer)
    (sleep sleep' : ℕ) (latch latch' : Option ℕ) → regs ≡ regs' →
    trap ≡ trap' → timer ≡ timer' → sleep ≡ sleep' → latch ≡ latch' →
    thread_by i regs trap timer sleep latch ≡ thread_by i regs' trap' timer' sleep' latch'
six i regs regs' trap trap' timer timer' sleep sleep' latch latch' p q r s t =
    ap (λ x. thread_by i x trap timer sleep latch) p
    ∙ ap (λ x. thread_by i regs' x timer sleep latch) q
    ∙ ap (λ x. thread_by i regs' trap' x sleep latch) r
    ∙ ap (λ x. thread_by i regs' trap' timer' x latch) s
    ∙ ap (λ x. thread_by i regs' trap' timer' sleep' x) t

thread-seen : (s : Start) (c n : ℕ) (p : StageRegisters) (u : State) (at : ℕ)
    (plan : List (Option ℕ)) → FieldsRefine s c n p u at plan → (i : ℕ) → i < 8 →
    thread_lines (units_of s c u.ports) i ≡ thread_seen s c i
thread-seen s c n p u at plan st i below =
    let old : i < length (world s (c - 4)).threads = omega (arith, eight s (c - 4) st.begins) in
    let new : i < length (world s (c - 2)).threads = omega (arith, eight s (c - 2) st.begins) in
    thread-is (units_of s c u.ports) i ∙ six i _ _ _ _ _ _ _ _ _ _
    (get_or-map (λ (t : Thread). t.regs) (world s (c - 4)).threads i (fresh 0) [] old)
    (get_or-map (λ (t : Thread). t.own.trap) (world s (c - 2)).threads i (fresh 0) no_own.trap new)
    (get_or-map (λ (t : Thread). t.own.timer) (world s (c - 2)).threads i (fresh 0) no_own.timer
    new) (get_or-map (λ (t : Thread). t.own.sleep) (world s (c - 2)).threads i (fresh 0) 0 new)
    (latch-is (row_at u.ports i) _ (get_or (world s (c - 3)).latches i 0) (st.ports.there i below)
    (st.refines.ports i below))

threads-are : (p : StageRegisters) (u : State) (at : ℕ) →
    flat_map (dump_line p u at) (range_with_len 10 56)
    ≡ flat_map (thread_lines u) (range_with_len 0 8)
unfolding dump_line
threads-are p u at = simp (append_assoc, append-nil)

eight-same : (f g : ℕ → List ℕ) → ((i : ℕ) → i < 8 → f i ≡ g i) →
    flat_map f (range_with_len 0 8) ≡ flat_map g (range_with_len 0 8)
eight-same f g h = rw (
  h 0 (lit< tt),
  h 1 (lit< tt),
  h 2 (lit< tt),
  h 3 (lit< tt),
  h 4 (lit< tt),
  h 5 (lit< tt),
  h 6 (lit< tt),
  h 7 (lit< tt),
) refl

-- the lines of the data scratchpad
split : (a n m : ℕ) → range_with_len a (n + m) ≡ range_with_len a n ++ range_with_len (a + n) m
split a zero m =
    let (e, d) : (zero + m ≡ m) × (a + zero ≡ a) = (omega arith, omega arith) in rw (e, d) refl
split a (suc n) m =
    let e : suc n + m ≡ suc (n + m) = omega arith in
    let d : a + suc n ≡ a + 1 + n = omega arith in
    rw (e, d) (ap (λ xs. a ∷ xs) (split (a + 1) n m))

shift : (f : ℕ → List ℕ) (a k m : ℕ) →
    flat_map f (range_with_len (a + k) m) ≡ flat_map (λ j. f (a + j)) (range_with_len k m)
shift f a k zero = refl
shift f a k (suc m) =
    let e : a + k + 1 ≡ a + (k + 1) = omega arith in
    rw e (ap (λ xs. f (a + k) ++ xs) (shift f a (k + 1) m))

same-all : (f g : ℕ → List ℕ) (a m : ℕ) → ((i : ℕ) → f i ≡ g i) →
    flat_map f (range_with_len a m) ≡ flat_map g (range_with_len a m)
same-all f g a zero h = refl
same-all f g a (suc m) h =
    ap₂ (λ (x : List ℕ) (xs : List ℕ). x ++ xs) (h a) (same-all f g (a + 1) m h)

word-line : (p : StageRegisters) (u : State) (at k : ℕ) →
    dump_line p u at (66 + k) ≡ words_seen u.d_words k
unfolding dump_line
word-line p u at k = go (nat_lt (66 + k) 10) (nat_lt (66 + k) 66) refl refl
  where
    go : (b d : Bool) → nat_lt (66 + k) 10 ≡ b → nat_lt (66 + k) 66 ≡ d →
        (if b then head_line p u.size u.confined u.control.registers at (66 + k)
        else if d then thread_line u ((66 + k - 10) / 7) ((66 + k - 10) % 7)
        else words_seen u.d_words (66 + k - 66)) ≡ words_seen u.d_words k
    go true d q r = absurd (grind (arith, nat_tests))
    go false true q r = absurd (grind (arith, nat_tests))
    go false false q r = let e : 66 + k - 66 ≡ k = omega arith in rw e refl

words-are : (p : StageRegisters) (u : State) (at m : ℕ) →
    flat_map (dump_line p u at) (range_with_len 66 m)
    ≡ flat_map (words_seen u.d_words) (range_with_len 0 m)
words-are p u at m =
    let e : 66 ≡ 66 + 0 = omega arith in
    ap (λ a. flat_map (dump_line p u at) (range_with_len a m)) e ∙ shift (dump_line p u at) 66 0 m
    ∙ same-all (λ j. dump_line p u at (66 + j)) (words_seen u.d_words) 0 m (word-line p u at)

-- all lines
whole : (p : StageRegisters) (u : State) (at m : ℕ) →
    flat_map (dump_line p u at) (range_with_len 0 (66 + m))
    ≡ head_of p u at ++ (flat_map (thread_lines u) (range_with_len 0 8)
    ++ flat_map (words_seen u.d_words) (range_with_len 0 m))
whole p u at m =
    let D : ℕ → List ℕ = dump_line p u at in
    ap (flat_map D) (split 0 66 m) ∙ flat_map-append D (range_with_len 0 66) (range_with_len 66 m)
    ∙ ap₂ (λ (x : List ℕ) (y : List ℕ). x ++ y)
    (flat_map-append D (range_with_len 0 10) (range_with_len 10 56)
    ∙ ap₂ (λ (x : List ℕ) (y : List ℕ). x ++ y) (head-is p u at) (threads-are p u at))
    (words-are p u at m)
    ∙ append_assoc (head_of p u at) (flat_map (thread_lines u) (range_with_len 0 8))
    (flat_map (words_seen u.d_words) (range_with_len 0 m))

grouped : (a b c d : List ℕ) → (a ++ (b ++ c)) ++ d ≡ a ++ (b ++ (c ++ d))
grouped a b c d = simp append_assoc

in_world : (s : Start) (c n : ℕ) (p : StageRegisters) (u : State)
    (at : ℕ) (plan : List (Option ℕ)) → FieldsRefine s c n p u at plan →
    dump_of (stage_registers_of s c p.next) (units_of s c u.ports) c ≡ seen s c
unfolding seen
in_world s c n p u at plan st =
    let q : StageRegisters = stage_registers_of s c p.next in
    let v : State = units_of s c u.ports in
    let threads : List ℕ = flat_map (thread_seen s c) (range_with_len 0 8) in
    let words : List ℕ =
    flat_map (words_seen (world s (c - 3)).d_words) (range_with_len 0 (s.size / 32)) in
    whole q v c (s.size / 32)
    ∙ ap (λ xs. head_of q v c ++ (xs ++ words))
    (eight-same (thread_lines v) (thread_seen s c) (thread-seen s c n p u at plan st))
    ∙ ap (λ xs. (cycles_text c ++ (xs ++ shared_seen (world s (c - 2)).registers))
    ++ (threads ++ words)) (stages-are s c p.next u.ports)
    ∙ grouped (cycles_text c) (stages_seen s c) (shared_seen (world s (c - 2)).registers)
    (threads ++ words)

pub dumps : Dumps
dumps s c n p u at plan st =
    ap (dump_of p u) st.cycle
    ∙ ap (λ (x : StageRegisters). dump_of x u c) st.refines.stage_registers
    ∙ ap (λ (x : State). dump_of (stage_registers_of s c p.next) x c) st.refines.units
    ∙ in_world s c n p u at plan st
