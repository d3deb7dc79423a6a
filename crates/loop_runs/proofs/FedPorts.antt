-- A machine that is fed while it runs.
use Rattle.std.proofs.Common.{◌≡◌, ◌≢◌, ℕ, ◌+◌, ◌-◌, ◌<◌, ◌≤◌, ◌^◌, Bool, true, false, List, []}
use Rattle.std.proofs.Common.{get_or, set, length, Some, None, Option, refl, ap, sym, ◌∙◌, subst}
use Rattle.std.proofs.Common.{arith, true≢false, get_or-set_other, get_or-set_same, zero-add}
use Rattle.std.specs.Prelude.{if◌then◌else◌, ◌&&◌, ◌==◌, is_some, nat_le, nat_lt, IfSome}
use Rattle.std.proofs.lemmas.Bool.{lt-ltb, false≢true}
use Rattle.std.proofs.lemmas.Bool.Decides.{nat_tests}
use Rattle.std.proofs.lemmas.List.FromFn.{get_or-map-range_with_len}
use Rattle.fp_ports.specs.PluggedPorts.{Row, row_at, word_seen, fed}
use Rattle.core_model.specs.World.{Start, has_port, is_plugged, port_word, world}
use Rattle.pipe_model.specs.Relation.{HasLatches}
use Rattle.closed_loops.proofs.Causal.{past-words}
use Rattle.closed_loops.proofs.Closed.{shown-same}
use Rattle.machine.specs.DumpedState.{is_port_left}
use Rattle.machine.specs.FieldRelation.{port_read}
use Rattle.pipeline_core.specs.Abstraction.{abstract_stages, abstract_state}
use Rattle.loop_runs.specs.FedRuns.{FeedsRunning, fed_ports, fed_start, words_fed}
use Rattle.loop_runs.proofs.Worlds.{refines-same}

and-true : (t : Bool) (x y : ℕ) → (if t && true then x else y) ≡ (if t then x else y)
and-true true x y = refl
and-true false x y = refl

and-false : (t : Bool) (x y : ℕ) → (if t && false then x else y) ≡ y
and-false true x y = refl
and-false false x y = refl

-- a fed port shows the word from the cycle on
fed-seen : (r : Row) (at word a x : ℕ) → a < 2 ^ 64 → x ≡ r.words a →
    (if nat_le at a then word else x) ≡ word_seen (fed (Some r) at word) a
fed-seen r at word a x low e = go (nat_lt a (2 ^ 64)) (lt-ltb a (2 ^ 64) low)
  where
    go : (b : Bool) → b ≡ true → (if nat_le at a then word else x)
        ≡ (if b then (if nat_le at a then word else r.words a) else 0)
    go true is = ap (λ (y : ℕ). if nat_le at a then word else y) e
    go false is = absurd (true≢false (sym is))

-- an issue that hasn't reached its port yet finds the word there
fed-found : (unplug : Option ℕ) (handed : Bool) (o : Option Row) (c a at word x : ℕ) → a < 2 ^ 64 →
    c ≤ a + 3 → is_some o ≡ (handed && is_port_left unplug c) → x ≡ port_read unplug o a →
    (if nat_le at a && (handed && is_plugged unplug a) then word else x)
    ≡ port_read unplug (fed o at word) a
fed-found unplug false None c a at word x low late there e = and-false (nat_le at a) word x ∙ e
fed-found unplug false (Some r) c a at word x low late there e = absurd (true≢false there)
fed-found None true None c a at word x low late there e = absurd (false≢true there)
fed-found None true (Some r) c a at word x low late there e =
    and-true (nat_le at a) word x ∙ fed-seen r at word a x low e
fed-found (Some u) true None c a at word x low late there e =
    let off : nat_lt a u ≡ false = grind (arith, nat_tests) in
    rw off (and-false (nat_le at a) word x ∙ e)
fed-found (Some u) true (Some r) c a at word x low late there e =
    go (nat_lt a u) (nat_le u a) refl refl e
  where
    go : (b d : Bool) → nat_lt a u ≡ b → nat_le u a ≡ d → x ≡ (if d then 0xFFFFFFFF else r.words a)
        → (if nat_le at a && b then word else x)
        ≡ (if d then 0xFFFFFFFF else word_seen (fed (Some r) at word) a)
    go true false p q f = and-true (nat_le at a) word x ∙ fed-seen r at word a x low f
    go false true p q f = and-false (nat_le at a) word x ∙ f
    go true true p q f = absurd (grind (arith, nat_tests))
    go false false p q f = absurd (grind (arith, nat_tests))

-- the words of thread i's port after it is fed
pub fed-word : (s : Start) (i at word n a : ℕ) → i < length s.shown → a < n →
    port_word (fed_start s i at word n) a i
    ≡ (if nat_le at a && has_port s i a then word else port_word s a i)
fed-word s i at word n a inside l =
    shown-same s i (words_fed s i at word n) a inside
    ∙ get_or-map-range_with_len (λ (c : ℕ). if nat_le at c && has_port s i c then word
    else port_word s c i) 0 n a a 0xFFFFFFFF l (zero-add a)

-- and those of the other ports
pub other-word : (s : Start) (i at word n a k : ℕ) → k ≢ i →
    port_word (fed_start s i at word n) a k ≡ port_word s a k
other-word s i at word n a k apart =
    ap (λ (ws : List ℕ). get_or ws a 0xFFFFFFFF)
    (get_or-set_other s.shown i k (words_fed s i at word n) [] apart)

-- before that cycle nothing changes
pub before-word : (s : Start) (i at word n a k : ℕ) → i < length s.shown → a < n → a < at →
    port_word (fed_start s i at word n) a k ≡ port_word s a k
before-word s i at word n a k inside l early = go (k == i) refl
  where
    go : (b : Bool) → (k == i) ≡ b → port_word (fed_start s i at word n) a k ≡ port_word s a k
    go true same =
        let eq : i ≡ k = grind (arith, nat_tests) in
        let off : nat_le at a ≡ false = grind (arith, nat_tests) in
        subst (λ (j : ℕ). port_word (fed_start s i at word n) a j ≡ port_word s a j) eq
        (fed-word s i at word n a inside l ∙ rw off refl)
    go false differ = other-word s i at word n a k (grind (arith, nat_tests))

pub same-worlds : (s : Start) (i at word n c d : ℕ) → i < length s.shown → c ≤ n → c ≤ at → d ≤ c →
    world s d ≡ world (fed_start s i at word n) d
same-worlds s i at word n c d inside within later l =
    sym (past-words s (set s.shown i (words_fed s i at word n)) d
    (λ a k h. before-word s i at word n a k inside (omega arith) (omega arith)))

-- the row of a thread after port i is fed
pub fed-row : (ports : List (Option Row)) (i at word : ℕ) → length ports ≡ 8 → i < 8 →
    row_at (fed_ports ports i at word) i ≡ fed (row_at ports i) at word
fed-row ports i at word eight below =
    get_or-set_same ports i (fed (row_at ports i) at word) None (omega (arith, eight))

pub other-row : (ports : List (Option Row)) (i at word k : ℕ) → k ≢ i →
    row_at (fed_ports ports i at word) k ≡ row_at ports k
other-row ports i at word k apart =
    get_or-set_other ports i k (fed (row_at ports i) at word) None apart

fed-latch : (o : Option Row) (at word x : ℕ) → IfSome o (λ (r : Row). r.latch ≡ x) →
    IfSome (fed o at word) (λ (r : Row). r.latch ≡ x)
fed-latch None at word x h = tt
fed-latch (Some r) at word x h = h

pub fed-there : (o : Option Row) (at word : ℕ) → is_some (fed o at word) ≡ is_some o
fed-there None at word = refl
fed-there (Some r) at word = refl

-- a fact of each row: that of the fed one, and those of the others
each-row : (P : ℕ → Option Row → Type 0) (ports : List (Option Row)) (i at word : ℕ) →
    length ports ≡ 8 → i < 8 → P i (fed (row_at ports i) at word) →
    ((k : ℕ) → k ≢ i → P k (row_at ports k)) → (k : ℕ) → P k (row_at (fed_ports ports i at word) k)
each-row P ports i at word eight below here others k = go (k == i) refl
  where
    go : (b : Bool) → (k == i) ≡ b → P k (row_at (fed_ports ports i at word) k)
    go true same =
        let eq : i ≡ k = grind (arith, nat_tests) in
        subst (λ (j : ℕ). P j (row_at (fed_ports ports i at word) j)) eq
        (subst (λ (o : Option Row). P i o) (sym (fed-row ports i at word eight below)) here)
    go false differ =
        let apart : k ≢ i = grind (arith, nat_tests) in
        subst (λ (o : Option Row). P k o) (sym (other-row ports i at word k apart)) (others k apart)

pub feeds-running : FeedsRunning
feeds-running s c n m ports i at word st eight below inside low within later = record {
  begins = record { eight = st.begins.eight; ready = st.begins.ready; latches = st.begins.latches };
  refines =
      refines-same s (set s.shown i (words_fed s i at word n)) c
      (λ d l. same-worlds s i at word n c d inside within later l) (abstract_stages m.pipe)
      (abstract_state m.units ports) (fed_ports ports i at word) st.refines latches;
  cycle = st.cycle;
  due = st.due;
  ports = record { there = there; words = words };
}
  where
    latches : HasLatches (world s (c - 3)) (fed_ports ports i at word)
    latches k l =
        let P : ℕ → Option Row → Type 0 =
        λ j o. j < 8 → IfSome o (λ (r : Row). r.latch ≡ get_or (world s (c - 3)).latches j 0) in
        each-row P ports i at word eight below
        (λ h. fed-latch (row_at ports i) at word (get_or (world s (c - 3)).latches i 0)
        (st.refines.ports i h)) (λ j apart h. st.refines.ports j h) k l

    there : (k : ℕ) → k < 8 → is_some (row_at (fed_ports ports i at word) k)
        ≡ (get_or s.handed k false && is_port_left (get_or s.unplugs k None) c)
    there k l =
        let P : ℕ → Option Row → Type 0 = λ j o. j < 8 →
        is_some o ≡ (get_or s.handed j false && is_port_left (get_or s.unplugs j None) c) in
        each-row P ports i at word eight below (λ h. fed-there (row_at ports i) at word
        ∙ st.ports.there i h) (λ j apart h. st.ports.there j h) k l

    words : (k a : ℕ) → k < 8 → a < n → c ≤ a + 3 → port_word (fed_start s i at word n) a k
        ≡ port_read (get_or s.unplugs k None) (row_at (fed_ports ports i at word) k) a
    words k a l inn late =
        let P : ℕ → Option Row → Type 0 = λ j o. j < 8 →
        port_word (fed_start s i at word n) a j ≡ port_read (get_or s.unplugs j None) o a in
        each-row P ports i at word eight below
        (λ h. fed-word s i at word n a inside inn
        ∙ fed-found (get_or s.unplugs i None) (get_or s.handed i false) (row_at ports i) c a at word
        (port_word s a i) (omega arith) late (st.ports.there i h) (st.ports.words i a h inn late))
        (λ j apart h. other-word s i at word n a j apart ∙ st.ports.words j a h inn late) k l
