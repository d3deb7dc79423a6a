-- The words that the ports show from one sample to the next.
use Rattle.std.proofs.Common.{◌≡◌, ◌≢◌, ℕ, suc, ◌+◌, ◌*◌, ◌-◌, ◌/◌, ◌<◌, ◌≤◌, inl, inr}
use Rattle.std.proofs.Common.{Bool, true, false, List, [], get_or, length, Some, None}
use Rattle.std.proofs.Common.{Option, refl, ap, sym, ◌∙◌, subst, arith, true≢false}
use Rattle.std.specs.Prelude.{if◌then◌else◌, ◌&&◌, is_some, nat_le, nat_lt}
use Rattle.std.proofs.lemmas.Bool.{cases_lt, false≢true}
use Rattle.std.proofs.lemmas.Bool.Decides.{nat_tests}
use Rattle.std.proofs.lemmas.Nat.{div-mul-add}
use Rattle.std.proofs.Math.ListN.{get_or-eq_default}
use Rattle.std.proofs.Math.Nat.{le_refl, suc-mul}
use Rattle.fp_ports.specs.PluggedPorts.{Row, row_at}
use Rattle.core_model.specs.World.{Start, has_port, is_plugged, port_word, world}
use Rattle.machine.specs.DumpedState.{is_port_left}
use Rattle.machine.specs.FieldRelation.{port_read}
use Rattle.machine.specs.WorldRelation.{Refines}
use Rattle.machine.specs.declared.state.Machine.{Machine}
use Rattle.closed_loops.specs.Answered.{with_all_shown}
use Rattle.closed_loops.specs.Sampled.{latch_samples, plant_of}
use Rattle.closed_loops.proofs.Causal.{past-words}
use Rattle.closed_loops.proofs.Closed.{closed-past}
use Rattle.closed_loops.proofs.Sampling.{sampled-words}
use Rattle.loop_runs.specs.Plants.{Response, loop_start, response_at}
use Rattle.loop_runs.specs.Looping.{words_end}

pub until-least : (every q i j : ℕ) → q * every ≤ words_end every q i j
until-least every q i j = go (nat_lt j i)
  where
    go : (b : Bool) → q * every ≤ (if b then suc q else q) * every
    go true = omega (arith, suc-mul q every)
    go false = le_refl (q * every)

pub until-most : (every q i j : ℕ) → words_end every q i j ≤ suc q * every
until-most every q i j = go (nat_lt j i)
  where
    go : (b : Bool) → (if b then suc q else q) * every ≤ suc q * every
    go true = le_refl (suc q * every)
    go false = omega (arith, suc-mul q every)

-- one more thread doesn't change the others
pub lt-other : (i j : ℕ) → j ≢ i → nat_lt j (suc i) ≡ nat_lt j i
lt-other i j apart =
    elim (cases_lt j i) [
      | inl less ↦
          let a : nat_lt j i ≡ true = grind (arith, nat_tests) in
          let b : nat_lt j (suc i) ≡ true = grind (arith, nat_tests) in
          b ∙ sym a
      | inr more ↦
          let a : nat_lt j i ≡ false = grind (arith, nat_tests) in
          let b : nat_lt j (suc i) ≡ false = grind (arith, nat_tests) in
          b ∙ sym a
    ]

pub lt-here : (i : ℕ) → nat_lt i (suc i) ≡ true
lt-here i = grind (arith, nat_tests)

pub quotient-is : (q every a : ℕ) → 0 < every → q * every ≤ a → a < suc q * every → a / every ≡ q
quotient-is q every a some l h =
    let e : q * every + (a - q * every) ≡ a = omega arith in
    subst (λ (m : ℕ). m / every ≡ q) e
    (div-mul-add q every (a - q * every) (omega (arith, h, suc-mul q every)))

-- eight ports, and ones past them
past-eight : (s : Start) (shown : List (List ℕ)) (a j : ℕ) → length shown ≡ 8 → 8 ≤ j →
    port_word (with_all_shown s shown) a j ≡ 0xFFFFFFFF
past-eight s shown a j eight past =
    ap (λ (ws : List ℕ). get_or ws a 0xFFFFFFFF) (get_or-eq_default shown [] (omega (arith, eight)))

-- the same words so far give the worlds of the closed run
pub worlds-so-far : (first : List (Option Response)) (every : ℕ) (s : Start) (n : ℕ)
    (shown : List (List ℕ)) (d : ℕ) → length shown ≡ 8 → ((a j : ℕ) → j < 8 → a < d →
    port_word (with_all_shown s shown) a j ≡ port_word (loop_start first every s n) a j) →
    world (with_all_shown s shown) d ≡ world (loop_start first every s n) d
worlds-so-far first every s n shown d eight same =
    past-words (loop_start first every s n) shown d (λ a j l. elim (cases_lt j 8) [
      | inl below ↦ same a j below l
      | inr past ↦
          past-eight s shown a j eight past
          ∙ sym (closed-past (λ k. plant_of s every k (response_at first k)) s n a j past)
    ])

-- the word of a present port
pub closed-word : (first : List (Option Response)) (every : ℕ) (s : Start) (n i a q : ℕ)
    (f : Response) → i < 8 → length s.latches ≡ 8 → a < n → response_at first i ≡ Some f →
    has_port s i a ≡ true → 0 < every → q * every ≤ a → a < suc q * every
    → port_word (loop_start first every s n) a i
    ≡ f (latch_samples (loop_start first every s n) i every q)
closed-word first every s n i a q f below latches l is on some low high =
    sampled-words (response_at first) every s n i a f below (omega (arith, latches)) l is on
    ∙ ap (λ (k : ℕ). f (latch_samples (loop_start first every s n) i every k))
    (quotient-is q every a some low high)

same-either : (b : Bool) (x : ℕ) → (if b then x else x) ≡ x
same-either true x = refl
same-either false x = refl

absent-found : (o : Option Row) (handed : Bool) (unplug : Option ℕ) (c a : ℕ) →
    (handed && is_plugged unplug a) ≡ false → is_some o ≡ (handed && is_port_left unplug c) →
    port_read unplug o a ≡ 0xFFFFFFFF
absent-found None handed None c a off there = refl
absent-found None handed (Some u) c a off there = same-either (nat_le u a) 0xFFFFFFFF
absent-found (Some r) false unplug c a off there = absurd (true≢false there)
absent-found (Some r) true None c a off there = absurd (true≢false off)
absent-found (Some r) true (Some u) c a off there =
    let gone : nat_le u a ≡ true = grind (arith, nat_tests) in rw gone refl

-- an absent port reads as ones
pub ones-when-absent : (t : Start) (c n : ℕ) (m : Machine) (ports : List (Option Row)) (i a : ℕ) →
    Refines t c n m ports → i < 8 → a < n → c ≤ a + 3 → has_port t i a ≡ false →
    port_word t a i ≡ 0xFFFFFFFF
ones-when-absent t c n m ports i a st below l late off =
    st.ports.words i a below l late ∙ absent-found (row_at ports i) (get_or t.handed i false)
    (get_or t.unplugs i None) c a off (st.ports.there i below)

gone-later : (handed : Bool) (unplug : Option ℕ) (c a : ℕ) → c ≤ a →
    false ≡ (handed && is_port_left unplug c) → (handed && is_plugged unplug a) ≡ false
gone-later false unplug c a l e = refl
gone-later true None c a l e = absurd (false≢true e)
gone-later true (Some u) c a l e = grind (arith, nat_tests)

-- a port that was removed from the machine is absent from then on
pub absent-from : (t : Start) (c n : ℕ) (m : Machine) (ports : List (Option Row)) (i a : ℕ) →
    Refines t c n m ports → i < 8 → row_at ports i ≡ None → c ≤ a → has_port t i a ≡ false
absent-from t c n m ports i a st below none l =
    gone-later (get_or t.handed i false) (get_or t.unplugs i None) c a l
    (subst (λ (o : Option Row). is_some o ≡ (get_or t.handed i false
    && is_port_left (get_or t.unplugs i None) c)) none (st.ports.there i below))

kept-before : (handed : Bool) (unplug : Option ℕ) (c e : ℕ) → c ≤ e →
    (handed && is_port_left unplug e) ≡ true → (handed && is_port_left unplug c) ≡ true
kept-before false unplug c e l h = h
kept-before true None c e l h = refl
kept-before true (Some u) c e l h = grind (arith, nat_tests)

-- a port that is present now was present before
pub there-before : (t : Start) (c e n : ℕ) (m l : Machine) (ports later : List (Option Row))
    (i : ℕ) → Refines t c n m ports → Refines t e n l later → i < 8 → c ≤ e →
    is_some (row_at later i) ≡ true → is_some (row_at ports i) ≡ true
there-before t c e n m l ports later i st after below less here =
    st.ports.there i below ∙ kept-before (get_or t.handed i false)
    (get_or t.unplugs i None) c e less (sym (after.ports.there i below) ∙ here)
