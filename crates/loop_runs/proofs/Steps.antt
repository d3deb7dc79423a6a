-- A machine in loops with sampled plants, step by step.
use Rattle.std.proofs.Common.{◌≡◌, ◌≢◌, ℕ, zero, suc, ◌*◌, ◌-◌, ◌<◌, ◌≤◌, inl, inr}
use Rattle.std.proofs.Common.{◌⊎◌, Bool, true, false, List, [], ◌∷◌, ◌++◌, append_assoc}
use Rattle.std.proofs.Common.{get_or, set, length, length-set, Some, None, Option, Result}
use Rattle.std.proofs.Common.{Ok, Err, OnOk, refl, ap, sym, ◌∙◌, subst, arith, zero-add}
use Rattle.std.specs.Prelude.{if◌then◌else◌, ◌&&◌, ◌==◌, is_some, map, nat_le, nat_lt, IfSome}
use Rattle.std.proofs.lemmas.Bool.{cases_lt, false≢true}
use Rattle.std.proofs.lemmas.Bool.Decides.{nat_tests}
use Rattle.std.proofs.lemmas.List.FromFn.{get_or-map-range_with_len}
use Rattle.std.specs.List.{range_with_len}
use Rattle.fp_ports.specs.PluggedPorts.{Row, latch_seen, row_at}
use Rattle.trace_print.specs.Text.{text}
use Rattle.core_model.specs.World.{Start, World, events, events_of}
use Rattle.core_model.specs.World.{has_port, port_word, recent, world}
use Rattle.pipeline_core.specs.Abstraction.{abstract_stages, abstract_state}
use Rattle.machine.specs.WorldRelation.{Refines}
use Rattle.machine.specs.declared.state.Machine.{Machine}
use Rattle.closed_loops.specs.Answered.{with_all_shown}
use Rattle.closed_loops.specs.Sampled.{latch_samples, latch_word}
use Rattle.closed_loops.proofs.Sampling.{absent-word, input-word}
use Rattle.loop_runs.specs.FedRuns.{fed_start, words_fed}
use Rattle.loop_runs.proofs.Worlds.{refines-same}
use Rattle.loop_runs.proofs.FedPorts.{before-word, fed-word, other-word}
use Rattle.loop_runs.specs.Plants.{Continues, HasStepped, IsWord, Response, loop_start, response_at}
use Rattle.loop_runs.specs.Looping.{Looping, samples_taken, words_end}
use Rattle.loop_runs.proofs.Sampling.{absent-from, closed-word, lt-here, lt-other, ones-when-absent}
use Rattle.loop_runs.proofs.Sampling.{there-before, until-least, until-most, worlds-so-far}

-- the word of a fed port from the fed cycle on
late-word : (first : List (Option Response)) (every : ℕ) (s : Start) (shown : List (List ℕ))
    (n q i c a : ℕ) (m : Machine) (ports : List (Option Row)) (f : Response) (word : ℕ) →
    Refines (with_all_shown s shown) c n m ports → i < 8 → length shown ≡ 8 →
    a < n → response_at first i ≡ Some f → 0 < every → c ≡ q * every → c ≤ a →
    a < suc q * every → word ≡ f (latch_samples (loop_start first every s n) i every q)
    → port_word (fed_start (with_all_shown s shown) i c word n) a i
    ≡ port_word (loop_start first every s n) a i
late-word first every s shown n q i c a m ports f word
    st below eight l is some at late high word-is =
    let t = with_all_shown s shown in
    let inside : i < length shown = omega (arith, eight) in
    let on : nat_le c a ≡ true = grind (arith, nat_tests) in
    fed-word t i c word n a inside l
    ∙ ap (λ (b : Bool). if b && has_port t i a then word else port_word t a i) on
    ∙ go (has_port s i a) refl
  where
    go : (b : Bool) → has_port s i a ≡ b →
        (if has_port s i a then word else port_word (with_all_shown s shown) a i)
        ≡ port_word (loop_start first every s n) a i
    go true here =
        rw here (word-is ∙ sym (closed-word first every s n i a q f below st.begins.latches l is
        here some (omega (arith, at, late)) high))
    go false gone = rw gone
        (ones-when-absent (with_all_shown s shown) c n m ports i a st below l (omega arith) gone
        ∙ sym (absent-word (response_at first) every s n i a f below l is gone))

-- the plant of thread i has answered, and its port was fed
module _ (first now after : List (Option Response)) (every : ℕ) (s : Start) (n q i c : ℕ)
    (m : Machine) (ports fed : List (Option Row)) (f : Response) (word : ℕ)
    (below : i < 8) (at : c ≡ q * every) (some : 0 < every)
    (is : response_at first i ≡ Some f)
    (word-is : word ≡ f (latch_samples (loop_start first every s n) i every q))
    (here : Continues (response_at first i) (response_at after i)
    (latch_samples (loop_start first every s n) i every q))
    (others : (j : ℕ) → j ≢ i → response_at after j ≡ response_at now j)
    (h : Looping first now every s n q i c m ports)
    (st : Refines (fed_start (with_all_shown s h.shown) i c word n) c n m fed) where
  inside : i < length h.shown
  inside = omega (arith, below, h.eight)

  words-here : (a : ℕ) → a < n → a < words_end every q (suc i) i →
      port_word (fed_start (with_all_shown s h.shown) i c word n) a i
      ≡ port_word (loop_start first every s n) a i
  words-here a l lim =
      elim (cases_lt a c) [
        | inl early ↦
            before-word (with_all_shown s h.shown) i c word n a i inside l early
            ∙ h.words a i below l (omega (arith, early, at, until-least every q i i))
        | inr late ↦
            late-word first every s h.shown n q i c a m ports f word h.refines below h.eight l is
            some at late (omega (arith, lim, until-most every q (suc i) i)) word-is
      ]

  words-other : (a j : ℕ) → j < 8 → j ≢ i → a < n → a < words_end every q (suc i) j →
      port_word (fed_start (with_all_shown s h.shown) i c word n) a j
      ≡ port_word (loop_start first every s n) a j
  words-other a j low apart l lim =
      let e : words_end every q (suc i) j ≡ words_end every q i j =
      ap (λ (b : Bool). (if b then suc q else q) * every) (lt-other i j apart) in
      other-word (with_all_shown s h.shown) i c word n a j apart
      ∙ h.words a j low l (subst (λ (x : ℕ). a < x) e lim)

  fed-words : (a j : ℕ) → j < 8 → a < n → a < words_end every q (suc i) j →
      port_word (fed_start (with_all_shown s h.shown) i c word n) a j
      ≡ port_word (loop_start first every s n) a j
  fed-words a j low l lim = go (j == i) refl
    where
      go : (b : Bool) → (j == i) ≡ b →
          port_word (fed_start (with_all_shown s h.shown) i c word n) a j
          ≡ port_word (loop_start first every s n) a j
      go true same =
          let e : i ≡ j = grind (arith, nat_tests) in
          subst (λ (k : ℕ). a < words_end every q (suc i) k →
          port_word (fed_start (with_all_shown s h.shown) i c word n) a k
          ≡ port_word (loop_start first every s n) a k) e (words-here a l) lim
      go false differ = words-other a j low (grind (arith, nat_tests)) l lim

  fed-inputs : (a j : ℕ) → j < 8 → a < n → response_at first j ≡ None →
      port_word (fed_start (with_all_shown s h.shown) i c word n) a j ≡ port_word s a j
  fed-inputs a j low l none = go (j == i) refl
    where
      go : (b : Bool) → (j == i) ≡ b →
          port_word (fed_start (with_all_shown s h.shown) i c word n) a j ≡ port_word s a j
      go true same =
          let e : j ≡ i = grind (arith, nat_tests) in
          let both : response_at first i ≡ None =
          subst (λ (k : ℕ). response_at first k ≡ None) e none in
          absurd (cc)
      go false differ =
          other-word (with_all_shown s h.shown) i c word n a j (grind (arith, nat_tests))
          ∙ h.inputs a j low l none

  fed-plants : (j : ℕ) → j < 8 → is_some (row_at fed j) ≡ true →
      Continues (response_at first j) (response_at after j)
      (latch_samples (loop_start first every s n) j every (samples_taken q (suc i) j))
  fed-plants j low there = go (j == i) refl
    where
      Now : ℕ → Bool → Type 0
      Now k b =
          Continues (response_at first k) (response_at after k)
          (latch_samples (loop_start first every s n) k every (if b then q else q - 1))

      go : (b : Bool) → (j == i) ≡ b → Now j (nat_lt j (suc i))
      go true same =
          let e : i ≡ j = grind (arith, nat_tests) in
          subst (λ (k : ℕ). Now k (nat_lt k (suc i))) e
          (subst (λ (b : Bool). Now i b) (sym (lt-here i)) here)
      go false differ =
          let apart : j ≢ i = grind (arith, nat_tests) in
          let there_before : is_some (row_at ports j) ≡ true =
          h.refines.ports.there j low ∙ sym (st.ports.there j low) ∙ there in
          subst (λ (b : Bool). Now j b) (sym (lt-other i j apart))
          (subst (λ (o : Option Response). Continues (response_at first j) o
          (latch_samples (loop_start first every s n) j every (samples_taken q i j)))
          (sym (others j apart)) (h.plants j low there_before))

  pub fed-step : Looping first after every s n q (suc i) c m fed
  fed-step = record {
    shown = set h.shown i (words_fed (with_all_shown s h.shown) i c word n);
    eight = length-set h.shown i (words_fed (with_all_shown s h.shown) i c word n) ∙ h.eight;
    refines = st;
    words = fed-words;
    inputs = fed-inputs;
    plants = fed-plants;
  }

-- thread i has no plant, or no port
abbrev pub Passes : List (Option Response) → List (Option Row) → ℕ → Type 0
Passes first ports i = (response_at first i ≡ None) ⊎ (row_at ports i ≡ None)

cont-none : (first now : Option Response) (xs ys : List ℕ) → first ≡ None → Continues first now xs →
    Continues first now ys
cont-none None None xs ys e h = tt
cont-none None (Some g) xs ys e h = absurd h
cont-none (Some f) now xs ys e h = absurd (cc)

module _ (first now : List (Option Response)) (every : ℕ) (s : Start) (n q i c : ℕ) (m : Machine)
    (ports : List (Option Row)) (below : i < 8) (at : c ≡ q * every) (passes : Passes first ports i)
    (h : Looping first now every s n q i c m ports) where
  late-input : (a : ℕ) → a < n → c ≤ a → (o : Option Response) → response_at first i ≡ o →
      port_word (with_all_shown s h.shown) a i ≡ port_word (loop_start first every s n) a i
  late-input a l late None is =
      h.inputs a i below l is ∙ sym (input-word (response_at first) every s n i a below l is)
  late-input a l late (Some f) is =
      let none : row_at ports i ≡ None = elim passes [ inl e ↦ absurd (cc (is, e)) | inr e ↦ e ] in
      let gone : has_port s i a ≡ false =
      absent-from (with_all_shown s h.shown) c n m ports i a h.refines below none late in
      ones-when-absent (with_all_shown s h.shown) c n m ports i a h.refines below l
      (omega arith) gone ∙ sym (absent-word (response_at first) every s n i a f below l is gone)

  passed-here : (a : ℕ) → a < n → a < words_end every q (suc i) i →
      port_word (with_all_shown s h.shown) a i ≡ port_word (loop_start first every s n) a i
  passed-here a l lim =
      elim (cases_lt a c) [
        | inl early ↦ h.words a i below l (omega (arith, early, at, until-least every q i i))
        | inr late ↦ late-input a l late (response_at first i) refl
      ]

  passed-words : (a j : ℕ) → j < 8 → a < n → a < words_end every q (suc i) j →
      port_word (with_all_shown s h.shown) a j ≡ port_word (loop_start first every s n) a j
  passed-words a j low l lim = go (j == i) refl
    where
      go : (b : Bool) → (j == i) ≡ b →
          port_word (with_all_shown s h.shown) a j ≡ port_word (loop_start first every s n) a j
      go true same =
          let e : i ≡ j = grind (arith, nat_tests) in
          subst (λ (k : ℕ). a < words_end every q (suc i) k →
          port_word (with_all_shown s h.shown) a k ≡ port_word (loop_start first every s n) a k) e
          (passed-here a l) lim
      go false differ =
          let apart : j ≢ i = grind (arith, nat_tests) in
          let e : words_end every q (suc i) j ≡ words_end every q i j =
          ap (λ (b : Bool). (if b then suc q else q) * every) (lt-other i j apart) in
          h.words a j low l (subst (λ (x : ℕ). a < x) e lim)

  passed-plants : (j : ℕ) → j < 8 → is_some (row_at ports j) ≡ true →
      Continues (response_at first j) (response_at now j)
      (latch_samples (loop_start first every s n) j every (samples_taken q (suc i) j))
  passed-plants j low there = go (j == i) refl
    where
      go : (b : Bool) → (j == i) ≡ b → Continues (response_at first j) (response_at now j)
          (latch_samples (loop_start first every s n) j every (samples_taken q (suc i) j))
      go true same =
          let e : i ≡ j = grind (arith, nat_tests) in
          elim passes [
            | inl none ↦
                cont-none (response_at first j) (response_at now j) _ _
                (subst (λ (k : ℕ). response_at first k ≡ None) e none) (h.plants j low there)
            | inr none ↦
                absurd (false≢true (subst (λ (o : Option Row). is_some o ≡ true)
                (subst (λ (k : ℕ). row_at ports k ≡ None) e none) there))
          ]
      go false differ =
          let apart : j ≢ i = grind (arith, nat_tests) in
          subst (λ (b : Bool). Continues (response_at first j) (response_at now j)
          (latch_samples (loop_start first every s n) j every (if b then q else q - 1)))
          (sym (lt-other i j apart)) (h.plants j low there)

  pub passed-step : Looping first now every s n q (suc i) c m ports
  passed-step = record {
    shown = h.shown;
    eight = h.eight;
    refines = h.refines;
    words = passed-words;
    inputs = h.inputs;
    plants = passed-plants;
  }

-- the machine has run to a later cycle
pub run-step : (first now : List (Option Response)) (every : ℕ) (s : Start)
    (n q i c e : ℕ) (m l : Machine) (ports later : List (Option Row)) →
    (h : Looping first now every s n q i c m ports) → c ≤ e →
    Refines (with_all_shown s h.shown) e n l later → Looping first now every s n q i e l later
run-step first now every s n q i c e m l ports later h less st = record {
  shown = h.shown;
  eight = h.eight;
  refines = st;
  words = h.words;
  inputs = h.inputs;
  plants =
      λ j low there. h.plants j low
      (there-before (with_all_shown s h.shown) c e n m l ports later j h.refines st low less there);
}

-- all plants have done a step, and the next one begins
pub next-step : (first now : List (Option Response)) (every : ℕ) (s : Start) (n q c : ℕ)
    (m : Machine) (ports : List (Option Row)) → Looping first now every s n q 8 c m ports →
    Looping first now every s n (suc q) 0 c m ports
next-step first now every s n q c m ports h = record {
  shown = h.shown;
  eight = h.eight;
  refines = h.refines;
  words = λ a j low l lim. h.words a j low l (subst (λ (x : ℕ). a < x) (ends j low) lim);
  inputs = h.inputs;
  plants =
      λ j low there. subst (λ (k : ℕ). Continues (response_at first j) (response_at now j)
      (latch_samples (loop_start first every s n) j every k)) (taken j low) (h.plants j low there);
}
  where
    all : (j : ℕ) → j < 8 → nat_lt j 8 ≡ true
    all j low = grind (arith, nat_tests)

    none : (j : ℕ) → nat_lt j 0 ≡ false
    none j = grind (arith, nat_tests)

    ends : (j : ℕ) → j < 8 → words_end every (suc q) 0 j ≡ words_end every q 8 j
    ends j low = rw (all j low, none j) refl

    taken : (j : ℕ) → j < 8 → samples_taken q 8 j ≡ samples_taken (suc q) 0 j
    taken j low = rw (all j low, none j) (omega arith)

-- the first words of the ports, as eight lists
abbrev pub eight_shown : Start → List (List ℕ)
eight_shown s = map (λ k. get_or s.shown k []) (range_with_len 0 8)

eight-words : (s : Start) (a j : ℕ) → j < 8 →
    port_word (with_all_shown s (eight_shown s)) a j ≡ port_word s a j
eight-words s a j low =
    ap (λ (ws : List ℕ). get_or ws a 0xFFFFFFFF)
    (get_or-map-range_with_len (λ (k : ℕ). get_or s.shown k []) 0 8 j j [] low (zero-add j))

same-at-start : (s : Start) (shown : List (List ℕ)) (d : ℕ) → d ≤ 0 →
    world s d ≡ world (with_all_shown s shown) d
unfolding world recent
same-at-start s shown zero l = refl
same-at-start s shown (suc d) l = absurd (omega arith)

cont-same : (o : Option Response) → Continues o o []
cont-same None = tt
cont-same (Some f) = λ more. refl

-- a machine at cycle 0
pub begin-step : (first : List (Option Response)) (every : ℕ) (s : Start)
    (n : ℕ) (m : Machine) (ports : List (Option Row)) → Refines s 0 n m ports →
    Looping first first every s n 0 0 0 m ports
begin-step first every s n m ports st = record {
  shown = eight_shown s;
  eight = refl;
  refines = record {
    begins =
        record { eight = st.begins.eight; ready = st.begins.ready; latches = st.begins.latches };
    refines =
        refines-same s (eight_shown s) 0 (same-at-start s (eight_shown s)) (abstract_stages m.pipe)
        (abstract_state m.units ports) ports st.refines st.refines.ports;
    cycle = st.cycle;
    due = st.due;
    ports = record {
      there = st.ports.there;
      words = λ k a low l late. eight-words s a k low ∙ st.ports.words k a low l late;
    };
  };
  words = λ a j low l lim. absurd (none a j lim);
  inputs = λ a j low l is. eight-words s a j low;
  plants =
      λ j low there. subst (λ (b : Bool). Continues (response_at first j) (response_at first j)
      (latch_samples (loop_start first every s n) j every (if b then 0 else 0 - 1))) (sym (off j))
      (cont-same (response_at first j));
}
  where
    off : (j : ℕ) → nat_lt j 0 ≡ false
    off j = grind (arith, nat_tests)

    none : (a j : ℕ) → a < words_end every 0 0 j → ⊥
    none a j lim =
        let e : words_end every 0 0 j ≡ 0 * every = rw (off j) refl in
        omega (arith, e, lim)

-- the text of the closed run, if its words are shown
pub text-so-far : (first now : List (Option Response)) (every : ℕ) (s : Start) (n q c e thread : ℕ)
    (m : Machine) (ports : List (Option Row)) → (h : Looping first now every s n q 8 c m ports) →
    e ≤ n → e ≤ suc q * every → text (events (with_all_shown s h.shown) thread e)
    ≡ text (events (loop_start first every s n) thread e)
text-so-far first now every s n q c e thread m ports h within reach =
    ap (λ (w : World). text (events_of thread w.turns))
    (worlds-so-far first every s n h.shown (e - 4) h.eight (λ a j low l. h.words a j low
    (omega arith) (subst (λ (x : ℕ). a < x) (sym (ends j low)) (omega (arith, reach)))))
  where
    ends : (j : ℕ) → j < 8 → words_end every q 8 j ≡ suc q * every
    ends j low = let on : nat_lt j 8 ≡ true = grind (arith, nat_tests) in rw on refl

-- the sample of the latch in the machine is that of the closed run
pub sample-is : (first now : List (Option Response)) (every : ℕ) (s : Start)
    (n q i c drive : ℕ) (m : Machine) (ports : List (Option Row)) (row : Row) →
    (h : Looping first now every s n q i c m ports) → i < 8 → c ≤ n →
    c ≡ q * every → row_at ports i ≡ Some row → drive ≡ row.latch →
    drive ≡ latch_word (loop_start first every s n) i c
sample-is first now every s n q i c drive m ports row h below within at here e =
    e ∙ subst (λ (o : Option Row). IfSome o
    (λ (r : Row). r.latch ≡ get_or (world (with_all_shown s h.shown) (c - 3)).latches i 0)) here
    (h.refines.refines.ports i below)
    ∙ ap (λ (w : World). get_or w.latches i 0)
    (worlds-so-far first every s n h.shown (c - 3) h.eight
    (λ a j low l. h.words a j low (omega arith) (omega (arith, l, at, until-least every q i j))))

-- the plant of thread i has done a step, and its word was fed
answered-step : (first now after : List (Option Response)) (every : ℕ) (s : Start)
    (n k i c drive word : ℕ) (m : Machine) (ports fed : List (Option Row)) → i < 8 →
    c ≡ suc k * every → c ≤ n → 0 < every → Some drive ≡ latch_seen (row_at ports i) →
    HasStepped now after i drive (Some word) → (h : Looping first now every s n (suc k) i c m ports)
    → Refines (fed_start (with_all_shown s h.shown) i c word n) c n m fed →
    Looping first after every s n (suc k) (suc i) c m fed
answered-step first now after every s n k i c drive word
    m ports fed below at within some seen step h st =
    by_row (row_at ports i) refl seen
  where
    C : Start
    C = loop_start first every s n

    off : nat_lt i i ≡ false
    off = grind (arith, nat_tests)

    taken : samples_taken (suc k) i i ≡ k
    taken = rw off (omega arith)

    by_plant : (row : Row) → row_at ports i ≡ Some row → drive ≡ row.latch →
        (f p g : Option Response) → response_at first i ≡ f → response_at now i ≡ p →
        response_at after i ≡ g → Continues f p (latch_samples C i every k) →
        Continues p g (drive ∷ []) → IsWord p (drive ∷ []) (Some word) →
        Looping first after every s n (suc k) (suc i) c m fed
    by_plant row here latch None None g a b d cont goes is = absurd is
    by_plant row here latch None (Some p) g a b d cont goes is = absurd cont
    by_plant row here latch (Some f) None g a b d cont goes is = absurd cont
    by_plant row here latch (Some f) (Some p) None a b d cont goes is = absurd goes
    by_plant row here latch (Some f) (Some p) (Some g) a b d cont goes is =
        let sample : drive ≡ latch_word C i (suc k * every) =
        sample-is first now every s n (suc k) i c drive m ports row h below within at here latch
        ∙ ap (λ (x : ℕ). latch_word C i x) at in
        let word-is : word ≡ f (latch_samples C i every (suc k)) =
        is ∙ cont (drive ∷ []) ∙ ap (λ (x : ℕ). f (latch_samples C i every k ++ x ∷ [])) sample in
        let more : Continues (Some f) (Some g) (latch_samples C i every (suc k)) = λ xs.
        goes xs ∙ cont (drive ∷ xs) ∙ ap (λ (x : ℕ). f (latch_samples C i every k ++ x ∷ xs)) sample
        ∙ ap f
        (sym (append_assoc (latch_samples C i every k) (latch_word C i (suc k * every) ∷ []) xs)) in
        fed-step first now after every s n (suc k) i c m ports fed f word below at some a word-is
        (subst (λ (o : Option Response).
        Continues o (response_at after i) (latch_samples C i every (suc k))) (sym a)
        (subst (λ (o : Option Response). Continues (Some f) o (latch_samples C i every (suc k)))
        (sym d) more)) step.others h st

    by_row : (o : Option Row) → row_at ports i ≡ o → Some drive ≡ latch_seen o →
        Looping first after every s n (suc k) (suc i) c m fed
    by_row None here e = absurd (cc)
    by_row (Some row) here e =
        by_plant row here (cc) (response_at first i) (response_at now i)
        (response_at after i) refl refl refl (subst (λ (x : ℕ).
        Continues (response_at first i) (response_at now i) (latch_samples C i every x)) taken
        (h.plants i below (subst (λ (o : Option Row). is_some o ≡ true) (sym here) refl)))
        step.continues step.word_is

-- other plants with the same responses
same-responses : (first now after : List (Option Response)) (every : ℕ) (s : Start) (n q i c : ℕ)
    (m : Machine) (ports : List (Option Row)) → ((j : ℕ) → response_at after j ≡ response_at now j)
    → Looping first now every s n q i c m ports → Looping first after every s n q i c m ports
same-responses first now after every s n q i c m ports same h = record {
  shown = h.shown;
  eight = h.eight;
  refines = h.refines;
  words = h.words;
  inputs = h.inputs;
  plants =
      λ j low there. subst (λ (o : Option Response). Continues (response_at first j) o
      (latch_samples (loop_start first every s n) j every (samples_taken q i j))) (sym (same j))
      (h.plants j low there);
}

-- thread i has no plant
plantless-step : (first now after : List (Option Response)) (every : ℕ) (s : Start)
    (n q i c drive : ℕ) (m : Machine) (ports : List (Option Row)) → i < 8 →
    c ≡ q * every → HasStepped now after i drive None → is_some (row_at ports i) ≡ true →
    Looping first now every s n q i c m ports → Looping first after every s n q (suc i) c m ports
plantless-step first now after every s n q i c drive m ports below at step there h =
    go (response_at first i) (response_at now i) (response_at after i) refl refl refl
    (h.plants i below there) step.continues step.word_is
  where
    go : (f p g : Option Response) → response_at first i ≡ f →
        response_at now i ≡ p → response_at after i ≡ g →
        Continues f p (latch_samples (loop_start first every s n) i every (samples_taken q i i)) →
        Continues p g (drive ∷ []) → IsWord p (drive ∷ []) None →
        Looping first after every s n q (suc i) c m ports
    go f (Some p) g a b d cont goes is = absurd is
    go (Some f) None g a b d cont goes is = absurd cont
    go None None (Some g) a b d cont goes is = absurd goes
    go None None None a b d cont goes is =
        passed-step first after every s n q i c m ports below at (inl a)
        (same-responses first now after every s n q i c m ports same h)
      where
        same : (j : ℕ) → response_at after j ≡ response_at now j
        same j = by_thread (j == i) refl
          where
            by_thread : (x : Bool) → (j == i) ≡ x → response_at after j ≡ response_at now j
            by_thread true e =
                let eq : i ≡ j = grind (arith, nat_tests) in
                subst (λ (l : ℕ). response_at after l ≡ response_at now l) eq (d ∙ sym b)
            by_thread false e = step.others j (grind (arith, nat_tests))

row-none : (o : Option Row) → latch_seen o ≡ None → o ≡ None
row-none None e = refl
row-none (Some r) e = absurd (cc)

pub row-some : (o : Option Row) (drive : ℕ) → Some drive ≡ latch_seen o → is_some o ≡ true
row-some None drive e = absurd (cc)
row-some (Some r) drive e = refl

-- thread i has no port
pub portless-step : (first now : List (Option Response)) (every : ℕ) (s : Start)
    (n q i c : ℕ) (m : Machine) (ports : List (Option Row)) → i < 8 → c ≡ q * every →
    latch_seen (row_at ports i) ≡ None → Looping first now every s n q i c m ports →
    Looping first now every s n q (suc i) c m ports
portless-step first now every s n q i c m ports below at none h =
    passed-step first now every s n q i c m ports below at (inr (row-none (row_at ports i) none)) h

-- thread i's plant has no step to do yet, and its first word was fed
first-step : (first : List (Option Response)) (every : ℕ) (s : Start)
    (n i c word : ℕ) (m : Machine) (ports fed : List (Option Row)) → i < 8 →
    c ≡ 0 → 0 < every → IsWord (response_at first i) [] (Some word) →
    (h : Looping first first every s n 0 i c m ports) →
    Refines (fed_start (with_all_shown s h.shown) i c word n) c n m fed →
    Looping first first every s n 0 (suc i) c m fed
first-step first every s n i c word m ports fed below at some is h st =
    go (response_at first i) refl is
  where
    none : c ≡ 0 * every
    none = omega arith

    go : (o : Option Response) → response_at first i ≡ o → IsWord o [] (Some word) →
        Looping first first every s n 0 (suc i) c m fed
    go None a w = absurd w
    go (Some f) a w =
        fed-step first first first every s n 0 i c m ports fed f word below none some a w
        (cont-same (response_at first i)) (λ j apart. refl) h st

plantless-start : (first : List (Option Response)) (every : ℕ) (s : Start) (n i c : ℕ) (m : Machine)
    (ports : List (Option Row)) → i < 8 → c ≡ 0 → IsWord (response_at first i) [] None →
    Looping first first every s n 0 i c m ports → Looping first first every s n 0 (suc i) c m ports
plantless-start first every s n i c m ports below at is h = go (response_at first i) refl is
  where
    none : c ≡ 0 * every
    none = omega arith

    go : (o : Option Response) → response_at first i ≡ o → IsWord o [] None →
        Looping first first every s n 0 (suc i) c m ports
    go None a w = passed-step first first every s n 0 i c m ports below none (inl a) h
    go (Some f) a w = absurd w

pub map-ok : {T E : Type 0} → (r : Result T E) (P Q : Type 0) → OnOk r P → (P → Q) → OnOk r Q
map-ok (Ok x) P Q h f = f h
map-ok (Err e) P Q h f = h

-- the same steps, by what a call returned
pub answered-by : (first now after : List (Option Response)) (every : ℕ) (s : Start)
    (n k i c drive word : ℕ) (o : Option ℕ) (m : Machine) (ports fed : List (Option Row)) →
    i < 8 → c ≡ suc k * every → c ≤ n → 0 < every →
    Some drive ≡ latch_seen (row_at ports i) → HasStepped now after i drive o →
    o ≡ Some word → (h : Looping first now every s n (suc k) i c m ports) →
    Refines (fed_start (with_all_shown s h.shown) i c word n) c n m fed →
    Looping first after every s n (suc k) (suc i) c m fed
answered-by first now after every s n k i c drive word o
    m ports fed below at within some seen step e h st =
    answered-step first now after every s n k i c drive word m ports fed below at within some seen
    (subst (λ (w : Option ℕ). HasStepped now after i drive w) e step) h st

pub plantless-by : (first now after : List (Option Response)) (every : ℕ) (s : Start)
    (n q i c drive : ℕ) (o : Option ℕ) (m : Machine) (ports : List (Option Row)) → i < 8 →
    c ≡ q * every → HasStepped now after i drive o → o ≡ None → is_some (row_at ports i) ≡ true →
    Looping first now every s n q i c m ports → Looping first after every s n q (suc i) c m ports
plantless-by first now after every s n q i c drive o m ports below at step e there h =
    plantless-step first now after every s n q i c drive m ports below at
    (subst (λ (w : Option ℕ). HasStepped now after i drive w) e step) there h

pub first-by : (first : List (Option Response)) (every : ℕ) (s : Start)
    (n i c word : ℕ) (o : Option ℕ) (m : Machine) (ports fed : List (Option Row)) →
    i < 8 → c ≡ 0 → 0 < every → IsWord (response_at first i) [] o →
    o ≡ Some word → (h : Looping first first every s n 0 i c m ports) →
    Refines (fed_start (with_all_shown s h.shown) i c word n) c n m fed →
    Looping first first every s n 0 (suc i) c m fed
first-by first every s n i c word o m ports fed below at some is e h st =
    first-step first every s n i c word m ports fed below at some
    (subst (λ (w : Option ℕ). IsWord (response_at first i) [] w) e is) h st

pub plantless-first : (first : List (Option Response)) (every : ℕ) (s : Start) (n i c : ℕ)
    (o : Option ℕ) (m : Machine) (ports : List (Option Row)) → i < 8 → c ≡ 0 →
    IsWord (response_at first i) [] o → o ≡ None → Looping first first every s n 0 i c m ports →
    Looping first first every s n 0 (suc i) c m ports
plantless-first first every s n i c o m ports below at is e h =
    plantless-start first every s n i c m ports below at
    (subst (λ (w : Option ℕ). IsWord (response_at first i) [] w) e is) h

-- the same, by an equal number of threads or an equal cycle
pub by-thread : (first now : List (Option Response)) (every : ℕ) (s : Start) (n q i j c : ℕ)
    (m : Machine) (ports : List (Option Row)) → i ≡ j → Looping first now every s n q i c m ports →
    Looping first now every s n q j c m ports
by-thread first now every s n q i j c m ports e h =
    subst (λ (k : ℕ). Looping first now every s n q k c m ports) e h

pub at-cycle : (first now : List (Option Response)) (every : ℕ) (s : Start) (n q i c d : ℕ)
    (m : Machine) (ports : List (Option Row)) → c ≡ d → Looping first now every s n q i c m ports →
    Looping first now every s n q i d m ports
at-cycle first now every s n q i c d m ports e h =
    subst (λ (k : ℕ). Looping first now every s n q i k m ports) e h
