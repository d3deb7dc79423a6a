-- The effect of feeding on the start of the world.
use Rattle.std.proofs.Common.{◌≡◌, ◌≢◌, ℕ, zero, suc, ◌<◌, ◌≤◌, ◌^◌, inl, inr, List, [], ◌∷◌, map}
use Rattle.std.proofs.Common.{length, Option, Some, None, arith, refl, ap, sym, subst, ◌∙◌, lit<}
use Rattle.std.proofs.lemmas.Bool.{cases_lt}
use Rattle.std.proofs.lemmas.List.{get_or-set_same, get_or-set_other}
use Rattle.std.proofs.Math.ListN.{length-set}
use Rattle.std.proofs.Math.Seq.{map-set_same}
use Rattle.fp_ports.specs.PluggedPorts.{Row, row_at, fed}
use Rattle.fp_ports.specs.PluggedPorts.{fed_all as fed_pairs}
use Rattle.fp_ports.specs.ShownWords.{shown}
use Rattle.fp_ports.proofs.ShownLemmas.{shown-fed_all}
use Rattle.fp_setup.specs.declared.input_list.Input.{Input}
use Rattle.fp_setup.specs.SetupOfTables.{the_threads}
use Rattle.fp_setup.specs.Settings.{Settings}
use Rattle.setup_model.specs.Start.{start, thread_setup_of, inputs_of}
use Rattle.setup_model.specs.Start.{shown_to, is_handed, first_latch}
use Rattle.machine.specs.Feeding.{fed_word, fed_words, fed_first, fed_all}
use Rattle.machine.specs.PortLaws.{FeedsStart}

abbrev pairs_of : List Input → List (ℕ × ℕ)
pairs_of inputs = map (λ (input : Input). (input.at, input.word)) inputs

length-fed : (k : ℕ) (ports : List (Option Row)) (inputs : List Input) →
    length (fed_words k ports inputs) ≡ length ports
length-fed k ports [] = refl
length-fed k ports (x ∷ inputs) =
    length-fed k (fed_word k ports x) inputs ∙ length-set ports k (fed (row_at ports k) x.at x.word)

fed-same : (k : ℕ) (ports : List (Option Row)) (inputs : List Input) → k < length ports →
    row_at (fed_words k ports inputs) k ≡ fed_pairs (row_at ports k) (pairs_of inputs)
fed-same k ports [] inside = refl
fed-same k ports (x ∷ inputs) inside =
    fed-same k (fed_word k ports x) inputs
    (omega (arith, length-set ports k (fed (row_at ports k) x.at x.word)))
    ∙ ap (λ (o : Option Row). fed_pairs o (pairs_of inputs))
    (get_or-set_same ports k (fed (row_at ports k) x.at x.word) None inside)

fed-other : (k i : ℕ) (ports : List (Option Row)) (inputs : List Input) → i ≢ k →
    row_at (fed_words k ports inputs) i ≡ row_at ports i
fed-other k i ports [] apart = refl
fed-other k i ports (x ∷ inputs) apart =
    fed-other k i (fed_word k ports x) inputs apart
    ∙ get_or-set_other ports k i (fed (row_at ports k) x.at x.word) None apart

length-first : (s : Settings) (ports : List (Option Row)) (j : ℕ) →
    length (fed_first s ports j) ≡ length ports
length-first s ports zero = refl
length-first s ports (suc j) =
    length-fed j (fed_first s ports j) (thread_setup_of s j).inputs ∙ length-first s ports j

first-above : (s : Settings) (ports : List (Option Row)) (j i : ℕ) → j ≤ i →
    row_at (fed_first s ports j) i ≡ row_at ports i
first-above s ports zero i h = refl
first-above s ports (suc j) i h =
    let apart : i ≢ j = omega arith in
    fed-other j i (fed_first s ports j) (thread_setup_of s j).inputs apart
    ∙ first-above s ports j i (omega arith)

first-newest : (s : Settings) (ports : List (Option Row)) (j : ℕ) → j < length ports →
    row_at (fed_first s ports (suc j)) j
    ≡ fed_pairs (row_at ports j) (inputs_of (thread_setup_of s j))
first-newest s ports j inside =
    fed-same j (fed_first s ports j) (thread_setup_of s j).inputs
    (omega (arith, length-first s ports j))
    ∙ ap (λ (o : Option Row). fed_pairs o (inputs_of (thread_setup_of s j)))
    (first-above s ports j j (omega arith))

first-below : (s : Settings) (ports : List (Option Row)) (j i : ℕ) → i < j → i < length ports →
    row_at (fed_first s ports j) i ≡ fed_pairs (row_at ports i) (inputs_of (thread_setup_of s i))
first-below s ports zero i h inside = absurd (omega arith)
first-below s ports (suc j) i h inside =
    elim (cases_lt i j) [
      | inl l ↦
          let apart : i ≢ j = omega arith in
          fed-other j i (fed_first s ports j) (thread_setup_of s j).inputs apart
          ∙ first-below s ports j i l inside
      | inr g ↦
          let e : j ≡ i = omega arith in
          let P : ℕ → Type 0 = λ k. row_at (fed_first s ports (suc k)) i
          ≡ fed_pairs (row_at ports i) (inputs_of (thread_setup_of s i)) in
          subst P (sym e) (first-newest s ports i inside)
    ]

-- feeding keeps these properties of the ports
kept-words : {B : Type 0} → (f : Option Row → B) →
    ((o : Option Row) (at word : ℕ) → f (fed o at word) ≡ f o) → (k : ℕ) (ports : List (Option Row))
    (inputs : List Input) → map f (fed_words k ports inputs) ≡ map f ports
kept-words f same k ports [] = refl
kept-words f same k ports (x ∷ inputs) =
    kept-words f same k (fed_word k ports x) inputs ∙ map-set_same f ports k
    (fed (row_at ports k) x.at x.word) None (same (row_at ports k) x.at x.word)

kept-first : {B : Type 0} → (f : Option Row → B) →
    ((o : Option Row) (at word : ℕ) → f (fed o at word) ≡ f o) →
    (s : Settings) (ports : List (Option Row)) (j : ℕ) → map f (fed_first s ports j) ≡ map f ports
kept-first f same s ports zero = refl
kept-first f same s ports (suc j) =
    kept-words f same j (fed_first s ports j) (thread_setup_of s j).inputs
    ∙ kept-first f same s ports j

handed-fed : (o : Option Row) (at word : ℕ) → is_handed (fed o at word) ≡ is_handed o
handed-fed None at word = refl
handed-fed (Some r) at word = refl

latch-fed : (o : Option Row) (at word : ℕ) → first_latch (fed o at word) ≡ first_latch o
latch-fed None at word = refl
latch-fed (Some r) at word = refl

shown-is : (s : Settings) (ports : List (Option Row)) (n i : ℕ) →
    length ports ≡ 8 → n ≤ 2 ^ 64 → i < 8 →
    shown (row_at (fed_all s ports) i) [] (thread_setup_of s i).unplug n ≡ shown_to s ports n i
shown-is s ports n i eight few below =
    ap (λ (o : Option Row). shown o [] (thread_setup_of s i).unplug n)
    (first-below s ports 8 i below (omega arith)) ∙ shown-fed_all (row_at ports i)
    (inputs_of (thread_setup_of s i)) (thread_setup_of s i).unplug n few

all-shown : (s : Settings) (ports : List (Option Row)) (n : ℕ) → length ports ≡ 8 → n ≤ 2 ^ 64 →
    map (λ i. shown (row_at (fed_all s ports) i) [] (thread_setup_of s i).unplug n) the_threads
    ≡ map (shown_to s ports n) the_threads
all-shown s ports n eight few =
    let at = λ (i : ℕ) (below : i < 8). shown-is s ports n i eight few below in
    rw (
      at 0 (lit< tt),
      at 1 (lit< tt),
      at 2 (lit< tt),
      at 3 (lit< tt),
      at 4 (lit< tt),
      at 5 (lit< tt),
      at 6 (lit< tt),
      at 7 (lit< tt),
    ) refl

pub feeds : FeedsStart
unfolding start
feeds s image ports n eight few =
    let words = all-shown s ports n eight few in
    let handed : map is_handed (fed_all s ports) ≡ map is_handed ports =
    kept-first is_handed handed-fed s ports 8 in
    let latches : map first_latch (fed_all s ports) ≡ map first_latch ports =
    kept-first first_latch latch-fed s ports 8 in
    rw (words, handed, latches) refl
