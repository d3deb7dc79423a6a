-- Feeding one thread after the other.
use Rattle.std.proofs.Common.{◌≡◌, ℕ, ◌+◌, ◌<◌, List, length, get_or, Some, None}
use Rattle.std.proofs.Common.{Option, take, slice_set, ap, ap₂, sym, ◌∙◌, add-one}
use Rattle.std.specs.Prelude.{slice_get}
use Rattle.std.proofs.lemmas.List.{set-get_or}
use Rattle.std.proofs.lemmas.List.Sums.{fold_more}
use Rattle.std.proofs.lemmas.Option.{get_or_from_slice_get}
use Rattle.fp_ports.specs.PluggedPorts.{Row, row_at}
use Rattle.fp_setup.specs.declared.input_list.Input.{Input}
use Rattle.fp_setup.specs.declared.thread_list.ThreadSetup.{ThreadSetup}
use Rattle.fp_setup.specs.SetupOfTables.{default_thread}
use Rattle.fp_setup.specs.Settings.{Settings}
use Rattle.setup_model.specs.Start.{thread_setup_of}
use Rattle.machine.specs.Feeding.{fed_word, fed_words, fed_first}

-- the next thread's inputs are fed
pub turn : (s : Settings) (first now after : List (Option Row)) (k : ℕ)
    (threads : List ThreadSetup) (t : ThreadSetup) (inputs : List Input) →
    threads ≡ s.threads → slice_get threads k ≡ Some t → inputs ≡ t.inputs →
    now ≡ fed_first s first k → after ≡ fed_words k now inputs → after ≡ fed_first s first (k + 1)
turn s first now after k threads t inputs of_setup there same is fed =
    let found : thread_setup_of s k ≡ t =
    ap (λ (xs : List ThreadSetup). get_or xs k default_thread) (sym of_setup)
    ∙ get_or_from_slice_get threads k t default_thread there in
    rw (add-one k)
    (fed ∙ ap₂ (fed_words k) is (same ∙ ap (λ (x : ThreadSetup). x.inputs) (sym found)))

-- the first of the next thread's inputs are fed
pub turn_prefix : (s : Settings) (first now after : List (Option Row)) (k j : ℕ)
    (threads : List ThreadSetup) (t : ThreadSetup) (inputs : List Input) →
    threads ≡ s.threads → slice_get threads k ≡ Some t → inputs ≡ t.inputs →
    now ≡ fed_first s first k → after ≡ fed_words k now (take j inputs) →
    after ≡ fed_words k (fed_first s first k) (take j (thread_setup_of s k).inputs)
turn_prefix s first now after k j threads t inputs of_setup there same is fed =
    let found : thread_setup_of s k ≡ t =
    ap (λ (xs : List ThreadSetup). get_or xs k default_thread) (sym of_setup)
    ∙ get_or_from_slice_get threads k t default_thread there in
    fed ∙ ap₂ (fed_words k) is (ap (take j) (same ∙ ap (λ (x : ThreadSetup). x.inputs) (sym found)))

-- one more input
pub fed_more : (thread : ℕ) (first now after : List (Option Row)) (inputs : List Input)
    (k : ℕ) (d : Input) → k < length inputs → now ≡ fed_words thread first (take k inputs) →
    after ≡ fed_word thread now (get_or inputs k d) →
    after ≡ fed_words thread first (take (k + 1) inputs)
fed_more thread first now after inputs k d below is step =
    step ∙ ap (λ (rows : List (Option Row)). fed_word thread rows (get_or inputs k d)) is
    ∙ sym (fold_more (fed_word thread) first inputs k d below)

-- a refused input
pub fed_none : (thread : ℕ) (now after rows : List (Option Row)) →
    after ≡ slice_set now thread (row_at now thread) → now ≡ rows → after ≡ rows
fed_none thread now after rows kept is = kept ∙ set-get_or now thread None ∙ is
