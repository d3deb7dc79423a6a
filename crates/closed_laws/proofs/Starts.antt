-- The start of a setup that keeps the rules, in closed loops, is one that the theorems apply to.
use Rattle.std.proofs.Common.{◌≡◌, ◌⊎◌, inl, inr, ℕ, ◌<◌, ◌≤◌, Bool, true, false, ◌&&◌}
use Rattle.std.proofs.Common.{List, map, length, get_or, ◌∙◌, refl, ap, sym, true≢false}
use Rattle.std.specs.List.{All}
use Rattle.std.proofs.lemmas.List.{get_or-map, length-map, get_or_past}
use Rattle.std.proofs.lemmas.List.Elements.{All-get_or}
use Rattle.std.proofs.lemmas.Bool.{cases_lt}
use Rattle.fp_setup.specs.SetupOfTables.{default_thread}
use Rattle.fp_setup.specs.Rules.{KeepsRules}
use Rattle.fp_setup.specs.Settings.{Settings, size_of}
use Rattle.fp_setup.specs.Threads.{IsThread}
use Rattle.fp_setup.specs.declared.thread_list.ThreadSetup.{ThreadSetup}
use Rattle.region_guard.specs.Regions.{IsSize}
use Rattle.slot_scheduler.specs.ModeWord.{mode_of}
use Rattle.isolation.specs.Isolation.{StartsConfined, StartsConfinedHard}
use Rattle.setup_model.specs.Start.{start, thread_setup_of}
use Rattle.isolation.specs.TraceLaws.{Machine}
use Rattle.closed_laws.specs.ClosedTraces.{Responses, loop_run}

-- a confined thread is one of the eight
below-eight : (s : Settings) → KeepsRules s → (i : ℕ) →
    (thread_setup_of s i).confined ≡ true → i < 8
below-eight s r i c = go (cases_lt i 8)
  where
    go : (i < 8) ⊎ (8 ≤ i) → i < 8
    go (inl l) = l
    go (inr g) =
        let past : thread_setup_of s i ≡ default_thread =
        get_or_past s.threads i default_thread (rw r.threads.eight g) in
        absurd (true≢false (sym c ∙ ap (λ (t : ThreadSetup). t.confined) past))

sized : (version : ℕ) → (version ≡ 1) ⊎ (version ≡ 2) → IsSize (size_of version)
sized version (inl e) = rw e (inl refl)
sized version (inr e) = rw e (inr refl)

other : (a b : Bool) → (a && b) ≡ false → a ≡ true → b ≡ false
other true b h e = h
other false b h e = cc

pub loop-start : (m : Machine) (responses : Responses) (every i n : ℕ) → KeepsRules m.setup →
    (thread_setup_of m.setup i).confined ≡ true →
    StartsConfined (loop_run m responses every n) i
unfolding start
loop-start m responses every i n r c =
    let s : Settings = m.setup in
    let thread : i < 8 = below-eight s r i c in
    let inside : i < length s.threads = rw r.threads.eight thread in
    let one : ((thread_setup_of s i).confined && (thread_setup_of s i).permit) ≡ false =
    (All-get_or IsThread s.threads i default_thread inside r.threads.each).one_of_both in
    record {
      size = sized s.version r.version;
      thread = thread;
      eight = length-map s.threads _ ∙ r.threads.eight;
      confined =
          get_or-map (λ (t : ThreadSetup). t.confined) s.threads i default_thread true inside ∙ c;
      permit =
          get_or-map (λ (t : ThreadSetup). t.permit) s.threads i default_thread false inside
          ∙ other (thread_setup_of s i).confined (thread_setup_of s i).permit one c;
    }

pub loop-start-hard : (m : Machine) (responses : Responses) (every i n : ℕ) → KeepsRules m.setup →
    (thread_setup_of m.setup i).confined ≡ true → mode_of m.setup.modes i ≡ 0 →
    StartsConfinedHard (loop_run m responses every n) i
unfolding start
loop-start-hard m responses every i n r c hard =
    let s = loop-start m responses every i n r c in
    record {
      size = s.size;
      thread = s.thread;
      eight = s.eight;
      confined = s.confined;
      permit = s.permit;
      hard = hard;
    }

-- nobody has a permit
pub unpermitted : (ts : List ThreadSetup) → All (λ (t : ThreadSetup). t.permit ≡ false) ts →
    (k : ℕ) → get_or (map (λ (t : ThreadSetup). t.permit) ts) k false ≡ false
unpermitted ts h k = go (cases_lt k (length ts))
  where
    go : (k < length ts) ⊎ (length ts ≤ k) →
        get_or (map (λ (t : ThreadSetup). t.permit) ts) k false ≡ false
    go (inl l) =
        get_or-map (λ (t : ThreadSetup). t.permit) ts k default_thread false l
        ∙ All-get_or (λ (t : ThreadSetup). t.permit ≡ false) ts k default_thread l h
    go (inr g) =
        get_or_past (map (λ (t : ThreadSetup). t.permit) ts) k false
        (rw (length-map ts (λ (t : ThreadSetup). t.permit)) g)
