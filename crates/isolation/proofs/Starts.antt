-- The start of a setup that keeps the rules is one that the theorems on isolation apply to.
use Rattle.std.proofs.Common.{◌≡◌, ◌⊎◌, inl, inr, ℕ, ◌<◌, ◌≤◌, Bool, true, false, ◌&&◌}
use Rattle.std.proofs.Common.{List, map, length, get_or, ◌∙◌, refl, ap, sym, true≢false}
use Rattle.std.specs.List.{All}
use Rattle.std.proofs.lemmas.List.{get_or-map, length-map, get_or_past}
use Rattle.std.proofs.lemmas.List.Elements.{All-get_or}
use Rattle.std.proofs.lemmas.Bool.{cases_lt}
use Rattle.fp_setup.specs.SetupOfTables.{default_thread}
use Rattle.fp_setup.specs.Rules.{KeepsRules}
use Rattle.fp_setup.specs.Settings.{Settings, size_of}
use Rattle.fp_setup.specs.Threads.{IsThread}
use Rattle.fp_setup.specs.declared.thread_list.ThreadSetup.{ThreadSetup}
use Rattle.region_guard.specs.Regions.{IsSize}
use Rattle.isolation.specs.Isolation.{StartsConfined, StartsConfinedHard, StartsUnconfinedHard}
use Rattle.setup_model.specs.Start.{start, thread_setup_of}
use Rattle.isolation.specs.TraceLaws.{Machine, IsConfinedHard, IsConfinedThrough, IsUnconfinedHard}

sized : (version : ℕ) → (version ≡ 1) ⊎ (version ≡ 2) → IsSize (size_of version)
sized version (inl e) = rw e (inl refl)
sized version (inr e) = rw e (inr refl)

below : (s : Settings) → KeepsRules s → (i : ℕ) → i < 8 → i < length s.threads
below s r i h = rw r.threads.eight h

confined-is : (s : Settings) → KeepsRules s → (i : ℕ) → i < 8 →
    get_or (map (λ (t : ThreadSetup). t.confined) s.threads) i true ≡ (thread_setup_of s i).confined
confined-is s r i h =
    get_or-map (λ (t : ThreadSetup). t.confined) s.threads i default_thread true (below s r i h)

permit-is : (s : Settings) → KeepsRules s → (i : ℕ) → i < 8 →
    get_or (map (λ (t : ThreadSetup). t.permit) s.threads) i false ≡ (thread_setup_of s i).permit
permit-is s r i h =
    get_or-map (λ (t : ThreadSetup). t.permit) s.threads i default_thread false (below s r i h)

other : (a b : Bool) → (a && b) ≡ false → a ≡ true → b ≡ false
other true b h e = h
other false b h e = cc

-- a thread that is confined is one of the eight
confined-below : (s : Settings) → KeepsRules s → (i : ℕ) →
    (thread_setup_of s i).confined ≡ true → i < 8
confined-below s r i c = go (cases_lt i 8)
  where
    go : (i < 8) ⊎ (8 ≤ i) → i < 8
    go (inl l) = l
    go (inr g) =
        let past : thread_setup_of s i ≡ default_thread =
        get_or_past s.threads i default_thread (rw r.threads.eight g) in
        absurd (true≢false (sym c ∙ ap (λ (t : ThreadSetup). t.confined) past))

-- so is one that isn't confined, if the setup has it
free-below : (s : Settings) → KeepsRules s → (i : ℕ) →
    get_or (map (λ (t : ThreadSetup). t.confined) s.threads) i true ≡ false → i < 8
free-below s r i f = go (cases_lt i 8)
  where
    go : (i < 8) ⊎ (8 ≤ i) → i < 8
    go (inl l) = l
    go (inr g) =
        let past : get_or (map (λ (t : ThreadSetup). t.confined) s.threads) i true ≡ true =
        get_or_past (map (λ (t : ThreadSetup). t.confined) s.threads) i true
        (rw (length-map s.threads (λ (t : ThreadSetup). t.confined), r.threads.eight) g) in
        absurd (true≢false (sym past ∙ f))

pub apart-start : (m : Machine) (i n : ℕ) → KeepsRules m.setup → IsConfinedThrough m i n →
    StartsConfined (start m.setup m.image m.ports n) i
unfolding start
apart-start m i n r c =
    let s : Settings = m.setup in
    let thread : i < 8 = confined-below s r i c.confined in
    let one : ((thread_setup_of s i).confined && (thread_setup_of s i).permit) ≡ false =
    (All-get_or IsThread s.threads i default_thread
    (below s r i thread) r.threads.each).one_of_both in
    record {
      size = sized s.version r.version;
      thread = thread;
      eight = length-map s.threads _ ∙ r.threads.eight;
      confined = confined-is s r i thread ∙ c.confined;
      permit =
          permit-is s r i thread
          ∙ other (thread_setup_of s i).confined (thread_setup_of s i).permit one c.confined;
    }

pub confined-start : (m : Machine) (i n : ℕ) → KeepsRules m.setup → IsConfinedHard m i →
    StartsConfinedHard (start m.setup m.image m.ports n) i
unfolding start
confined-start m i n r c =
    let s : Settings = m.setup in
    let thread : i < 8 = confined-below s r i c.confined in
    let one : ((thread_setup_of s i).confined && (thread_setup_of s i).permit) ≡ false =
    (All-get_or IsThread s.threads i default_thread
    (below s r i thread) r.threads.each).one_of_both in
    record {
      size = sized s.version r.version;
      thread = thread;
      eight = length-map s.threads _ ∙ r.threads.eight;
      confined = confined-is s r i thread ∙ c.confined;
      permit =
          permit-is s r i thread
          ∙ other (thread_setup_of s i).confined (thread_setup_of s i).permit one c.confined;
      hard = c.hard;
    }

pub free-start : (m : Machine) (i n : ℕ) → KeepsRules m.setup → IsUnconfinedHard m i →
    StartsUnconfinedHard (start m.setup m.image m.ports n) i
unfolding start
free-start m i n r c =
    let s : Settings = m.setup in
    record {
      size = sized s.version r.version;
      thread = free-below s r i c.free;
      eight = length-map s.threads _ ∙ r.threads.eight;
      free = c.free;
      hard = c.hard;
    }

-- nobody has a permit
pub unpermitted-start : (ts : List ThreadSetup) → All (λ (t : ThreadSetup). t.permit ≡ false) ts →
    (k : ℕ) → get_or (map (λ (t : ThreadSetup). t.permit) ts) k false ≡ false
unpermitted-start ts h k = go (cases_lt k (length ts))
  where
    go : (k < length ts) ⊎ (length ts ≤ k) →
        get_or (map (λ (t : ThreadSetup). t.permit) ts) k false ≡ false
    go (inl l) =
        get_or-map (λ (t : ThreadSetup). t.permit) ts k default_thread false l
        ∙ All-get_or (λ (t : ThreadSetup). t.permit ≡ false) ts k default_thread l h
    go (inr g) =
        get_or_past (map (λ (t : ThreadSetup). t.permit) ts) k false
        (rw (length-map ts (λ (t : ThreadSetup). t.permit)) g)
