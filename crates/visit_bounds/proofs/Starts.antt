-- The theorems on visits of the machines of setups, from those on starts.
use Rattle.std.proofs.Common.{◌≡◌, ◌⊎◌, inl, inr, ℕ, ◌+◌, ◌-◌, ◌*◌, ◌/◌, ◌%◌, ◌<◌, ◌≤◌, Bool}
use Rattle.std.proofs.Common.{true, false, List, refl, ap, sym, ◌∙◌, arith, map}
use Rattle.std.specs.Prelude.{if◌then◌else◌, nat_lt, slice_index_or}
use Rattle.std.specs.List.{range_with_len}
use Rattle.std.proofs.Math.Nat.{mod-eq_of_lt}
use Rattle.std.proofs.lemmas.Bool.Decides.{nat_tests}
use Rattle.std.proofs.lemmas.List.{length-map}
use Rattle.std.proofs.lemmas.List.FromFn.{get_or-map-range_with_len}
use Rattle.fp_image.specs.Rules.{word}
use Rattle.fp_image.specs.declared.parts.Segment.{Segment}
use Rattle.fp_setup.specs.Rules.{KeepsRules}
use Rattle.fp_setup.specs.Settings.{Settings, size_of}
use Rattle.core_model.specs.Memory.{code_at}
use Rattle.region_guard.specs.Regions.{index_of}
use Rattle.region_tree.proofs.GraphLaws.{reachable-aligned, reachable-lies}
use Rattle.region_tree.specs.Tree.{IsTree, tree_of, word_at, section_words}
use Rattle.region_tree.specs.declared.section.Section.{Section}
use Rattle.slot_scheduler.specs.ModeWord.{mode_of}
use Rattle.setup_model.specs.Start.{start, words_from}
use Rattle.core_model.specs.Phased.{phase_at}
use Rattle.core_model.specs.SettingLaws.{SettingsOfPicks}
use Rattle.isolation.specs.TraceLaws.{Machine, phases_in}
use Rattle.visit_bounds.proofs.Scheduled.{always-set}
use Rattle.visit_bounds.specs.InSettings.{HasWords, VisitsAreBoundedInSettings}
use Rattle.visit_bounds.specs.SetupInSettings.{HasSameWords, IsHardPhase, IsSetIn}
use Rattle.visit_bounds.specs.SetupInSettings.{KeepsScheduling, StartsHard}
use Rattle.visit_bounds.specs.SetupInSettings.{VisitsStayBoundedInSettings}
use Rattle.visit_bounds.specs.SetupVisitBound.{IsAlike, tree_in}

-- a word of the instruction scratchpad at the start
pub code-word : (image : List Segment) (size u : ℕ) → size % 4 ≡ 0 → u % 4 ≡ 0 → u < size →
    code_at size (words_from image 0 size) u ≡ word image u
unfolding code_at words_from index_of
code-word image size u z a lt =
    go (nat_lt u size) (let e : nat_lt u size ≡ true = grind (arith, nat_tests) in e)
  where
    words : List ℕ
    words = map (λ k. word image (0 + 4 * k)) (range_with_len 0 (size / 4))

    there : slice_index_or words (u % size / 4) 0 ≡ word image u
    there =
        ap (λ k. slice_index_or words (k / 4) 0) (mod-eq_of_lt lt)
        ∙ (get_or-map-range_with_len (λ k. word image (0 + 4 * k)) 0
        (size / 4) (u / 4) (u / 4) 0 (omega arith) (omega arith)
        ∙ ap (word image) (let e : 0 + 4 * (u / 4) ≡ u = omega arith in e))

    go : (b : Bool) → b ≡ true →
        (if b then slice_index_or words (u % size / 4) 0 else 0) ≡ word image u
    go true e = there
    go false e = cc

-- a word of a section
section-word : (image : List Segment) (s : Section) (loops : List _) (u : ℕ) →
    s.from % 4 ≡ 0 → s.to % 4 ≡ 0 → u % 4 ≡ 0 → s.from ≤ u → u < s.to →
    word_at (tree_of (word image) s loops) u ≡ word image u
unfolding section_words
section-word image s loops u f t a low high =
    get_or-map-range_with_len (λ k. word image (s.from + 4 * k)) 0 ((s.to - s.from) / 4)
    ((u - s.from) / 4) ((u - s.from) / 4) 0 (omega arith) (omega arith)
    ∙ ap (word image) (let e : s.from + 4 * ((u - s.from) / 4) ≡ u = omega arith in e)

pub size-even : (version : ℕ) → (version ≡ 1) ⊎ (version ≡ 2) → size_of version % 4 ≡ 0
size-even version (inl e) = rw e refl
size-even version (inr e) = rw e refl

pub alike-words : (setup : Settings) (image : List Segment) (s : Section) (m : Machine) (n : ℕ) →
    IsTree (tree_in setup image s) → KeepsRules m.setup →
    HasSameWords m (tree_in setup image s) image →
    HasWords (start m.setup m.image m.ports n) (tree_in setup image s)
unfolding start
alike-words setup image s m n is rules h = record {
  eight = length-map m.setup.threads _ ∙ rules.threads.eight;
  same_words =
      λ u reach lt.
      let a = reachable-aligned (tree_in setup image s) is.draft u reach in
      let l = reachable-lies (tree_in setup image s) is.draft u reach in
      code-word m.image (size_of m.setup.version) u (size-even m.setup.version rules.version) a lt
      ∙ (h u reach ∙ sym (section-word image s setup.loops u is.draft.section.from_aligned
      is.draft.section.to_aligned a l.low l.high));
}

pub visits_in_settings : VisitsAreBoundedInSettings → VisitsStayBoundedInSettings
visits_in_settings law setup image s slots i b m n is most rules h last before here v keeps =
    law (tree_in setup image s) slots i b (start m.setup m.image m.ports n) n is most
    (alike-words setup image s m n is rules h) last before here v keeps

-- a setting that `phases` writes is the one that picking uses
pub phase-sets : SettingsOfPicks → (m : Machine) (slots i n c : ℕ) → c ≤ n - 4 + 2 →
    IsHardPhase slots i (phase_at (phases_in m n) c) → IsSetIn m i slots n c
phase-sets law m slots i n c up h =
    let same = law (start m.setup m.image m.ports n) n c up in
    record {
      same_slots = sym same.slots ∙ h.same_slots;
      hard = ap (λ (z : ℕ). mode_of z i) (sym same.modes) ∙ h.hard;
    }

-- without writes of slots and modes, each cycle of a run has the setting of the start
pub start-sets : (m : Machine) (slots i n : ℕ) → StartsHard m i slots → KeepsScheduling m n →
    (c : ℕ) → c < n → IsSetIn m i slots n c
unfolding start
start-sets m slots i n h kept =
    always-set (start m.setup m.image m.ports n) slots i n h.same_slots h.hard kept

-- equal words of a section are equal at its reachable words
pub alike-section : (setup : Settings) (image : List Segment) (s : Section) (m : Machine)
    (i slots : ℕ) → IsTree (tree_in setup image s) → IsAlike m i slots image s →
    HasSameWords m (tree_in setup image s) image
alike-section setup image s m i slots is h u reach =
    let l = reachable-lies (tree_in setup image s) is.draft u reach in
    h.same_words u (reachable-aligned (tree_in setup image s) is.draft u reach) l.low l.high
