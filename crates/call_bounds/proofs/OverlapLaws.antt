-- The first routine that overlaps the section is the lowest.
use Rattle.std.proofs.Common.{◌≡◌, ℕ, ◌<◌, ◌≤◌, ◌⊎◌, refl, arith, inl, inr, ap, sym}
use Rattle.std.proofs.Common.{subst, ◌∙◌, List, length, slice_index_or, Contains}
use Rattle.std.proofs.lemmas.List.{get_or_default}
use Rattle.std.proofs.lemmas.List.Elements.{Contains-get_or}
use Rattle.region_tree.specs.Refusals.{IsLowest, Nowhere}
use Rattle.region_tree.specs.declared.section.Section.{Section}
use Rattle.call_bounds.specs.Routines.{AreRoutines}
use Rattle.call_bounds.specs.declared.routines.Routine.{Routine}
use Rattle.call_bounds.specs.CallRefusals.{OverlapAt}
use Rattle.call_bounds.specs.Calls.{Calls}
use Rattle.call_bounds.proofs.Numbers.{rise-apart}

abbrev pub none : Routine
none = record { head = 0; last = 0 }

abbrev pub Overlaps : Section → Routine → Type 0
Overlaps s r = (r.head < s.to) × (s.from ≤ r.last)

at-index : (rs : List Routine) (r : Routine) (h : Contains rs r) → slice_index_or rs h.0 none ≡ r
at-index rs r h = get_or_default rs h.0 none r h.1 ∙ h.2

pub overlap-lowest : (x : Calls) (c : ℕ) → AreRoutines x.routines →
    c < length x.routines → Overlaps x.section (slice_index_or x.routines c none) →
    ((k : ℕ) → k < c → Overlaps x.section (slice_index_or x.routines k none) → ⊥) →
    IsLowest (OverlapAt x) (slice_index_or x.routines c none).head
overlap-lowest x c are lt here before = record {
  holds = record {
    routine = slice_index_or x.routines c none;
    listed = Contains-get_or x.routines c none lt;
    below = here.0;
    above = here.1;
    address = refl;
  };
  lowest =
      λ b h.
      go b h (let z : (h.listed.0 < c) ⊎ ((h.listed.0 ≡ c) ⊎ (c < h.listed.0)) = grind arith in z);
}
  where
    go : (b : ℕ) (h : OverlapAt x b) → (h.listed.0 < c) ⊎ ((h.listed.0 ≡ c) ⊎ (c < h.listed.0)) →
        (slice_index_or x.routines c none).head ≤ b
    go b h (inl below) =
        absurd (before h.listed.0 below (subst (Overlaps x.section)
        (sym (at-index x.routines h.routine h.listed)) (h.below, h.above)))
    go b h (inr (inl same)) =
        let e : (slice_index_or x.routines c none).head ≡ h.routine.head =
        ap (λ (r : Routine). r.head) (ap (λ i. slice_index_or x.routines i none) (sym same)
        ∙ at-index x.routines h.routine h.listed) in
        omega (arith, h.address)
    go b h (inr (inr above)) =
        let z = rise-apart x.routines are.rise
        (λ r c. (are.each r c).order) c h.listed.0 none above h.listed.1 in
        let e : (slice_index_or x.routines h.listed.0 none).head ≡ h.routine.head =
        ap (λ (r : Routine). r.head) (at-index x.routines h.routine h.listed) in
        omega (arith, h.address)

pub overlap-never : (x : Calls) (c : ℕ) → length x.routines ≤ c →
    ((k : ℕ) → k < c → Overlaps x.section (slice_index_or x.routines k none) → ⊥) →
    Nowhere (OverlapAt x)
overlap-never x c all before b h =
    before h.listed.0 (let z = h.listed.1 in omega arith)
    (subst (Overlaps x.section) (sym (at-index x.routines h.routine h.listed)) (h.below, h.above))
