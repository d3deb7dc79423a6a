-- Facts of a section with its words and the loops that count in it.
use Rattle.std.proofs.Common.{◌≡◌, ℕ, ◌+◌, ◌-◌, ◌*◌, ◌/◌, ◌≤◌, ◌<◌, arith, true, List}
use Rattle.std.proofs.Common.{[], ◌∷◌, ◌++◌, length, map, filter, subst, sym, ap, ◌∙◌}
use Rattle.std.specs.List.{range_with_len}
use Rattle.std.proofs.lemmas.Bool.Decides.{nat_tests}
use Rattle.std.proofs.lemmas.List.Elements.{All-filter, All-contains, filter_passes}
use Rattle.std.proofs.lemmas.List.FromFn.{length-map-range_with_len, map-range_with_len_more}
use Rattle.fp_setup.specs.declared.loop_list.LoopSetup.{LoopSetup}
use Rattle.fp_setup.specs.Loops.{AreLoops, IsLoop}
use Rattle.region_tree.specs.declared.section.Section.{Section}
use Rattle.region_tree.specs.Tree.{IsSection, IsDraft, counts, tree_of, section_words}

pub words-length : (memory : ℕ → ℕ) (s : Section) → IsSection s →
    s.to ≡ s.from + 4 * length (section_words memory s)
unfolding section_words
words-length memory s is =
    let n = length-map-range_with_len (λ k. memory (s.from + 4 * k)) 0 ((s.to - s.from) / 4) in
    let a = is.from_aligned in
    let b = is.to_aligned in
    let o = is.order in
    omega arith

counting-is : (s : Section) (j : LoopSetup) → counts s j ≡ true →
    (s.from ≤ j.head) × (j.last < s.to)
counting-is s j h = (grind (arith, nat_tests), grind (arith, nat_tests))

pub draft-is : (memory : ℕ → ℕ) (s : Section) (loops : List LoopSetup) → IsSection s →
    AreLoops loops → IsDraft (tree_of memory s loops)
draft-is memory s loops is rules = record {
  section = is;
  words = words-length memory s is;
  loops =
      λ j h. All-contains IsLoop (filter (counts s) loops) j
      (All-filter (counts s) IsLoop loops rules.each) h;
  counting =
      λ j h. counting-is s j (All-contains (λ i. counts s i ≡ true) (filter (counts s) loops) j
      (filter_passes (counts s) loops) h);
}

-- the same, by its section, words and loops
pub draft-of : (memory : ℕ → ℕ) (s : Section) (loops : List LoopSetup)
    (words : List ℕ) (counting : List LoopSetup) → words ≡ section_words memory s →
    counting ≡ filter (counts s) loops → IsSection s → AreLoops loops →
    IsDraft (record { section = s; words = words; loops = counting })
draft-of memory s loops words counting w c is rules =
    subst (λ l. IsDraft (record { section = s; words = words; loops = l })) (sym c)
    (subst (λ l. IsDraft (record { section = s; words = l; loops = filter (counts s) loops }))
    (sym w) (draft-is memory s loops is rules))

-- the same, with another list of words of the same length
pub draft-with : (s : Section) (loops : List LoopSetup) (words : List ℕ)
    (counting : List LoopSetup) → s.to ≡ s.from + 4 * length words →
    counting ≡ filter (counts s) loops → IsSection s → AreLoops loops →
    IsDraft (record { section = s; words = words; loops = counting })
draft-with s loops words counting count c is rules =
    subst (λ l. IsDraft (record { section = s; words = words; loops = l })) (sym c)
    (record {
      section = is;
      words = count;
      loops =
          λ j h. All-contains IsLoop (filter (counts s) loops) j
          (All-filter (counts s) IsLoop loops rules.each) h;
      counting =
          λ j h. counting-is s j (All-contains (λ i. counts s i ≡ true) (filter (counts s) loops) j
          (filter_passes (counts s) loops) h);
    })

-- one more word
pub words-more : (memory : ℕ → ℕ) (from n w : ℕ) (words words' : List ℕ) →
    words' ≡ words ++ w ∷ [] → w ≡ memory (from + 4 * n) → words ≡ map (λ k. memory (from + 4 * k))
    (range_with_len 0 n) → words' ≡ map (λ k. memory (from + 4 * k)) (range_with_len 0 (n + 1))
words-more memory from n w words words' pushed is before =
    pushed ∙ (ap (λ l. l ++ w ∷ []) before ∙ (ap (λ x. map (λ k. memory (from + 4 * k))
    (range_with_len 0 n) ++ x ∷ []) is ∙ sym (map-range_with_len_more (λ k. memory (from + 4 * k)) 0
    n n (let z : 0 + n ≡ n = omega arith in z))))
