-- The word is a valid register word, and its regions have the numbers' kinds for the thread.
use Rattle.std.proofs.Common.{◌≡◌, ℕ, List, [], ◌∷◌, length, get_or}
use Rattle.std.proofs.Common.{map, true, refl, sym, ◌∙◌, arith, rules}
use Rattle.region_guard.specs.RegionsWord.{is_regions}
use Rattle.trap_unit.proofs.Held.{regions_kept}
use Rattle.solo_run.specs.RegionKinds.{kinds_of_numbers, kind_of_number}
use Rattle.solo_run.proofs.Accepted.{accepted}
use Rattle.solo_run.proofs.regions.regions.Goals as goal

pub unwrap-requires : goal.unwrap-requires
unfolding is_regions
unwrap-requires c =
    let all : is_regions c.word_of.result ≡ true =
    rw (
      c.word_of.ensures.nibbles,
      c.owner.ensures.owner,
      c.owner-2.ensures.owner,
      c.owner-3.ensures.owner,
      c.owner-4.ensures.owner,
      c.owner-5.ensures.owner,
      c.owner-6.ensures.owner,
      c.owner-7.ensures.owner,
      c.owner-8.ensures.owner,
    ) refl in
    accepted _ (c.from_word.ensures.accepts ∙ all)

eight : (numbers : List ℕ) → length numbers ≡ 8 →
    kinds_of_numbers numbers
    ≡ map (λ k. kind_of_number (get_or numbers k 0)) (0 ∷ 1 ∷ 2 ∷ 3 ∷ 4 ∷ 5 ∷ 6 ∷ 7 ∷ [])
eight (a ∷ b ∷ c ∷ d ∷ e ∷ f ∷ g ∷ h ∷ []) long = refl
eight _ long = absurd (omega (arith, long))

pub returns : goal.returns
returns c =
    let word = regions_kept c.word_of.result c.unwrap.result
    (sym c.unwrap.ensures ∙ c.from_word.ensures.regions) in
    let long : length c.args.numbers ≡ 8 = search rules in
    rw (
      word,
      c.word_of.ensures.nibbles,
      eight c.args.numbers long,
      c.owner.ensures.kind,
      c.owner-2.ensures.kind,
      c.owner-3.ensures.kind,
      c.owner-4.ensures.kind,
      c.owner-5.ensures.kind,
      c.owner-6.ensures.kind,
      c.owner-7.ensures.kind,
      c.owner-8.ensures.kind,
    ) refl
