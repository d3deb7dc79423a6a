-- A motor at rest, recordings and tables.
use Rattle.std.proofs.Common.{◌≡◌, ℕ, zero, suc, ◌+◌, ◌-◌, ◌*◌, ◌%◌}
use Rattle.std.proofs.Common.{◌<◌, ◌==◌, arith, refl, ap, ◌∙◌, false}
use Rattle.std.proofs.Common.{List, [], ◌∷◌, fold, length}
use Rattle.std.specs.Prelude.{min, replicate, slice_index_or}
use Rattle.std.proofs.lemmas.Bool.Decides.{nat_tests}
use Rattle.std.proofs.lemmas.List.Sums.{fold-append}
use Rattle.example_plants.specs.Motion.{Turning, resting, motor_after}
use Rattle.example_plants.specs.Recordings.{next_word, word_now}
use Rattle.example_plants.specs.Tables.{Tabled, unused, table_after, entry_of}
use Rattle.example_plants.specs.PlantLaws.{MotorStaysAtRest, PlaysInOrder, ShowsLastTwo}

one : (u : ℕ) → 1 < u → motor_after (resting u) 0 ≡ resting (u - 1)
one u lt = let e : (u - 1 == 0) ≡ false = grind (arith, nat_tests, lt) in rw e refl

pub rests : MotorStaysAtRest
rests u zero lt = let e : u ≡ u - 0 = omega arith in ap resting e
rests u (suc n) lt =
    let e : u - 1 - n ≡ u - suc n = omega arith in
    ap (λ (m : Turning). fold motor_after m (replicate n 0)) (one u (omega (arith, lt)))
    ∙ rests (u - 1) n (omega (arith, lt)) ∙ ap resting e

played : (words taken : List ℕ) (i : ℕ) → i < length words →
    fold next_word (record { words = words; at = i }) taken
    ≡ record { words = words; at = min (i + length taken) (length words - 1) }
played words [] i lt =
    let e : i ≡ min (i + 0) (length words - 1) = omega (arith, lt) in
    ap (λ k. record { words = words; at = k }) e
played words (d ∷ taken) i lt =
    let next : ℕ = min (i + 1) (length words - 1) in
    let e : min (next + length taken) (length words - 1)
    ≡ min (i + suc (length taken)) (length words - 1) = omega (arith, lt) in
    played words taken next (omega (arith, lt)) ∙ ap (λ k. record { words = words; at = k }) e

pub plays : PlaysInOrder
plays words taken some =
    let e : 0 + length taken ≡ length taken = omega arith in
    ap word_now (played words taken 0 some)
    ∙ ap (λ n. slice_index_or words (min n (length words - 1)) 0) e

words_kept : (t : Tabled) (taken : List ℕ) → (fold table_after t taken).words ≡ t.words
words_kept t [] = refl
words_kept t (x ∷ taken) = words_kept (table_after t x) taken

pub shows : ShowsLastTwo
shows words taken a b =
    ap entry_of (fold-append table_after (unused words) taken (a ∷ b ∷ []))
    ∙ ap (λ (ws : List ℕ). slice_index_or ws ((b + 3 * a) % length ws) 0)
    (words_kept (unused words) taken)
