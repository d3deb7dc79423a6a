-- Addresses and words, word by word.
use Rattle.std.proofs.Common.{◌≡◌, ◌≢◌, ℕ, zero, suc, ◌+◌, ◌-◌, ◌%◌, ◌^◌, ◌<◌, ◌≤◌, List}
use Rattle.std.proofs.Common.{[], ◌∷◌, length, drop, get_or, refl, ap, arith, add-one}
use Rattle.std.specs.Ordering.{nat_cmp}
use Rattle.std.specs.BTreeMap.{insert_entry}
use Rattle.std.proofs.Math.Seq.{drop-cons}
use Rattle.std.proofs.Math.ListN.{drop_of_length-le}
use Rattle.fp_asm.specs.First.{addresses}
use Rattle.fp_asm.specs.Second.{Memory, with_words}

less : (n : ℕ) → n ≡ suc n - 1
less n = omega arith

pub addresses_here : (a n : ℕ) → n ≢ 0 → addresses a n ≡ a ∷ addresses ((a + 4) % 2 ^ 32) (n - 1)
unfolding addresses
addresses_here a zero h = absurd (h refl)
addresses_here a (suc n) h = ap (λ k. a ∷ addresses ((a + 4) % 2 ^ 32) k) (less n)

pub addresses_end : (a : ℕ) → addresses a 0 ≡ []
unfolding addresses
addresses_end a = refl

-- memory with the words from word i on
pub words_from : Memory → ℕ → List ℕ → ℕ → Memory
words_from memory a words i = with_words memory a (drop i words)

pub words_start : (memory : Memory) (a : ℕ) (words : List ℕ) →
    with_words memory a words ≡ words_from memory a words 0
unfolding words_from
words_start memory a words = refl

pub words_here : (memory : Memory) (a : ℕ) (words : List ℕ) (i d : ℕ) → i < length words →
    words_from memory a words i
    ≡ words_from (insert_entry nat_cmp memory a (get_or words i d)) ((a + 4) % 2 ^ 32) words (i + 1)
unfolding words_from with_words
words_here memory a words i d h = rw (drop-cons words i d h, add-one i) refl

pub words_end : (memory : Memory) (a : ℕ) (words : List ℕ) (i : ℕ) → length words ≤ i →
    words_from memory a words i ≡ memory
unfolding words_from with_words
words_end memory a words i h = rw (drop_of_length-le words h) refl

-- one more address, or none
pub ruleset counting = (addresses_here, addresses_end)
