-- Runs of addresses and their bytes, step by step.
use Rattle.std.proofs.Common.{◌≡◌, ◌≢◌, ℕ, zero, suc, ◌<◌, ◌≤◌, ◌+◌, ◌-◌, ◌*◌, ◌==◌}
use Rattle.std.proofs.Common.{List, [], ◌∷◌, ◌++◌, drop, length, get_or, refl, sym}
use Rattle.std.proofs.Common.{ap, ◌∙◌, true, arith, add-one, append_assoc, append-nil}
use Rattle.std.proofs.Math.Seq.{drop-cons}
use Rattle.std.proofs.Math.ListN.{drop_of_length-le}
use Rattle.std.proofs.lemmas.Bool.{ne_eqb}
use Rattle.std.proofs.lemmas.Bool.Decides.{nat_tests}
use Rattle.fp_asm.specs.Second.{Memory}
use Rattle.fp_asm.specs.Runs.{runs_from, word_at, word_bytes, bytes_from}
use Rattle.fp_asm.specs.declared.runs.Run.{Run}

abbrev run : ℕ → ℕ → Run
run a n = record { first = a; count = n }

-- the runs from address k on, after those of a list
pub left : List Run → ℕ → ℕ → List ℕ → ℕ → List Run
left list a n bs k = list ++ runs_from a n (drop k bs)

module _ (list : List Run) (a n : ℕ) (bs : List ℕ) (k d : ℕ) where
  here : k < length bs → drop k bs ≡ get_or bs k d ∷ drop (k + 1) bs
  here h = rw (add-one k) (drop-cons bs k d h)

  pub runs_on : k < length bs → get_or bs k d ≡ a + 4 * n →
      left list a n bs k ≡ left list a (n + 1) bs (k + 1)
  unfolding left runs_from
  runs_on h e =
      let test : (get_or bs k d == a + 4 * n) ≡ true = grind (arith, nat_tests, e) in
      rw (here h, test) refl

  pub runs_off : k < length bs → get_or bs k d ≢ a + 4 * n →
      left list a n bs k ≡ left (list ++ run a n ∷ []) (get_or bs k d) 1 bs (k + 1)
  unfolding left runs_from
  runs_off h e =
      rw (here h, ne_eqb (get_or bs k d) (a + 4 * n) e)
      (sym (append_assoc list (run a n ∷ []) (runs_from (get_or bs k d) 1 (drop (k + 1) bs))))

pub runs_end : (list : List Run) (a n : ℕ) (bs : List ℕ) (k : ℕ) → length bs ≤ k →
    left list a n bs k ≡ list ++ run a n ∷ []
unfolding left runs_from
runs_end list a n bs k h = rw (drop_of_length-le bs h) refl

pub runs_start : (a n : ℕ) (bs : List ℕ) → left [] a n bs 0 ≡ runs_from a n bs
unfolding left
runs_start a n bs = refl

-- the bytes of n more words, after those of a list
pub more_bytes : List ℕ → Memory → ℕ → ℕ → List ℕ
more_bytes list memory a n = list ++ bytes_from memory a n

pub bytes_start : (memory : Memory) (a n : ℕ) → bytes_from memory a n ≡ more_bytes [] memory a n
unfolding more_bytes
bytes_start memory a n = refl

less : (n : ℕ) → n ≡ suc n - 1
less n = omega arith

pub bytes_here : (list : List ℕ) (memory : Memory) (a n : ℕ) → n ≢ 0 → more_bytes list memory a n
    ≡ more_bytes (list ++ word_bytes (word_at memory a)) memory (a + 4) (n - 1)
unfolding more_bytes bytes_from
bytes_here list memory a zero h = absurd (h refl)
bytes_here list memory a (suc n) h =
    sym (append_assoc list (word_bytes (word_at memory a)) (bytes_from memory (a + 4) n))
    ∙ ap (λ k. (list ++ word_bytes (word_at memory a)) ++ bytes_from memory (a + 4) k) (less n)

pub bytes_end : (list : List ℕ) (memory : Memory) (a : ℕ) → more_bytes list memory a 0 ≡ list
unfolding more_bytes bytes_from
bytes_end list memory a = append-nil list
