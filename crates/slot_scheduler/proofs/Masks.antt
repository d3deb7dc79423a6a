-- Masks of threads, bit by bit.
use Rattle.std.proofs.Common.{◌≡◌, ◌<◌, ℕ, zero, suc, ◌/◌, ◌%◌, ◌^◌, ◌==◌, nat_lt, Bool, true}
use Rattle.std.proofs.Common.{false, ◌&&◌, ◌||◌, List, map, get_or, refl, ap, ◌∙◌, arith}
use Rattle.std.proofs.lemmas.Bool.Decides.{nat_tests}
use Rattle.slot_table.specs.Masks.{mask_of}
use Rattle.slot_table.proofs.Masks.{bit_told, mask_bit, mask_below}
use Rattle.slot_scheduler.specs.ModeWord.{is_active, is_soft, mode_of, mode_list, threads_that}

passes_at : (test : ℕ → Bool) (w k : ℕ) →
    get_or (map test (mode_list w)) k false ≡ (nat_lt k 8 && test (mode_of w k))
passes_at test w zero = refl
passes_at test w (suc zero) = refl
passes_at test w (suc (suc zero)) = refl
passes_at test w (suc (suc (suc zero))) = refl
passes_at test w (suc (suc (suc (suc zero)))) = refl
passes_at test w (suc (suc (suc (suc (suc zero))))) = refl
passes_at test w (suc (suc (suc (suc (suc (suc zero)))))) = refl
passes_at test w (suc (suc (suc (suc (suc (suc (suc zero))))))) = refl
passes_at test w (suc (suc (suc (suc (suc (suc (suc (suc k)))))))) = grind (arith, nat_tests)

-- a bit of a mask is the test of its thread's mode
pub thread_bit : (test : ℕ → Bool) (w k : ℕ) →
    (threads_that test w / 2 ^ k % 2 == 1) ≡ (nat_lt k 8 && test (mode_of w k))
unfolding threads_that
thread_bit test w k =
    ap (λ n. n == 1) (mask_bit (map test (mode_list w)) k)
    ∙ bit_told (get_or (map test (mode_list w)) k false) ∙ passes_at test w k

pub active_bit : (w k : ℕ) →
    (threads_that is_active w / 2 ^ k % 2 == 1) ≡ (nat_lt k 8 && is_active (mode_of w k))
active_bit w k = thread_bit is_active w k

pub soft_bit : (w k : ℕ) → k < 8 →
    (threads_that is_soft w / 2 ^ k % 2 == 1) ≡ is_soft (mode_of w k)
soft_bit w k small = thread_bit is_soft w k ∙ grind (arith, nat_tests, small)

pub soft_below : (w : ℕ) → threads_that is_soft w < 256
unfolding threads_that
soft_below w = mask_below (map is_soft (mode_list w)) 8 refl

twice : (b : Bool) → (b || b) ≡ b
twice true = refl
twice false = refl

pub soft_of : (modes : List ℕ) →
    mask_of (map (λ mode. mode == 2 || mode == 2) modes) ≡ mask_of (map is_soft modes)
soft_of modes = λ i. mask_of (map (λ mode. twice (mode == 2) i) modes)
