-- The regions of each thread as masks.
use Rattle.std.proofs.Common.{◌≡◌, ◌<◌, ℕ, ◌+◌, ◌/◌, ◌%◌, ◌^◌, ◌==◌, Bool}
use Rattle.std.proofs.Common.{false, ◌||◌, [], ◌∷◌, map, get_or, ap, ◌∙◌, arith}
use Rattle.std.proofs.lemmas.Bool.Decides.{nat_tests}
use Rattle.std.proofs.lemmas.List.{get_or-map}
use Rattle.std.proofs.lemmas.List.FromFn.{get_or-range_with_len}
use Rattle.slot_table.specs.Masks.{mask_of}
use Rattle.slot_table.specs.Nibbles.{nibbles, nibble_at}
use Rattle.slot_table.proofs.Masks.{bit_told, mask_bit}
use Rattle.region_guard.specs.Regions.{RegionKind, is_readable, is_writable, region_kind}
use Rattle.region_guard.specs.RegionsWord.{by_thread, masks_by, regions_that}

readable_told : (thread nibble : ℕ) →
    (nibble == thread || nibble == 12) ≡ is_readable (region_kind thread nibble)
unfolding region_kind
readable_told thread nibble = grind (arith, nat_tests)

writable_told : (thread nibble : ℕ) →
    (nibble == thread || nibble == 8) ≡ is_writable (region_kind thread nibble)
unfolding region_kind
writable_told thread nibble = grind (arith, nat_tests)

pub readable_masks : (word : ℕ) → masks_by 12 (nibbles word) ≡ by_thread is_readable word
unfolding by_thread
readable_masks word =
    λ i. map (λ thread. mask_of (map (λ nibble. readable_told thread nibble i) (nibbles word)))
    (0 ∷ 1 ∷ 2 ∷ 3 ∷ 4 ∷ 5 ∷ 6 ∷ 7 ∷ [])

pub writable_masks : (word : ℕ) → masks_by 8 (nibbles word) ≡ by_thread is_writable word
unfolding by_thread
writable_masks word =
    λ i. map (λ thread. mask_of (map (λ nibble. writable_told thread nibble i) (nibbles word)))
    (0 ∷ 1 ∷ 2 ∷ 3 ∷ 4 ∷ 5 ∷ 6 ∷ 7 ∷ [])

-- a bit of a thread's mask is the test of the region's kind
region_bit : (test : RegionKind → Bool) (word thread region : ℕ) → region < 8 →
    (regions_that test word thread / 2 ^ region % 2 == 1)
    ≡ test (region_kind thread (nibble_at word region))
unfolding nibbles
region_bit test word thread region small =
    ap (λ n. n == 1)
    (mask_bit (map (λ nibble. test (region_kind thread nibble)) (nibbles word)) region) ∙ bit_told
    (get_or (map (λ nibble. test (region_kind thread nibble)) (nibbles word)) region false)
    ∙ get_or-map (λ nibble. test (region_kind thread nibble)) (nibbles word) region 15 false small

threads-at : (thread : ℕ) → thread < 8 →
    get_or (0 ∷ 1 ∷ 2 ∷ 3 ∷ 4 ∷ 5 ∷ 6 ∷ 7 ∷ []) thread 0 ≡ thread
threads-at thread few =
    let same : 0 + thread ≡ thread = omega arith in
    get_or-range_with_len 0 8 thread 0 few ∙ same

pub masks_tell : (test : RegionKind → Bool) (word thread region mask : ℕ) →
    thread < 8 → region < 8 → mask ≡ get_or (by_thread test word) thread 0 →
    (mask / 2 ^ region % 2 == 1) ≡ test (region_kind thread (nibble_at word region))
unfolding by_thread
masks_tell test word thread region mask few small is =
    let own : mask ≡ regions_that test word thread =
    is ∙ get_or-map (regions_that test word) (0 ∷ 1 ∷ 2 ∷ 3 ∷ 4 ∷ 5 ∷ 6 ∷ 7 ∷ []) thread 0 0 few
    ∙ ap (regions_that test word) (threads-at thread few) in
    ap (λ mask. mask / 2 ^ region % 2 == 1) own ∙ region_bit test word thread region small
