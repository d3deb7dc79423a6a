-- The search for a soft thread, bit by bit of a mask.
use Rattle.std.proofs.Common.{◌≡◌, ◌<◌, ◌≤◌, ℕ, suc, ◌+◌, ◌-◌, ◌*◌, ◌/◌, ◌%◌, ◌^◌}
use Rattle.std.proofs.Common.{◌==◌, nat_eq, nat_lt, nat_le, Bool, true, false, ◌&&◌}
use Rattle.std.proofs.Common.{◌||◌, List, [], ◌∷◌, All, map, filter, find, length}
use Rattle.std.proofs.Common.{get_or, bit_and, cond, Some, None, slice_index_or}
use Rattle.std.proofs.Common.{zero-lt-suc, suc-le-suc, refl, ap, sym, subst, ◌∙◌, arith}
use Rattle.std.specs.List.{list_all, range_with_len}
use Rattle.std.specs.Int.{trailing_zeros, w32}
use Rattle.std.specs.Int.Count.{count_trailing_zeros}
use Rattle.std.specs.Cmp.Lexicographic.{pointwise, same_text}
use Rattle.std.proofs.lemmas.List.{get_or-map}
use Rattle.std.proofs.lemmas.List.FromFn.{get_or-range_with_len, length-range_with_len}
use Rattle.std.proofs.lemmas.List.Sums.{AllPass-from_list_all}
use Rattle.std.proofs.lemmas.List.Elements.{All-from_get_or}
use Rattle.std.proofs.lemmas.Bool.Decides.{nat_tests}
use Rattle.slot_scheduler.specs.ModeWord.{is_soft, mode_of, threads_that}
use Rattle.slot_scheduler.specs.Picking.{after_last, is_awake, takes_donated}
use Rattle.slot_scheduler.specs.declared.picking.Sched.{Sched}
use Rattle.slot_scheduler.proofs.Masks.{soft_below, thread_bit}

-- the offsets of a mask's bits, and the threads at these distances after the last one
pub offsets : ℕ → List ℕ
offsets left = filter (λ offset. left / 2 ^ offset % 2 == 1) (0 ∷ 1 ∷ 2 ∷ 3 ∷ 4 ∷ 5 ∷ 6 ∷ 7 ∷ [])

pub threads_in : ℕ → ℕ → List ℕ
threads_in last left = map (λ offset. (last + 1 + offset) % 8) (offsets left)

abbrev pub in_mask : ℕ → ℕ → Bool
in_mask soft thread = soft / 2 ^ thread % 2 == 1

-- a test of numbers from a on, each of which was tried
tried : (p : ℕ → Bool) (a n : ℕ) → list_all p (range_with_len a n) ≡ true → (k : ℕ) → a ≤ k →
    k < a + n → p k ≡ true
tried p a n all k from small =
    let within : k - a < n = omega (arith, from, small) in
    let inside : k - a < length (range_with_len a n) = rw length-range_with_len within in
    let at = AllPass-from_list_all p (range_with_len a n) all (k - a) 0 inside in
    let there : a + (k - a) ≡ k = omega (arith, from) in
    subst (λ x. p x ≡ true) (get_or-range_with_len a n (k - a) 0 within ∙ there) at

-- the mask is rotated so that its lowest bit is the thread after the last one
abbrev turned : ℕ → ℕ → Bool
turned last soft =
    pointwise nat_eq (threads_in last (soft * 257 / 2 ^ (last + 1) % 256))
    (filter (in_mask soft) (after_last last))

all_turned : list_all (λ last. list_all (turned last) (range_with_len 0 256)) (range_with_len 0 8)
    ≡ true
unfolding after_last threads_in offsets
all_turned = refl

pub threads-turned : (last soft : ℕ) → last < 8 → soft < 256 →
    threads_in last (soft * 257 / 2 ^ (last + 1) % 256) ≡ filter (in_mask soft) (after_last last)
threads-turned last soft few small =
    let row = tried (λ last. list_all (turned last) (range_with_len 0 256)) 0 8 all_turned last
    (omega arith) few in
    same_text _ _ (sym (tried (turned last) 0 256 row soft (omega arith) small))

-- the lowest bit is the first offset, and the others are the rest
abbrev splits : ℕ → Bool
splits left =
    pointwise nat_eq (offsets left) (trailing_zeros w32 left ∷ offsets (bit_and left (left - 1)))

all_split : list_all splits (range_with_len 1 255) ≡ true
unfolding offsets count_trailing_zeros
all_split = refl

all_fewer : list_all (λ left. nat_lt (bit_and left (left - 1)) left) (range_with_len 1 255) ≡ true
all_fewer = refl

pub offsets-split : (left : ℕ) → 0 < left → left < 256 →
    offsets left ≡ trailing_zeros w32 left ∷ offsets (bit_and left (left - 1))
offsets-split left some small =
    same_text _ _ (sym (tried splits 1 255 all_split left some small))

-- a search for an element that passes two tests
find-both : (takes soft awake : ℕ → Bool) (xs : List ℕ) →
    All (λ x. takes x ≡ (soft x && awake x)) xs → find takes xs ≡ find awake (filter soft xs)
find-both takes soft awake [] all = refl
find-both takes soft awake (x ∷ xs) all =
    let first = all 0 x (zero-lt-suc (length xs)) in
    let more = find-both takes soft awake xs (λ k d inside. all (suc k) d (suc-le-suc inside)) in
    elim (soft x) as (λ s. takes x ≡ (s && awake x) → cond (takes x) (Some x) (find takes xs)
    ≡ find awake (cond s (x ∷ filter soft xs) (filter soft xs))) [
      | true ↦ λ e. rw (e, more) refl
      | false ↦ λ e. rw (e, more) refl
    ] first

below : (last k : ℕ) → k < 8 → get_or (after_last last) k 0 < 8
unfolding after_last
below last k small =
    rw (get_or-map (λ d. (last + d) % 8) (1 ∷ 2 ∷ 3 ∷ 4 ∷ 5 ∷ 6 ∷ 7 ∷ 8 ∷ []) k 0 0 small)
    (omega arith)

-- the search among the threads of the mask finds the same
pub find-turned : (takes awake : ℕ → Bool) (last soft : ℕ) → last < 8 → soft < 256 →
    ((thread : ℕ) → thread < 8 → takes thread ≡ (in_mask soft thread && awake thread)) →
    find takes (after_last last) ≡ find awake (threads_in last (soft * 257 / 2 ^ (last + 1) % 256))
unfolding after_last
find-turned takes awake last soft few small told =
    let all : All (λ x. takes x ≡ (in_mask soft x && awake x)) (after_last last) =
    All-from_get_or (λ x. takes x ≡ (in_mask soft x && awake x)) (after_last last) 0
    (λ k inside. told (get_or (after_last last) k 0) (below last k inside)) in
    find-both takes (in_mask soft) awake (after_last last) all
    ∙ sym (ap (find awake) (threads-turned last soft few small))

-- the thread of the lowest bit is the first in the order
pub threads-split : (last left : ℕ) → 0 < left → left < 256 → threads_in last left
    ≡ (last + 1 + trailing_zeros w32 left) % 8 ∷ threads_in last (bit_and left (left - 1))
unfolding threads_in
threads-split last left some small =
    ap (map (λ offset. (last + 1 + offset) % 8)) (offsets-split left some small)

pub fewer : (left : ℕ) → 0 < left → left < 256 → bit_and left (left - 1) < left
fewer left some small =
    let less : nat_lt (bit_and left (left - 1)) left ≡ true =
    tried (λ left. nat_lt (bit_and left (left - 1)) left) 1 255 all_fewer left some small in
    grind (arith, nat_tests, less)

-- whether the time has reached a thread's sleep moment
abbrev pub slept : Sched → ℕ → ℕ → Bool
slept s now thread = nat_le (slice_index_or s.sleep thread 0) now

soft_takes : (hard soft awake : Bool) → (soft && ((hard || soft) && awake)) ≡ (soft && awake)
soft_takes true true awake = refl
soft_takes true false awake = refl
soft_takes false true awake = refl
soft_takes false false awake = refl

is_there : (thread : ℕ) → thread < 8 → nat_lt thread 8 ≡ true
is_there thread small = grind (arith, nat_tests)

takes-masked : (s : Sched) (now thread : ℕ) → thread < 8 → takes_donated s now thread
    ≡ (in_mask (threads_that is_soft s.modes) thread && slept s now thread)
unfolding is_awake
takes-masked s now thread small =
    rw (thread_bit is_soft s.modes thread, is_there thread small)
    (soft_takes (mode_of s.modes thread == 0) (mode_of s.modes thread == 2) (slept s now thread))

-- the search by the mask of the soft threads has the search's result
pub found-masked : (s : Sched) (now last : ℕ) → last < 8 →
    find (takes_donated s now) (after_last last) ≡ find (slept s now)
    (threads_in last (threads_that is_soft s.modes * 257 / 2 ^ (last + 1) % 256))
found-masked s now last few =
    find-turned (takes_donated s now) (slept s now) last (threads_that is_soft s.modes) few
    (soft_below s.modes) (takes-masked s now)

none_turned :
    list_all (λ last. pointwise nat_eq (threads_in last (0 * 257 / 2 ^ (last + 1) % 256)) [])
    (range_with_len 0 8) ≡ true
unfolding threads_in offsets
none_turned = refl

-- the search finds none if no thread is soft
pub found-none : (s : Sched) (now last : ℕ) → last < 8 → threads_that is_soft s.modes ≡ 0 →
    find (takes_donated s now) (after_last last) ≡ None
found-none s now last few none =
    let empty = same_text _ _ (sym (tried (λ last. pointwise nat_eq (threads_in last
    (0 * 257 / 2 ^ (last + 1) % 256)) []) 0 8 none_turned last (omega arith) few)) in
    found-masked s now last few
    ∙ ap (λ soft. find (slept s now) (threads_in last (soft * 257 / 2 ^ (last + 1) % 256))) none
    ∙ ap (find (slept s now)) empty

pub found-lowest : (awake : ℕ → Bool) (last left : ℕ) → 0 < left →
    left < 256 → awake ((last + 1 + trailing_zeros w32 left) % 8) ≡ true →
    find awake (threads_in last left) ≡ Some ((last + 1 + trailing_zeros w32 left) % 8)
found-lowest awake last left some small is = rw (threads-split last left some small, is) refl

pub found-later : (awake : ℕ → Bool) (last left : ℕ) → 0 < left →
    left < 256 → awake ((last + 1 + trailing_zeros w32 left) % 8) ≡ false →
    find awake (threads_in last left) ≡ find awake (threads_in last (bit_and left (left - 1)))
found-later awake last left some small not = rw (threads-split last left some small, not) refl

pub found-no_more : (awake : ℕ → Bool) (last : ℕ) → find awake (threads_in last 0) ≡ None
unfolding threads_in offsets
found-no_more awake last = refl
