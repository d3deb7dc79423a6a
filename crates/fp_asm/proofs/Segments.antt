-- Runs as the segments of an image.
use Rattle.std.proofs.Common.{◌≡◌, ℕ, zero, suc, ◌<◌, ◌≤◌, ◌+◌, ◌*◌, ◌%◌, ◌^◌}
use Rattle.std.proofs.Common.{◌==◌, ◌&&◌, ◌||◌, ◌⊎◌, inl, inr, Bool, true, false}
use Rattle.std.proofs.Common.{cond, List, [], ◌∷◌, ◌++◌, map, take, length, get_or}
use Rattle.std.proofs.Common.{refl, ap, subst, arith, length-append, nat_lt, nat_le}
use Rattle.std.proofs.lemmas.List.{length-map, length-take}
use Rattle.std.proofs.lemmas.Bool.Decides.{nat_tests}
use Rattle.fp_image.specs.declared.parts.Segment.{Segment}
use Rattle.fp_image.specs.Rules.{IsImage, Rises, is_placed, end_of}
use Rattle.fp_asm.specs.First.{is_inside}
use Rattle.fp_asm.specs.Second.{Memory}
use Rattle.fp_asm.specs.Runs.{runs_from, runs_of, word_at, word_bytes}
use Rattle.fp_asm.specs.Runs.{bytes_from, segment_of, ArePlaced}
use Rattle.fp_asm.specs.declared.runs.Run.{Run}

pub length-bytes_from : (memory : Memory) (a n : ℕ) → length (bytes_from memory a n) ≡ 4 * n
unfolding bytes_from
length-bytes_from memory a zero = refl
length-bytes_from memory a (suc n) = omega (
  arith,
  length-append (word_bytes (word_at memory a)) (bytes_from memory (a + 4) n),
  length-bytes_from memory (a + 4) n,
)

-- a prefix of an image rises too
rises_front : (size from k : ℕ) (ss : List Segment) → Rises size from ss →
    Rises size from (take k ss)
rises_front size from zero ss h = tt
rises_front size from (suc k) [] h = tt
rises_front size from (suc k) (s ∷ ss) h = (h.0, h.1, rises_front size (end_of s) k ss h.2)

image_front : (k : ℕ) (ss : List Segment) → IsImage 65536 ss → IsImage 65536 (take k ss)
image_front k ss h = record {
  few = rw length-take (omega (arith, h.few));
  rising = rises_front 65536 0 k ss h.rising;
}

map-take-suc : (f : Run → Segment) (rs : List Run) (k : ℕ) (d : Run) → k < length rs →
    map f (take k rs) ++ f (get_or rs k d) ∷ [] ≡ take (suc k) (map f rs)
map-take-suc f [] k d h = absurd (omega (arith, h))
map-take-suc f (r ∷ rs) zero d h = refl
map-take-suc f (r ∷ rs) (suc k) d h = ap (λ ss. f r ∷ ss) (map-take-suc f rs k d (omega (arith, h)))

-- an image of the segments so far and one more
pub image_more : (memory : Memory) (rs : List Run) (k : ℕ) (d : Run) →
    IsImage 65536 (map (segment_of memory) rs) → k < length rs →
    IsImage 65536 (map (segment_of memory) (take k rs) ++ segment_of memory (get_or rs k d) ∷ [])
image_more memory rs k d h lt =
    rw (map-take-suc (segment_of memory) rs k d lt)
    (image_front (suc k) (map (segment_of memory) rs) h)

placed_short : (a len : ℕ) → is_placed 65536 a len ≡ true → a + len < 2 ^ 32
placed_short a len h = grind (arith, nat_tests, h)

rises_short : (from k : ℕ) (ss : List Segment) (d : Segment) → Rises 65536 from ss → k < length ss →
    (get_or ss k d).address + length (get_or ss k d).bytes < 2 ^ 32
rises_short from k [] d h lt = absurd (omega (arith, lt))
rises_short from zero (s ∷ ss) d h lt = placed_short s.address (length s.bytes) h.0
rises_short from (suc k) (s ∷ ss) d h lt = rises_short (end_of s) k ss d h.2 (omega (arith, lt))

get_or-map : (f : Run → Segment) (rs : List Run) (k : ℕ) (d : Run) →
    get_or (map f rs) k (f d) ≡ f (get_or rs k d)
get_or-map f [] k d = refl
get_or-map f (r ∷ rs) zero d = refl
get_or-map f (r ∷ rs) (suc k) d = get_or-map f rs k d

-- a run of an image ends below 2^32
pub all_short : (memory : Memory) (rs : List Run) (k : ℕ) (d : Run) →
    IsImage 65536 (map (segment_of memory) rs) → k < length rs →
    (get_or rs k d).first + 4 * (get_or rs k d).count < 2 ^ 32
all_short memory rs k d h lt =
    let f = segment_of memory in
    let short = rises_short 0 k (map f rs) (f d) h.rising (rw length-map lt) in
    let same = get_or-map f rs k d in
    let size = length-bytes_from memory (get_or rs k d).first (get_or rs k d).count in
    omega (arith, rw same at short, size)

-- A run inside one scratchpad.
pub data IsWithin (a n : ℕ) : Type 0 where
  code : a + 4 * n ≤ 16384 → IsWithin a n
  data_ : 0x20000000 ≤ a → a + 4 * n ≤ 0x20004000 → IsWithin a n

placed_code : (a n : ℕ) → a % 4 ≡ 0 → 0 < n → a + 4 * n ≤ 16384 → is_placed 65536 a (4 * n) ≡ true
placed_code a n h some e = grind (arith, nat_tests, h, some, e)

placed_data : (a n : ℕ) → a % 4 ≡ 0 → 0 < n → 0x20000000 ≤ a → a + 4 * n ≤ 0x20004000 →
    is_placed 65536 a (4 * n) ≡ true
placed_data a n h some k e = grind (arith, nat_tests, h, some, k, e)

is_placed_run : (memory : Memory) (a n : ℕ) → a % 4 ≡ 0 → 0 < n → IsWithin a n →
    is_placed 65536 a (length (bytes_from memory a n)) ≡ true
is_placed_run memory a n h some (code e) =
    rw (length-bytes_from memory a n) (placed_code a n h some e)
is_placed_run memory a n h some (data_ k e) =
    rw (length-bytes_from memory a n) (placed_data a n h some k e)

inside : (b : ℕ) → is_inside b ≡ true → (b < 16384) ⊎ ((0x20000000 ≤ b) × (b < 0x20004000))
inside b h = go (nat_lt b 16384) refl h
  where
    go : (low : Bool) → nat_lt b 16384 ≡ low →
        (low || (nat_le 0x20000000 b && nat_lt b 0x20004000)) ≡ true →
        (b < 16384) ⊎ ((0x20000000 ≤ b) × (b < 0x20004000))
    go true e k = inl (grind (arith, nat_tests, e))
    go false e k = inr (grind (arith, nat_tests, k), grind (arith, nat_tests, k))

one_within : (b : ℕ) → is_inside b ≡ true → b % 4 ≡ 0 → IsWithin b 1
one_within b h k = go (inside b h)
  where
    go : (b < 16384) ⊎ ((0x20000000 ≤ b) × (b < 0x20004000)) → IsWithin b 1
    go (inl lt) = code (omega (arith, lt, k))
    go (inr p) = data_ p.0 (omega (arith, p.1, k))

more_within : (a n : ℕ) → IsWithin a n → is_inside (a + 4 * n) ≡ true → (a + 4 * n) % 4 ≡ 0 →
    IsWithin a (n + 1)
more_within a n w h k = go w (inside (a + 4 * n) h)
  where
    go : IsWithin a n →
        (a + 4 * n < 16384) ⊎ ((0x20000000 ≤ a + 4 * n) × (a + 4 * n < 0x20004000)) →
        IsWithin a (n + 1)
    go (code e) (inl lt) = code (omega (arith, lt, k))
    go (code e) (inr p) = absurd (omega (arith, e, p.0))
    go (data_ m e) (inl lt) = absurd (omega (arith, m, lt))
    go (data_ m e) (inr p) = data_ m (omega (arith, p.1, k))

-- runs of placed addresses rise, and each may be a segment
runs_rise : (memory : Memory) (from a n : ℕ) (bs : List ℕ) → from ≤ a →
    a % 4 ≡ 0 → 0 < n → IsWithin a n → ArePlaced (a + 4 * n) bs →
    Rises 65536 from (map (segment_of memory) (runs_from a n bs))
unfolding runs_from
runs_rise memory from a n [] low h some w ps = (is_placed_run memory a n h some w, low, tt)
runs_rise memory from a n (b ∷ bs) low h some w ps =
    go (b == a + 4 * n) refl
    (λ e. runs_rise memory from a (n + 1) bs low h (omega arith)
    (more_within a n w (subst (λ x. is_inside x ≡ true) e ps.1) (subst (λ x. x % 4 ≡ 0) e ps.2))
    (subst (λ x. ArePlaced x bs) (omega (arith, e)) ps.3))
    (runs_rise memory (a + length (bytes_from memory a n)) b 1 bs
    (omega (arith, length-bytes_from memory a n, ps.0)) ps.2 (omega arith) (one_within b ps.1 ps.2)
    (subst (λ x. ArePlaced x bs) (omega arith) ps.3))
  where
    go : (t : Bool) → (b == a + 4 * n) ≡ t
        → (b ≡ a + 4 * n → Rises 65536 from (map (segment_of memory) (runs_from a (n + 1) bs)))
        → Rises 65536 (a + length (bytes_from memory a n))
        (map (segment_of memory) (runs_from b 1 bs)) → Rises 65536 from (map (segment_of memory)
        (cond t (runs_from a (n + 1) bs) (record { first = a; count = n } ∷ runs_from b 1 bs)))
    go true e on off = on (grind (arith, nat_tests, e))
    go false e on off = (is_placed_run memory a n h some w, low, off)

all_rise : (memory : Memory) (addresses : List ℕ) → ArePlaced 0 addresses →
    Rises 65536 0 (map (segment_of memory) (runs_of addresses))
unfolding runs_of
all_rise memory [] ps = tt
all_rise memory (b ∷ bs) ps =
    runs_rise memory 0 b 1 bs (omega arith) ps.2 (omega arith) (one_within b ps.1 ps.2)
    (subst (λ x. ArePlaced x bs) (omega arith) ps.3)

-- the runs of placed addresses are an image, if there are at most 16
pub runs_image : (memory : Memory) (addresses : List ℕ) → ArePlaced 0 addresses →
    length (runs_of addresses) ≤ 16 → IsImage 65536 (map (segment_of memory) (runs_of addresses))
runs_image memory addresses ps few =
    record { few = rw length-map few; rising = all_rise memory addresses ps }

-- there are fewer placed addresses than words below the end of the data scratchpad
pub placed_few : (from : ℕ) (addresses : List ℕ) → ArePlaced from addresses → from ≤ 0x20004000 →
    from + 4 * length addresses ≤ 0x20004000
placed_few from [] ps h = omega (arith, h)
placed_few from (a ∷ more) ps h = go (inside a ps.1) (placed_few (a + 4) more ps.3)
  where
    go : (a < 16384) ⊎ ((0x20000000 ≤ a) × (a < 0x20004000)) →
        (a + 4 ≤ 0x20004000 → (a + 4) + 4 * length more ≤ 0x20004000) →
        from + 4 * length (a ∷ more) ≤ 0x20004000
    go (inl lt) rest = omega (arith, ps.0, rest (omega (arith, lt)))
    go (inr p) rest = omega (arith, ps.0, rest (omega (arith, p.1, ps.2)))
