-- Reading a written file gives the image.
use Rattle.std.proofs.Common.{◌≡◌, ◌≤◌, ℕ, ◌+◌, ◌*◌, nat_lt, not, Bool, false}
use Rattle.std.proofs.Common.{IsTrue, List, [], ◌∷◌, ◌++◌, length, take, drop, Ok}
use Rattle.std.proofs.Common.{refl, ap, ◌∙◌, arith, append_assoc, length-append}
use Rattle.std.proofs.lemmas.Bool.Decides.{nat_tests}
use Rattle.std.proofs.Math.Seq.{take-append_seam, drop-append_seam, drop-append-add}
use Rattle.std.specs.List.{flat_map}
use Rattle.byteorder.specs.Endian.{little_bytes}
use Rattle.byteorder.specs.Numbers.{little_number-reads_back}
use Rattle.region_guard.specs.Regions.{IsSize}
use Rattle.fp_image.specs.Rules.{IsImage, Rises, is_placed, end_of}
use Rattle.fp_image.specs.Checks.{first_fault, unless, and_then}
use Rattle.fp_image.specs.Format.{image_of, count_of, segment_of, segments_of}
use Rattle.fp_image.specs.Format.{segment_written, file_of, longest, number_at, check}
use Rattle.fp_image.specs.declared.parts.Segment.{Segment}
use Rattle.fp_image.specs.declared.refusals.ImageNo.{ImageNo}
use Rattle.fp_image.specs.declared.refusals.ImageNo.TheVariants.{TooLong, Magic}
use Rattle.fp_image.specs.declared.refusals.ImageNo.TheVariants.{Truncated, BadSegment}
use Rattle.fp_image.proofs.Rising.{total_len, Rises-total, placed_facts, small_len, place_small}

-- four checks that don't fail
passes : {A : Type 0} (a b c d : Bool) (p q r s : ImageNo) (i j k l : ℕ) (v : A) →
    a ≡ false → b ≡ false → c ≡ false → d ≡ false →
    unless (first_fault (check a p i ∷ check b q j ∷ check c r k ∷ check d s l ∷ [])) v ≡ Ok v
passes a b c d p q r s i j k l v ha hb hc hd = rw (ha, hb, hc, hd) refl

-- the first segment of the rest of a file, by the bytes there
segment_of-by : (size total from : ℕ) (w : List ℕ) (s : Segment) → 8 + length s.bytes ≤ length w →
    number_at 0 w ≡ s.address → number_at 4 w ≡ length s.bytes → take (length s.bytes)
    (drop 8 w) ≡ s.bytes → IsTrue (is_placed size s.address (length s.bytes)) → from ≤ s.address →
    segment_of size total from w ≡ Ok s
unfolding segment_of
segment_of-by size total from w s long address len bytes placed after =
    let t1 : nat_lt (length w) 8 ≡ false = grind (arith, nat_tests) in
    let t2 : not (is_placed size (number_at 0 w) (number_at 4 w)) ≡ false =
    rw (address, len) (ap not placed) in
    let t3 : nat_lt (number_at 0 w) from ≡ false = rw address (grind (arith, nat_tests)) in
    let t4 : nat_lt (length w) (8 + number_at 4 w) ≡ false = rw len (grind (arith, nat_tests)) in
    let body : take (number_at 4 w) (drop 8 w) ≡ s.bytes =
    ap (λ n. take n (drop 8 w)) len ∙ bytes in
    let same : ◌≡◌ {A = Segment}
    (record { address = number_at 0 w; bytes = take (number_at 4 w) (drop 8 w) }) s =
    λ i. record { address = address i; bytes = body i } in
    passes _ _ _ _ _ _ _ _ _ _ _ _ _ t1 t2 t3 t4 ∙ ap Ok same

segment_of-written : (size total from : ℕ) (s : Segment) (rest : List ℕ) → size ≤ 65536 →
    IsTrue (is_placed size s.address (length s.bytes)) → from ≤ s.address → segment_of size total
    from (little_bytes 4 s.address ++ (little_bytes 4 (length s.bytes) ++ (s.bytes ++ rest))) ≡ Ok s
segment_of-written size total from s rest small placed after =
    let facts = placed_facts size s.address (length s.bytes) placed in
    let len_small : length s.bytes ≤ 65536 =
    small_len size s.address (length s.bytes) small facts.where_it_is in
    segment_of-by size total from _ s
    (simp length-append (omega arith))
    (little_number-reads_back 4 s.address (little_bytes 4 (length s.bytes) ++ (s.bytes ++ rest))
    (place_small size s.address (length s.bytes) small facts.where_it_is))
    (little_number-reads_back 4 (length s.bytes) (s.bytes ++ rest) (omega arith))
    (take-append_seam s.bytes rest) placed after

drop_segment : (s : Segment) (rest : List ℕ) → drop (8 + length s.bytes)
    (little_bytes 4 s.address ++ (little_bytes 4 (length s.bytes) ++ (s.bytes ++ rest))) ≡ rest
drop_segment s rest =
    drop-append-add (little_bytes 4 s.address ++ little_bytes 4 (length s.bytes)) (s.bytes ++ rest)
    (length s.bytes) ∙ drop-append_seam s.bytes rest

segments_of-written : (size total from : ℕ) (xs : List Segment) → size ≤ 65536 → Rises size from xs
    → segments_of size total (length xs) from (flat_map segment_written xs) ≡ Ok xs
unfolding segments_of
segments_of-written size total from [] small h = refl
segments_of-written size total from (s ∷ more) small h =
    let rest : List ℕ = flat_map segment_written more in
    let apart : flat_map segment_written (s ∷ more) ≡ little_bytes 4 s.address
    ++ (little_bytes 4 (length s.bytes) ++ (s.bytes ++ rest)) = simp append_assoc in
    let first = segment_of-written size total from s rest small h.0 h.1 in
    let after : drop (8 + length s.bytes) (little_bytes 4 s.address
    ++ (little_bytes 4 (length s.bytes) ++ (s.bytes ++ rest))) ≡ rest = drop_segment s rest in
    let next = segments_of-written size total (end_of s) more small h.2 in
    ap (λ w. and_then (segment_of size total from w) (λ t. and_then (segments_of size total
    (length more) (end_of t) (drop (8 + length t.bytes) w)) (λ ts. Ok (t ∷ ts)))) apart
    ∙ ap (λ r. and_then r (λ t. and_then (segments_of size total (length more)
    (end_of t) (drop (8 + length t.bytes) (little_bytes 4 s.address
    ++ (little_bytes 4 (length s.bytes) ++ (s.bytes ++ rest))))) (λ ts. Ok (t ∷ ts)))) first
    ∙ ap (λ w. and_then (segments_of size total (length more) (end_of s) w) (λ ts. Ok (s ∷ ts)))
    after ∙ ap (λ r. and_then r (λ ts. Ok (s ∷ ts))) next

length_written : (xs : List Segment) →
    length (flat_map segment_written xs) ≡ 8 * length xs + total_len xs
length_written [] = refl
length_written (s ∷ more) = simp length-append (omega (arith, length_written more))

longest_enough : (size n : ℕ) → IsSize size → n ≤ 136 + (size + size) → n ≤ longest size
longest_enough size n s h = grind (arith, nat_tests)

size_small : (size : ℕ) → IsSize size → size ≤ 65536
size_small size s = grind arith

count_of-written : (size : ℕ) (xs : List Segment) → length xs ≤ 16 →
    length (file_of xs) ≤ longest size → count_of size (file_of xs) ≡ Ok (length xs)
unfolding count_of file_of
count_of-written size xs few fits =
    let back : number_at 4 (file_of xs) ≡ length xs =
    little_number-reads_back 4 (length xs) (flat_map segment_written xs) (omega arith) in
    let t1 : nat_lt (longest size) (length (file_of xs)) ≡ false = grind (arith, nat_tests) in
    let t3 : nat_lt (length (file_of xs)) 8 ≡ false = grind (arith, nat_tests) in
    let t4 : nat_lt 16 (number_at 4 (file_of xs)) ≡ false = rw back (grind (arith, nat_tests)) in
    passes _ _ _ _ TooLong Magic Truncated BadSegment 0 0 (length (file_of xs)) 4 _ t1 refl t3 t4
    ∙ ap Ok back

length_all : (size : ℕ) (xs : List Segment) → size ≤ 65536 → IsImage size xs →
    length (file_of xs) ≤ 136 + (size + size)
unfolding file_of
length_all size xs small h =
    omega (arith, h.few, length_written xs, Rises-total size 0 xs small h.rising)

-- The file of an image for scratchpads of a size is read as that image.
pub image_of-written : (size : ℕ) (xs : List Segment) → IsSize size → IsImage size xs →
    image_of size (file_of xs) ≡ Ok xs
unfolding image_of file_of
image_of-written size xs s h =
    let small = size_small size s in
    ap (λ r.
    and_then r (λ count. segments_of size (length (file_of xs)) count 0 (drop 8 (file_of xs))))
    (count_of-written size xs h.few (longest_enough size _ s (length_all size xs small h)))
    ∙ segments_of-written size (length (file_of xs)) 0 xs small h.rising
