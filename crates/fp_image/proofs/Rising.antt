-- Segments that rise, and one more after them.
use Rattle.std.proofs.Common.{◌≡◌, ◌⊎◌, ◌≤◌, ◌<◌, ℕ, zero, suc, ◌+◌, ◌-◌, ◌^◌, Bool}
use Rattle.std.proofs.Common.{true, false, IsTrue, nat_le, List, [], ◌∷◌, ◌++◌, length}
use Rattle.std.proofs.Common.{slice_index_or, inl, inr, refl, arith, length-append}
use Rattle.std.proofs.lemmas.Bool.Decides.{nat_tests}
use Rattle.region_guard.specs.Regions.{IsSize}
use Rattle.fp_image.specs.Rules.{is_placed, end_of, Rises, IsImage}
use Rattle.fp_image.specs.declared.parts.Segment.{Segment}

-- the end of the last segment
abbrev pub ends : ℕ → List Segment → ℕ
ends from [] = from
ends from (s ∷ more) = ends (end_of s) more

-- The facts of a segment that lies inside a scratchpad.
pub record Placed (size address len : ℕ) : Type 0 where
  pub some : 0 < len
  pub where_it_is : (address + len ≤ size)
      ⊎ ((0x20000000 ≤ address) × (address + len ≤ 0x20000000 + size))

placed_where : (size address len : ℕ) → IsTrue (is_placed size address len) →
    (low : Bool) → nat_le (address + len) size ≡ low →
    (address + len ≤ size) ⊎ ((0x20000000 ≤ address) × (address + len ≤ 0x20000000 + size))
placed_where size address len h true e = inl (grind (arith, nat_tests))
placed_where size address len h false e = inr (grind (arith, nat_tests), grind (arith, nat_tests))

pub placed_facts : (size address len : ℕ) → IsTrue (is_placed size address len) →
    Placed size address len
placed_facts size address len h = record {
  some = grind (arith, nat_tests);
  where_it_is = placed_where size address len h (nat_le (address + len) size) refl;
}

pub placed-wider : (size address len : ℕ) → IsSize size → IsTrue (is_placed size address len) →
    IsTrue (is_placed 65536 address len)
placed-wider size address len s h = grind (arith, nat_tests)

pub Rises-wider : (size from : ℕ) (xs : List Segment) → IsSize size → Rises size from xs →
    Rises 65536 from xs
Rises-wider size from [] s h = tt
Rises-wider size from (x ∷ xs) s h =
    (placed-wider size x.address (length x.bytes) s h.0, h.1, Rises-wider size (end_of x) xs s h.2)

pub Rises-append : (size from : ℕ) (xs : List Segment) (s : Segment) → Rises size from xs →
    IsTrue (is_placed size s.address (length s.bytes)) → ends from xs ≤ s.address →
    Rises size from (xs ++ s ∷ [])
Rises-append size from [] s h placed after = (placed, after, tt)
Rises-append size from (x ∷ xs) s h placed after =
    (h.0, h.1, Rises-append size (end_of x) xs s h.2 placed after)

pub ends-append : (from : ℕ) (xs : List Segment) (s : Segment) → ends from (xs ++ s ∷ []) ≡ end_of s
ends-append from [] s = refl
ends-append from (x ∷ xs) s = ends-append (end_of x) xs s

pub IsImage-append : (size : ℕ) (xs : List Segment) (s : Segment) → IsImage size xs →
    length xs < 16 → IsTrue (is_placed size s.address (length s.bytes)) → ends 0 xs ≤ s.address →
    IsImage size (xs ++ s ∷ [])
IsImage-append size xs s h few placed after = record {
  few = simp length-append (omega arith);
  rising = Rises-append size 0 xs s h.rising placed after;
}

pub IsImage-wider : (size : ℕ) (xs : List Segment) → IsSize size → IsImage size xs →
    IsImage 65536 xs
IsImage-wider size xs s h = record { few = h.few; rising = Rises-wider size 0 xs s h.rising }

-- the number of bytes that segments hold
abbrev pub total_len : List Segment → ℕ
total_len [] = 0
total_len (s ∷ more) = length s.bytes + total_len more

-- the bytes of both scratchpads from an offset on
abbrev room : ℕ → ℕ → ℕ
room size from = (size - from) + (size - (from - 0x20000000))

room-less : (size from address len : ℕ) → size ≤ 65536 → from ≤ address →
    (address + len ≤ size) ⊎ ((0x20000000 ≤ address) × (address + len ≤ 0x20000000 + size)) →
    len + room size (address + len) ≤ room size from
room-less size from address len small after (inl low) = omega arith
room-less size from address len small after (inr high) = omega arith

-- together they fit in the scratchpads
pub Rises-total : (size from : ℕ) (xs : List Segment) → size ≤ 65536 → Rises size from xs →
    total_len xs ≤ room size from
Rises-total size from [] small h = omega arith
Rises-total size from (x ∷ xs) small h =
    let more = Rises-total size (end_of x) xs small h.2 in
    let facts = placed_facts size x.address (length x.bytes) h.0 in
    let less = room-less size from x.address (length x.bytes) small h.1 facts.where_it_is in
    omega (arith, more, less)

pub small_len : (size address len : ℕ) → size ≤ 65536 →
    (address + len ≤ size) ⊎ ((0x20000000 ≤ address) × (address + len ≤ 0x20000000 + size)) →
    len ≤ 65536
small_len size address len small (inl low) = omega arith
small_len size address len small (inr high) = omega arith

pub place_small : (size address len : ℕ) → size ≤ 65536 →
    (address + len ≤ size) ⊎ ((0x20000000 ≤ address) × (address + len ≤ 0x20000000 + size)) →
    address < 2 ^ 32
place_small size address len small (inl low) = omega arith
place_small size address len small (inr high) = omega arith

-- the number of bytes of each segment is small
pub Rises-small : (size from : ℕ) (xs : List Segment) (k : ℕ) (d : Segment) → size ≤ 65536 →
    Rises size from xs → k < length xs → length (slice_index_or xs k d).bytes ≤ 65536
Rises-small size from [] k d small h below = absurd (omega arith)
Rises-small size from (x ∷ xs) zero d small h below =
    let facts = placed_facts size x.address (length x.bytes) h.0 in
    small_len size x.address (length x.bytes) small facts.where_it_is
Rises-small size from (x ∷ xs) (suc k) d small h below =
    Rises-small size (end_of x) xs k d small h.2 (omega arith)
