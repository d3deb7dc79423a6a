-- The checks of a segment, one after another.
use Rattle.std.proofs.Common.{◌≡◌, ℕ, ◌+◌, ◌-◌, ◌<◌, ◌≤◌, true, false, List, length}
use Rattle.std.proofs.Common.{take, drop, Option, Some, None, Result, Ok, Err, refl}
use Rattle.std.proofs.Common.{ap, sym, ◌∙◌, arith, rules, length-drop, length-take-le}
use Rattle.std.specs.Prelude.{IsTrue, nat_lt}
use Rattle.std.proofs.lemmas.Bool.{le-ltb}
use Rattle.std.proofs.lemmas.List.{take_all}
use Rattle.byteorder.specs.Endian.{little_number}
use Rattle.std.proofs.lemmas.Bool.Decides.{nat_tests}
use Rattle.fp_image.specs.declared.parts.Segment.{Segment}
use Rattle.fp_image.specs.declared.refusals.ImageNo.TheVariants.{Truncated, BadSegment, Overlap}
use Rattle.fp_image.specs.declared.refusals.ImageRefused.{ImageRefused}
use Rattle.fp_image.specs.declared.refusals.ImageRefused.TheVariants.{Fault}
use Rattle.fp_image.specs.Checks.{first_fault, unless}
use Rattle.fp_image.specs.Format.{number_at, segment_checks, segment_of}
use Rattle.fp_image.specs.Rules.{is_placed}

less : (a b : ℕ) → a < b → nat_lt a b ≡ true
less a b h = grind (arith, nat_tests)

-- the number at an offset, read from the rest of the file there
pub number-behind : (n offset : ℕ) (bytes : List ℕ) →
    n ≡ little_number 4 (take (length bytes - offset) (drop offset bytes)) →
    n ≡ number_at offset bytes
number-behind n offset bytes is =
    is ∙ ap (little_number 4)
    (take_all (length bytes - offset) (drop offset bytes) (omega (arith, length-drop offset bytes)))

-- a segment by the first of its checks that fails, or none
by-checks : (size total from : ℕ) (rest : List ℕ) (o : Option ImageRefused) →
    first_fault (segment_checks size total from rest) ≡ o →
    segment_of size total from rest ≡ unless o
    (record { address = number_at 0 rest; bytes = take (number_at 4 rest) (drop 8 rest) })
unfolding segment_of
by-checks size total from rest o e = rw e refl

refused : (e f : ImageRefused) (r : Result Segment ImageRefused) → e ≡ f → r ≡ Err f →
    Path (Result Segment ImageRefused) (Err e) r
refused e f r is told =
    ap (λ (x : ImageRefused). let s : Result Segment ImageRefused = Err x in s) is ∙ sym told

-- the file ends before its address and its length
pub cut-front : (size total from : ℕ) (rest : List ℕ) (e : ImageRefused) →
    length rest < 8 → e ≡ Fault Truncated total →
    Path (Result Segment ImageRefused) (Err e) (segment_of size total from rest)
cut-front size total from rest e short is =
    refused e _ _ is
    (by-checks size total from rest (Some (Fault Truncated total)) (rw (less _ _ short) refl))

module _ (size total from address len : ℕ) (rest : List ℕ) (at : address ≡ number_at 0 rest)
    (lasts : len ≡ number_at 4 rest) (long : 8 ≤ length rest) where
  front : nat_lt (length rest) 8 ≡ false
  front = le-ltb _ _ long

  -- the segment doesn't lie inside a scratchpad
  pub misplaced : (e : ImageRefused) → is_placed size address len ≡ false →
      e ≡ Fault BadSegment (total - length rest) →
      Path (Result Segment ImageRefused) (Err e) (segment_of size total from rest)
  misplaced e bad is =
      refused e _ _ is (by-checks size total from rest
      (Some (Fault BadSegment (total - length rest))) (rw (front, ← at, ← lasts, bad) refl))

  -- the segment begins before the end of the one before it
  pub overlaps : (e : ImageRefused) → is_placed size address len ≡ true →
      address < from → e ≡ Fault Overlap (total - length rest) →
      Path (Result Segment ImageRefused) (Err e) (segment_of size total from rest)
  overlaps e placed low is =
      refused e _ _ is (by-checks size total from rest (Some (Fault Overlap (total - length rest)))
      (rw (front, ← at, ← lasts, placed, less _ _ low) refl))

  -- the file ends before the bytes of the segment do
  pub cut-bytes : (e : ImageRefused) → is_placed size address len ≡ true →
      from ≤ address → length rest < 8 + len → e ≡ Fault Truncated total →
      Path (Result Segment ImageRefused) (Err e) (segment_of size total from rest)
  cut-bytes e placed rises short is =
      let after : nat_lt address from ≡ false = le-ltb _ _ rises in
      refused e _ _ is (by-checks size total from rest (Some (Fault Truncated total))
      (rw (front, ← at, ← lasts, placed, after, less _ _ short) refl))

  -- the segment is read
  pub is-read : (bytes : List ℕ) → is_placed size address len ≡ true →
      from ≤ address → 8 + len ≤ length rest → bytes ≡ take len (drop 8 rest) →
      Path (Result Segment ImageRefused) (Ok (record { address = address; bytes = bytes }))
      (segment_of size total from rest)
  is-read bytes placed rises whole are =
      let after : nat_lt address from ≡ false = le-ltb _ _ rises in
      let all : nat_lt (length rest) (8 + len) ≡ false = le-ltb _ _ whole in
      rw (are, at, lasts) (sym
      (by-checks size total from rest None (rw (front, ← at, ← lasts, placed, after, all) refl)))

-- the segment has as many bytes as its length field says
pub read-length : (len : ℕ) (bytes rest : List ℕ) → 8 + len ≤ length rest →
    bytes ≡ take len (drop 8 rest) → length bytes ≡ len
read-length len bytes rest whole are =
    ap length are ∙ length-take-le len (drop 8 rest) (omega (arith, length-drop 8 rest))

-- the segment lies inside a scratchpad
pub read-placed : (size address len n : ℕ) → is_placed size address len ≡ true → n ≡ len →
    IsTrue (is_placed size address n)
read-placed size address len n placed is = rw (is, placed) (search rules)
