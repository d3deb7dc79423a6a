-- The image file FPX1: the four bytes of its name, the number of segments, and for each segment its
-- address, its length and its bytes. Numbers are four bytes, the lowest first. Source: this
-- project's profile.
use Rattle.std.specs.Prelude.{◌≡◌, ◌⊎◌, ℕ, zero, suc, ◌+◌, ◌-◌, ◌==◌, nat_lt}
use Rattle.std.specs.Prelude.{nat_eq, Bool, not, if◌then◌else◌, List, [], ◌∷◌}
use Rattle.std.specs.Prelude.{◌++◌, length, take, drop, codes, Result, Ok, Err}
use Rattle.std.specs.List.{starts_with, flat_map}
use Rattle.byteorder.specs.Endian.{little_number, little_bytes}
use Rattle.region_guard.specs.Regions.{IsSize}
use Rattle.region_guard.specs.MemoryMap.{small_size}
use Rattle.fp_image.specs.Checks.{Check, first_fault, unless, and_then}
use Rattle.fp_image.specs.Rules.{IsImage, is_placed, most_segments}
use Rattle.fp_image.specs.declared.parts.Segment.{Segment}
use Rattle.fp_image.specs.declared.refusals.ImageNo.{ImageNo}
use Rattle.fp_image.specs.declared.refusals.ImageNo.TheVariants.{TooLong, Magic, Truncated}
use Rattle.fp_image.specs.declared.refusals.ImageNo.TheVariants.{BadSegment, Overlap, Trailing}
use Rattle.fp_image.specs.declared.refusals.ImageRefused.{ImageRefused}
use Rattle.fp_image.specs.declared.refusals.ImageRefused.TheVariants.{Fault, NoMemory}

-- the greatest length of a file, from the size of a scratchpad: the bytes of both scratchpads, plus
-- an eighth of one for the bytes around the segments, which is more than they need
abbrev pub longest : ℕ → ℕ
longest size = if size == small_size then 34816 else 139264

-- a number of the file
abbrev pub number_at : ℕ → List ℕ → ℕ
number_at offset bytes = little_number 4 (drop offset bytes)

-- a check: whether it fails, its fault and the offset that is reported
abbrev pub check : Bool → ImageNo → ℕ → Check ImageRefused
check fails code offset = record { fails = fails; fault = Fault code offset }

-- the checks before the segments, in their order
abbrev pub header_checks : ℕ → List ℕ → List (Check ImageRefused)
header_checks size file = check (nat_lt (longest size) (length file)) TooLong 0
    ∷ check (not (starts_with nat_eq file (codes "FPX1"))) Magic 0
    ∷ check (nat_lt (length file) 8) Truncated (length file)
    ∷ check (nat_lt most_segments (number_at 4 file)) BadSegment 4
    ∷ []

-- the checks of a segment, in their order, in a file of a given total length. `rest` is the file
-- from the segment's address field on, and the segment before ends at `from`
abbrev pub segment_checks : ℕ → ℕ → ℕ → List ℕ → List (Check ImageRefused)
segment_checks size total from rest =
    check (nat_lt (length rest) 8) Truncated total
    ∷ check (not (is_placed size (number_at 0 rest) (number_at 4 rest))) BadSegment
    (total - length rest) ∷ check (nat_lt (number_at 0 rest) from) Overlap (total - length rest)
    ∷ check (nat_lt (length rest) (8 + number_at 4 rest)) Truncated total
    ∷ []

-- the check after the segments
abbrev pub end_checks : ℕ → List ℕ → List (Check ImageRefused)
end_checks total rest = check (nat_lt 0 (length rest)) Trailing (total - length rest) ∷ []

-- a result that is the defined one, unless memory ran out
abbrev pub IsUnlessMemory : {A : Type 0} → Result A ImageRefused → Result A ImageRefused → Type 0
IsUnlessMemory result defined = (result ≡ Err NoMemory) ⊎ (result ≡ defined)

-- the number of segments
unfoldable pub count_of : ℕ → List ℕ → Result ℕ ImageRefused
count_of size file = unless (first_fault (header_checks size file)) (number_at 4 file)

-- the first segment of the rest
unfoldable pub segment_of : ℕ → ℕ → ℕ → List ℕ → Result Segment ImageRefused
segment_of size total from rest = unless (first_fault (segment_checks size total from rest))
    (record { address = number_at 0 rest; bytes = take (number_at 4 rest) (drop 8 rest) })

-- a number of segments in the rest of the file
unfoldable pub segments_of : ℕ → ℕ → ℕ → ℕ → List ℕ → Result (List Segment) ImageRefused
segments_of size total zero from rest = unless (first_fault (end_checks total rest)) []
segments_of size total (suc n) from rest =
    and_then (segment_of size total from rest) (λ s.
    and_then (segments_of size total n (s.address + length s.bytes)
    (drop (8 + length s.bytes) rest)) (λ more. Ok (s ∷ more)))

-- The segments of an image file for scratchpads of this size, or its first fault.
unfoldable pub image_of : ℕ → List ℕ → Result (List Segment) ImageRefused
image_of size file =
    and_then (count_of size file) (λ count. segments_of size (length file) count 0 (drop 8 file))

-- a segment in the file: its address, its length and its bytes
abbrev pub segment_written : Segment → List ℕ
segment_written s = little_bytes 4 s.address ++ (little_bytes 4 (length s.bytes) ++ s.bytes)

-- the bytes of a whole file
unfoldable pub file_of : List Segment → List ℕ
file_of segments =
    codes "FPX1" ++ (little_bytes 4 (length segments) ++ flat_map segment_written segments)

-- Reading the file returns these segments, for each size whose scratchpads contain them.
abbrev pub IsReadBack : List ℕ → List Segment → Type 0
IsReadBack file segments =
    (size : ℕ) → IsSize size → IsImage size segments → image_of size file ≡ Ok segments
