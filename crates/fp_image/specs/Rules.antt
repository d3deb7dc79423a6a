-- The rules that the segments of an image keep, and the words of an image. Source: this project's
-- profile (the memory map and the image format).
use Rattle.std.specs.Prelude.{◌≤◌, ℕ, ◌+◌, ◌-◌, ◌%◌, ◌==◌, nat_lt, nat_le}
use Rattle.std.specs.Prelude.{Bool, ◌&&◌, ◌||◌, if◌then◌else◌, IsTrue, List, []}
use Rattle.std.specs.Prelude.{◌∷◌, length, drop, Option, Some, None, unwrap_or}
use Rattle.byteorder.specs.Endian.{little_number}
use Rattle.region_guard.specs.MemoryMap.{data_start}
use Rattle.fp_image.specs.declared.parts.Segment.{Segment}

-- Whether a number of bytes from the address on may be a segment: whole words, at least one, inside
-- the instruction scratchpad or the data scratchpad.
abbrev pub is_placed : ℕ → ℕ → ℕ → Bool
is_placed size address len =
    (address % 4 == 0) && (len % 4 == 0) && nat_lt 0 len
    && (nat_le (address + len) size
    || (nat_le data_start address && nat_le (address + len) (data_start + size)))

-- the first address after a segment
abbrev pub end_of : Segment → ℕ
end_of s = s.address + length s.bytes

-- each segment may be one, and starts at or after the end of the one before; the first one starts
-- at or after `from`
abbrev pub Rises : ℕ → ℕ → List Segment → Type 0
Rises size from [] = Unit {0}
Rises size from (s ∷ more) =
    IsTrue (is_placed size s.address (length s.bytes)) × (from ≤ s.address)
    × Rises size (end_of s) more

-- the most segments of an image
abbrev pub most_segments : ℕ
most_segments = 16

-- An image for scratchpads of this size.
pub record IsImage (size : ℕ) (segments : List Segment) : Type 0 where
  pub few : length segments ≤ most_segments
  pub rising : Rises size 0 segments

-- the word of a segment at an address, if the segment has all its bytes
abbrev pub word_in : Segment → ℕ → Option ℕ
word_in s address = if nat_le s.address address && nat_le (address + 4) (end_of s)
    then Some (little_number 4 (drop (address - s.address) s.bytes))
    else None

-- The word of an image at an address: that of the first segment that has it, 0 if none has it.
abbrev pub word : List Segment → ℕ → ℕ
word [] address = 0
word (s ∷ more) address = unwrap_or (word_in s address) (word more address)
