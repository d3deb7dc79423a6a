-- The theorem on the assembler: the image of a source is that of its listing.
use Rattle.std.specs.Prelude.{◌≡◌, ℕ, ◌↔◌, ◌<◌, List, [], Some, Ok, length, get_or}
use Rattle.fp_asm.specs.Pieces.{Text}
use Rattle.fp_asm.specs.Lines.{lines_of}
use Rattle.fp_asm.specs.First.{Labels, location_of}
use Rattle.fp_asm.specs.Runs.{word_bytes}
use Rattle.fp_asm.specs.Source.{assembly_of}
use Rattle.fp_image.specs.declared.parts.Segment.{Segment}
use Rattle.asm_laws.specs.Listing.{IsPlaced, IsLabel, IsMade, address_of}
use Rattle.asm_laws.specs.Segments.{IsWordIn, AreMaximal}

-- Segments are the image of lines, the first of which stands at address 0.
pub record IsListed (lines : List Text) (segments : List Segment) : Type 0 where
  pub labels : Labels
  -- a label is the address of what follows it
  pub labelled : (x : Text) (a : ℕ) → (location_of labels x ≡ Some a) ↔ IsLabel 0 lines x a
  -- each line makes its words
  pub made : (k : ℕ) → k < length lines → IsMade labels (address_of 0 lines k) (get_or lines k [])
  -- a word that a statement places is in the image, at its address
  pub placed : (a w : ℕ) → IsPlaced labels 0 lines a w → IsWordIn segments a (word_bytes w)
  -- no other words are in the image
  pub only : (a : ℕ) (bytes : List ℕ) → IsWordIn segments a bytes →
      (w : ℕ) × (bytes ≡ word_bytes w) × IsPlaced labels 0 lines a w
  pub maximal : AreMaximal 0 segments

-- the image of a source is that of its lines
abbrev pub AssemblesListing : Type 0
AssemblesListing =
    (source : Text) (segments : List Segment) → assembly_of source ≡ Ok segments →
    IsListed (lines_of source) segments
