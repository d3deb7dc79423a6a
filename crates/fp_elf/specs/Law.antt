-- The file of an executable's image.
use Rattle.std.specs.Prelude.{◌≡◌, ℕ, List, Ok}
use Rattle.region_guard.specs.MemoryMap.{large_size}
use Rattle.fp_image.specs.Format.{image_of, file_of}
use Rattle.fp_image.specs.declared.parts.Segment.{Segment}
use Rattle.fp_elf.specs.Elf.{elf_of}

-- it is read, for scratchpads of 65,536 bytes, as this image
abbrev pub ReadsBack : Type 0
ReadsBack =
    (file : List ℕ) (image : List Segment) → elf_of file ≡ Ok image →
    image_of large_size (file_of image) ≡ Ok image
