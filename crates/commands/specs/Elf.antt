-- The image that an executable defines.
use Rattle.std.specs.Prelude.{ℕ, List, [], Result, Ok, Err}
use Rattle.fp_elf.specs.Elf.{elf_of}
use Rattle.fp_elf.specs.Loads.{most_elf_bytes}
use Rattle.fp_elf.specs.declared.refusals.ElfRefused.{ElfRefused}
use Rattle.fp_elf.specs.declared.refusals.ElfRefused.TheVariants.{Fault, NoMemory}
use Rattle.fp_image.specs.Format.{file_of}
use Rattle.fp_image.specs.declared.parts.Segment.{Segment}
use Rattle.fp_io.specs.Content.{FileMap, Request}
use Rattle.trace_print.specs.declared.refusals.Refusal.TheVariants.{Image}
use Rattle.commands.specs.Codes.{elf_code}
use Rattle.commands.specs.Answer.{Answer, refusal_answer, then_by, over_file, ends}
use Rattle.commands.specs.Answer.Answer.{Says}

-- by its definition an executable is never refused because memory ran out
abbrev pub of_elf : Result (List Segment) ElfRefused → Result (List Segment) Answer
of_elf (Ok segments) = Ok segments
of_elf (Err (Fault code offset)) = Err (refusal_answer (Image (elf_code code) offset))
of_elf (Err NoMemory) = Err (Says 9 [])

-- the request to the files for an executable
abbrev pub executable_request : List ℕ → Request
executable_request name = (name, most_elf_bytes)

-- the image of an executable's bytes
unfoldable pub elf_in : List ℕ → Result (List Segment) Answer
elf_in bytes = of_elf (elf_of bytes)

-- the bytes of the image of an executable of this name
abbrev pub elf_answer : FileMap → List ℕ → Answer
elf_answer files name =
    ends (then_by (over_file elf_in (files name)) (λ segments. Ok (file_of segments)))
