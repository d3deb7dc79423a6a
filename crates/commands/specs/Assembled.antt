-- The image that a source defines.
use Rattle.std.specs.Prelude.{ℕ, List, [], Result, Ok, Err}
use Rattle.fp_io.specs.Content.{FileMap, Request}
use Rattle.fp_image.specs.Format.{file_of}
use Rattle.fp_image.specs.declared.parts.Segment.{Segment}
use Rattle.fp_asm.specs.Source.{assembly_of, most_source_bytes}
use Rattle.fp_asm.specs.declared.refusal.AsmRefused.{AsmRefused}
use Rattle.fp_asm.specs.declared.refusal.AsmRefused.TheVariants.{Fault, NoMemory}
use Rattle.trace_print.specs.declared.refusals.Refusal.TheVariants.{Source}
use Rattle.commands.specs.Codes.{source_code}
use Rattle.commands.specs.Answer.{Answer, refusal_answer, then_by, over_file, ends}
use Rattle.commands.specs.Answer.Answer.{Says}

-- by its definition a source is never refused because memory ran out
abbrev pub of_assembled : Result (List Segment) AsmRefused → Result (List Segment) Answer
of_assembled (Ok segments) = Ok segments
of_assembled (Err (Fault line code)) = Err (refusal_answer (Source line (source_code code)))
of_assembled (Err NoMemory) = Err (Says 9 [])

-- the request to the files for a source
abbrev pub source_request : List ℕ → Request
source_request name = (name, most_source_bytes)

-- the image of a source's bytes
unfoldable pub source_in : List ℕ → Result (List Segment) Answer
source_in bytes = of_assembled (assembly_of bytes)

-- the bytes of the image of a source of this name
abbrev pub asm_answer : FileMap → List ℕ → Answer
asm_answer files name =
    ends (then_by (over_file source_in (files name)) (λ segments. Ok (file_of segments)))
