-- The image of a source, or its first fault.
use Rattle.std.specs.Prelude.{ℕ, List, Result, Ok, Err, if◌then◌else◌, nat_lt, length, map, suc}
use Rattle.fp_asm.specs.Pieces.{Text}
use Rattle.fp_asm.specs.Lines.{lines_of}
use Rattle.fp_asm.specs.First.{start, first_pass}
use Rattle.fp_asm.specs.Second.{Memory, nothing_written, second_pass}
use Rattle.fp_image.specs.declared.parts.Segment.{Segment}
use Rattle.fp_asm.specs.Runs.{runs_of, segment_of}
use Rattle.fp_asm.specs.Faults.{next, holds}
use Rattle.fp_asm.specs.declared.refusal.AsmNo.TheVariants as no
use Rattle.fp_asm.specs.declared.refusal.AsmRefused.{AsmRefused}
use Rattle.fp_asm.specs.declared.refusal.AsmRefused.TheVariants as refused
use Rattle.fp_image.specs.Rules.{most_segments}

-- The maximal runs of these rising addresses, at most `most_segments`, with the words of a memory.
unfoldable pub segments_at : Memory → List ℕ → Result (List Segment) AsmRefused
segments_at memory addresses =
    holds (nat_lt (length (runs_of addresses)) (suc most_segments))
    (refused.Fault 0 no.TooManySegments) (Ok (map (segment_of memory) (runs_of addresses)))

-- The segments are those of the placed addresses, with the words that were written there.
unfoldable pub assembled_lines : List Text → Result (List Segment) AsmRefused
assembled_lines lines =
    next (first_pass 1 start lines) (λ p.
    next (second_pass 1 p.labels nothing_written lines) (λ w. segments_at w.memory p.taken))

-- the most bytes of a source
abbrev pub most_source_bytes : ℕ
most_source_bytes = 1048576

-- The segments of a source, or its first fault.
unfoldable pub assembly_of : Text → Result (List Segment) AsmRefused
assembly_of source =
    if nat_lt most_source_bytes (length source) then Err (refused.Fault 0 no.TooLong)
    else assembled_lines (lines_of source)
