-- The file of an executable's image is read back.
use Rattle.std.proofs.Common.{◌≡◌, ℕ, ◌≤◌, inr, Bool, true, false, List}
use Rattle.std.proofs.Common.{length, map, Result, Ok, Err, refl, arith, subst}
use Rattle.std.specs.Prelude.{nat_lt, if◌then◌else◌}
use Rattle.std.proofs.lemmas.Bool.Decides.{nat_tests}
use Rattle.fp_image.specs.Rules.{IsImage}
use Rattle.fp_image.specs.declared.parts.Segment.{Segment}
use Rattle.fp_image.proofs.ReadBack.{image_of-written}
use Rattle.fp_elf.specs.declared.headers.ProgramHeader.{ProgramHeader}
use Rattle.fp_elf.specs.declared.refusals.ElfNo.TheVariants.{TooManySegments}
use Rattle.fp_elf.specs.declared.refusals.ElfRefused.{ElfRefused}
use Rattle.fp_elf.specs.declared.refusals.ElfRefused.TheVariants.{Fault}
use Rattle.fp_elf.specs.Elf.{elf_of, of_runs, runs_of, segment_of}
use Rattle.fp_elf.specs.Law.{ReadsBack}
use Rattle.fp_image.specs.Checks.{and_then}
use Rattle.fp_elf.proofs.Rising.{runs-image}

by-count : (file : List ℕ) (loads : List ProgramHeader) (image : List Segment) (many : Bool) →
    nat_lt 16 (length (runs_of loads)) ≡ many →
    Path (Result (List Segment) ElfRefused) (if many then Err (Fault TooManySegments 44)
    else Ok (map (segment_of file loads) (runs_of loads))) (Ok image) → IsImage 65536 image
by-count file loads image true e is = cc
by-count file loads image false e is =
    let few : length (runs_of loads) ≤ 16 = grind (arith, nat_tests, e) in
    let same : map (segment_of file loads) (runs_of loads) ≡ image = cc in
    subst (λ (segments : List Segment). IsImage 65536 segments) same (runs-image file loads few)

by-loads : (file : List ℕ) (image : List Segment) (loads : Result (List ProgramHeader) ElfRefused) →
    and_then loads (λ loads. of_runs file loads (runs_of loads)) ≡ Ok image → IsImage 65536 image
by-loads file image (Err e) is = cc
by-loads file image (Ok loads) is =
    by-count file loads image (nat_lt 16 (length (runs_of loads))) refl is

-- it keeps the rules of images
keeps-rules : (file : List ℕ) (image : List Segment) → elf_of file ≡ Ok image → IsImage 65536 image
unfolding elf_of
keeps-rules file image is = by-loads file image _ is

pub reads-back : ReadsBack
reads-back file image is = image_of-written 65536 image (inr refl) (keeps-rules file image is)
