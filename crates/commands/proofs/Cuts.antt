-- The answer over the first bytes of a file, one more than its limit, is that over the whole file.
use Rattle.std.proofs.Common.{refl, ◌≡◌, ℕ, ◌+◌, ◌<◌, ◌≤◌, nat_lt, true, List}
use Rattle.std.proofs.Common.{length, take, min, Option, Some, None, Result}
use Rattle.std.proofs.Common.{Ok, Err, arith, ap, sym, subst, ◌∙◌, inl, inr}
use Rattle.std.specs.Prelude.{IfSome, IsSomeAnd, IfOk, IfErr}
use Rattle.std.proofs.lemmas.Bool.{cases_lt}
use Rattle.std.proofs.lemmas.Bool.Decides.{nat_tests}
use Rattle.std.proofs.lemmas.List.{length-take, take_all}
use Rattle.fp_io.specs.Content.{FileMap, Fetched}
use Rattle.fp_setup.specs.Setup.{setup}
use Rattle.fp_setup.specs.Faults.{no_place}
use Rattle.fp_image.specs.Format.{longest, image_of, count_of}
use Rattle.fp_asm.specs.Source.{assembly_of}
use Rattle.fp_elf.specs.Elf.{elf_of, loads_of}
use Rattle.fp_elf.specs.Loads.{count_of as header_count}
use Rattle.trace_print.specs.declared.refusals.Refusal.TheVariants.{Setup, Image, Source}
use Rattle.commands.specs.declared.stop.CommandStop.{CommandStop}
use Rattle.commands.specs.declared.stop.CommandStop.TheVariants.{Refused, Differs, Read, NoMemory}
use Rattle.commands.specs.Answer.{Answer, refusal_answer, over_file}
use Rattle.commands.specs.Assembled.{source_in}
use Rattle.commands.specs.Elf.{elf_in}
use Rattle.commands.specs.Program.{setup_in, image_in}
use Rattle.commands.specs.Stops.{IsStop, IsStopOf}

-- a step over the first bytes, one more than the limit, is that over the whole file
abbrev pub IsCut : {A : Type 0} → (List ℕ → A) → ℕ → Type 0
IsCut over most = (whole : List ℕ) → over (take (most + 1) whole) ≡ over whole

-- this holds if every file above the limit has the same answer
pub cut-by : {A : Type 0} → (over : List ℕ → A) → (most : ℕ) → (long : A) →
    ((bytes : List ℕ) → most < length bytes → over bytes ≡ long) → IsCut over most
cut-by over most long same whole =
    elim (cases_lt most (length whole)) [
      | inl past ↦
          let more : length (take (most + 1) whole) ≡ min (most + 1) (length whole) =
          length-take (most + 1) whole in
          let cut_long : most < length (take (most + 1) whole) = omega (arith, more, past) in
          same (take (most + 1) whole) cut_long ∙ sym (same whole past)
      | inr short ↦
          let all : length whole ≤ most + 1 = omega (arith, short) in
          ap over (take_all (most + 1) whole all)
    ]

setup-long : (bytes : List ℕ) → 262144 < length bytes →
    setup_in bytes ≡ Err (refusal_answer (Setup 1 no_place))
unfolding setup_in setup
setup-long bytes past =
    let is : nat_lt 262144 (length bytes) ≡ true = grind (arith, nat_tests) in rw is refl

pub setup-cut : IsCut setup_in 262144
setup-cut = cut-by setup_in 262144 (Err (refusal_answer (Setup 1 no_place))) setup-long

image-long : (size : ℕ) (bytes : List ℕ) → longest size < length bytes →
    image_in size bytes ≡ Err (refusal_answer (Image 1 0))
unfolding image_in image_of count_of
image-long size bytes past =
    let is : nat_lt (longest size) (length bytes) ≡ true =
    grind (arith, nat_tests, past) in rw is refl

pub image-cut : (size : ℕ) → IsCut (image_in size) (longest size)
image-cut size =
    cut-by (image_in size) (longest size) (Err (refusal_answer (Image 1 0))) (image-long size)

ok_over : {A : Type 0} → (over : List ℕ → Result A Answer) →
    (bytes : List ℕ) (most : ℕ) (r : Result A Answer) → IsCut over most → (o : Option (List ℕ)) →
    IsSomeAnd o (λ whole. bytes ≡ take (most + 1) whole) → over bytes ≡ r → over_file over o ≡ r
ok_over over bytes most r cut None found is = absurd found
ok_over over bytes most r cut (Some whole) found is = sym (cut whole) ∙ sym (ap over found) ∙ is

-- a result over the fetched bytes is the result over the file
pub fetched-over : {A : Type 0} → (contents : Option FileMap) (name : List ℕ)
    (over : List ℕ → Result A Answer) (bytes : List ℕ) (most : ℕ) (r : Result A Answer) →
    IsCut over most → Fetched contents name most bytes → over bytes ≡ r →
    IfSome contents (λ files. over_file over (files name) ≡ r)
fetched-over None name over bytes most r cut fetched is = tt
fetched-over (Some files) name over bytes most r cut fetched is =
    ok_over over bytes most r cut (files name) fetched is

pub fetched-stop : {A : Type 0} → (contents : Option FileMap) (name : List ℕ)
    (over : List ℕ → Result A Answer) (bytes : List ℕ) (most before after : ℕ) (stop : CommandStop)
    →
    IsCut over most → Fetched contents name most bytes → IsStopOf (over bytes) stop →
    IsStop contents (λ files x. over_file over (files name) ≡ Err x) before after stop
fetched-stop contents name over bytes most before after (Refused refusal) cut fetched is =
    fetched-over contents name over bytes most _ cut fetched is
fetched-stop contents name over bytes most before after (Differs line) cut fetched is =
    fetched-over contents name over bytes most _ cut fetched is
fetched-stop contents name over bytes most before after Read cut fetched is = absurd is
fetched-stop contents name over bytes most before after NoMemory cut fetched is = tt

-- the same for an answer of the code
pub ok-over : {A : Type 0} → (contents : Option FileMap) (name : List ℕ)
    (over : List ℕ → Result A Answer) (bytes items : List ℕ) (most : ℕ) (r : Result A CommandStop) →
    IsCut over most → Fetched contents name most items →
    bytes ≡ items → IfOk r (λ x. over bytes ≡ Ok x) →
    IfOk r (λ x. IfSome contents (λ files. over_file over (files name) ≡ Ok x))
ok-over contents name over bytes items most (Ok x) cut fetched same is =
    fetched-over contents name over items most (Ok x) cut fetched (sym (ap over same) ∙ is)
ok-over contents name over bytes items most (Err stop) cut fetched same is = tt

pub stop-over : {A : Type 0} →
    (contents : Option FileMap) (name : List ℕ) (over : List ℕ → Result A Answer)
    (bytes items : List ℕ) (most before after : ℕ) (r : Result A CommandStop) → IsCut over most →
    Fetched contents name most items → bytes ≡ items → IfErr r (IsStopOf (over bytes)) →
    IfErr r (IsStop contents (λ files x. over_file over (files name) ≡ Err x) before after)
stop-over contents name over bytes items most before after (Ok x) cut fetched same is = tt
stop-over {A} contents name over bytes items most before after (Err stop) cut fetched same is =
    let Stops : List ℕ → Type 0 = λ b. IsStopOf (over b) stop in
    fetched-stop contents name over items most before after stop cut fetched (subst Stops same is)

source-long : (bytes : List ℕ) → 1048576 < length bytes →
    source_in bytes ≡ Err (refusal_answer (Source 0 1))
unfolding source_in assembly_of
source-long bytes past =
    let is : nat_lt 1048576 (length bytes) ≡ true = grind (arith, nat_tests) in rw is refl

pub source-cut : IsCut source_in 1048576
source-cut = cut-by source_in 1048576 (Err (refusal_answer (Source 0 1))) source-long

elf-long : (bytes : List ℕ) → 4194304 < length bytes →
    elf_in bytes ≡ Err (refusal_answer (Image 31 0))
unfolding elf_in elf_of loads_of header_count
elf-long bytes past =
    let is : nat_lt 4194304 (length bytes) ≡ true = grind (arith, nat_tests) in rw is refl

pub elf-cut : IsCut elf_in 4194304
elf-cut = cut-by elf_in 4194304 (Err (refusal_answer (Image 31 0))) elf-long
