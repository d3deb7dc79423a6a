-- The checks of a file's own header, and of a program header, step by step.
use Rattle.std.proofs.Common.{◌≡◌, ℕ, ◌+◌, ◌≤◌, ◌<◌, ◌⊎◌, inl, inr, Bool}
use Rattle.std.proofs.Common.{true, false, List, ◌∷◌, length, Option, Some}
use Rattle.std.proofs.Common.{None, Result, Ok, Err, refl, ap, sym, ◌∙◌, arith}
use Rattle.std.specs.Prelude.{if◌then◌else◌, nat_lt, nat_eq, ◌==◌, not, ◌&&◌, codes}
use Rattle.std.specs.List.{starts_with}
use Rattle.std.proofs.lemmas.Bool.{le-ltb}
use Rattle.std.proofs.lemmas.Bool.Decides.{nat_tests}
use Rattle.fp_elf.specs.declared.headers.ProgramHeader.{ProgramHeader}
use Rattle.fp_elf.specs.declared.refusals.ElfNo.TheVariants.{EntrySize, Truncated}
use Rattle.fp_elf.specs.declared.refusals.ElfRefused.{ElfRefused}
use Rattle.fp_elf.specs.declared.refusals.ElfRefused.TheVariants.{Fault}
use Rattle.fp_image.specs.Checks.{first_fault, unless}
use Rattle.fp_elf.specs.Loads.{count_of, header_at, header_of, is_inside}
use Rattle.fp_elf.specs.Loads.{most_elf_bytes, number_at, own_checks}

-- the conditions that are checked before the size of the program headers
pub record Begins (file : List ℕ) : Type 0 where
  pub short : length file ≤ most_elf_bytes
  pub magic : starts_with nat_eq file (0x7f ∷ codes "ELF") ≡ true
  pub long : 52 ≤ length file
  pub class : number_at 1 4 file ≡ 1
  pub order : number_at 1 5 file ≡ 1
  pub kind : number_at 2 16 file ≡ 2
  pub machine : number_at 2 18 file ≡ 243

-- the checks from the size of the program headers on
by-size : (file : List ℕ) (unsized : Bool) →
    (not (number_at 2 44 file == 0) && not (number_at 2 42 file == 32)) ≡ unsized → Begins file →
    count_of file
    ≡ unless (if unsized then Some (Fault EntrySize 42) else None) (number_at 2 44 file)
unfolding count_of
by-size file unsized size h =
    let short : nat_lt most_elf_bytes (length file) ≡ false = le-ltb _ _ h.short in
    let long : nat_lt (length file) 52 ≡ false = le-ltb _ _ h.long in
    rw (short, h.magic, long, h.class, h.order, h.kind, h.machine, size) refl

-- there are that many program headers, and none or each of 32 bytes
pub counted : (file : List ℕ) (count : ℕ) → Begins file → count ≡ number_at 2 44 file →
    (number_at 2 44 file ≡ 0) ⊎ (number_at 2 42 file ≡ 32) →
    Path (Result ℕ ElfRefused) (Ok count) (count_of file)
counted file count h is (inl none) =
    let e : (number_at 2 44 file == 0) ≡ true = rw none refl in
    ap (λ (n : ℕ). let r : Result ℕ ElfRefused = Ok n in r) is
    ∙ sym (by-size file false (rw e refl) h)
counted file count h is (inr sized) =
    ap (λ (n : ℕ). let r : Result ℕ ElfRefused = Ok n in r) is
    ∙ sym (by-size file false (either (number_at 2 44 file == 0)) h)
  where
    either : (b : Bool) → (not b && not (number_at 2 42 file == 32)) ≡ false
    either true = refl
    either false = rw sized refl

-- the program headers have another size
pub missized : (file : List ℕ) (e : ElfRefused) → Begins file →
    (number_at 2 44 file ≡ 0 → ⊥) → (number_at 2 42 file ≡ 32 → ⊥) → e ≡ Fault EntrySize 42 →
    Path (Result ℕ ElfRefused) (Err e) (count_of file)
missized file e h some sized is =
    let n : (number_at 2 44 file == 0) ≡ false = grind (arith, nat_tests) in
    let s : (number_at 2 42 file == 32) ≡ false = grind (arith, nat_tests) in
    ap (λ (x : ElfRefused). let r : Result ℕ ElfRefused = Err x in r) is
    ∙ sym (by-size file true (rw (n, s) refl) h)

-- a program header by the first of its own checks that fails, or none
by-own : (file : List ℕ) (at : ℕ) (p : ProgramHeader) (o : Option ElfRefused) →
    p ≡ header_at at file → first_fault (own_checks file at p) ≡ o → unless o p ≡ header_of file at
unfolding header_of
by-own file at p o is own =
    ap (λ (x : Option ElfRefused). unless x p) (sym own)
    ∙ ap (λ (q : ProgramHeader). unless (first_fault (own_checks file at q)) q) is

-- a header that loads no bytes
pub no-load : (file : List ℕ) (at : ℕ) (p : ProgramHeader) → p ≡ header_at at file →
    at + 32 ≤ length file → (p.kind ≡ 2 → ⊥) → (p.kind ≡ 3 → ⊥) → (p.kind ≡ 1 → ⊥) →
    Path (Result ProgramHeader ElfRefused) (Ok p) (header_of file at)
no-load file at p is within dynamic interpreter load =
    let long : nat_lt (length file) (at + 32) ≡ false = le-ltb _ _ within in
    let two : (p.kind == 2) ≡ false = grind (arith, nat_tests) in
    let three : (p.kind == 3) ≡ false = grind (arith, nat_tests) in
    let one : (p.kind == 1) ≡ false = grind (arith, nat_tests) in
    by-own file at p None is (rw (long, two, three, one) refl)

-- a header that loads bytes inside a scratchpad
module _ (file : List ℕ) (at : ℕ) (p : ProgramHeader) (is : p ≡ header_at at file)
    (within : at + 32 ≤ length file) (kind : p.kind ≡ 1) (small : p.filesz ≤ p.memsz)
    (inside : is_inside p.vaddr p.memsz ≡ true) where
  loads : (cut : Bool) → (not (p.filesz == 0) && nat_lt (length file) (p.offset + p.filesz)) ≡ cut →
      unless (if cut then Some (Fault Truncated (length file)) else None) p ≡ header_of file at
  loads cut e =
      let long : nat_lt (length file) (at + 32) ≡ false = le-ltb _ _ within in
      let fits : nat_lt p.memsz p.filesz ≡ false = le-ltb _ _ small in
      by-own file at p _ is (rw (long, kind, fits, inside, e) refl)

  -- the file has all of the program headers
  pub whole-load : (p.filesz ≡ 0) ⊎ (p.offset + p.filesz ≤ length file) →
      Path (Result ProgramHeader ElfRefused) (Ok p) (header_of file at)
  whole-load (inl none) = loads false (rw none refl)
  whole-load (inr whole) =
      let has : nat_lt (length file) (p.offset + p.filesz) ≡ false = le-ltb _ _ whole in
      loads false (rw has (either (p.filesz == 0)))
    where
      either : (b : Bool) → (not b && false) ≡ false
      either true = refl
      either false = refl

  -- the file ends before their end
  pub cut-load : (e : ElfRefused) → (p.filesz ≡ 0 → ⊥) →
      length file < p.offset + p.filesz → e ≡ Fault Truncated (length file) →
      Path (Result ProgramHeader ElfRefused) (Err e) (header_of file at)
  cut-load e some less fault =
      let has : (p.filesz == 0) ≡ false = grind (arith, nat_tests) in
      let ends : nat_lt (length file) (p.offset + p.filesz) ≡ true = grind (arith, nat_tests) in
      ap (λ (x : ElfRefused). let r : Result ProgramHeader ElfRefused = Err x in r) fault
      ∙ loads true (rw (has, ends) refl)
