-- The checks before the segments, one after another.
use Rattle.std.proofs.Common.{◌≡◌, ℕ, ◌<◌, ◌≤◌, true, false, List, length, Option}
use Rattle.std.proofs.Common.{Some, None, Result, Ok, Err, refl, ap, sym, ◌∙◌, arith}
use Rattle.std.specs.Prelude.{nat_eq, nat_lt, codes}
use Rattle.std.specs.List.{starts_with}
use Rattle.std.proofs.lemmas.Bool.{le-ltb}
use Rattle.std.proofs.lemmas.Bool.Decides.{nat_tests}
use Rattle.fp_image.specs.declared.refusals.ImageNo.TheVariants.{TooLong, Magic}
use Rattle.fp_image.specs.declared.refusals.ImageNo.TheVariants.{Truncated, BadSegment}
use Rattle.fp_image.specs.declared.refusals.ImageRefused.{ImageRefused}
use Rattle.fp_image.specs.declared.refusals.ImageRefused.TheVariants.{Fault}
use Rattle.fp_image.specs.Checks.{first_fault, unless}
use Rattle.fp_image.specs.Format.{count_of, header_checks, longest, number_at}

less : (a b : ℕ) → a < b → nat_lt a b ≡ true
less a b h = grind (arith, nat_tests)

-- the number of segments by the first of the checks that fails, or none
by-checks : (size : ℕ) (file : List ℕ) (o : Option ImageRefused) →
    first_fault (header_checks size file) ≡ o → count_of size file ≡ unless o (number_at 4 file)
unfolding count_of
by-checks size file o e = rw e refl

refused : (e f : ImageRefused) (r : Result ℕ ImageRefused) → e ≡ f → r ≡ Err f →
    Path (Result ℕ ImageRefused) (Err e) r
refused e f r is told =
    ap (λ (x : ImageRefused). let s : Result ℕ ImageRefused = Err x in s) is ∙ sym told

-- the file is too long
pub too-long : (size : ℕ) (file : List ℕ) (e : ImageRefused) → longest size < length file →
    e ≡ Fault TooLong 0 → Path (Result ℕ ImageRefused) (Err e) (count_of size file)
too-long size file e over is =
    refused e _ _ is (by-checks size file (Some (Fault TooLong 0)) (rw (less _ _ over) refl))

module _ (size : ℕ) (file : List ℕ) (low : length file ≤ longest size) where
  short : nat_lt (longest size) (length file) ≡ false
  short = le-ltb _ _ low

  -- it doesn't begin with the mark of an image
  pub no-image : (e : ImageRefused) → starts_with nat_eq file (codes "FPX1") ≡ false →
      e ≡ Fault Magic 0 → Path (Result ℕ ImageRefused) (Err e) (count_of size file)
  no-image e other is =
      refused e _ _ is (by-checks size file (Some (Fault Magic 0)) (rw (short, other) refl))

  -- it ends before the number
  pub cut-number : (e : ImageRefused) → starts_with nat_eq file (codes "FPX1") ≡ true →
      length file < 8 → e ≡ Fault Truncated (length file) →
      Path (Result ℕ ImageRefused) (Err e) (count_of size file)
  cut-number e image ends is =
      refused e _ _ is (by-checks size file (Some (Fault Truncated (length file)))
      (rw (short, image, less _ _ ends) refl))

  -- there are too many segments
  pub crowded : (count : ℕ) (e : ImageRefused) → starts_with nat_eq file (codes "FPX1") ≡ true →
      8 ≤ length file → count ≡ number_at 4 file → 16 < count → e ≡ Fault BadSegment 4 →
      Path (Result ℕ ImageRefused) (Err e) (count_of size file)
  crowded count e image long are many is =
      let whole : nat_lt (length file) 8 ≡ false = le-ltb _ _ long in
      refused e _ _ is (by-checks size file (Some (Fault BadSegment 4))
      (rw (short, image, whole, ← are, less _ _ many) refl))

  -- the number of segments is allowed
  pub counted : (count : ℕ) → starts_with nat_eq file (codes "FPX1") ≡ true →
      8 ≤ length file → count ≡ number_at 4 file → count ≤ 16 →
      Path (Result ℕ ImageRefused) (Ok count) (count_of size file)
  counted count image long are few =
      let whole : nat_lt (length file) 8 ≡ false = le-ltb _ _ long in
      let fits : nat_lt 16 count ≡ false = le-ltb _ _ few in
      rw are (sym (by-checks size file None (rw (short, image, whole, ← are, fits) refl)))
