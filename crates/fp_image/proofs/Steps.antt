-- One segment after another.
use Rattle.std.proofs.Common.{◌≡◌, ◌<◌, ℕ, suc, inl, inr, arith, ◌+◌, ◌-◌, List, [], ◌∷◌, ◌++◌}
use Rattle.std.proofs.Common.{length, drop, Bool, true, false, nat_lt, if◌then◌else◌, Some, None}
use Rattle.std.proofs.Common.{Result, Ok, Err, refl, sym, ap, ◌∙◌, append_assoc, append-nil}
use Rattle.std.proofs.lemmas.Bool.Decides.{nat_tests}
use Rattle.fp_image.specs.Checks.{and_then, first_fault, unless}
use Rattle.fp_image.specs.Format.{IsUnlessMemory, segment_of, segments_of, end_checks}
use Rattle.fp_image.specs.declared.parts.Segment.{Segment}
use Rattle.fp_image.specs.declared.refusals.ImageRefused.{ImageRefused}
use Rattle.fp_image.specs.declared.refusals.ImageRefused.TheVariants.{Fault}
use Rattle.fp_image.specs.declared.refusals.ImageNo.TheVariants.{Trailing}

-- the segments so far, before the segments of the rest
abbrev pub joined : List Segment → Result (List Segment) ImageRefused →
    Result (List Segment) ImageRefused
joined xs r = and_then r (λ more. Ok (xs ++ more))

joined-cons : (xs : List Segment) (s : Segment) (r : Result (List Segment) ImageRefused) →
    joined xs (and_then r (λ more. Ok (s ∷ more))) ≡ joined (xs ++ s ∷ []) r
joined-cons xs s (Ok more) = ap Ok (sym (append_assoc xs (s ∷ []) more))
joined-cons xs s (Err e) = refl

at_end : (xs : List Segment) (b : Bool) (e : ImageRefused) →
    joined xs (unless (if b then Some e else None) []) ≡ unless (if b then Some e else None) xs
at_end xs true e = refl
at_end xs false e = ap Ok (append-nil xs)

pub segments_of-next : (size total n m from : ℕ) (rest : List ℕ) (xs : List Segment) (s : Segment) →
    n ≡ suc m → segment_of size total from rest ≡ Ok s →
    joined xs (segments_of size total n from rest) ≡ joined (xs ++ s ∷ [])
    (segments_of size total m (s.address + length s.bytes) (drop (8 + length s.bytes) rest))
unfolding segments_of
segments_of-next size total n m from rest xs s count is = rw (count, is) (joined-cons xs s _)

pub segments_of-fault : (size total n m from : ℕ) (rest : List ℕ) (xs : List Segment)
    (e : ImageRefused) → n ≡ suc m → segment_of size total from rest ≡ Err e →
    joined xs (segments_of size total n from rest) ≡ Err e
unfolding segments_of
segments_of-fault size total n m from rest xs e count is = rw (count, is) refl

pub segments_of-end : (size total n from : ℕ) (rest : List ℕ) (xs : List Segment) → n ≡ 0
    →
    joined xs (segments_of size total n from rest) ≡ unless (first_fault (end_checks total rest)) xs
unfolding segments_of
segments_of-end size total n from rest xs count =
    rw count (at_end xs (nat_lt 0 (length rest)) (Fault Trailing (total - length rest)))

-- a segment that was read is the defined one
pub is_defined : (s : Segment) (defined : Result Segment ImageRefused) →
    IsUnlessMemory (Ok s) defined → defined ≡ Ok s
is_defined s defined (inl memory) = cc
is_defined s defined (inr is) = sym is

-- a fault of the next segment is that of the file
pub stops : (size total n m from : ℕ) (rest : List ℕ) (xs : List Segment)
    (whole : Result (List Segment) ImageRefused) (e : ImageRefused) → n ≡ suc m →
    whole ≡ joined xs (segments_of size total n from rest) → IsUnlessMemory {A = Segment} (Err e)
    (segment_of size total from rest) → IsUnlessMemory (Err e) whole
stops size total n m from rest xs whole e count is (inl memory) = inl cc
stops size total n m from rest xs whole e count is (inr fault) =
    inr (sym (is ∙ segments_of-fault size total n m from rest xs e count (sym fault)))

-- no byte is left
pub ends_well : (size total n from : ℕ) (rest : List ℕ) (xs : List Segment)
    (whole : Result (List Segment) ImageRefused) → n ≡ 0 →
    whole ≡ joined xs (segments_of size total n from rest) → length rest ≡ 0 →
    IsUnlessMemory (Ok xs) whole
ends_well size total n from rest xs whole count is none =
    let no : nat_lt 0 (length rest) ≡ false = grind (arith, nat_tests) in
    inr (sym (is ∙ segments_of-end size total n from rest xs count
    ∙ ap (λ b. unless (if b then Some (Fault Trailing (total - length rest)) else None) xs) no))

-- bytes are left
pub trails : (size total n from : ℕ) (rest : List ℕ) (xs : List Segment)
    (whole : Result (List Segment) ImageRefused) → n ≡ 0 →
    whole ≡ joined xs (segments_of size total n from rest) → 0 < length rest →
    IsUnlessMemory {A = List Segment} (Err (Fault Trailing (total - length rest))) whole
trails size total n from rest xs whole count is some =
    let yes : nat_lt 0 (length rest) ≡ true = grind (arith, nat_tests) in
    inr (sym (is ∙ segments_of-end size total n from rest xs count
    ∙ ap (λ b. unless (if b then Some (Fault Trailing (total - length rest)) else None) xs) yes))
