-- Up to the first fault of a file each line is its next 18 bytes.
use Rattle.std.proofs.Common.{◌≡◌, ℕ, zero, suc, ◌+◌, ◌<◌, ◌≤◌, ◌==◌, ◌&&◌, if◌then◌else◌}
use Rattle.std.proofs.Common.{Bool, true, false, List, [], ◌∷◌, ◌++◌, length, take, drop}
use Rattle.std.proofs.Common.{Option, Some, Result, Ok, Err, refl, sym, ap, ◌∙◌, arith}
use Rattle.std.proofs.Common.{append_assoc, append-nil, length-append, length-drop}
use Rattle.std.specs.Prelude.{min, slice_index_or}
use Rattle.std.specs.List.{concat, list_all}
use Rattle.std.proofs.Math.Seq.{drop-cons, drop-nil, take-append_seam}
use Rattle.std.proofs.lemmas.Bool.Decides.{nat_tests}
use Rattle.fp_image.specs.Checks.{and_then, unless}
use Rattle.call_bounds.specs.RoutinesFile.{has_form, in_front, is_digit, lines_of}
use Rattle.call_bounds.specs.RoutinesFile.{routine_at, routine_in, routines_from}
use Rattle.call_bounds.specs.declared.routines_refusals.RoutinesNo.TheVariants.{TooMany, BadLine}
use Rattle.call_bounds.specs.declared.routines_refusals.RoutinesRefused.{RoutinesRefused}
use Rattle.call_bounds.specs.declared.routines_refusals.RoutinesRefused.TheVariants.{Fault}
use Rattle.call_bounds.specs.declared.routines.Routine.{Routine}

-- whether the last byte is a line feed, and the only one
abbrev is_none : List ℕ → Bool
is_none [] = true
is_none (byte ∷ bytes) = false

abbrev ends_line : List ℕ → Bool
ends_line [] = false
ends_line (byte ∷ bytes) = if byte == 10 then is_none bytes else ends_line bytes

none-left : (bytes : List ℕ) → length bytes ≡ 0 → is_none bytes ≡ true
none-left [] e = refl
none-left (b ∷ bs) e = absurd (omega arith)

pub both : (a b : Bool) → (a && b) ≡ true → (a ≡ true) × (b ≡ true)
both true true e = (refl, refl)
both true false e = cc
both false b e = cc

-- such bytes are a line
line-first : (line rest : List ℕ) → ends_line line ≡ true →
    lines_of (line ++ rest) ≡ line ∷ lines_of rest
unfolding lines_of
line-first [] rest e = cc
line-first (byte ∷ bytes) rest e = go (byte == 10) e (λ h. line-first bytes rest h)
  where
    alone : (bytes : List ℕ) → is_none bytes ≡ true →
        (byte ∷ []) ∷ lines_of (bytes ++ rest) ≡ (byte ∷ bytes) ∷ lines_of rest
    alone [] e = refl
    alone (b ∷ bs) e = cc

    go : (b : Bool) → (if b then is_none bytes else ends_line bytes) ≡ true →
        (ends_line bytes ≡ true → lines_of (bytes ++ rest) ≡ bytes ∷ lines_of rest) →
        (if b then (byte ∷ []) ∷ lines_of (bytes ++ rest)
        else in_front byte (lines_of (bytes ++ rest))) ≡ (byte ∷ bytes) ∷ lines_of rest
    go true e more = alone bytes e
    go false e more = ap (in_front byte) (more e)

-- a digit is no line feed
past-digits : (n : ℕ) (bytes : List ℕ) → n ≤ length bytes →
    list_all is_digit (take n bytes) ≡ true → ends_line bytes ≡ ends_line (drop n bytes)
past-digits zero bytes le h = refl
past-digits (suc n) [] le h = absurd (omega arith)
past-digits (suc n) (byte ∷ bytes) le h =
    let functions : (is_digit byte ≡ true) × (list_all is_digit (take n bytes) ≡ true) =
    both (is_digit byte) (list_all is_digit (take n bytes)) h in
    let other : (byte == 10) ≡ false = (let d = functions.0 in grind (arith, nat_tests)) in
    ap (λ b. if b then is_none bytes else ends_line bytes) other
    ∙ past-digits n bytes (omega arith) functions.1

record Form (line : List ℕ) : Type 0 where
  len : length line ≡ 18
  head : list_all is_digit (take 8 line) ≡ true
  space : slice_index_or line 8 0 ≡ 32
  last : list_all is_digit (take 8 (drop 9 line)) ≡ true
  feed : slice_index_or line 17 0 ≡ 10

five : (a b c d e : Bool) → (a && b && c && d && e) ≡ true →
    (a ≡ true) × (b ≡ true) × (c ≡ true) × (d ≡ true) × (e ≡ true)
five true true true true true h = (refl, refl, refl, refl, refl)
five true true true true false h = cc
five true true true false e h = cc
five true true false d e h = cc
five true false c d e h = cc
five false b c d e h = cc

form-of : (line : List ℕ) → has_form line ≡ true → Form line
form-of line h =
    let p =
    five (length line == 18) (list_all is_digit (take 8 line)) (slice_index_or line 8 0 == 32)
    (list_all is_digit (take 8 (drop 9 line))) (slice_index_or line 17 0 == 10) h in
    record {
      len = (let z = p.0 in grind (arith, nat_tests));
      head = p.1;
      space = (let z = p.2 in grind (arith, nat_tests));
      last = p.3;
      feed = (let z = p.4 in grind (arith, nat_tests));
    }

drop-both : (n m : ℕ) (bytes : List ℕ) → drop n (drop m bytes) ≡ drop (m + n) bytes
drop-both n zero bytes = ap (λ k. drop k bytes) (let e : n ≡ 0 + n = omega arith in e)
drop-both n (suc m) [] = drop-nil n ∙ sym (drop-nil (suc m + n))
drop-both n (suc m) (b ∷ bs) =
    drop-both n m bs
    ∙ ap (λ k. drop k (b ∷ bs)) (let e : suc (m + n) ≡ suc m + n = omega arith in e)

-- a line of the form ends with its only line feed
form-ends : (line : List ℕ) → has_form line ≡ true → ends_line line ≡ true
form-ends line h =
    let f = form-of line h in
    let len : length line ≡ 18 = f.len in
    past-digits 8 line (omega arith) f.head
    ∙ (ap ends_line (drop-cons line 8 0 (omega arith))
    ∙ (ap (λ byte. ends_line (byte ∷ drop 9 line)) f.space
    ∙ (past-digits 8 (drop 9 line) (simp length-drop (omega (arith, len))) f.last
    ∙ (ap ends_line (drop-both 8 9 line ∙ drop-cons line 17 0 (omega arith))
    ∙ (ap (λ byte. ends_line (byte ∷ drop 18 line)) f.feed
    ∙ none-left (drop 18 line) (simp length-drop (omega (arith, len))))))))

-- the lines, joined, are the file
lines-joined : (bytes : List ℕ) → concat (lines_of bytes) ≡ bytes
unfolding lines_of
lines-joined [] = refl
lines-joined (byte ∷ bytes) = go (byte == 10) ∙ ap (λ l. byte ∷ l) (lines-joined bytes)
  where
    front : (lines : List (List ℕ)) → concat (in_front byte lines) ≡ byte ∷ concat lines
    front [] = refl
    front (l ∷ ls) = refl

    go : (b : Bool) →
        concat (if b then (byte ∷ []) ∷ lines_of bytes else in_front byte (lines_of bytes))
        ≡ byte ∷ concat (lines_of bytes)
    go true = refl
    go false = front (lines_of bytes)

-- the first line, if the next 18 bytes, or the rest, don't have the form of a line
record Broken (bytes : List ℕ) : Type 0 where
  line : List ℕ
  more : List (List ℕ)
  cut : lines_of bytes ≡ line ∷ more
  wrong : has_form line ≡ false

broken : (line rest : List ℕ) → length line ≡ min 18 (length (line ++ rest)) →
    0 < length (line ++ rest) → has_form line ≡ false → Broken (line ++ rest)
broken line rest len some wrong = go (lines_of (line ++ rest)) refl
  where
    same : (l : List ℕ) (ls : List (List ℕ)) → concat (l ∷ ls) ≡ line ++ rest →
        has_form l ≡ true → l ≡ line
    same l ls e h =
        let long : length l ≡ 18 = (form-of l h).len in
        let whole : length (l ++ concat ls) ≡ length (line ++ rest) =
        ap (λ (z : List ℕ). length z) e in
        let functions : length (l ++ concat ls) ≡ length l + length (concat ls) =
        length-append l (concat ls) in
        let full : length line ≡ 18 = omega (arith, long, whole, functions) in
        sym (take-append_seam l (concat ls)) ∙ (ap (λ n. take n (l ++ concat ls)) (long ∙ sym full)
        ∙ (ap (λ z. take (length line) z) e ∙ take-append_seam line rest))

    go : (lines : List (List ℕ)) → lines_of (line ++ rest) ≡ lines → Broken (line ++ rest)
    go [] e =
        let none : [] ≡ line ++ rest = ap concat (sym e) ∙ lines-joined (line ++ rest) in
        let zero : 0 ≡ length (line ++ rest) = ap (λ (z : List ℕ). length z) none in
        absurd (omega (arith, zero))
    go (l ∷ ls) e = record { line = l; more = ls; cut = e; wrong = form (has_form l) refl }
      where
        form : (b : Bool) → has_form l ≡ b → has_form l ≡ false
        form false is = is
        form true is =
            (let s = same l ls (ap concat (sym e) ∙ lines-joined (line ++ rest)) is in
            let t : has_form l ≡ has_form line = ap has_form s in cc)

-- a line that isn't of the form has one of two faults
wrong-fault : (size n : ℕ) (before : Option Routine) (line : List ℕ) → has_form line ≡ false →
    routine_at size n before line
    ≡ (if n == 65 then Err (Fault n TooMany) else Err (Fault n BadLine))
unfolding routine_at
wrong-fault size n before line wrong = rw wrong (go (n == 65))
  where
    go : (b : Bool) →
        unless (if b then Some (Fault n TooMany) else Some (Fault n BadLine)) (routine_in line)
        ≡ (if b then Err (Fault n TooMany) else Err (Fault n BadLine))
    go true = refl
    go false = refl

no-routine : (n : ℕ) (r : Routine) (b : Bool) →
    (if b then Err (Fault n TooMany) else Err (Fault n BadLine)) ≡ Ok r → ⊥
no-routine n r true e = cc
no-routine n r false e = cc

routine-first : (size n : ℕ) (before : Option Routine) (line : List ℕ)
    (more : List (List ℕ)) (r : Routine) → routine_at size n before line ≡ Ok r →
    routines_from size n before (line ∷ more)
    ≡ and_then (routines_from size (suc n) (Some r) more) (λ more. Ok (r ∷ more))
unfolding routines_from
routine-first size n before line more r is = rw is refl

-- A routine's line is the first one of the file. The bytes after it are the rest.
pub line-next : (size n : ℕ) (before : Option Routine) (line rest : List ℕ) (r : Routine) →
    routine_at size n before line ≡ Ok r →
    routines_from size n before (lines_of (line ++ rest))
    ≡ and_then (routines_from size (suc n) (Some r) (lines_of rest)) (λ more. Ok (r ∷ more))
line-next size n before line rest r is = go (has_form line) refl
  where
    go : (b : Bool) → has_form line ≡ b → routines_from size n before (lines_of (line ++ rest))
        ≡ and_then (routines_from size (suc n) (Some r) (lines_of rest)) (λ more. Ok (r ∷ more))
    go true form =
        ap (routines_from size n before) (line-first line rest (form-ends line form))
        ∙ routine-first size n before line (lines_of rest) r is
    go false form =
        absurd (no-routine n r (n == 65) (sym (wrong-fault size n before line form) ∙ is))

fault-first : (size n : ℕ) (before : Option Routine) (line : List ℕ)
    (more : List (List ℕ)) (e : RoutinesRefused) → routine_at size n before line ≡ Err e →
    routines_from size n before (line ∷ more) ≡ Err e
unfolding routines_from
fault-first size n before line more e is = rw is refl

-- A fault of the line is the file's.
pub line-stops : (size n : ℕ) (before : Option Routine) (line rest : List ℕ) (e : RoutinesRefused) →
    length line ≡ min 18 (length (line ++ rest)) →
    0 < length (line ++ rest) → routine_at size n before line ≡ Err e →
    routines_from size n before (lines_of (line ++ rest)) ≡ Err e
line-stops size n before line rest e len some is = go (has_form line) refl
  where
    at : Broken (line ++ rest) → has_form line ≡ false →
        routines_from size n before (lines_of (line ++ rest)) ≡ Err e
    at b form =
        ap (routines_from size n before) b.cut
        ∙ fault-first size n before b.line b.more e (wrong-fault size n before b.line b.wrong
        ∙ (sym (wrong-fault size n before line form) ∙ is))

    go : (b : Bool) → has_form line ≡ b →
        routines_from size n before (lines_of (line ++ rest)) ≡ Err e
    go true form =
        ap (routines_from size n before) (line-first line rest (form-ends line form))
        ∙ fault-first size n before line (lines_of rest) e is
    go false form = at (broken line rest len some form) form

-- the routines so far, before the routines of the rest
abbrev pub joined : List Routine → Result (List Routine) RoutinesRefused →
    Result (List Routine) RoutinesRefused
joined xs r = and_then r (λ more. Ok (xs ++ more))

pub joined-cons : (xs : List Routine) (x : Routine) (r : Result (List Routine) RoutinesRefused) →
    joined xs (and_then r (λ more. Ok (x ∷ more))) ≡ joined (xs ++ x ∷ []) r
joined-cons xs x (Ok more) = ap Ok (sym (append_assoc xs (x ∷ []) more))
joined-cons xs x (Err e) = refl

pub joined-none : (r : Result (List Routine) RoutinesRefused) → r ≡ joined [] r
joined-none (Ok more) = refl
joined-none (Err e) = refl

pub all-joined : (size n : ℕ) (before : Option Routine) (rest : List ℕ) (xs : List Routine) →
    length rest ≡ 0 → joined xs (routines_from size n before (lines_of rest)) ≡ Ok xs
unfolding lines_of routines_from
all-joined size n before [] xs none = ap Ok (append-nil xs)
all-joined size n before (b ∷ bs) xs none = absurd (omega arith)
