-- The bytes that a sink has taken, line by line.
use Rattle.std.proofs.Common.{◌≡◌, ℕ, zero, suc, ◌+◌, ◌-◌, ◌<◌, List, ◌∷◌}
use Rattle.std.proofs.Common.{◌++◌, Option, arith, refl, ap, sym, subst, ◌∙◌}
use Rattle.std.specs.Prelude.{flat_map}
use Rattle.std.specs.List.{range_with_len}
use Rattle.std.proofs.lemmas.List.{append-nil}
use Rattle.std.proofs.lemmas.Grind.{flat_map-append}
use Rattle.std.specs.Io.KnownBytes.{Appends}
use Rattle.fp_io.specs.Content.{AppendsPrefix}
use Rattle.fp_io.proofs.Prefixes.{appends_more, appends_prefix}

split : (a n m : ℕ) → range_with_len a (n + m) ≡ range_with_len a n ++ range_with_len (a + n) m
split a zero m =
    let (e, d) : (zero + m ≡ m) × (a + zero ≡ a) = (omega arith, omega arith) in rw (e, d) refl
split a (suc n) m =
    let e : suc n + m ≡ suc (n + m) = omega arith in
    let d : a + suc n ≡ a + 1 + n = omega arith in
    rw (e, d) (ap (λ xs. a ∷ xs) (split (a + 1) n m))

-- one more line
pub next_line : (line : ℕ → List ℕ) (k : ℕ) →
    flat_map line (range_with_len 0 (k + 1)) ≡ flat_map line (range_with_len 0 k) ++ line k
next_line line k =
    ap (flat_map line) (split 0 k 1)
    ∙ flat_map-append line (range_with_len 0 k) (range_with_len (0 + k) 1)
    ∙ ap (λ xs. flat_map line (range_with_len 0 k) ++ xs)
    (append-nil (line (0 + k)) ∙ ap line (omega arith))

pub line_taken : (before between after : Option (List ℕ)) (line : ℕ → List ℕ) (k : ℕ) →
    Appends before between (flat_map line (range_with_len 0 k)) → Appends between after (line k) →
    Appends before after (flat_map line (range_with_len 0 (k + 1)))
line_taken before between after line k first second =
    let Put : List ℕ → Type 0 = λ text. Appends before after text in
    subst Put (sym (next_line line k))
    (appends_more before between after (flat_map line (range_with_len 0 k)) (line k) first second)

-- a line was written in part
pub line_begun : (before between after : Option (List ℕ)) (line : ℕ → List ℕ) (k n : ℕ) →
    k < n → Appends before between (flat_map line (range_with_len 0 k)) →
    AppendsPrefix between after (line k) →
    AppendsPrefix before after (flat_map line (range_with_len 0 n))
line_begun before between after line k n within first second =
    let m : ℕ = n - (k + 1) in
    let all : n ≡ k + 1 + m = omega arith in
    let whole : flat_map line (range_with_len 0 n) ≡ (flat_map line (range_with_len 0 k) ++ line k)
    ++ flat_map line (range_with_len (0 + (k + 1)) m) =
    ap (λ i. flat_map line (range_with_len 0 i)) all ∙ ap (flat_map line) (split 0 (k + 1) m)
    ∙ flat_map-append line (range_with_len 0 (k + 1)) (range_with_len (0 + (k + 1)) m)
    ∙ ap (λ xs. xs ++ flat_map line (range_with_len (0 + (k + 1)) m)) (next_line line k) in
    appends_prefix before between after (flat_map line (range_with_len 0 k))
    (line k) (flat_map line (range_with_len (0 + (k + 1)) m))
    (flat_map line (range_with_len 0 n)) whole first second
