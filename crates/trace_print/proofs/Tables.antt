-- The content of the tables of pairs of digits.
use Rattle.std.proofs.Common.{◌≡◌, ℕ, zero, suc, ◌+◌, ◌-◌, ◌*◌, ◌/◌, ◌%◌, ◌<◌}
use Rattle.std.proofs.Common.{Bool, true, false, ◌&&◌, T, eqb, List, [], ◌∷◌}
use Rattle.std.proofs.Common.{get_or, refl, inl, inr, arith, eq-zero-or-pos, eqb→eq}
use Rattle.trace_print.specs.Digits.{hex_digit, hex, two_digits}
use Rattle.trace_print.specs.declared.in_place.TheConstants.{HEX_PAIRS, DECIMAL_PAIRS}

and_l : (a b : Bool) → T (a && b) → T a
and_l true b both = tt
and_l false b both = both

and_r : (a b : Bool) → T (a && b) → T b
and_r true b both = both
and_r false b both = absurd both

-- the first n entries of a table, tested one by one
abbrev are_pairs : List ℕ → (ℕ → ℕ) → (ℕ → ℕ) → ℕ → Bool
are_pairs table high low zero = true
are_pairs table high low (suc n) =
    (eqb (get_or table (n * 2) 0) (high n) && eqb (get_or table (n * 2 + 1) 0) (low n))
    && are_pairs table high low n

pair_at : (table : List ℕ) (high low : ℕ → ℕ) (n k : ℕ) → T (are_pairs table high low n) → k < n →
    (get_or table (k * 2) 0 ≡ high k) × (get_or table (k * 2 + 1) 0 ≡ low k)
pair_at table high low zero k tested below = absurd (omega arith)
pair_at table high low (suc n) k tested below =
    elim (eq-zero-or-pos (n - k)) [
      | inl z ↦
          let e : k ≡ n = omega arith in
          let newest = and_l _ (are_pairs table high low n) tested in
          rw e (eqb→eq _ _ (and_l _ _ newest), eqb→eq _ _ (and_r _ _ newest))
      | inr g ↦
          pair_at table high low n k (and_r _ (are_pairs table high low n) tested) (omega arith)
    ]

-- the two hexadecimal digits of a byte
pub hex_pair : (b : ℕ) → b < 256 →
    get_or HEX_PAIRS (b * 2) 0 ∷ get_or HEX_PAIRS (b * 2 + 1) 0 ∷ [] ≡ hex 2 b
unfolding hex
hex_pair b below =
    let found =
    pair_at HEX_PAIRS (λ n. hex_digit (n / 16 % 16)) (λ n. hex_digit (n % 16)) 256 b tt below in
    rw (found.0, found.1) refl

-- the two decimal digits of a number below 100
pub decimal_pair : (n : ℕ) → n < 100 →
    get_or DECIMAL_PAIRS (n * 2) 0 ∷ get_or DECIMAL_PAIRS (n * 2 + 1) 0 ∷ [] ≡ two_digits n
unfolding two_digits
decimal_pair n below =
    let found = pair_at DECIMAL_PAIRS (λ n. 48 + n / 10) (λ n. 48 + n % 10) 100 n tt below in
    rw (found.0, found.1) refl
