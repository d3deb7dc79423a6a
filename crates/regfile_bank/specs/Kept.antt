-- The bank's storage of its registers: a row of 32 words for each thread; the first word is x0's 0.
use Rattle.std.specs.Prelude.{◌≡◌, ℕ, List, [], ◌∷◌, All, map, drop, length}
use Rattle.std.proofs.Common.{refl, sym, ap₂, zero, suc, zero-lt-suc, suc-le-suc}

abbrev pub with_x0 : List ℕ → List ℕ
with_x0 registers = 0 ∷ registers

abbrev pub IsRow : List ℕ → Type 0
IsRow row = (row ≡ with_x0 (drop 1 row)) × (length row ≡ 32)

-- the rows follow from the registers
pub rows_again : (rows : List (List ℕ)) → All IsRow rows → map with_x0 (map (drop 1) rows) ≡ rows
rows_again [] all = refl
rows_again (row ∷ rows) all =
    let first = all zero [] (zero-lt-suc (length rows)) in
    ap₂ (λ row rows. row ∷ rows) (sym first.0)
    (rows_again rows (λ k d inside. all (suc k) d (suc-le-suc inside)))
