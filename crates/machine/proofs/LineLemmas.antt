-- Eight words of a line, one by one.
use Rattle.std.proofs.Common.{◌≡◌, ℕ, ◌+◌, [], ◌∷◌}
use Rattle.machine.specs.DumpedState.{eight_from}

pub eight_read : (f : ℕ → ℕ) (k a b c d e g h i : ℕ) → a ≡ f k → b ≡ f (k + 1) → c ≡ f (k + 2) →
    d ≡ f (k + 3) → e ≡ f (k + 4) → g ≡ f (k + 5) → h ≡ f (k + 6) → i ≡ f (k + 7) →
    a ∷ b ∷ c ∷ d ∷ e ∷ g ∷ h ∷ i ∷ [] ≡ eight_from f k
eight_read f k a b c d e g h i p0 p1 p2 p3 p4 p5 p6 p7 =
    λ t. p0 t ∷ p1 t ∷ p2 t ∷ p3 t ∷ p4 t ∷ p5 t ∷ p6 t ∷ p7 t ∷ []
