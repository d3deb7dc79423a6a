-- Costs between positions: sets of (start, cost, end), and matrices that hold the best of a set.
-- Sums saturate at a ceiling, and costs from there on count as equal.
use Rattle.std.specs.Prelude.{◌≡◌, ℕ, zero, suc, ◌+◌, ◌-◌, ◌^◌, ◌≤◌, ◌⊎◌, min, Option, Some}

-- a set of (position at the start, cost, position at the end)
abbrev pub Costs : Type 1
Costs = ℕ → ℕ → ℕ → Type 0

-- no step
abbrev pub Stays : (ℕ → Type 0) → Costs
Stays own p c q = own p × (p ≡ q) × (c ≡ 0)

-- the costs of both sets
abbrev pub Either : Costs → Costs → Costs
Either f g p c q = f p c q ⊎ g p c q

-- one of the first, and then one of the second
pub record Then (f g : Costs) (p c q : ℕ) : Type 0 where
  pub at : ℕ
  pub one : ℕ
  pub two : ℕ
  pub first : f p one at
  pub second : g at two q
  pub cost : c ≡ one + two

-- so many of a set, one after the other
abbrev pub Power : (ℕ → Type 0) → Costs → ℕ → Costs
Power own f zero = Stays own
Power own f (suc n) = Then (Power own f n) f

-- a matrix, none where there is no path
abbrev pub Entries : Type 0
Entries = ℕ → ℕ → Option ℕ

-- the costs that a matrix holds
abbrev pub In : Entries → Costs
In m p c q = m p q ≡ Some c

-- the number at which sums saturate
abbrev pub ceiling : ℕ
ceiling = 2 ^ 128 - 1

-- no cost of the set is above its entry
abbrev pub Covers : Entries → Costs → Type 0
Covers m f = (p c q : ℕ) → f p c q → (e : ℕ) × (m p q ≡ Some e) × (min c ceiling ≤ e)

-- each entry is a cost of the set
abbrev pub Among : Entries → Costs → Type 0
Among m f = (p e q : ℕ) → m p q ≡ Some e → (c : ℕ) × f p c q × (min e ceiling ≡ min c ceiling)

-- each entry is the largest cost, and none where there is no cost
abbrev pub IsBest : Entries → Costs → Type 0
IsBest m f = Covers m f × Among m f

-- g has a cost at least as large as each of f, and each cost of g equals one of f, both up to the
-- ceiling
pub record AreBest (g f : Costs) : Type 0 where
  pub covers : (p c q : ℕ) → f p c q → (e : ℕ) × g p e q × (min c ceiling ≤ min e ceiling)
  pub among : (p e q : ℕ) → g p e q → (c : ℕ) × f p c q × (min e ceiling ≡ min c ceiling)
