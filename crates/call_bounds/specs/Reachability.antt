-- Reachability in the call graph: which functions calls lead to, by a table of which calls which.
use Rattle.std.specs.Prelude.{◌≡◌, ℕ, ◌+◌, ◌*◌, ◌<◌, ◌≤◌, ◌⊎◌, ◌↔◌, Bool, true}
use Rattle.std.specs.Prelude.{false, cond, List, length, slice_index_or, sum_by}

-- function j calls function k, in a table of n rows of n
abbrev pub HasCall : ℕ → List Bool → ℕ → ℕ → Type 0
HasCall n table j k = (j < n) × (k < n) × (slice_index_or table (j * n + k) false ≡ true)

-- calls lead from function a to function k: one or more
pub data IsCalled (n : ℕ) (table : List Bool) (a : ℕ) : ℕ → Type 0 where
  one : {k : ℕ} → HasCall n table a k → IsCalled n table a k
  more : {j k : ℕ} → IsCalled n table a j → HasCall n table j k → IsCalled n table a k

-- whether the function is marked
abbrev pub is_met : List Bool → ℕ → Bool
is_met met k = slice_index_or met k false

-- the marked functions are reachable by calls
abbrev pub IsSound : ℕ → List Bool → ℕ → List Bool → Type 0
IsSound n table a met = (k : ℕ) → is_met met k ≡ true → IsCalled n table a k

-- the callees of the marked functions are marked
abbrev pub IsClosed : ℕ → List Bool → List Bool → Type 0
IsClosed n table met = (j k : ℕ) → is_met met j ≡ true → HasCall n table j k → is_met met k ≡ true

-- exactly the functions reachable by calls are marked
pub record IsExact (n : ℕ) (table : List Bool) (a : ℕ) (met : List Bool) : Type 0 where
  pub count : length met ≡ n
  pub exact : (k : ℕ) → (is_met met k ≡ true) ↔ IsCalled n table a k

-- how many functions aren't marked yet
abbrev pub unmet_count : List Bool → ℕ
unmet_count met = sum_by (λ b. cond b 0 1) met

-- the callees of function j that are below c were marked
pub record Spread (n : ℕ) (table : List Bool) (j c : ℕ) (old new : List Bool)
    (changed : Bool) : Type 0 where
  pub count : length new ≡ n
  pub grows : (k : ℕ) → is_met old k ≡ true → is_met new k ≡ true
  pub here : (k : ℕ) → k < c → HasCall n table j k → is_met new k ≡ true
  pub from : (k : ℕ) → is_met new k ≡ true → (is_met old k ≡ true) ⊎ HasCall n table j k
  pub same : changed ≡ false → new ≡ old
  pub less : changed ≡ true → unmet_count new < unmet_count old
  pub fewer : unmet_count new ≤ unmet_count old

-- the same, if function j is marked
abbrev pub SpreadMet : ℕ → List Bool → ℕ → List Bool → List Bool → Bool → Type 0
SpreadMet n table j old new changed =
    ((is_met old j ≡ false) × (changed ≡ false) × (new ≡ old))
    ⊎ ((is_met old j ≡ true) × Spread n table j n old new changed)

-- the callees of the marked functions below c were marked
pub record Swept (n : ℕ) (table : List Bool) (c : ℕ) (old new : List Bool)
    (changed : Bool) : Type 0 where
  pub count : length new ≡ n
  pub grows : (k : ℕ) → is_met old k ≡ true → is_met new k ≡ true
  pub sound : (a : ℕ) → IsSound n table a old → IsSound n table a new
  pub closed : changed ≡ false → (j k : ℕ) → j < c → is_met new j ≡ true → HasCall n table j k →
      is_met new k ≡ true
  pub same : changed ≡ false → new ≡ old
  pub less : changed ≡ true → unmet_count new < unmet_count old
  pub fewer : unmet_count new ≤ unmet_count old
