-- The line of a bound, by this project's format.
use Rattle.std.specs.Prelude.{ℕ, List, ◌++◌, decimal, codes}

-- the cycles in decimal
unfoldable pub bound_text : ℕ → List ℕ
bound_text cycles = codes "bound " ++ (decimal cycles ++ codes "\n")
