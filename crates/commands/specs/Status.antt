-- The numbers of the statuses.
use Rattle.std.specs.Prelude.{◌≡◌, ℕ, ◌⊎◌}
use Rattle.commands.specs.declared.status.Status.{Status}
use Rattle.commands.specs.declared.status.Status.TheVariants.{Ok, Differs, Usage, Setup}
use Rattle.commands.specs.declared.status.Status.TheVariants.{Image, Source, Bound, Read}
use Rattle.commands.specs.declared.status.Status.TheVariants.{Write, NoMemory, Routines}

abbrev pub number_of : Status → ℕ
number_of Ok = 0
number_of Differs = 1
number_of Usage = 2
number_of Setup = 3
number_of Image = 4
number_of Source = 5
number_of Bound = 6
number_of Read = 7
number_of Write = 8
number_of NoMemory = 9
number_of Routines = 10

-- the statuses that there are
abbrev pub IsStatus : ℕ → Type 0
IsStatus n =
    (n ≡ 0) ⊎ ((n ≡ 1) ⊎ ((n ≡ 2)
    ⊎ ((n ≡ 3) ⊎ ((n ≡ 4) ⊎ ((n ≡ 5) ⊎ ((n ≡ 6) ⊎ ((n ≡ 7) ⊎ ((n ≡ 8) ⊎ ((n ≡ 9) ⊎ (n ≡ 10))))))))))
