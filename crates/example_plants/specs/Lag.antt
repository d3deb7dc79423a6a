-- First-order lags, in numbers with 16 bits after the binary point.
use Rattle.std.specs.Prelude.{ℕ, ℤ, ◌+ℤ◌, ◌-ℤ◌}
use Rattle.std.specs.Int.{w32, int_shr, saturate_signed}

-- a value that approaches a target: by the difference over 2 to the power of some bits
abbrev pub lag_step : ℤ → ℤ → ℕ → ℤ
lag_step value target bits =
    saturate_signed w32 (value +ℤ int_shr (saturate_signed w32 (target -ℤ value)) bits)
