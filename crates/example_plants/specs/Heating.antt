-- A heated body and a sensor in it. Temperatures and heating have 16 bits after the binary point.
use Rattle.std.specs.Prelude.{ℕ, ℤ, pos, ◌-◌, ◌==◌, ◌-ℤ◌, if◌then◌else◌, List, fold}
use Rattle.std.specs.Int.{w32, saturate_signed, cast_signed, cast_unsigned}
use Rattle.example_plants.specs.Lag.{lag_step}

-- a body between two steps
pub record Heated : Type 0 where
  pub body : ℤ  -- its temperature
  pub sensor : ℤ  -- the sensor's
  pub unloaded : ℕ  -- how many steps are left before its load comes

-- a cold body
abbrev pub cold : ℕ → Heated
cold unloaded = record { body = pos 0; sensor = pos 0; unloaded = unloaded }

-- the load: 4.0 of the heating once no unloaded step is left
abbrev pub load : ℕ → ℤ
load unloaded = if unloaded == 0 then pos 0x40000 else pos 0

-- the body after a step that takes a word as heating
abbrev pub after : Heated → ℕ → Heated
after heated word =
    let unloaded = heated.unloaded - 1 in
    let heat = saturate_signed w32 (cast_signed w32 word -ℤ load unloaded) in
    let body = lag_step heated.body heat 7 in
    record { body = body; sensor = lag_step heated.sensor body 3; unloaded = unloaded }

-- the sensor's temperature after steps that take these words
abbrev pub sensor_word : Heated → List ℕ → ℕ
sensor_word heated words = cast_unsigned w32 (fold after heated words).sensor
