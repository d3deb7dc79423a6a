-- A motor: its current and its speed. Numbers have 16 bits after the binary point.
use Rattle.std.specs.Prelude.{ℕ, ℤ, pos, ◌-◌, ◌==◌, ◌-ℤ◌, if◌then◌else◌, List, fold}
use Rattle.std.specs.Int.{w32, saturate_signed, cast_signed, cast_unsigned}
use Rattle.example_plants.specs.Lag.{lag_step}

-- a motor between two steps
pub record Turning : Type 0 where
  pub current : ℤ
  pub speed : ℤ
  pub unloaded : ℕ  -- how many steps are left before its load comes

-- a motor at rest
abbrev pub resting : ℕ → Turning
resting unloaded = record { current = pos 0; speed = pos 0; unloaded = unloaded }

-- the load: 4.0 of the torque once no unloaded step is left
abbrev pub torque_of_load : ℕ → ℤ
torque_of_load unloaded = if unloaded == 0 then pos 0x40000 else pos 0

-- the motor after a step that takes a word as voltage: the current approaches the voltage less the
-- speed, with a time constant of 16 steps, and the speed approaches the current less the load, with
-- one of 64
abbrev pub motor_after : Turning → ℕ → Turning
motor_after motor word =
    let unloaded = motor.unloaded - 1 in
    let voltage = saturate_signed w32 (cast_signed w32 word -ℤ motor.speed) in
    let current = lag_step motor.current voltage 4 in
    let torque = saturate_signed w32 (current -ℤ torque_of_load unloaded) in
    record { current = current; speed = lag_step motor.speed torque 6; unloaded = unloaded }

-- the speed after steps that take these words
abbrev pub speed_after : Turning → List ℕ → ℕ
speed_after motor words = cast_unsigned w32 (fold motor_after motor words).speed
