-- A ramp at a port.
use Rattle.std.specs.Prelude.{ℕ, ◌/◌, ◌%◌, ◌^◌, Bool, false, Option}
use Rattle.std.specs.Prelude.{Some, None, nat_le, if◌then◌else◌}
use Rattle.fp_ports.specs.Kinds.{HeldModel, new_held, held_word}

-- a port that shows a ramp until it is fed: the number of cycles of each word of the ramp, the
-- first fed cycle, and the feeds
pub record Ramp : Type 0 where
  pub every : ℕ
  pub first : Option ℕ
  pub held : HeldModel

-- nothing was fed
abbrev pub new_ramp : ℕ → Ramp
new_ramp every = record { every = every; first = None; held = new_held }

-- the ramp rises by 1 every `every` cycles, from 0 in cycle 0, and wraps at 32 bits
abbrev pub ramp : ℕ → ℕ → ℕ
ramp every c = c / every % 2 ^ 32

-- the cycle is at or after the first fed one, if there is one
abbrev pub is_fed : Option ℕ → ℕ → Bool
is_fed None c = false
is_fed (Some first) c = nat_le first c

-- the ramp until the first fed cycle, and then the fed words
abbrev pub shown_word : Ramp → ℕ → ℕ
shown_word port c = if is_fed port.first c then held_word port.held c else ramp port.every c
