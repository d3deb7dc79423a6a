-- Loads and stores: their bytes in the aligned word that contains them, little endian ("Load and
-- Store Instructions").
use Rattle.std.specs.Prelude.{◌≡◌, ℕ, ◌+◌, ◌-◌, ◌*◌, ◌/◌, ◌%◌, ◌^◌}
use Rattle.std.specs.Prelude.{◌==◌, Bool, nat_lt, if◌then◌else◌}
use Rattle.rv_exec.specs.Words.{bit}
use Rattle.rv_exec.specs.declared.outcome.Lanes.{Lanes}
use Rattle.rv_decode.specs.declared.instruction.LoadOp.{LoadOp}
use Rattle.rv_decode.specs.declared.instruction.LoadOp.TheVariants.{Lb, Lh, Lw, Lbu, Lhu}
use Rattle.rv_decode.specs.declared.instruction.StoreOp.{StoreOp}
use Rattle.rv_decode.specs.declared.instruction.StoreOp.TheVariants.{Sb, Sh, Sw}
use Rattle.rv_decode.specs.declared.instruction.Ins.{Ins}
use Rattle.rv_decode.specs.declared.instruction.Ins.TheVariants.{Load, Store}

-- the number of bytes that a load reads
abbrev pub load_size : LoadOp → ℕ
load_size Lb = 1
load_size Lh = 2
load_size Lw = 4
load_size Lbu = 1
load_size Lhu = 2

-- the number of bytes that a store writes
abbrev pub store_size : StoreOp → ℕ
store_size Sb = 1
store_size Sh = 2
store_size Sw = 4

-- whether an address is a multiple of a number of bytes
abbrev pub is_aligned : ℕ → ℕ → Bool
is_aligned address size = address % size == 0

-- the address of a load or store is a multiple of its number of bytes
abbrev pub IsAligned : Ins → ℕ → Type 0
IsAligned (Load op rd rs1 imm) address = address % load_size op ≡ 0
IsAligned (Store op rs1 rs2 imm) address = address % store_size op ≡ 0
IsAligned _ address = Unit {0}

-- a number of bytes of a word from an address on, as a number
abbrev pub bytes_at : ℕ → ℕ → ℕ → ℕ
bytes_at size address w = w / 256 ^ (address % 4) % 256 ^ size

-- a number of a given width in bytes, sign extended to 32 bits
abbrev pub sign_extension : ℕ → ℕ → ℕ
sign_extension size n = if nat_lt n (256 ^ size / 2) then n else n + (2 ^ 32 - 256 ^ size)

-- the value of a load, from the aligned word that contains the address
unfoldable pub loaded_value : LoadOp → ℕ → ℕ → ℕ
loaded_value Lb address w = sign_extension 1 (bytes_at 1 address w)
loaded_value Lh address w = sign_extension 2 (bytes_at 2 address w)
loaded_value Lw address w = bytes_at 4 address w
loaded_value Lbu address w = bytes_at 1 address w
loaded_value Lhu address w = bytes_at 2 address w

-- a number of low bytes of a value in their lanes in the aligned word, with 0 in the others, and
-- the mask of these lanes
unfoldable pub lanes_at : ℕ → ℕ → ℕ → Lanes
lanes_at size address value = record {
  mask = (2 ^ size - 1) * 2 ^ (address % 4);
  value = value % 256 ^ size * 256 ^ (address % 4);
}

-- the lanes that a store writes
abbrev pub lanes : StoreOp → ℕ → ℕ → Lanes
lanes op address b = lanes_at (store_size op) address b

-- the byte at a lane of a word, 0 to 3
abbrev pub byte : ℕ → ℕ → ℕ
byte w lane = w / 256 ^ lane % 256

-- the byte at a lane after lanes are written: the new byte if the mask has the lane, else the old
-- one
abbrev pub merged_byte : ℕ → Lanes → ℕ → ℕ
merged_byte old l lane = if bit l.mask lane == 1 then byte l.value lane else byte old lane

-- a word once lanes are written
unfoldable pub merged_word : ℕ → Lanes → ℕ
merged_word old l =
    merged_byte old l 0 + merged_byte old l 1 * 256 + merged_byte old l 2 * 256 ^ 2
    + merged_byte old l 3 * 256 ^ 3
