-- The addresses of the scratchpads and the port, in bytes. The instruction scratchpad begins at 0,
-- and both have the same size. Source: this project's profile.
use Rattle.std.specs.Prelude.{ℕ}

-- the two sizes of a scratchpad that there are
abbrev pub small_size : ℕ
small_size = 16384

abbrev pub large_size : ℕ
large_size = 65536

-- the first byte of the data scratchpad
abbrev pub data_start : ℕ
data_start = 0x20000000

-- the word of a thread's port
abbrev pub port_address : ℕ
port_address = 0x40000000
