-- The regions of the two scratchpads, and the permissions of threads to fetch, load and store.
-- `size` is that of each scratchpad, in bytes; each has eight regions of `size` / 8 bytes.
use Rattle.std.specs.Prelude.{◌≡◌, ◌⊎◌, ℕ, ◌+◌, ◌/◌, ◌%◌, ◌==◌, nat_lt, nat_le}
use Rattle.std.specs.Prelude.{Bool, true, false, not, ◌&&◌, ◌||◌, if◌then◌else◌}
use Rattle.std.proofs.Common.{inl, inr, ap, arith}
use Rattle.std.proofs.Math.Nat.{ℕ_set}
use Rattle.slot_table.specs.Nibbles.{nibble_at}
use Rattle.region_guard.specs.MemoryMap.{small_size, large_size, data_start, port_address}

-- the sizes that there are
abbrev pub IsSize : ℕ → Type 0
IsSize size = (size ≡ small_size) ⊎ (size ≡ large_size)

-- IsSize is a proposition
pub IsSize-prop : (size : ℕ) → IsProp (IsSize size)
IsSize-prop size (inl a) (inl b) = ap inl (ℕ_set size small_size a b)
IsSize-prop size (inl a) (inr b) = absurd (omega arith)
IsSize-prop size (inr a) (inl b) = absurd (omega arith)
IsSize-prop size (inr a) (inr b) = ap inr (ℕ_set size large_size a b)

-- the nibble of a shared region, and that of a read only one
abbrev pub shared_region : ℕ
shared_region = 8

abbrev pub read_only_region : ℕ
read_only_region = 12

-- the allowed nibbles of a region register: a thread, shared or read only
abbrev pub is_owner_nibble : ℕ → Bool
is_owner_nibble nibble = nat_le nibble shared_region || nibble == read_only_region

-- the kind of a region for a thread
pub data RegionKind : Type 0 where
  Mine : RegionKind
  ReadOnly : RegionKind
  Shared : RegionKind
  Foreign : RegionKind

-- by the region's nibble in the register
unfoldable pub region_kind : ℕ → ℕ → RegionKind
region_kind thread nibble =
    if nibble == thread then Mine
    else if nibble == shared_region then Shared
    else if nibble == read_only_region then ReadOnly
    else Foreign

-- whether a confined thread may load and fetch in a region of this kind
abbrev pub is_readable : RegionKind → Bool
is_readable Mine = true
is_readable ReadOnly = true
is_readable Shared = false
is_readable Foreign = false

-- whether a thread may store in a region of this kind
abbrev pub is_writable : RegionKind → Bool
is_writable Mine = true
is_writable ReadOnly = false
is_writable Shared = true
is_writable Foreign = false

-- whether a store in a region of this kind changes the words that the thread reads
abbrev pub is_mine : RegionKind → Bool
is_mine Mine = true
is_mine ReadOnly = false
is_mine Shared = false
is_mine Foreign = false

-- the instruction scratchpad, the data scratchpad, and the word of the port
abbrev pub is_code : ℕ → ℕ → Bool
is_code size address = nat_lt address size

abbrev pub is_data : ℕ → ℕ → Bool
is_data size address = nat_le data_start address && nat_lt address (data_start + size)

abbrev pub is_port : ℕ → ℕ → Bool
is_port address width = address == port_address && width == 4

-- the region of an address in its scratchpad, and the index of its word there
unfoldable pub region_of : ℕ → ℕ → ℕ
region_of size address = address % size / (size / 8)

unfoldable pub index_of : ℕ → ℕ → ℕ
index_of size address = address % size / 4

-- the kind of an address's region for a thread, from the region register
abbrev pub region_kind_at : ℕ → ℕ → ℕ → ℕ → RegionKind
region_kind_at thread size regions address =
    region_kind thread (nibble_at regions (region_of size address))

-- whether a confined or an unconfined thread may read there
abbrev pub may_read : ℕ → ℕ → Bool → ℕ → ℕ → Bool
may_read thread size confined regions address =
    not confined || is_readable (region_kind_at thread size regions address)

-- whether a thread may fetch, load and store at an address. The address is aligned for the width,
-- which is in bytes
unfoldable pub may_fetch : ℕ → ℕ → Bool → ℕ → ℕ → Bool
may_fetch thread size confined iregions address =
    is_code size address && may_read thread size confined iregions address

unfoldable pub may_load : ℕ → ℕ → Bool → ℕ → ℕ → ℕ → ℕ → Bool
may_load thread size confined iregions dregions address width =
    if is_code size address then may_read thread size confined iregions address
    else if is_data size address then may_read thread size confined dregions address
    else is_port address width

unfoldable pub may_store : ℕ → ℕ → ℕ → ℕ → ℕ → Bool
may_store thread size dregions address width =
    if is_data size address then is_writable (region_kind_at thread size dregions address)
    else is_port address width
