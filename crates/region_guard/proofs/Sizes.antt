-- Regions of an offset in a scratchpad and of its address, by the two sizes.
use Rattle.std.proofs.Common.{◌≡◌, ◌<◌, ◌≤◌, ℕ, ◌-◌, ◌/◌, ◌^◌, inl, inr, refl, arith}
use Rattle.std.specs.Int.{trailing_zeros, w32}
use Rattle.std.specs.Int.Count.{count_trailing_zeros}
use Rattle.region_guard.specs.MemoryMap.{data_start, large_size, small_size}
use Rattle.region_guard.specs.Regions.{IsSize, region_of}

zeros_small : trailing_zeros w32 small_size ≡ 14
unfolding count_trailing_zeros
zeros_small = refl

zeros_large : trailing_zeros w32 large_size ≡ 16
unfolding count_trailing_zeros
zeros_large = refl

-- the size is a power of two of at least eight
pub zeros_below : (size : ℕ) → IsSize size → 3 ≤ trailing_zeros w32 size
zeros_below size (inl e) = rw (e, zeros_small) (omega arith)
zeros_below size (inr e) = rw (e, zeros_large) (omega arith)

-- the shift by a region's size, which is an eighth of the scratchpad's
pub region_by_shift : (size offset : ℕ) → IsSize size → offset < size →
    offset / 2 ^ (trailing_zeros w32 size - 3) ≡ region_of size offset
unfolding region_of
region_by_shift size offset (inl e) inside = rw (e, zeros_small) (omega (arith, rw e at inside))
region_by_shift size offset (inr e) inside = rw (e, zeros_large) (omega (arith, rw e at inside))

pub region_small : (size offset : ℕ) → IsSize size → region_of size offset < 8
unfolding region_of
region_small size offset (inl e) = rw e (omega arith)
region_small size offset (inr e) = rw e (omega arith)

-- the data scratchpad starts at a multiple of both sizes
pub data_region : (size address : ℕ) → IsSize size → data_start ≤ address →
    region_of size (address - data_start) ≡ region_of size address
unfolding region_of
data_region size address (inl e) from = rw e (omega (arith, from))
data_region size address (inr e) from = rw e (omega (arith, from))
