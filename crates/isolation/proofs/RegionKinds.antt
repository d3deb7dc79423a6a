-- A region's kinds for two threads, and the kinds of a view.
use Rattle.std.proofs.Common.{◌≡◌, ◌≢◌, ℕ, ◌/◌, ◌<◌, inl, inr, true}
use Rattle.std.proofs.Common.{false, get_or, map, ap, sym, ◌∙◌, arith}
use Rattle.std.proofs.Math.ListN.{get_or-map}
use Rattle.std.proofs.lemmas.Bool.Decides.{nat_tests}
use Rattle.core_model.specs.View.{kind_at}
use Rattle.slot_table.specs.Nibbles.{nibbles}
use Rattle.region_guard.specs.Regions.{IsSize, index_of, is_mine, is_readable}
use Rattle.region_guard.specs.Regions.{is_writable, region_of, region_kind, region_kind_at}
use Rattle.core_model.specs.Viewed.{region_kinds, sees}
use Rattle.region_guard.specs.Regions.RegionKind.{Foreign}

region_kind-none : (i : ℕ) → i < 8 → region_kind i 15 ≡ Foreign
unfolding region_kind
region_kind-none i h = grind (arith, nat_tests)

-- the kind of an address in the view is that of its region
pub kind-is : (i size regions address : ℕ) → i < 8 →
    kind_at size (region_kinds i regions) address ≡ region_kind_at i size regions address
kind-is i size regions address h =
    ap (λ d. get_or (map (region_kind i) (nibbles regions)) (region_of size address) d)
    (sym (region_kind-none i h))
    ∙ get_or-map (region_kind i) (nibbles regions) (region_of size address) 15

region-is : (size address : ℕ) → IsSize size →
    index_of size address / (size / 32) ≡ region_of size address
unfolding index_of region_of
region-is size address (inl e) = rw e (omega arith)
region-is size address (inr e) = rw e (omega arith)

-- the word of an address is seen where its region may be read
pub sees-is : (i size regions address : ℕ) → IsSize size → i < 8 →
    sees size (region_kinds i regions) (index_of size address)
    ≡ is_readable (region_kind_at i size regions address)
sees-is i size regions address z h =
    ap (λ k. is_readable (get_or (region_kinds i regions) k Foreign)) (region-is size address z)
    ∙ ap is_readable (kind-is i size regions address h)

-- a thread may not read a region that another thread may write
pub others_write : (i k nibble : ℕ) → i < 8 → k < 8 → k ≢ i →
    is_writable (region_kind k nibble) ≡ true → is_readable (region_kind i nibble) ≡ false
unfolding region_kind
others_write i k nibble h l d w = grind (arith, nat_tests)

-- a region that a thread may write and read is its own
pub writes_own : (i nibble : ℕ) → i < 8 → is_writable (region_kind i nibble) ≡ true →
    is_readable (region_kind i nibble) ≡ is_mine (region_kind i nibble)
unfolding region_kind
writes_own i nibble h w = grind (arith, nat_tests)
