-- The registers of a view's regions, and the test for the thread's own region.
use Rattle.std.proofs.Common.{◌≡◌, ℕ, ◌<◌, true, false, ◌&&◌, get_or}
use Rattle.std.proofs.Common.{map, inl, inr, refl, ap, sym, ◌∙◌, arith}
use Rattle.std.proofs.Math.ListN.{get_or-map}
use Rattle.std.proofs.lemmas.Bool.Decides.{nat_tests}
use Rattle.region_guard.specs.declared.access.Guard.{Guard}
use Rattle.region_guard.specs.Regions.{IsSize, RegionKind, is_code, is_data, is_mine}
use Rattle.region_guard.specs.Regions.{is_readable, is_writable, may_load, may_store}
use Rattle.region_guard.specs.Regions.{region_kind, region_kind_at, region_of}
use Rattle.region_guard.specs.Regions.RegionKind.{Mine, ReadOnly, Shared, Foreign}
use Rattle.slot_table.specs.Nibbles.{nibbles}
use Rattle.core_model.specs.View.{kind_at}
use Rattle.core_model.specs.Viewed.{region_kinds}

region_kind-none : (i : ℕ) → i < 8 → region_kind i 15 ≡ Foreign
unfolding region_kind
region_kind-none i h = grind (arith, nat_tests)

-- the kind of an address in the view is that of its region
pub kind-is : (i size regions address : ℕ) → i < 8 →
    kind_at size (region_kinds i regions) address ≡ region_kind_at i size regions address
kind-is i size regions address h =
    ap (λ d. get_or (map (region_kind i) (nibbles regions)) (region_of size address) d)
    (sym (region_kind-none i h))
    ∙ get_or-map (region_kind i) (nibbles regions) (region_of size address) 15

-- no address lies in both scratchpads
apart : (size address : ℕ) → IsSize size → is_data size address ≡ true →
    is_code size address ≡ false
apart size address (inl e) d = grind (arith, nat_tests)
apart size address (inr e) d = grind (arith, nat_tests)

both : (k : RegionKind) → (is_readable k && is_writable k) ≡ is_mine k
both Mine = refl
both ReadOnly = refl
both Shared = refl
both Foreign = refl

-- a region that the thread may load from and store to is its own
pub own_store : (g : Guard) (thread address width : ℕ) →
    thread < 8 → is_data g.size address ≡ true →
    (may_load thread g.size true g.i g.d address width && may_store thread g.size g.d address width)
    ≡ is_mine (kind_at g.size (region_kinds thread g.d) address)
unfolding may_load may_store
own_store g thread address width h d =
    rw (apart g.size address g.sized d, d, kind-is thread g.size g.d address h)
    (both (region_kind_at thread g.size g.d address))
