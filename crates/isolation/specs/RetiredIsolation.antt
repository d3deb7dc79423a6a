-- The theorems of isolation, with premises only on issues that have retired. The events of a thread
-- are those of these issues.
use Rattle.std.specs.Prelude.{◌≡◌, ℕ, ◌-◌, true}
use Rattle.std.specs.List.{list_all}
use Rattle.core_model.specs.Solo.{solo}
use Rattle.core_model.specs.World.{Start, events, is_quiet}
use Rattle.core_model.specs.Viewed.{view}
use Rattle.core_model.specs.Phases.{phases, keeps_regions, is_never_soft}
use Rattle.core_model.specs.Phased.{phased}
use Rattle.isolation.specs.Isolation.{StartsConfined, StartsConfinedHard, StartsUnconfinedHard}
use Rattle.isolation.specs.Wide.{wide_view, wide_solo}
use Rattle.core_model.specs.Delays.{cycles_to_w}

-- If no retired issue writes a configuration register, the events of a confined hard thread are
-- those of the one-thread definition over its view. The issues in flight may write anything.
abbrev pub RetiredIsolation : Type 0
RetiredIsolation =
    (s : Start) (i n : ℕ) → StartsConfinedHard s i → is_quiet s (n - cycles_to_w) ≡ true →
    events s i n ≡ solo (view s i) n

-- the same over the settings of slots and modes, if no retired issue writes a region register
abbrev pub RetiredPhasedIsolation : Type 0
RetiredPhasedIsolation =
    (s : Start) (i n : ℕ) → StartsConfined s i → list_all (is_never_soft i) (phases s n) ≡ true →
    keeps_regions s (n - cycles_to_w) ≡ true → events s i n ≡ phased (view s i) (phases s n) n

-- two machines in which the thread has the same view show the same events of it
abbrev pub RetiredEqualViews : Type 0
RetiredEqualViews =
    (s t : Start) (i n : ℕ) → StartsConfinedHard s i → StartsConfinedHard t i →
    is_quiet s (n - cycles_to_w) ≡ true → is_quiet t (n - cycles_to_w) ≡ true →
    view s i ≡ view t i → events s i n ≡ events t i n

-- a hard thread that isn't confined, by its wide view
abbrev pub RetiredWideIsolation : Type 0
RetiredWideIsolation =
    (s : Start) (i n : ℕ) → StartsUnconfinedHard s i → is_quiet s (n - cycles_to_w) ≡ true →
    events s i n ≡ wide_solo (wide_view s i n) n
