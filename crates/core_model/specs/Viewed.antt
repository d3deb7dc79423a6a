-- The view of one thread in a start of the machine.
use Rattle.std.specs.Prelude.{ℕ, suc, ◌/◌, ◌==◌, Bool, if◌then◌else◌}
use Rattle.std.specs.Prelude.{List, [], ◌∷◌, slice_index_or, map}
use Rattle.slot_table.specs.Nibbles.{nibbles}
use Rattle.slot_table.specs.Frame.{frame}
use Rattle.region_guard.specs.Regions.{RegionKind, region_kind, is_readable}
use Rattle.region_guard.specs.Regions.RegionKind.{Foreign}
use Rattle.core_model.specs.Thread.{fresh}
use Rattle.core_model.specs.View.{Setting, View}
use Rattle.core_model.specs.World.{Start}

-- the words whose index `sees` accepts, 0 for the others; k is the index of the first
abbrev pub seen_from : (ℕ → Bool) → ℕ → List ℕ → List ℕ
seen_from sees k [] = []
seen_from sees k (x ∷ xs) = (if sees k then x else 0) ∷ seen_from sees (suc k) xs

-- whether the word with index k is in a region that the thread may read; a region has size / 32
-- words
abbrev pub sees : ℕ → List RegionKind → ℕ → Bool
sees size kinds k = is_readable (slice_index_or kinds (k / (size / 32)) Foreign)

-- the words that a thread sees, and 0 for the others
abbrev pub seen_words : ℕ → List RegionKind → List ℕ → List ℕ
seen_words size kinds words = seen_from (sees size kinds) 0 words

-- the kind that each region has for thread i, from the region register
abbrev pub region_kinds : ℕ → ℕ → List RegionKind
region_kinds i regions = map (region_kind i) (nibbles regions)

-- the constant part of thread i's view, in a quiet run
unfoldable pub setting_of : Start → ℕ → Setting
setting_of s i =
    record {
      period = s.period;
      size = s.size;
      thread = i;
      own = map (λ slot. slot == i) (frame s.registers.slots);
      i_kinds = region_kinds i s.registers.iregions;
      d_kinds = region_kinds i s.registers.dregions;
      i_words = seen_words s.size (region_kinds i s.registers.iregions) s.i_words;
    }

-- the view of thread i
unfoldable pub view : Start → ℕ → View
view s i =
    record {
      setting = setting_of s i;
      first = slice_index_or s.threads i (fresh 0);
      d_words = seen_words s.size (region_kinds i s.registers.dregions) s.d_words;
      shown = slice_index_or s.shown i [];
    }
