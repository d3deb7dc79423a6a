-- The word of a region register: eight nibbles, one for each region.
use Rattle.std.specs.Prelude.{ℕ, ◌==◌, Bool, ◌||◌, not, List, [], ◌∷◌, map}
use Rattle.std.specs.Prelude.{position, Option, Some, None, Result, Ok, Err}
use Rattle.std.specs.List.{list_all}
use Rattle.slot_table.specs.Nibbles.{nibbles}
use Rattle.slot_table.specs.Masks.{mask_of}
use Rattle.region_guard.specs.declared.register.BadRegion.{BadRegion}
use Rattle.region_guard.specs.Regions.{RegionKind, is_owner_nibble, region_kind}

-- whether a word is allowed in the register
unfoldable pub is_regions : ℕ → Bool
is_regions word = list_all is_owner_nibble (nibbles word)

-- the first region whose nibble is refused
abbrev pub bad_region : ℕ → Option ℕ
bad_region word = position (λ nibble. not (is_owner_nibble nibble)) (nibbles word)

-- the word, unless a region is refused. The slots register has a refusal of another type
abbrev pub unless_bad : ℕ → Option ℕ → Result ℕ BadRegion
unless_bad word None = Ok word
unless_bad word (Some index) = Err (record { index = index })

-- the word unchanged if it is accepted, else the lowest refused region
unfoldable pub regions_of : ℕ → Result ℕ BadRegion
regions_of word = unless_bad word (bad_region word)

-- the regions with a kind for a thread that passes a test; region i is bit i
abbrev pub regions_that : (RegionKind → Bool) → ℕ → ℕ → ℕ
regions_that test word thread =
    mask_of (map (λ nibble. test (region_kind thread nibble)) (nibbles word))

-- these masks for each of the eight threads
unfoldable pub by_thread : (RegionKind → Bool) → ℕ → List ℕ
by_thread test word = map (regions_that test word) (0 ∷ 1 ∷ 2 ∷ 3 ∷ 4 ∷ 5 ∷ 6 ∷ 7 ∷ [])

-- for each thread the regions whose nibble is its own number or the given other nibble
abbrev pub masks_by : ℕ → List ℕ → List ℕ
masks_by other regions =
    map (λ thread. mask_of (map (λ nibble. nibble == thread || nibble == other) regions))
    (0 ∷ 1 ∷ 2 ∷ 3 ∷ 4 ∷ 5 ∷ 6 ∷ 7 ∷ [])
