-- The definitions that each function's proofs open, under one name.
use Rattle.slot_table.specs.Nibbles.{nibbles}
use Rattle.region_guard.specs.RegionsWord.{is_regions}
use Rattle.slot_table.specs.Table.{is_table}

-- whether the words of a setup are a frame, modes and regions
unfoldable pub setup_words : Type 0
unfolding is_table is_regions nibbles
setup_words = Unit
