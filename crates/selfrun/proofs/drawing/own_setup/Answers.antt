use Rattle.std.proofs.Common.{refl, rules}
use Rattle.slot_table.specs.Table.{is_table}
use Rattle.region_guard.specs.RegionsWord.{is_regions}
use Rattle.slot_table.specs.Nibbles.{nibbles}
use Rattle.selfrun.proofs.drawing.own_setup.Goals as goal

pub of_words-requires-clause-slots : goal.of_words-requires-clause-slots
unfolding is_table nibbles
of_words-requires-clause-slots c = refl

pub of_words-requires-clause-iregions : goal.of_words-requires-clause-iregions
unfolding is_regions nibbles
of_words-requires-clause-iregions c = refl

pub of_words-requires-clause-dregions : goal.of_words-requires-clause-dregions
unfolding is_regions nibbles
of_words-requires-clause-dregions c = refl

pub returns : goal.returns
returns c = search rules
