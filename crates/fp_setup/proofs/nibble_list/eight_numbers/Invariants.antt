use Rattle.std.proofs.Common.{◌≡◌, length, map, true, take, drop}
use Rattle.std.specs.List.{list_all}
use Rattle.toml.specs.View.{view}
use Rattle.fp_setup.specs.Checks.{each_fault, word_check}
use Rattle.fp_setup.specs.Values.{text}
use Rattle.fp_setup.specs.SetupOfTables.{number_of_name}
use Rattle.fp_setup.specs.Vocabulary.{is_value}
use Rattle.fp_setup.proofs.nibble_list.eight_numbers.Given as goal

abbrev pub invariant-loop-i : goal.invariant-loop-i
invariant-loop-i l = record {
  eight : length l.numbers ≡ 8;
  found : each_fault (word_check l.words) l.place 0 (map view l.items)
      ≡ each_fault (word_check l.words) l.place l.i (map view (drop l.i l.items));
  read : take l.i l.numbers
      ≡ map (λ d. number_of_name l.words (text d)) (map view (take l.i l.items));
  values : list_all (is_value l.words) (take l.i l.numbers) ≡ true;
}
