-- The value of a TOML document as a number, a text, a truth value or a list. One of another type,
-- or none, counts as 0, empty or false: the checks refuse it.
use Rattle.std.specs.Prelude.{ℕ, ℤ, pos, negsuc, Option, option_map, Bool, false}
use Rattle.std.specs.Prelude.{List, [], ◌∷◌, unwrap_or, Some, None, option_and_then}
use Rattle.std.specs.Option.{option_map_or}
use Rattle.toml.specs.Data.{Data, Items, no_items, item, Members, no_members}
use Rattle.toml.specs.Data.{as_integer, as_str, as_bool, as_array, as_table, get_member}
use Rattle.fp_setup.specs.declared.input_list.Input.{Input}
use Rattle.fp_setup.specs.Vocabulary.{Text}

abbrev pub natural : ℤ → ℕ
natural (pos n) = n
natural (negsuc n) = 0

abbrev pub number : Data → ℕ
number d = option_map_or natural (as_integer d) 0

abbrev pub text : Data → Text
text d = unwrap_or (as_str d) []

abbrev pub truth : Data → Bool
truth d = unwrap_or (as_bool d) false

-- the elements of a list, where the value is one
abbrev pub values : Items → List Data
values no_items = []
values (item d ds) = d ∷ values ds

unfoldable pub as_list : Data → Option (List Data)
as_list d = option_map values (as_array d)

abbrev pub elements : Data → List Data
elements d = unwrap_or (as_list d) []

abbrev pub members : Data → Members
members d = unwrap_or (as_table d) no_members

-- exactly two integers
abbrev pub both : Option ℤ → Option ℤ → Option (ℤ × ℤ)
both (Some x) (Some y) = Some (x, y)
both _ _ = None

abbrev pub pair_of : List Data → Option (ℤ × ℤ)
pair_of (a ∷ b ∷ []) = both (as_integer a) (as_integer b)
pair_of _ = None

unfoldable pub pair : Data → Option (ℤ × ℤ)
pair d = option_and_then pair_of (as_list d)

-- the input of such a pair
abbrev pub input_in : Option (ℤ × ℤ) → Input
input_in None = record { at = 0; word = 0 }
input_in (Some p) = record { at = natural p.0; word = natural p.1 }

unfoldable pub input_of : Data → Input
input_of d = input_in (pair d)

-- the same under a key of a table
abbrev pub number_at : Text → Members → ℕ
number_at name table = option_map_or number (get_member name table) 0

abbrev pub text_at : Text → Members → Text
text_at name table = option_map_or text (get_member name table) []

abbrev pub truth_at : Text → Members → Bool
truth_at name table = option_map_or truth (get_member name table) false

abbrev pub elements_at : Text → Members → List Data
elements_at name table = option_map_or elements (get_member name table) []
