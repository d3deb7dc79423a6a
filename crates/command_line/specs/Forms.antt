-- The forms of the arguments after a command's name.
use Rattle.std.specs.Prelude.{ℕ, ◌==◌, ◌+◌, Bool, false, not, List, [], ◌∷◌}
use Rattle.std.specs.Prelude.{Option, Some, None, map, unwrap_or, option_map}
use Rattle.std.specs.Prelude.{option_and_then, if◌then◌else◌, codes, find}
use Rattle.std.specs.List.{list_all, list_any, before_first, after_first}
use Rattle.std.specs.Str.{bytes_eq}
use Rattle.fp_setup.specs.Vocabulary.{Text}

-- the text after this first byte
abbrev pub after_byte : ℕ → Text → Option Text
after_byte b [] = None
after_byte b (x ∷ xs) = if x == b then Some xs else None

-- the text after `--` (45, 45)
abbrev pub after_dashes : Text → Option Text
after_dashes word = option_and_then (after_byte 45) (after_byte 45 word)

-- the argument may be a file name or a value: it isn't empty and doesn't begin with `-` (45)
abbrev pub is_plain : Text → Bool
is_plain [] = false
is_plain (x ∷ xs) = not (x == 45)

-- `=`
abbrev pub is_equals : ℕ → Bool
is_equals b = b == 61

-- whether a name is one of these
abbrev pub is_among : List Text → Text → Bool
is_among names name = list_any (λ n. bytes_eq n name) names

-- the role of an argument: it gives a value to an option, or the file name; it is an option whose
-- value is the next argument; or it isn't allowed
pub data Form : Type 0 where
  gives : Text → Text → Form
  opens : Text → Form
  bad : Form

-- the name under which the file name is listed with the options
abbrev pub file_id : Text
file_id = codes "file"

-- `name=value`, or only `name`
abbrev pub option_form : List Text → Text → Form
option_form names rest =
    let name = before_first is_equals rest in
    let value = after_first is_equals rest in
    if is_among names name
    then (if list_any is_equals rest
    then (if is_plain value then gives name value else bad)
    else opens name)
    else bad

abbrev pub dashed_form : List Text → Option Text → Form
dashed_form names None = bad
dashed_form names (Some rest) = option_form names rest

-- the role of an argument in a command with these options; the second parameter is the option that
-- waits for its value, if any
unfoldable pub form : List Text → Option Text → Text → Form
form names None word =
    if is_plain word then gives file_id word else dashed_form names (after_dashes word)
form names (Some name) word = if is_plain word then gives name word else bad

-- names with their values
abbrev pub Pairs : Type 0
Pairs = List (Text × Text)

abbrev pub and_pair : Text → Text → Option Pairs → Option Pairs
and_pair name value = option_map (λ ps. (name, value) ∷ ps)

-- the pairs that an argument gives by its form, followed by those of the arguments after it
abbrev pub with_form : Form → Option Pairs → (Text → Option Pairs) → Option Pairs
with_form (gives name value) next after = and_pair name value next
with_form (opens name) next after = after name
with_form bad next after = None

-- all pairs that the arguments give, in their order; None if an argument isn't allowed or a value
-- is missing
unfoldable pub pairs : List Text → Option Text → List Text → Option Pairs
pairs names None [] = Some []
pairs names (Some name) [] = None
pairs names waiting (word ∷ rest) =
    with_form (form names waiting word) (pairs names None rest)
    (λ name. pairs names (Some name) rest)

-- the number of values given to a name
abbrev pub count_of : Text → Pairs → ℕ
count_of name [] = 0
count_of name (p ∷ ps) = (if bytes_eq p.0 name then 1 else 0) + count_of name ps

-- the file name and each option are given exactly once
abbrev pub each_once : List Text → Pairs → Bool
each_once names ps = list_all (λ name. count_of name ps == 1) (file_id ∷ names)

-- the first value that a name is given, if there is one
abbrev pub value_of : Text → Pairs → Option Text
value_of name ps = option_map (λ p. p.1) (find (λ p. bytes_eq p.0 name) ps)

abbrev pub text_in : Pairs → Text → Text
text_in ps name = unwrap_or (value_of name ps) []

abbrev pub texts_of : List Text → Option Pairs → Option (List Text)
texts_of names None = None
texts_of names (Some ps) =
    if each_once names ps then Some (map (text_in ps) (file_id ∷ names)) else None

-- the file name and then the options' values in the order of `names`, if the arguments, in any
-- order, give each exactly once and nothing else
unfoldable pub texts_in : List Text → List Text → Option (List Text)
texts_in names words = texts_of names (pairs names None words)
