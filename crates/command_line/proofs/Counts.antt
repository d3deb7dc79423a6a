-- The number of values that a name is given.
use Rattle.std.proofs.Common.{◌≡◌, ◌+◌, ◌&&◌, ℕ, Bool, true, false, List, [], ◌∷◌}
use Rattle.std.proofs.Common.{length, take, Option, Some, None, option_map, if◌then◌else◌}
use Rattle.std.proofs.Common.{not, ◌||◌, true≢false, unwrap_or, Bor, map, drop}
use Rattle.std.proofs.Common.{get_or, ◌<◌, ◌≤◌, add-one, refl, sym, ◌∙◌, ap, arith}
use Rattle.std.specs.List.{list_all, list_any, before_first, position_or_len}
use Rattle.std.specs.Option.{option_map_or}
use Rattle.std.specs.Str.{bytes_eq}
use Rattle.std.proofs.Math.Seq.{drop-cons}
use Rattle.std.proofs.lemmas.List.{drop_all}
use Rattle.std.proofs.Math.Numerals.{one-add}
use Rattle.fp_setup.specs.Vocabulary.{Text}
use Rattle.command_line.specs.Forms.{Pairs, Form, gives, opens, bad, form, pairs, and_pair}
use Rattle.command_line.specs.Forms.{count_of, with_form, each_once, file_id, is_equals}
use Rattle.command_line.specs.Code.{count_in, is_one, has_forms, is_bad_form, gives_to, opened_by}

-- the name is given a value exactly once
abbrev pub once : List Text → List Text → Text → Bool
once names words name = is_one (count_in names name None words)

-- ---- one more argument

abbrev pub plus : ℕ → Option ℕ → Option ℕ
plus times = option_map (λ k. times + k)

counted : (name n v : Text) (times : ℕ) (o : Option Pairs) →
    plus times (option_map (count_of name) (and_pair n v o))
    ≡ plus (times + (if bytes_eq n name then 1 else 0)) (option_map (count_of name) o)
counted name n v times None = refl
counted name n v times (Some ps) = ap Some (omega arith)

counted_form : (name : Text) (times : ℕ) (o : Option Pairs)
    (after : Text → Option Pairs) (f : Form) → is_bad_form f ≡ false →
    plus times (option_map (count_of name) (with_form f o after))
    ≡ plus (times + (if gives_to f name then 1 else 0))
    (option_map (count_of name) (option_map_or after (opened_by f) o))
counted_form name times o after (gives n v) e = counted name n v times o
counted_form name times o after (opens n) e =
    ap (λ t. plus t (option_map (count_of name) (after n)))
    (let same : times ≡ times + 0 = omega arith in same)
counted_form name times o after bad e = absurd (true≢false e)

opened_pairs : (names rest : List Text) (o : Option Text) →
    option_map_or (λ n. pairs names (Some n) rest) o (pairs names None rest) ≡ pairs names o rest
opened_pairs names rest None = refl
opened_pairs names rest (Some n) = refl

bad_form : (name : Text) (o : Option Pairs) (after : Text → Option Pairs) (f : Form) →
    is_bad_form f ≡ true → option_map (count_of name) (with_form f o after) ≡ None
bad_form name o after (gives n v) e = absurd (true≢false (sym e))
bad_form name o after (opens n) e = absurd (true≢false (sym e))
bad_form name o after bad e = refl

module _ (names : List Text) (name word : Text) (rest : List Text) where
  form_pairs : (waiting : Option Text) → pairs names waiting (word ∷ rest)
      ≡ with_form (form names waiting word) (pairs names None rest) (λ n. pairs names (Some n) rest)
  unfolding pairs
  form_pairs None = refl
  form_pairs (Some w) = refl

  pub after_word : (waiting : Option Text) (f : Form) (times : ℕ) → f ≡ form names waiting word →
      is_bad_form f ≡ false → plus times (count_in names name waiting (word ∷ rest))
      ≡ plus (times + (if gives_to f name then 1 else 0)) (count_in names name (opened_by f) rest)
  after_word waiting f times e good =
      ap (λ (o : Option Pairs). plus times (option_map (count_of name) o)) (form_pairs waiting ∙ ap
      (λ (g : Form). with_form g (pairs names None rest) (λ n. pairs names (Some n) rest)) (sym e))
      ∙ (counted_form name times (pairs names None rest) (λ n. pairs names (Some n) rest) f good
      ∙ ap (λ (o : Option Pairs). plus (times + (if gives_to f name then 1 else 0))
      (option_map (count_of name) o)) (opened_pairs names rest (opened_by f)))

  pub after_bad : (waiting : Option Text) (f : Form) → f ≡ form names waiting word →
      is_bad_form f ≡ true → count_in names name waiting (word ∷ rest) ≡ None
  after_bad waiting f e wrong =
      ap (option_map (count_of name)) (form_pairs waiting ∙ ap
      (λ (g : Form). with_form g (pairs names None rest) (λ n. pairs names (Some n) rest)) (sym e))
      ∙ bad_form name (pairs names None rest) (λ n. pairs names (Some n) rest) f wrong

-- no more argument
pub at_end_waiting : (names : List Text) (name w : Text) → count_in names name (Some w) [] ≡ None
unfolding pairs
at_end_waiting names name w = refl

pub at_end : (names : List Text) (name : Text) → count_in names name None [] ≡ Some 0
unfolding pairs
at_end names name = refl

-- ---- each name once

forms_step : (names : List Text) (o : Option Pairs) →
    list_all (λ (id : Text). is_one (option_map (count_of id) o)) (file_id ∷ names)
    ≡ option_map_or (each_once names) o false
forms_step names None = refl
forms_step names (Some ps) = refl

-- the file name and each option once
pub forms_once : (names words : List Text) →
    (once names words file_id && list_all (once names words) names) ≡ has_forms names words
forms_once names words = forms_step names (pairs names None words)

-- ---- a text without `=`

no_equals_step : (x : ℕ) (xs : Text) (b : Bool) → (position_or_len is_equals xs ≡ length xs →
    (list_any is_equals xs ≡ false) × (before_first is_equals xs ≡ xs)) →
    (if not b then 1 + position_or_len is_equals xs else 0) ≡ length (x ∷ xs)
    → ((b || list_any is_equals xs) ≡ false)
    × (take (if not b then 1 + position_or_len is_equals xs else 0) (x ∷ xs) ≡ x ∷ xs)
no_equals_step x xs true more e = absurd (omega arith)
no_equals_step x xs false more e =
    let p = more (omega arith) in (p.0, rw one-add (ap (λ (l : Text). x ∷ l) p.1))

pub no_equals : (xs : Text) → position_or_len is_equals xs ≡ length xs →
    (list_any is_equals xs ≡ false) × (before_first is_equals xs ≡ xs)
no_equals [] e = (refl, refl)
no_equals (x ∷ xs) e = no_equals_step x xs (is_equals x) (no_equals xs) e

-- ---- a value or the empty text

pub text_or : (o : Option (Bor Text)) (other : Bor Text) → other.now ≡ [] →
    (unwrap_or o other).now ≡ unwrap_or (option_map (λ s. s.now) o) []
text_or None other e = e
text_or (Some s) other e = refl

-- ---- the rest of a list

pub left_of : {A : Type 0} (f : A → Text) (xs : List A) (i : ℕ) (d : A) → i < length xs →
    map f (drop i xs) ≡ f (get_or xs i d) ∷ map f (drop (i + 1) xs)
left_of f xs i d inside = rw (drop-cons xs i d inside, add-one i) refl

pub none_left : {A : Type 0} (f : A → Text) (xs : List A) (i : ℕ) → length xs ≤ i →
    map f (drop i xs) ≡ []
none_left f xs i over = ap (map f) (drop_all i xs over)

pub one_at_most : (b : Bool) → (if b then 1 else 0) ≤ 1
one_at_most true = omega arith
one_at_most false = omega arith
