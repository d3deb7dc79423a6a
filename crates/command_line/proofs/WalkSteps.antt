-- One step of the command line parser, by the form of the argument.
use Rattle.std.proofs.Common.{◌≡◌, ℕ, ◌==◌, ◌&&◌, ◌||◌, Bool, true, false, List, []}
use Rattle.std.proofs.Common.{◌∷◌, ◌++◌, Option, Some, None, if◌then◌else◌, refl}
use Rattle.std.proofs.Common.{sym, ◌∙◌, ap, subst, true≢false, inl, inr, eq-eqb}
use Rattle.std.specs.List.{list_any, before_first, after_first}
use Rattle.std.specs.Str.{bytes_eq}
use Rattle.std.proofs.lemmas.Bool.Decides.{eqb_tells}
use Rattle.clap.specs.Lexer.{long_of, long_of_rest, short_of, name_and_value}
use Rattle.clap.specs.Walk.{Rule, Row, Walk, idle, option, walked, settled_rows, arg_by_id}
use Rattle.clap.specs.Walk.{arg_by_long, arg_by_index, with_values, without, has_row, is_pending}
use Rattle.clap.specs.Takes.{turn_passes, settle_passes}
use Rattle.clap.specs.Simple.{Shape}
use Rattle.clap.proofs.SimpleLemmas.{is_false}
use Rattle.clap.specs.declared.parser.matches.ValueSource.TheVariants.{CommandLine}
use Rattle.clap.specs.declared.builder.value_parser.Reading.TheVariants.{AsWritten}
use Rattle.fp_setup.specs.Vocabulary.{Text}
use Rattle.command_line.specs.Forms.{Form, gives, opens, bad, file_id, is_among, is_plain}
use Rattle.command_line.specs.Forms.{is_equals, after_dashes, option_form, dashed_form}
use Rattle.command_line.proofs.Built.{built_option, built_file, shown}

-- the rules of a command with these options
pub record Knows (c : List Rule) (names : List Text) : Type 0 where
  pub no_empty : is_among names [] ≡ false
  pub by_long : (n : Text) → is_among names n ≡ true → arg_by_long c n ≡ Some (built_option n)
  pub by_id : (n : Text) → is_among names n ≡ true → arg_by_id c n ≡ Some (built_option n)
  pub by_index : arg_by_index c 1 ≡ Some built_file
  pub file_by_id : arg_by_id c file_id ≡ Some built_file

-- between two arguments, while no option is pending
abbrev pub idle_walk : List Row → Option (Text × List Text) → ℕ → ℕ → Walk
idle_walk rows pending skip position = record {
  held = record { rows = rows; pending = pending; skip = skip };
  waiting = idle;
  position = position;
  is_trailing = false;
  stopped = None;
}

-- after an option, before its value
abbrev pub waiting_walk : List Row → Text → ℕ → ℕ → Walk
waiting_walk rows name skip position = record {
  held = record { rows = rows; pending = Some (name, []); skip = skip };
  waiting = option name;
  position = position;
  is_trailing = false;
  stopped = None;
}

abbrev is_some_text : Text → Bool
is_some_text [] = false
is_some_text (x ∷ xs) = true

-- the parser takes a plain argument for no option
pub plain_word : (word : Text) → is_plain word ≡ true →
    (long_of word ≡ None) × (short_of word ≡ None) × (bytes_eq word (45 ∷ 45 ∷ []) ≡ false)
plain_word [] e = absurd (true≢false (sym e))
plain_word (x ∷ xs) e =
    let f : (x == 45) ≡ false = is_false _ e in (rw f refl, rw f refl, rw f refl)

dashed_rest : (zs : Text) → is_some_text zs ≡ true →
    (long_of_rest zs ≡ Some (name_and_value zs)) × (bytes_eq zs [] ≡ false)
dashed_rest [] e = absurd (true≢false (sym e))
dashed_rest (x ∷ xs) e = (refl, refl)

-- the parser's reading of the text after the two hyphens
dashed_word : (word rest : Text) → after_dashes word ≡ Some rest → (is_some_text rest ≡ true) →
    (long_of word ≡ Some (name_and_value rest)) × (bytes_eq word (45 ∷ 45 ∷ []) ≡ false)
dashed_word [] rest e ne = cc
dashed_word (x ∷ []) rest e ne = elim (eqb_tells x 45) [
  | inl p ↦ let no : None ≡ Some rest = rw p.0 at e in cc
  | inr p ↦ let no : None ≡ Some rest = rw p.0 at e in cc
]
dashed_word (x ∷ y ∷ zs) rest e ne = elim (eqb_tells x 45) [
  | inl p ↦ elim (eqb_tells y 45) [
    | inl q ↦
        let is : Some zs ≡ Some rest = rw (p.0, q.0) at e in
        let same : zs ≡ rest = cc in
        subst (λ (r : Text). (long_of (x ∷ y ∷ zs) ≡ Some (name_and_value r))
        × (bytes_eq (x ∷ y ∷ zs) (45 ∷ 45 ∷ []) ≡ false)) same
        (rw (p.0, q.0) (dashed_rest zs (subst (λ (r : Text). is_some_text r ≡ true) (sym same) ne)))
    | inr q ↦ let no : None ≡ Some rest = rw (p.0, q.0) at e in cc
  ]
  | inr p ↦ let no : None ≡ Some rest = rw p.0 at e in cc
]

-- the facts of an argument that begins with `-`, by its form
abbrev pub FormFacts : List Text → Text → Form → Type 0
FormFacts names word (gives n v) =
    (long_of word ≡ Some (n, Some v)) × (bytes_eq word (45 ∷ 45 ∷ []) ≡ false)
    × (is_among names n ≡ true)
FormFacts names word (opens n) =
    (long_of word ≡ Some (n, None)) × (bytes_eq word (45 ∷ 45 ∷ []) ≡ false)
    × (is_among names n ≡ true)
FormFacts names word bad = Unit {0}

module _ (names : List Text) (no_empty : is_among names [] ≡ false) (word : Text) where
  not_empty : (rest : Text) → is_among names (before_first is_equals rest) ≡ true →
      is_some_text rest ≡ true
  not_empty [] e = absurd (true≢false (sym e ∙ no_empty))
  not_empty (x ∷ xs) e = refl

  option_facts : (rest : Text) → after_dashes word ≡ Some rest →
      FormFacts names word (option_form names rest)
  option_facts rest e = among (is_among names (before_first is_equals rest)) refl
    where
      among : (a : Bool) → is_among names (before_first is_equals rest) ≡ a
          → FormFacts names word (if a
          then (if list_any is_equals rest
          then (if is_plain (after_first is_equals rest)
          then gives (before_first is_equals rest)
          (after_first is_equals rest)
          else bad)
          else opens (before_first is_equals rest))
          else bad)
      among false h = tt
      among true h = has (list_any is_equals rest) refl
        where
          d : (long_of word ≡ Some (name_and_value rest)) × (bytes_eq word (45 ∷ 45 ∷ []) ≡ false)
          d = dashed_word word rest e (not_empty rest h)

          has : (b : Bool) → list_any is_equals rest ≡ b
              → FormFacts names word (if b
              then (if is_plain (after_first is_equals rest)
              then gives (before_first is_equals rest) (after_first is_equals rest)
              else bad)
              else opens (before_first is_equals rest))
          has false k = (d.0 ∙ rw k refl, d.1, h)
          has true k = value (is_plain (after_first is_equals rest))
            where
              value : (v : Bool) → FormFacts names word (if v
                  then gives (before_first is_equals rest) (after_first is_equals rest)
                  else bad)
              value false = tt
              value true = (d.0 ∙ rw k refl, d.1, h)

  dashed_facts : (o : Option Text) → after_dashes word ≡ o →
      FormFacts names word (dashed_form names o)
  dashed_facts None e = tt
  dashed_facts (Some rest) e = option_facts rest e

  pub form_facts : FormFacts names word (dashed_form names (after_dashes word))
  form_facts = dashed_facts (after_dashes word) refl

or_left : (a b : Bool) → (a || b) ≡ false → a ≡ false
or_left true b e = e
or_left false b e = refl

or_right : (a b : Bool) → (a || b) ≡ false → b ≡ false
or_right true b e = absurd (true≢false e)
or_right false b e = e

and_no : (b : Bool) → (b && false) ≡ false
and_no true = refl
and_no false = refl

pub bytes_eq-same : (n : Text) → bytes_eq n n ≡ true
bytes_eq-same [] = refl
bytes_eq-same (x ∷ xs) = rw (eq-eqb x x refl) (bytes_eq-same xs)

module _ (s : Shape) (names : List Text) (again : s.args_override_self ≡ false)
    (k : Knows s.rules names) (rows : List Row) (skip position : ℕ) (word : Text) where
  pub opens_step : (pending : Option (Text × List Text)) (n : Text) → FormFacts names word (opens n)
      → walked s.rules [] (idle_walk rows pending skip position) word
      ≡ waiting_walk (settled_rows s.rules pending rows) n skip position
  unfolding walked
  opens_step pending n f = rw (f.1, f.0, k.by_long n f.2) refl

  pub opens_passes : (pending : Option (Text × List Text)) (n : Text) →
      FormFacts names word (opens n) →
      settle_passes s.rules false (record { rows = rows; pending = pending; skip = skip }) ≡ true
      → turn_passes s [] (idle_walk rows pending skip position) word ≡ true
  opens_passes pending n f p = rw (f.1, f.0, k.by_long n f.2, again, p) refl

  pub value_step : (n : Text) → is_among names n ≡ true → is_plain word ≡ true
      → walked s.rules [] (waiting_walk rows n skip position) word
      ≡ idle_walk rows (Some (n, word ∷ [])) skip position
  unfolding walked
  value_step n m f =
      let p = plain_word word f in rw (p.2, p.0, p.1, k.by_id n m, bytes_eq-same n) refl

  pub value_passes : (n : Text) → is_plain word ≡ true →
      turn_passes s [] (waiting_walk rows n skip position) word ≡ true
  value_passes n f = let p = plain_word word f in rw (p.2, p.0, p.1) refl

  pub whole_step : (pending : Option (Text × List Text)) (n v : Text) →
      FormFacts names word (gives n v) →
      walked s.rules [] (idle_walk rows pending skip position) word
      ≡ idle_walk (with_values n AsWritten CommandLine (v ∷ [])
      (without n (settled_rows s.rules pending rows))) None skip position
  unfolding walked
  whole_step pending n v f = rw (f.1, f.0, k.by_long n f.2) refl

  pub file_step : (pending : Option (Text × List Text)) → is_plain word ≡ true → position ≡ 1
      → walked s.rules [] (idle_walk rows pending skip position) word
      ≡ idle_walk (settled_rows s.rules pending rows) (Some (file_id, word ∷ [])) skip 2
  unfolding walked
  file_step pending f e =
      let p = plain_word word f in
      rw (e, p.2, p.0, p.1, k.by_index, and_no (is_pending built_file pending)) refl

  pub file_passes : (pending : Option (Text × List Text)) → is_plain word ≡ true → position ≡ 1
      → settle_passes s.rules false (record { rows = rows; pending = pending; skip = skip }) ≡ true
      → turn_passes s [] (idle_walk rows pending skip position) word ≡ true
  file_passes pending f e q =
      let p = plain_word word f in
      rw (e, p.2, p.0, p.1, k.by_index, again, q, and_no (is_pending built_file pending)) refl

  pub whole_passes : (pending : Option (Text × List Text)) (n v : Text) →
      FormFacts names word (gives n v) →
      settle_passes s.rules false (record { rows = rows; pending = pending; skip = skip }) ≡ true
      → has_row n (settled_rows s.rules pending rows) ≡ false
      → turn_passes s [] (idle_walk rows pending skip position) word ≡ true
  whole_passes pending n v f p q = rw (f.1, f.0, k.by_long n f.2, again, p, q) refl

-- the parser uses a pending option at the next argument
module _ (c : List Rule) (names : List Text) (k : Knows c names) (rows : List Row) (v : Text) where
  pub settled_option : (n : Text) → is_among names n ≡ true → settled_rows c (Some (n, v ∷ [])) rows
      ≡ with_values n AsWritten CommandLine (v ∷ []) (without n rows)
  settled_option n m = rw (k.by_id n m) refl

  pub settled_file : settled_rows c (Some (file_id, v ∷ [])) rows
      ≡ with_values file_id AsWritten CommandLine (v ∷ []) (without file_id rows)
  settled_file = rw k.file_by_id refl

  pub settle_option : (n : Text) (skip : ℕ) → is_among names n ≡ true → has_row n rows ≡ false →
      settle_passes c false (record { rows = rows; pending = Some (n, v ∷ []); skip = skip }) ≡ true
  settle_option n skip m h = rw (k.by_id n m, h) refl

  pub settle_file : (skip : ℕ) → has_row file_id rows ≡ false →
      settle_passes c false (record { rows = rows; pending = Some (file_id, v ∷ []); skip = skip })
      ≡ true
  settle_file skip h = rw (k.file_by_id, h) refl

-- a row of a new name goes to the end
pub fresh_row : (n v : Text) (rows : List Row) → has_row n rows ≡ false →
    with_values n AsWritten CommandLine (v ∷ []) (without n rows) ≡ rows ++ shown (n, v) ∷ []
fresh_row n v [] h = refl
fresh_row n v (r ∷ rs) h =
    let p : bytes_eq r.id n ≡ false = or_left _ _ h in
    rw (p, p) (ap (λ l. r ∷ l) (fresh_row n v rs (or_right _ _ h)))
