-- The command line parser accepts arguments that have the forms, and its rows are the pairs.
use Rattle.std.proofs.Common.{◌≡◌, ℕ, ◌+◌, ◌≤◌, ◌&&◌, ◌||◌, Bool, true, false, List, []}
use Rattle.std.proofs.Common.{◌∷◌, ◌++◌, map, Option, Some, None, if◌then◌else◌, refl}
use Rattle.std.proofs.Common.{sym, ◌∙◌, ap, ap₂, subst, arith, append_assoc, append-nil}
use Rattle.std.specs.List.{fold}
use Rattle.std.specs.Str.{bytes_eq}
use Rattle.std.proofs.lemmas.List.{map-append}
use Rattle.clap.specs.Walk.{Row, Walk, walked, settled_rows, has_row, with_values, without}
use Rattle.clap.specs.Takes.{turn_passes, settle_passes, walk_passes}
use Rattle.clap.specs.Simple.{Shape}
use Rattle.clap.specs.declared.parser.matches.ValueSource.TheVariants.{CommandLine}
use Rattle.clap.specs.declared.builder.value_parser.Reading.TheVariants.{AsWritten}
use Rattle.fp_setup.specs.Vocabulary.{Text}
use Rattle.command_line.specs.Forms.{Pairs, Form, gives, opens, bad, file_id}
use Rattle.command_line.specs.Forms.{is_among, is_plain, after_dashes, dashed_form}
use Rattle.command_line.specs.Forms.{form, pairs, with_form, and_pair, count_of}
use Rattle.command_line.proofs.Built.{shown}
use Rattle.command_line.proofs.WalkSteps.{Knows, FormFacts, form_facts, idle_walk}
use Rattle.command_line.proofs.WalkSteps.{waiting_walk, opens_step, opens_passes, value_step}
use Rattle.command_line.proofs.WalkSteps.{value_passes, whole_step, whole_passes, file_step}
use Rattle.command_line.proofs.WalkSteps.{file_passes, settled_option, settled_file}
use Rattle.command_line.proofs.WalkSteps.{settle_option, settle_file, fresh_row, bytes_eq-same}

abbrev pub is_known : List Text → Text → Bool
is_known names id = bytes_eq file_id id || is_among names id

and_pair-Some : (n v : Text) (o : Option Pairs) (rs : Pairs) → and_pair n v o ≡ Some rs →
    (t : Pairs) × (o ≡ Some t) × (rs ≡ (n, v) ∷ t)
and_pair-Some n v None rs e = cc
and_pair-Some n v (Some t) rs e = (t, refl, cc)

count-one : (n v : Text) → count_of n ((n, v) ∷ []) ≡ 1
count-one n v = rw (bytes_eq-same n) refl

count-cons : (n v : Text) (rest : Pairs) → count_of n ((n, v) ∷ rest) ≡ 1 + count_of n rest
count-cons n v rest = rw (bytes_eq-same n) refl

count-append : (n : Text) (xs bs : Pairs) → count_of n (xs ++ bs) ≡ count_of n xs + count_of n bs
count-append n [] bs = omega arith
count-append n (p ∷ ps) bs = rw (count-append n ps bs) (omega arith)

no_row_step : (n : Text) (ps : Pairs) → (count_of n ps ≡ 0 → has_row n (map shown ps) ≡ false) →
    (b : Bool) → (if b then 1 else 0) + count_of n ps ≡ 0 → (b || has_row n (map shown ps)) ≡ false
no_row_step n ps more true h = absurd (omega arith)
no_row_step n ps more false h = more (omega arith)

no_row : (n : Text) (given : Pairs) → count_of n given ≡ 0 → has_row n (map shown given) ≡ false
no_row n [] e = refl
no_row n (p ∷ ps) e = no_row_step n ps (no_row n ps) (bytes_eq p.0 n) e

module _ (s : Shape) (names : List Text) (again : s.args_override_self ≡ false)
    (k : Knows s.rules names) where
  -- the parser is between two arguments, after these pairs
  pub record Ends (given : Pairs) (w : Walk) : Type 0 where
    pub rows : List Row
    pub pending : Option (Text × List Text)
    pub skip : ℕ
    pub position : ℕ
    pub is : w ≡ idle_walk rows pending skip position
    pub rows_are : settled_rows s.rules pending rows ≡ map shown given
    pub passes :
        settle_passes s.rules false (record { rows = rows; pending = pending; skip = skip }) ≡ true
    pub at_first : count_of file_id given ≡ 0 → position ≡ 1

  -- the parser has read an option and expects its value
  pub record Waits (n : Text) (given : Pairs) (w : Walk) : Type 0 where
    pub rows : List Row
    pub skip : ℕ
    pub position : ℕ
    pub is : w ≡ waiting_walk rows n skip position
    pub rows_are : rows ≡ map shown given
    pub known : is_among names n ≡ true
    pub at_first : count_of file_id given ≡ 0 → position ≡ 1

  abbrev pub Simulates : Option Text → Pairs → Walk → Type 0
  Simulates None given w = Ends given w
  Simulates (Some n) given w = Waits n given w

  no_row_at : (n : Text) (given : Pairs) (rows : List Row) → rows ≡ map shown given →
      count_of n given ≡ 0 → has_row n rows ≡ false
  no_row_at n given rows e z = rw e (no_row n given z)

  -- the row of one more pair
  added : (n v : Text) (given : Pairs) (rows : List Row) → rows ≡ map shown given →
      count_of n given ≡ 0 → with_values n AsWritten CommandLine (v ∷ []) (without n rows)
      ≡ map shown (given ++ (n, v) ∷ [])
  added n v given rows e z =
      fresh_row n v rows (no_row_at n given rows e z)
      ∙ (ap (λ (l : List Row). l ++ shown (n, v) ∷ []) e
      ∙ sym (map-append shown given ((n, v) ∷ [])))

  fewer : (given : Pairs) (p : Text × Text) → count_of file_id (given ++ p ∷ []) ≡ 0 →
      count_of file_id given ≡ 0
  fewer given p z = let all = count-append file_id given (p ∷ []) in omega arith

  none_after : (v : Text) (given : Pairs) → count_of file_id (given ++ (file_id, v) ∷ []) ≡ 0 → ⊥
  none_after v given z =
      let all = count-append file_id given ((file_id, v) ∷ []) in
      let one = count-one file_id v in omega arith

  value_ends : (n word : Text) (given : Pairs) (w : Walk) (st : Waits n given w) →
      is_plain word ≡ true → count_of n given ≡ 0 →
      (turn_passes s [] w word ≡ true) × Ends (given ++ (n, word) ∷ []) (walked s.rules [] w word)
  value_ends n word given w st p z = (
    rw st.is (value_passes s names again k st.rows st.skip st.position word n p),
    record {
      rows = st.rows;
      pending = Some (n, word ∷ []);
      skip = st.skip;
      position = st.position;
      is =
          ap (λ (x : Walk). walked s.rules [] x word) st.is
          ∙ value_step s names again k st.rows st.skip st.position word n st.known p;
      rows_are =
          settled_option s.rules names k st.rows word n st.known
          ∙ added n word given st.rows st.rows_are z;
      passes =
          settle_option s.rules names k st.rows word n st.skip st.known
          (no_row_at n given st.rows st.rows_are z);
      at_first = λ e. st.at_first (fewer given (n, word) e);
    },
  )

  file_ends : (word : Text) (given : Pairs) (w : Walk) (st : Ends given w) →
      is_plain word ≡ true → count_of file_id given ≡ 0 → (turn_passes s [] w word ≡ true)
      × Ends (given ++ (file_id, word) ∷ []) (walked s.rules [] w word)
  file_ends word given w st p z = (
    rw st.is (file_passes s names again k st.rows st.skip st.position word st.pending p
        (st.at_first z) st.passes),
    record {
      rows = settled_rows s.rules st.pending st.rows;
      pending = Some (file_id, word ∷ []);
      skip = st.skip;
      position = 2;
      is =
          ap (λ (x : Walk). walked s.rules [] x word) st.is
          ∙ file_step s names again k st.rows st.skip st.position word st.pending p (st.at_first z);
      rows_are =
          settled_file s.rules names k (settled_rows s.rules st.pending st.rows) word
          ∙ added file_id word given (settled_rows s.rules st.pending st.rows) st.rows_are z;
      passes =
          settle_file s.rules names k (settled_rows s.rules st.pending st.rows) word st.skip
          (no_row_at file_id given (settled_rows s.rules st.pending st.rows) st.rows_are z);
      at_first = λ e. absurd (none_after word given e);
    },
  )

  whole_ends : (n v word : Text) (given : Pairs) (w : Walk) (st : Ends given w) →
      FormFacts names word (gives n v) → count_of n given ≡ 0 →
      (turn_passes s [] w word ≡ true) × Ends (given ++ (n, v) ∷ []) (walked s.rules [] w word)
  whole_ends n v word given w st f z = (
    rw st.is (whole_passes s names again k st.rows st.skip st.position word st.pending n v f
        st.passes (no_row_at n given (settled_rows s.rules st.pending st.rows) st.rows_are z)),
    record {
      rows =
          with_values n AsWritten CommandLine (v ∷ [])
          (without n (settled_rows s.rules st.pending st.rows));
      pending = None;
      skip = st.skip;
      position = st.position;
      is =
          ap (λ (x : Walk). walked s.rules [] x word) st.is
          ∙ whole_step s names again k st.rows st.skip st.position word st.pending n v f;
      rows_are = added n v given (settled_rows s.rules st.pending st.rows) st.rows_are z;
      passes = refl;
      at_first = λ e. st.at_first (fewer given (n, v) e);
    },
  )

  opens_waits : (n word : Text) (given : Pairs) (w : Walk) (st : Ends given w) →
      FormFacts names word (opens n) →
      (turn_passes s [] w word ≡ true) × Waits n given (walked s.rules [] w word)
  opens_waits n word given w st f = (
    rw st.is
        (opens_passes s names again k st.rows st.skip st.position word st.pending n f st.passes),
    record {
      rows = settled_rows s.rules st.pending st.rows;
      skip = st.skip;
      position = st.position;
      is =
          ap (λ (x : Walk). walked s.rules [] x word) st.is
          ∙ opens_step s names again k st.rows st.skip st.position word st.pending n f;
      rows_are = st.rows_are;
      known = f.2;
      at_first = st.at_first;
    },
  )

  -- one more pair: it is the first of its id
  first_of_id : (n v : Text) (given rest : Pairs) →
      ((id : Text) → is_known names id ≡ true → count_of id (given ++ (n, v) ∷ rest) ≤ 1) →
      is_known names n ≡ true → count_of n given ≡ 0
  first_of_id n v given rest once m =
      let all = count-append n given ((n, v) ∷ rest) in
      let most = once n m in
      let mine = count-cons n v rest in
      omega arith

  abbrev pub Once : Pairs → Type 0
  Once ps = (id : Text) → is_known names id ≡ true → count_of id ps ≤ 1

  -- the parser accepts the arguments and ends with all pairs
  abbrev pub Passes : List Text → Pairs → Walk → Type 0
  Passes words all w =
      (walk_passes s [] w words ≡ true) × Ends all (fold (walked s.rules []) w words)

  after_turn : (word : Text) (words : List Text) (all : Pairs) (w : Walk) →
      turn_passes s [] w word ≡ true → Passes words all (walked s.rules [] w word) →
      Passes (word ∷ words) all w
  unfolding walk_passes
  after_turn word words all w t p = (ap₂ (λ a b. a && b) t p.0, p.1)

  known_name : (n : Text) → is_among names n ≡ true → is_known names n ≡ true
  known_name n e = go (bytes_eq file_id n)
    where
      go : (b : Bool) → (b || is_among names n) ≡ true
      go true = refl
      go false = e

  -- the arguments after a pair
  pair_case : (n v word : Text) (words : List Text) (given rest t : Pairs) (w : Walk) →
      rest ≡ (n, v) ∷ t → Once (given ++ rest) → is_known names n ≡ true → (count_of n given ≡ 0 →
      (turn_passes s [] w word ≡ true) × Ends (given ++ (n, v) ∷ []) (walked s.rules [] w word)) →
      (Ends (given ++ (n, v) ∷ []) (walked s.rules [] w word) → Once ((given ++ (n, v) ∷ []) ++ t) →
      Passes words ((given ++ (n, v) ∷ []) ++ t) (walked s.rules [] w word)) →
      Passes (word ∷ words) (given ++ rest) w
  pair_case n v word words given rest t w e once m turn next =
      let all : given ++ rest ≡ (given ++ (n, v) ∷ []) ++ t =
      ap (λ (r : Pairs). given ++ r) e ∙ sym (append_assoc given ((n, v) ∷ []) t) in
      let here =
      turn (first_of_id n v given t (subst (λ (r : Pairs). Once (given ++ r)) e once) m) in
      after_turn word words (given ++ rest) w here.0 (subst (λ (r : Pairs).
      Passes words r (walked s.rules [] w word)) (sym all) (next here.1 (subst Once all once)))

  value_case : (n word : Text) (o : Option Pairs) (after : Text → Option Pairs) (rest : Pairs)
      (b : Bool) → with_form (if b then gives n word else bad) o after ≡ Some rest →
      (b ≡ true) × ((t : Pairs) × (o ≡ Some t) × (rest ≡ (n, word) ∷ t))
  value_case n word o after rest true e = (refl, and_pair-Some n word o rest e)
  value_case n word o after rest false e = absurd (let no : ⊥ = cc in no)

  -- an argument that begins with `-`, while no option is pending, by its form
  form_case : (word : Text) (words : List Text) (o : Option Pairs) (after : Text → Option Pairs)
      (given rest : Pairs) (w : Walk) → Ends given w → Once (given ++ rest) →
      ((g t : Pairs) (u : Walk) → o ≡ Some t → Ends g u → Once (g ++ t) → Passes words (g ++ t) u)
      → ((n : Text) (u : Walk) → after n ≡ Some rest → Waits n given u →
      Passes words (given ++ rest) u) → (f : Form) → FormFacts names word f →
      with_form f o after ≡ Some rest → Passes (word ∷ words) (given ++ rest) w
  form_case word words o after given rest w st once next opened (gives n v) f e =
      let p = and_pair-Some n v o rest e in
      pair_case n v word words given rest p.0 w p.2 once (known_name n f.2)
      (λ z. whole_ends n v word given w st f z) (λ u q. next _ _ _ p.1 u q)
  form_case word words o after given rest w st once next opened (opens n) f e =
      let here = opens_waits n word given w st f in
      after_turn word words (given ++ rest) w here.0 (opened n (walked s.rules [] w word) e here.1)
  form_case word words o after given rest w st once next opened bad f e =
      absurd (let no : ⊥ = cc in no)

  -- an argument while no option is pending
  word_case : (word : Text) (words : List Text) (o : Option Pairs) (after : Text → Option Pairs)
      (given rest : Pairs) (w : Walk) → Ends given w → Once (given ++ rest) →
      ((g t : Pairs) (u : Walk) → o ≡ Some t → Ends g u → Once (g ++ t) → Passes words (g ++ t) u)
      → ((n : Text) (u : Walk) → after n ≡ Some rest → Waits n given u →
      Passes words (given ++ rest) u) → (b : Bool) → is_plain word ≡ b →
      with_form (if b then gives file_id word else dashed_form names (after_dashes word)) o after
      ≡ Some rest → Passes (word ∷ words) (given ++ rest) w
  word_case word words o after given rest w st once next opened true f e =
      let p = and_pair-Some file_id word o rest e in
      pair_case file_id word word words given rest p.0 w p.2 once (rw (bytes_eq-same file_id) refl)
      (λ z. file_ends word given w st f z) (λ u q. next _ _ _ p.1 u q)
  word_case word words o after given rest w st once next opened false f e =
      form_case word words o after given rest w st once next opened
      (dashed_form names (after_dashes word)) (form_facts names k.no_empty word) e

  pub sim : (words : List Text) (waiting : Option Text) (given rest : Pairs) (w : Walk) →
      Simulates waiting given w → pairs names waiting words ≡ Some rest → Once (given ++ rest) →
      Passes words (given ++ rest) w
  unfolding pairs walk_passes form
  sim [] None given rest w st e once = (
    refl,
    subst (λ (r : Pairs). Ends (given ++ r) w) (let same : [] ≡ rest = cc in same)
        (subst (λ (r : Pairs). Ends r w) (sym (append-nil given)) st),
  )
  sim [] (Some n) given rest w st e once = absurd (let no : ⊥ = cc in no)
  sim (word ∷ words) (Some n) given rest w st e once =
      let p = value_case n word (pairs names None words)
      (λ m. pairs names (Some m) words) rest (is_plain word) e in
      pair_case n word word words given rest p.1.0 w p.1.2 once
      (known_name n st.known) (λ z. value_ends n word given w st p.0 z)
      (λ u q. sim words None (given ++ (n, word) ∷ []) p.1.0 (walked s.rules [] w word) u p.1.1 q)
  sim (word ∷ words) None given rest w st e once =
      word_case word words (pairs names None words) (λ n. pairs names (Some n) words)
      given rest w st once (λ g t u is ends q. sim words None g t u ends is q)
      (λ n u is waits. sim words (Some n) given rest u waits is once)
      (is_plain word) refl e
