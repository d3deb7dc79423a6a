-- The command line parser accepts arguments that have the forms, and finds the values that they
-- give.
use Rattle.std.proofs.Common.{◌≡◌, ℕ, ◌+◌, ◌≤◌, ◌==◌, ◌||◌, Bool, true, false, not, List}
use Rattle.std.proofs.Common.{[], ◌∷◌, map, Option, Some, None, is_some, option_map}
use Rattle.std.proofs.Common.{option_and_then, unwrap_or, slice_get, if◌then◌else◌}
use Rattle.std.proofs.Common.{refl, sym, ◌∙◌, ap, subst, arith, true≢false, eqb-true}
use Rattle.std.specs.List.{count_by, fold, list_any, list_all, find}
use Rattle.std.specs.Option.{option_map_or}
use Rattle.std.specs.Str.{bytes_eq}
use Rattle.std.proofs.lemmas.Slice.Eq.{bytes_eq-Decides}
use Rattle.clap.specs.Walk.{Rule, Row, walk_from, nothing_held, settled_rows, has_row, with_default}
use Rattle.clap.specs.Walk.{is_empty, first_of, is_early_multiple, arg_by_long, arg_by_id}
use Rattle.clap.specs.Takes.{takes, default_passes, is_given}
use Rattle.clap.specs.Simple.{built, is_simple, is_in_order, matches_of}
use Rattle.clap.specs.Facts.{explicit_source}
use Rattle.clap.proofs.WalkLemmas.{both}
use Rattle.clap.proofs.SimpleLemmas.{is_nil, is_false}
use Rattle.fp_setup.specs.Vocabulary.{Text}
use Rattle.command_line.specs.Forms.{Pairs, file_id, is_among, pairs, count_of}
use Rattle.command_line.specs.Forms.{each_once, value_of, text_in, texts_of, texts_in}
use Rattle.command_line.specs.Code.{has_forms, pairs_in}
use Rattle.command_line.specs.Rules.{app, is_fit, option_rule, row_text}
use Rattle.command_line.proofs.Built.{built_option, built_file, built_help}
use Rattle.command_line.proofs.Built.{after_file, rules_are, shown}
use Rattle.command_line.proofs.WalkSteps.{Knows}
use Rattle.command_line.proofs.Simulation.{Ends, sim, Once}

-- ---- a fact of each name

abbrev Each : (Text → Type 0) → List Text → Type 0
Each P [] = Unit {0}
Each P (n ∷ ns) = P n × Each P ns

among_step : (P : Text → Type 0) (m n : Text) (others : Bool) → P m → (others ≡ true → P n) →
    (b : Bool) → bytes_eq m n ≡ b → (b || others) ≡ true → P n
among_step P m n others here rest true h e = subst P ((bytes_eq-Decides m n).0 h) here
among_step P m n others here rest false h e = rest e

among : (P : Text → Type 0) (ns : List Text) → Each P ns → (n : Text) → is_among ns n ≡ true → P n
among P [] all n e = absurd (true≢false (sym e))
among P (m ∷ ns) all n e =
    among_step P m n (is_among ns n) all.0 (among P ns all.1 n) (bytes_eq m n) refl e

-- ---- the rules

-- no name is the file name's, and none is empty
fit_ids : (ns : List Text) → is_fit ns ≡ true → Each (λ n. bytes_eq file_id n ≡ false) ns
fit_ids [] e = tt
fit_ids (n ∷ ns) e = let p = both _ _ e in (is_false _ (both _ _ p.0).0, fit_ids ns p.1)

fit_none_empty : (ns : List Text) → is_fit ns ≡ true → is_among ns [] ≡ false
fit_none_empty [] e = refl
fit_none_empty (n ∷ ns) e =
    let p = both _ _ e in
    let no : bytes_eq n [] ≡ false = is_false _ (both _ _ p.0).1 in
    rw no (fit_none_empty ns p.1)

long_step : (m n : Text) (others : Bool) (rest : Option Rule) →
    (others ≡ true → rest ≡ Some (built_option n)) →
    (b : Bool) → bytes_eq m n ≡ b → (b || others) ≡ true →
    (if (b || false) then Some (built_option m) else rest) ≡ Some (built_option n)
long_step m n others rest more true h e =
    ap (λ (x : Text). Some (built_option x)) ((bytes_eq-Decides m n).0 h)
long_step m n others rest more false h e = more e

option_by_long : (ns : List Text) (n : Text) → is_among ns n ≡ true →
    arg_by_long (after_file ns) n ≡ Some (built_option n)
option_by_long [] n e = absurd (true≢false (sym e))
option_by_long (m ∷ ns) n e =
    long_step m n (is_among ns n) (arg_by_long (after_file ns) n) (option_by_long ns n)
    (bytes_eq m n) refl e

id_step : (m n : Text) (others : Bool) (rest : Option Rule) →
    (others ≡ true → rest ≡ Some (built_option n)) → (b : Bool) → bytes_eq m n ≡ b →
    (b || others) ≡ true → (if b then Some (built_option m) else rest) ≡ Some (built_option n)
id_step m n others rest more true h e =
    ap (λ (x : Text). Some (built_option x)) ((bytes_eq-Decides m n).0 h)
id_step m n others rest more false h e = more e

option_by_id : (ns : List Text) (n : Text) → is_among ns n ≡ true →
    arg_by_id (after_file ns) n ≡ Some (built_option n)
option_by_id [] n e = absurd (true≢false (sym e))
option_by_id (m ∷ ns) n e =
    id_step m n (is_among ns n) (arg_by_id (after_file ns) n) (option_by_id ns n)
    (bytes_eq m n) refl e

knows_rules : (names : List Text) → is_fit names ≡ true →
    Knows (built_file ∷ after_file names) names
knows_rules names fit = record {
  no_empty = fit_none_empty names fit;
  by_long = λ n m. option_by_long names n m;
  by_id =
      λ n m. rw (among (λ n. bytes_eq file_id n ≡ false) names (fit_ids names fit) n m)
      (option_by_id names n m);
  by_index = refl;
  file_by_id = refl;
}

-- a test that each option passes, and the help flag
all_options : (p : Rule → Bool) → ((n : Text) → p (built_option n) ≡ true) → p built_help ≡ true →
    (ns : List Text) → list_all p (after_file ns) ≡ true
all_options p each help [] = rw help refl
all_options p each help (n ∷ ns) = rw (each n) (all_options p each help ns)

all_bare : (ns : List Text) → list_all (λ (r : Rule). r.is_simple) (map option_rule ns) ≡ true
all_bare [] = refl
all_bare (n ∷ ns) = all_bare ns

none_early : (k : ℕ) (ns : List Text) → list_any (is_early_multiple k) (after_file ns) ≡ false
none_early k [] = refl
none_early k (n ∷ ns) = none_early k ns

-- ---- what is given

once_each : (ps : Pairs) (ns : List Text) → list_all (λ n. count_of n ps == 1) ns ≡ true →
    Each (λ n. count_of n ps ≡ 1) ns
once_each ps [] e = tt
once_each ps (n ∷ ns) e = let p = both _ _ e in (eqb-true _ _ p.0, once_each ps ns p.1)

given_step : (p : Text × Text) (id : Text) (ps : Pairs) (b : Bool) →
    (count_of id ps ≡ 1 → is_given id (map shown ps) ≡ true) →
    (if b then 1 else 0) + count_of id ps ≡ 1 →
    option_map_or (λ (r : Row). explicit_source r.source)
    (if b then Some (shown p) else find (λ (r : Row). bytes_eq r.id id) (map shown ps)) false ≡ true
given_step p id ps true more e = refl
given_step p id ps false more e = more (omega arith)

given : (id : Text) (ps : Pairs) → count_of id ps ≡ 1 → is_given id (map shown ps) ≡ true
given id [] e = absurd (omega arith)
given id (p ∷ ps) e = given_step p id ps (bytes_eq p.0 id) (given id ps) e

-- the options that are required are given
all_given : (ps : Pairs) (ns : List Text) → Each (λ n. count_of n ps ≡ 1) ns →
    list_all (λ (a : Rule). not a.required || is_given a.id (map shown ps)) (after_file ns) ≡ true
all_given ps [] e = refl
all_given ps (n ∷ ns) e = rw (given n ps e.0) (all_given ps ns e.1)

-- no argument has a default
plain_default : (rows : List Row) (r : Rule) → is_empty r.defaults ≡ true →
    with_default rows r ≡ rows
plain_default rows r e = rw (is_nil _ e) (go (has_row r.id rows))
  where
    go : (b : Bool) → (if b then rows else rows) ≡ rows
    go true = refl
    go false = refl

finished_plain : (c : List Rule) (rows : List Row) →
    list_all (λ (r : Rule). is_empty r.defaults) c ≡ true → fold with_default rows c ≡ rows
finished_plain [] rows e = refl
finished_plain (r ∷ rs) rows e =
    let p = both _ _ e in rw (plain_default rows r p.0) (finished_plain rs rows p.1)

-- ---- the whole command

module _ (name : Text) (names : List Text) where
  pub simple : is_simple (app name names) ≡ true
  simple =
      let is = rules_are name names in
      let bare : list_all (λ (r : Rule). r.is_simple) (built (app name names)).top.rules ≡ true =
      ap (list_all (λ (r : Rule). r.is_simple)) is
      ∙ all_options (λ (r : Rule). r.is_simple) (λ n. refl) refl names in
      let ordered : is_in_order (built (app name names)).top.rules ≡ true =
      ap is_in_order is ∙ ap not (none_early
      (count_by (λ (a : Rule). is_some a.index) (built_file ∷ after_file names)) names) in
      rw (all_bare names, bare, ordered) refl

  le_of_one : (n : ℕ) → n ≡ 1 → n ≤ 1
  le_of_one n e = omega arith

  words_taken : (words : List Text) (ps : Pairs) → is_fit names ≡ true →
      pairs names None words ≡ Some ps → each_once names ps ≡ true →
      (takes (app name names) words ≡ true) × (matches_of (app name names) words ≡ map shown ps)
  words_taken words ps fit e once =
      let top = (built (app name names)).top in
      let is = rules_are name names in
      let knows : Knows top.rules names =
      subst (λ (c : List Rule). Knows c names) (sym is) (knows_rules names fit) in
      let counts = once_each ps (file_id ∷ names) once in
      let least : Once top names refl knows ps =
      λ id m. le_of_one _ (among (λ n. count_of n ps ≡ 1) (file_id ∷ names) counts id m) in
      let start : Ends top names refl knows [] (walk_from nothing_held) = record {
        rows = [];
        pending = None;
        skip = 0;
        position = 1;
        is = refl;
        rows_are = refl;
        passes = refl;
        at_first = λ _. refl;
      } in
      let all = sim top names refl knows words None [] ps (walk_from nothing_held) start e least in
      let ended = settled_rows top.rules all.1.pending all.1.rows in
      let rows_are : ended ≡ map shown ps = all.1.rows_are in
      let plain : list_all (λ (r : Rule). is_empty r.defaults) top.rules ≡ true =
      ap (list_all (λ (r : Rule). is_empty r.defaults)) is
      ∙ all_options (λ (r : Rule). is_empty r.defaults) (λ n. refl) refl names in
      let defaults : list_all default_passes top.rules ≡ true =
      ap (list_all default_passes) is ∙ all_options default_passes (λ n. refl) refl names in
      let free : list_all (λ (r : Rule). r.is_free) top.rules ≡ true =
      ap (list_all (λ (r : Rule). r.is_free)) is
      ∙ all_options (λ (r : Rule). r.is_free) (λ n. refl) refl names in
      let matched : matches_of (app name names) words ≡ map shown ps =
      rw (all.1.is) (finished_plain top.rules ended plain ∙ rows_are) in
      let wanted_of : List Row → Bool =
      λ rows. list_all (λ (a : Rule). not a.required || is_given a.id rows) top.rules in
      let shown_wanted : wanted_of (map shown ps) ≡ true =
      ap (list_all (λ (a : Rule). not a.required || is_given a.id (map shown ps))) is
      ∙ rw (given file_id ps counts.0) (all_given ps names counts.1) in
      let wanted : wanted_of (matches_of (app name names) words) ≡ true =
      ap wanted_of matched ∙ shown_wanted in
      (rw (simple, wanted, all.1.is, all.0, all.1.passes, defaults, free) refl, matched)

-- arguments that have the forms give pairs
formed_step : (names : List Text) (o : Option Pairs) →
    option_map_or (each_once names) o false ≡ true →
    (o ≡ Some (unwrap_or o [])) × (each_once names (unwrap_or o []) ≡ true)
formed_step names None e = absurd (true≢false (sym e))
formed_step names (Some ps) e = (refl, e)

formed : (names words : List Text) → has_forms names words ≡ true →
    (pairs names None words ≡ Some (pairs_in names words))
    × (each_once names (pairs_in names words) ≡ true)
formed names words e = formed_step names (pairs names None words) e

pub taken : (name : Text) (names words : List Text) → is_fit names ≡ true →
    has_forms names words ≡ true → takes (app name names) words ≡ true
taken name names words fit e =
    let f = formed names words e in (words_taken name names words _ fit f.0 f.1).0

-- ---- the texts

first_value_of : (id : Text) (ps : Pairs) → first_of id (map shown ps) ≡ value_of id ps
first_value_of id [] = refl
first_value_of id (p ∷ ps) = go (bytes_eq p.0 id) (first_value_of id ps)
  where
    go : (b : Bool) → first_of id (map shown ps) ≡ value_of id ps
        → option_and_then (λ (r : Row). slice_get r.values 0)
        (if b then Some (shown p) else find (λ (r : Row). bytes_eq r.id id) (map shown ps))
        ≡ option_map (λ (q : Text × Text). q.1)
        (if b then Some p else find (λ (q : Text × Text). bytes_eq q.0 id) ps)
    go true e = refl
    go false e = e

rows_texts : (ps : Pairs) (ids : List Text) →
    map (row_text (map shown ps)) ids ≡ map (text_in ps) ids
rows_texts ps [] = refl
rows_texts ps (id ∷ ids) =
    rw (first_value_of id ps) (ap (λ (l : List Text). text_in ps id ∷ l) (rows_texts ps ids))

pub texts_found : (name : Text) (names words : List Text) (rows : List Row) →
    is_fit names ≡ true → has_forms names words ≡ true → rows ≡ matches_of (app name names) words →
    texts_in names words ≡ Some (map (row_text rows) (file_id ∷ names))
unfolding texts_in
texts_found name names words rows fit e r =
    let f = formed names words e in
    let found = r ∙ (words_taken name names words _ fit f.0 f.1).1 in
    rw (f.0, f.1) (ap Some (sym (rows_texts (pairs_in names words) (file_id ∷ names))
    ∙ ap (λ (r : List Row). map (row_text r) (file_id ∷ names)) (sym found)))

none_step : (names : List Text) (o : Option Pairs) →
    option_map_or (each_once names) o false ≡ false → texts_of names o ≡ None
none_step names None e = refl
none_step names (Some ps) e = rw e refl

pub none_found : (names words : List Text) → has_forms names words ≡ false →
    texts_in names words ≡ None
unfolding texts_in
none_found names words e = none_step names (pairs names None words) e
