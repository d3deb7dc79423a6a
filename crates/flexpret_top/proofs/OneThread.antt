-- The run of one thread by itself follows the definition of its command.
use Rattle.std.proofs.Common.{◌≡◌, ℕ, zero, suc, ◌+◌, ◌-◌, ◌*◌, ◌<◌, ◌≤◌, Bool, true}
use Rattle.std.proofs.Common.{false, cond, nat_eq, if◌then◌else◌, List, [], ◌∷◌, ◌++◌}
use Rattle.std.proofs.Common.{length, take, drop, map, get_or, set, take-append-drop, find}
use Rattle.std.proofs.Common.{nat_le, option_map, reverse, ap₂, Option, Some, None}
use Rattle.std.proofs.Common.{Result, Ok, Err, refl, ap, sym, subst, ◌∙◌, arith, inl, inr}
use Rattle.std.specs.Prelude.{IfSome, IsSomeAnd, IfErr, OnOk}
use Rattle.std.specs.List.{AllWithin, slice_get}
use Rattle.std.specs.List.Sorted.{IsNonDecreasingBy}
use Rattle.std.specs.Str.{bytes_eq}
use Rattle.std.proofs.lemmas.Bool.{cases_lt}
use Rattle.std.proofs.lemmas.List.{get_or-map, length-take, take_all, take-append-le}
use Rattle.std.proofs.lemmas.Bool.Decides.{nat_tests}
use Rattle.std.proofs.lemmas.List.FromFn.{get_or-range_with_len}
use Rattle.std.proofs.lemmas.Slice.Eq.{bytes_eq-Decides}
use Rattle.fp_ports.proofs.RowLemmas.{rows_stay}
use Rattle.std.proofs.lemmas.List.{reverse-append, set-set}
use Rattle.std.proofs.lemmas.List.Folds.{find-append}
use Rattle.std.specs.Option.{option_or}
use Rattle.core_model.specs.View.{View}
use Rattle.fp_ports.specs.PluggedPorts.{row_of, rows_of}
use Rattle.fp_ports.specs.ShownWords.{input_at}
use Rattle.fp_setup.specs.declared.input_list.Input.{Input}
use Rattle.fp_setup.specs.Inputs.{AreInputs}
use Rattle.fp_image.specs.declared.parts.Segment.{Segment}
use Rattle.fp_io.specs.Content.{FileMap, Fetched}
use Rattle.fp_ports.specs.PluggedPorts.{Row}
use Rattle.fp_setup.specs.SetupOfTables.{the_threads}
use Rattle.fp_setup.specs.Settings.{Settings}
use Rattle.setup_model.specs.Start.{start, shown_to}
use Rattle.solo_run.specs.FirstDifference.{IsChecked, first_differing_line, line_feeds}
use Rattle.solo_run.specs.declared.checked.Checked.{Checked}
use Rattle.solo_run.specs.declared.checked.Checked.TheVariants.{Same, Differs}
use Rattle.solo_run.specs.Setup.{setup_view}
use Rattle.solo_run.proofs.Compare.{prefix}
use Rattle.core_model.specs.Viewed.{view, setting_of}
use Rattle.solo_run.specs.View.{abstract_view}
use Rattle.solo_run.specs.declared.view.SoloView.{SoloView}
use Rattle.commands.specs.Answer.{Answer, differs_text, over_file}
use Rattle.flexpret_top.specs.SoloAndCheck.{comparison_of, said_by, same_text}
use Rattle.commands.specs.declared.stop.CommandStop.{CommandStop}
use Rattle.commands.specs.declared.stop.CommandStop.TheVariants as in_stop
use Rattle.commands.specs.Stops.{IsStop, IsStopOf, is_difference}
use Rattle.commands.specs.Answer.Answer.{Says}

-- the thread at an index is the thread with that number
thread-at : (i : ℕ) → i < 8 → get_or the_threads i 0 ≡ i
thread-at i small = get_or-range_with_len 0 8 i 0 small ∙ omega arith

-- The view of a setup's thread, with ports, is the view that the code makes, with the port's words.
pub view-beside : (s : Settings) (image : List Segment) (ports : List (Option Row)) (i n : ℕ) →
    i < 8 → setup_view s image i (shown_to s ports n i) ≡ view (start s image ports n) i
unfolding setup_view start view setting_of
view-beside s image ports i n small =
    let shown : get_or (map (shown_to s ports n) the_threads) i [] ≡ shown_to s ports n i =
    get_or-map (shown_to s ports n) the_threads i 0 [] small
    ∙ ap (shown_to s ports n) (thread-at i small) in
    ap (λ shown. record (view (start s image ports n) i) { shown = shown }) (sym shown)

-- a view of a setup's thread is that thread's
pub view-thread : (v : SoloView) (s : Settings) (image : List Segment) (i : ℕ) →
    ((shown : List ℕ) → abstract_view v shown ≡ setup_view s image i shown) → v.thread ≡ i
unfolding setup_view view setting_of
view-thread v s image i views = ap (λ (v : View). v.setting.thread) (views [])

itself : (x : ℕ) → nat_eq x x ≡ true
itself x = grind (arith, nat_tests)

-- the common prefix is the same with more bytes, if it ends before them
prefix-left : (e rest xs : List ℕ) → prefix e xs < length e → prefix (e ++ rest) xs ≡ prefix e xs
prefix-left [] rest xs l = absurd (omega (arith, l))
prefix-left (y ∷ e) rest [] l = refl
prefix-left (y ∷ e) rest (x ∷ xs) l = go (nat_eq y x) (λ k. prefix-left e rest xs k) l
  where
    go : (b : Bool) → (prefix e xs < length e → prefix (e ++ rest) xs ≡ prefix e xs) →
        cond b (1 + prefix e xs) 0 < length (y ∷ e) →
        cond b (1 + prefix (e ++ rest) xs) 0 ≡ cond b (1 + prefix e xs) 0
    go true on l = let less : prefix e xs < length e = omega arith in ap (λ n. 1 + n) (on less)
    go false on l = refl

prefix-same : (xs : List ℕ) → prefix xs xs ≡ length xs
prefix-same [] = refl
prefix-same (x ∷ xs) = rw (itself x, prefix-same xs) (omega arith)

-- The answer over the first bytes is that over the file, if their common prefix with the text ends
-- within them.
checked-long : (file given text rest : List ℕ) (answer : Checked) → file ≡ given ++ rest →
    prefix given text < length given → length given < length file → IsChecked given text answer →
    IsChecked file text answer
checked-long file given text rest Same whole less longer is =
    absurd (let all : prefix given text ≡ length given = ap (prefix given) (sym is)
    ∙ prefix-same given in omega (arith, all, less))
checked-long file given text rest (Differs line) whole less longer is =
    let at : prefix file text ≡ prefix given text =
    ap (λ xs. prefix xs text) whole ∙ prefix-left given rest text less in
    let within : prefix given text ≤ length given = omega (arith, less) in
    let same : take (prefix file text) file ≡ take (prefix given text) given =
    ap (λ n. take n file) at ∙ ap (take (prefix given text)) whole
    ∙ take-append-le (prefix given text) given rest within in (
      λ equal. (let all : prefix file text ≡ length file = ap (prefix file) (sym equal)
          ∙ prefix-same file in absurd (omega (arith, all, at, less, longer))),
      is.1 ∙ ap (λ bytes. 1 + line_feeds bytes) (sym same),
    )

pub checked-file : (file given text : List ℕ) (n : ℕ) (answer : Checked) →
    given ≡ take (60 * n + 1) file → prefix given text ≤ 59 * n → IsChecked given text answer →
    IsChecked file text answer
checked-file file given text n answer cut few is =
    elim (cases_lt (60 * n + 1) (length file)) [
      | inl past ↦
          let long : length given ≡ 60 * n + 1 =
          ap length cut ∙ (let part = length-take (60 * n + 1) file in omega (arith, part, past)) in
          let whole : file ≡ given ++ drop (60 * n + 1) file =
          sym (take-append-drop (60 * n + 1) file)
          ∙ ap (λ bytes. bytes ++ drop (60 * n + 1) file) (sym cut) in
          checked-long file given text (drop (60 * n + 1) file) answer whole
          (omega (arith, few, long)) (omega (arith, long, past)) is
      | inr short ↦
          (let Is : List ℕ → Type 0 = λ bytes. IsChecked bytes text answer in
          subst Is (cut ∙ take_all (60 * n + 1) file short) is)
    ]

not-true : (b : Bool) → (b ≡ true → ⊥) → b ≡ false
not-true true never = absurd (never refl)
not-true false never = refl

compared-by : (file text : List ℕ) (b : Bool) (answer : Result (List ℕ) Answer) →
    bytes_eq file text ≡ b →
    (if b then Ok same_text else Err (Says 1 (differs_text (first_differing_line file text))))
    ≡ answer → comparison_of text file ≡ answer
compared-by file text b answer is by =
    ap (λ (b : Bool). if b then Ok same_text
    else Err (Says 1 (differs_text (first_differing_line file text)))) is ∙ by

compared-is : (file text : List ℕ) (answer : Checked) → IsChecked file text answer →
    comparison_of text file ≡ said_by answer
compared-is file text Same is =
    compared-by file text true (Ok same_text) ((bytes_eq-Decides file text).1 is) refl
compared-is file text (Differs line) is =
    compared-by file text false (Err (Says 1 (differs_text line)))
    (not-true (bytes_eq file text) (λ equal. is.0 ((bytes_eq-Decides file text).0 equal)))
    (ap (λ (l : ℕ). Err (Says 1 (differs_text l))) (sym is.1))

-- the same over the file of the fetched bytes
pub compared-file : (contents : Option FileMap) (name bytes items text : List ℕ) (n most : ℕ)
    (answer : Checked) → most ≡ 60 * n → Fetched contents name most items → bytes ≡ items →
    prefix bytes text ≤ 59 * n → IsChecked bytes text answer →
    IfSome contents (λ files. over_file (comparison_of text) (files name) ≡ said_by answer)
compared-file None name bytes items text n most answer limit fetched same few is = tt
compared-file (Some files) name bytes items text n most answer limit fetched same few is =
    found (files name) fetched
  where
    found : (o : Option (List ℕ)) → IsSomeAnd o (λ whole. items ≡ take (most + 1) whole) →
        over_file (comparison_of text) o ≡ said_by answer
    found None there = absurd there
    found (Some whole) there =
        compared-is whole text answer (checked-file whole bytes text n answer
        (same ∙ there ∙ ap (λ m. take (m + 1) whole) limit) few is)

-- so the command answers `same` if the comparison finds no difference
pub compared-ok : (contents : Option FileMap) (name text : List ℕ)
    (answer : Checked) (r : Result Unit CommandStop) →
    IfSome contents (λ files. over_file (comparison_of text) (files name) ≡ said_by answer) →
    OnOk r (said_by answer ≡ Ok same_text) →
    OnOk r (IfSome contents (λ files. over_file (comparison_of text) (files name) ≡ Ok same_text))
compared-ok contents name text answer (Ok done) is same = over contents is
  where
    over : (contents : Option FileMap) →
        IfSome contents (λ files. over_file (comparison_of text) (files name) ≡ said_by answer) →
        IfSome contents (λ files. over_file (comparison_of text) (files name) ≡ Ok same_text)
    over None is = tt
    over (Some files) is = is ∙ same
compared-ok contents name text answer (Err stop) is same = tt

pub compared-stop : (contents : Option FileMap) (name text : List ℕ)
    (answer : Checked) (before after : ℕ) (r : Result Unit CommandStop) →
    IfSome contents (λ files. over_file (comparison_of text) (files name) ≡ said_by answer) →
    IfErr r (IsStopOf (said_by answer)) → IfErr r
    (IsStop contents (λ files x. over_file (comparison_of text) (files name) ≡ Err x) before after)
compared-stop contents name text answer before after (Ok done) is stops = tt
compared-stop contents name text answer before after (Err stop) is stops =
    over contents stop is stops
  where
    over : (contents : Option FileMap) (stop : CommandStop) →
        IfSome contents (λ files. over_file (comparison_of text) (files name) ≡ said_by answer) →
        IsStopOf (said_by answer) stop →
        IsStop contents
        (λ files x. over_file (comparison_of text) (files name) ≡ Err x) before after stop
    over None (in_stop.Refused refusal) is stops = tt
    over None (in_stop.Differs line) is stops = tt
    over None in_stop.Read is stops = absurd stops
    over None in_stop.NoMemory is stops = tt
    over (Some files) (in_stop.Refused refusal) is stops = is ∙ stops
    over (Some files) (in_stop.Differs line) is stops = is ∙ stops
    over (Some files) in_stop.Read is stops = absurd stops
    over (Some files) in_stop.NoMemory is stops = tt

-- a comparison that finds a difference ends with that difference
pub difference-kept : (r : Result Unit CommandStop) (Kept : Type 0) →
    IfErr r (λ stop. is_difference stop ≡ true) →
    IfErr r (λ stop. is_difference stop ≡ false → Kept)
difference-kept (Ok done) Kept is = tt
difference-kept (Err stop) Kept is = λ none. absurd (cc)

or-map : {A B : Type 0} → (g : A → B) (o p : Option A) →
    option_map g (option_or o p) ≡ option_or (option_map g o) (option_map g p)
or-map g None p = refl
or-map g (Some x) p = refl

-- the last input's word
pub last-word : (inputs : List Input) (c : ℕ) → option_map (λ (input : Input). input.word)
    (find (λ (input : Input). nat_le input.at c) (reverse inputs)) ≡
    input_at (map (λ (input : Input). (input.at, input.word)) inputs) c
last-word [] c = refl
last-word (x ∷ inputs) c =
    let pair : Input → ℕ × ℕ = λ input. (input.at, input.word) in
    let early : Input → Bool = λ input. nat_le input.at c in
    let soon : ℕ × ℕ → Bool = λ input. nat_le input.0 c in
    let word : Input → ℕ = λ input. input.word in
    let second : ℕ × ℕ → ℕ = λ input. input.1 in
    let one : option_map word (find early (x ∷ [])) ≡ option_map second (find soon (pair x ∷ [])) =
    same_found (nat_le x.at c) in
    ap (λ xs. option_map word (find early xs)) (reverse-append (x ∷ []) inputs)
    ∙ ap (option_map word) (find-append early (reverse inputs) (x ∷ []))
    ∙ or-map word (find early (reverse inputs)) (find early (x ∷ []))
    ∙ ap₂ (λ (o p : Option ℕ). option_or o p) (last-word inputs c) one
    ∙ sym (or-map second (find soon (reverse (map pair inputs))) (find soon (pair x ∷ [])))
    ∙ sym (ap (option_map second) (find-append soon (reverse (map pair inputs)) (pair x ∷ [])))
    ∙ sym
    (ap (λ xs. option_map second (find soon xs)) (reverse-append (pair x ∷ []) (map pair inputs)))
  where
    same_found : (b : Bool) → option_map (λ (input : Input). input.word) (cond b (Some x) None)
        ≡ option_map (λ (input : ℕ × ℕ). input.1) (cond b (Some (x.at, x.word)) None)
    same_found true = refl
    same_found false = refl

-- later inputs have later cycles
pub no-later : (inputs : List Input) → AreInputs inputs →
    IsNonDecreasingBy (λ (input : Input). input.at) inputs
no-later inputs are i j d from within =
    elim (cases_lt i j) [
      | inl before ↦ (let later = are.rising i j d before within in omega (arith, later))
      | inr past ↦ (let same : i ≡ j = omega (arith, from, past) in rw same (omega arith))
    ]

last-there : {A : Type 0} → (x : A) (xs : List A) →
    (last : A) × (slice_get (x ∷ xs) (length xs) ≡ Some last)
last-there x [] = (x, refl)
last-there x (y ∷ xs) = last-there y xs

-- the last element that passes a test, if all that pass it come before all others
pub last-found : {A : Type 0} → (p : A → Bool) (xs : List A) (i : ℕ) → i ≤ length xs →
    AllWithin (λ x. p x ≡ true) xs 0 i → AllWithin (λ x. p x ≡ false) xs i (length xs) →
    slice_get (take i xs) (length (take i xs) - 1) ≡ find p (reverse xs)
last-found p [] zero within pass fail = refl
last-found p [] (suc i) within pass fail = refl
last-found p (x ∷ xs) zero within pass fail =
    let none : find p (x ∷ []) ≡ None =
    ap (λ b. cond b (Some x) None) (fail 0 x (omega arith) (omega arith)) in
    let before = last-found p xs zero (omega arith) (λ k d low high. absurd (omega (arith, high)))
    (λ k d low high. fail (suc k) d (omega arith) (omega (arith, high))) in
    sym (ap (find p) (reverse-append (x ∷ []) xs) ∙ find-append p (reverse xs) (x ∷ [])
    ∙ ap₂ option_or (sym before) none)
last-found {A = A} p (x ∷ xs) (suc i) within pass fail =
    let one : find p (x ∷ []) ≡ Some x =
    ap (λ b. cond b (Some x) None) (pass 0 x (omega arith) (omega arith)) in
    let after = last-found p xs i (omega (arith, within))
    (λ k d low high. pass (suc k) d (omega arith) (omega (arith, high)))
    (λ k d low high. fail (suc k) d (omega (arith, low)) (omega (arith, high))) in
    sym (ap (find p) (reverse-append (x ∷ []) xs) ∙ find-append p (reverse xs) (x ∷ [])
    ∙ ap₂ option_or (sym after) one ∙ go (take i xs))
  where
    go : (ys : List A) →
        option_or (slice_get ys (length ys - 1)) (Some x) ≡ slice_get (x ∷ ys) (length (x ∷ ys) - 1)
    go [] = refl
    go (y ∷ ys) =
        let (last, is) = last-there y ys in
        let here : length (y ∷ ys) - 1 ≡ length ys = omega arith in
        let more : length (x ∷ y ∷ ys) - 1 ≡ suc (length ys) = omega arith in
        rw (here, more, is) refl

-- taking a port out and putting it back unchanged changes nothing
pub rows-back : {B : Type 0} → (latched : B → ℕ) (word_at : B → ℕ → ℕ) (ports : List (Option B))
    (thread : ℕ) (gone x taken y : Option B) → x ≡ get_or ports thread x →
    thread < length ports → taken ≡ x → row_of latched word_at y ≡ row_of latched word_at taken →
    rows_of latched word_at (set (set ports thread gone) thread y) ≡ rows_of latched word_at ports
rows-back latched word_at ports thread gone x taken y read inside is same =
    ap (rows_of latched word_at) (set-set ports thread gone y)
    ∙ rows_stay latched word_at ports thread x y read inside (same ∙ ap (row_of latched word_at) is)
