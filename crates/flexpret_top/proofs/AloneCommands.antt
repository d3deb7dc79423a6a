-- The answers of the commands that run one thread by itself.
use Rattle.std.proofs.Common.{◌≡◌, ℕ, ◌<◌, ◌≤◌, get_or, length, List, [], Option, Some, None}
use Rattle.std.proofs.Common.{Result, Ok, Err, refl, ap, sym, subst, ◌∙◌, arith, inl, inr}
use Rattle.std.specs.Prelude.{IfSome, slice_get}
use Rattle.command_line.specs.declared.asked.Ask.TheVariants.{Solo, Check}
use Rattle.core_model.specs.Solo.{solo}
use Rattle.core_model.specs.View.{View}
use Rattle.fp_io.specs.Causes.{HasRisen}
use Rattle.fp_io.specs.Content.{FileMap}
use Rattle.fp_ports.specs.PluggedPorts.{Row, row_at, row_of, rows_of}
use Rattle.fp_ports.proofs.RowLemmas.{row_read}
use Rattle.fp_setup.specs.SetupOfTables.{default_thread}
use Rattle.fp_setup.specs.Settings.{Settings}
use Rattle.std.proofs.lemmas.Option.{get_or_from_slice_get}
use Rattle.fp_ports.specs.ShownWords.{shown}
use Rattle.fp_setup.specs.declared.thread_list.ThreadSetup.{ThreadSetup}
use Rattle.setup_model.specs.Start.{inputs_of, shown_to, thread_setup_of}
use Rattle.solo_run.specs.View.{abstract_view}
use Rattle.trace_print.specs.Text.{text}
use Rattle.core_model.specs.Viewed.{view}
use Rattle.commands.specs.declared.program.Program.{Program}
use Rattle.flexpret_top.specs.declared.ready.Alone.{Alone}
use Rattle.flexpret_top.specs.declared.ready.Prepared.TheVariants as prepared
use Rattle.commands.specs.declared.stop.CommandStop.{CommandStop}
use Rattle.commands.specs.declared.stop.CommandStop.TheVariants.{Refused, Differs, Read, NoMemory}
use Rattle.flexpret_top.specs.SoloAndCheck.{IsAlone, IsAloneOf, alone_of, alone_text, check_answer}
use Rattle.flexpret_top.specs.SoloAndCheck.{checked_of, comparison_of, same_text, told_alone}
use Rattle.commands.specs.Answer.{Answer, ends, over_file, then_by}
use Rattle.commands.specs.Answer.Answer.{Says}
use Rattle.flexpret_top.specs.Command.{IsAnswerIn}
use Rattle.flexpret_top.specs.Prepared.{Prepares}
use Rattle.flexpret_top.specs.Run.{start_of}
use Rattle.commands.specs.Stops.{IsStop}
use Rattle.flexpret_top.proofs.OneThread.{view-beside}

-- a stop whose answers are among those of another kind is a stop of that kind
stop-turns : (contents : Option FileMap) (P Q : FileMap → Answer → Type 0) (b a : ℕ) (stop
    : CommandStop) →
    IfSome contents (λ files. (x : Answer) → P files x → Q files x) → IsStop contents P b a stop →
    IsStop contents Q b a stop
stop-turns None P Q b a (Refused refusal) turns is = tt
stop-turns None P Q b a (Differs line) turns is = tt
stop-turns None P Q b a Read turns (inl rose) = inl rose
stop-turns None P Q b a Read turns (inr missing) = absurd missing
stop-turns None P Q b a NoMemory turns is = tt
stop-turns (Some files) P Q b a (Refused refusal) turns is = turns _ is
stop-turns (Some files) P Q b a (Differs line) turns is = turns _ is
stop-turns (Some files) P Q b a Read turns (inl rose) = inl rose
stop-turns (Some files) P Q b a Read turns (inr missing) = inr (turns _ missing)
stop-turns (Some files) P Q b a NoMemory turns is = tt

-- a stop of a later step
stop-later : (contents : Option FileMap) (P : FileMap → Answer → Type 0) (b b' a : ℕ) (stop
    : CommandStop) →
    (HasRisen b' a → HasRisen b a) → IsStop contents P b' a stop → IsStop contents P b a stop
stop-later contents P b b' a (Refused refusal) earlier is = is
stop-later contents P b b' a (Differs line) earlier is = is
stop-later contents P b b' a Read earlier (inl rose) = inl (earlier rose)
stop-later contents P b b' a Read earlier (inr missing) = inr missing
stop-later contents P b b' a NoMemory earlier is = tt

-- the text of the run, by its row, setup and view
contents-by : (a : Alone) (rows : List (Option Row)) (row : Option Row)
    (t : ThreadSetup) (base : View) → base ≡ abstract_view a.view [] →
    row ≡ row_at rows a.view.thread → t ≡ thread_setup_of a.setup a.view.thread →
    text (solo (record base { shown = shown row (inputs_of t) t.unplug a.cycles }) a.cycles)
    ≡ told_alone a rows
contents-by a rows row t base is_base is_row is_thread =
    let with_words : (words : List ℕ) → record base { shown = words } ≡ abstract_view a.view words =
    λ words. ap (λ (v : View). record v { shown = words }) is_base in
    let words : shown row (inputs_of t) t.unplug a.cycles
    ≡ shown_to a.setup rows a.cycles a.view.thread =
    ap (λ (r : Option Row). shown r (inputs_of t) t.unplug a.cycles) is_row
    ∙ ap (λ (t : ThreadSetup). shown (row_at rows a.view.thread) (inputs_of t) t.unplug a.cycles)
    is_thread in
    ap (λ (v : View). text (solo v a.cycles))
    (with_words (shown row (inputs_of t) t.unplug a.cycles) ∙ ap (abstract_view a.view) words)

-- a thread's row in the list of threads is its setup
pub thread-is : (threads : List ThreadSetup) (s : Settings) (i : ℕ) (t : ThreadSetup) →
    slice_get threads i ≡ Some t → threads ≡ s.threads → t ≡ thread_setup_of s i
thread-is threads s i t is same =
    sym (get_or_from_slice_get threads i t default_thread is)
    ∙ ap (λ (ts : List ThreadSetup). get_or ts i default_thread) same

-- the same, after the port was taken out of the ports
pub beside-contents : {B : Type 0} → (latched : B → ℕ) (word_at : B → ℕ → ℕ) (a : Alone)
    (ports : List (Option B)) (x taken : Option B) (t : ThreadSetup) (base : View) →
    x ≡ get_or ports a.view.thread x → a.view.thread < length ports → taken ≡ x →
    t ≡ thread_setup_of a.setup a.view.thread → base ≡ abstract_view a.view [] → text (solo
    (record base { shown = shown (row_of latched word_at taken) (inputs_of t) t.unplug a.cycles })
    a.cycles) ≡ told_alone a (rows_of latched word_at ports)
beside-contents latched word_at a ports x taken t base read inside is is_thread is_base =
    contents-by a (rows_of latched word_at ports) (row_of latched word_at taken) t base is_base
    (ap (row_of latched word_at) is
    ∙ row_read latched word_at ports a.view.thread x x read inside) is_thread

-- it is the text of the definition
contents-text : (p : Program) (i n : ℕ) (a : Alone) (rows : List (Option Row)) → i < 8 →
    IsAloneOf p i n a → told_alone a rows ≡ alone_text rows i n p
contents-text p i n a rows small of =
    let words : shown_to a.setup rows a.cycles a.view.thread ≡ shown_to p.setup rows n i =
    ap (λ s. shown_to s rows a.cycles a.view.thread) of.setup
    ∙ ap (λ k. shown_to p.setup rows k a.view.thread) of.cycles
    ∙ ap (λ k. shown_to p.setup rows n k) of.thread in
    ap (λ (ws : List ℕ). text (solo (abstract_view a.view ws) a.cycles)) words
    ∙ ap (λ (v : View). text (solo v a.cycles))
    (of.views (shown_to p.setup rows n i) ∙ view-beside p.setup p.image rows i n small)
    ∙ ap (λ k. text (solo (view (start_of p rows n) i) k)) of.cycles

-- the prepared run answers `solo`
solo-answers : (files : FileMap) (name : List ℕ) (i n : ℕ) (a : Alone) (ports : List (Option Row)) →
    i < 8 → IsAlone files name i n a → Prepares (Solo name i n) files ports ports (prepared.Solo a)
solo-answers files name i n a ports small is = record {
  written = told_alone a ports;
  delivers = refl;
  is =
      ap (Says 0) (contents-text is.made i n a ports small is.alone)
      ∙ sym (ap (λ (q : Result Program Answer). ends (then_by q (alone_of ports i n))) is.is);
  leaves = λ last leaves. leaves;
  leaves_part = λ last leaves. leaves;
}

pub solo-prepares : (contents : Option FileMap) (name : List ℕ) (i n : ℕ) (a : Alone) →
    i < 8 → IfSome contents (λ files. IsAlone files name i n a) →
    IfSome contents (λ files. (ports : List (Option Row)) →
    Prepares (Solo name i n) files ports ports (prepared.Solo a))
solo-prepares None name i n a small is = tt
solo-prepares (Some files) name i n a small is =
    λ ports. solo-answers files name i n a ports small is

-- the result of a comparison
check-is : (files : FileMap) (name : List ℕ) (i n : ℕ) (trace : List ℕ) (a : Alone)
    (ports : List (Option Row)) (r : Result (List ℕ) Answer) → i < 8 → IsAlone files name i n a →
    over_file (comparison_of (told_alone a ports)) (files trace) ≡ r →
    ends r ≡ check_answer files ports name i n trace
check-is files name i n trace a ports r small is found =
    sym
    (ap (λ (q : Result Program Answer). ends (then_by q (checked_of files ports i n trace))) is.is
    ∙ ap (λ (t : List ℕ). ends (over_file (comparison_of t) (files trace)))
    (sym (contents-text is.made i n a ports small is.alone)) ∙ ap ends found)

same-said : (contents : Option FileMap) (name : List ℕ) (i n : ℕ) (trace : List ℕ) (a : Alone)
    (ports : List (Option Row)) → i < 8 → IfSome contents (λ files. IsAlone files name i n a) →
    IfSome contents
    (λ files. over_file (comparison_of (told_alone a ports)) (files trace) ≡ Ok same_text) →
    IfSome contents (λ files. Says 0 same_text ≡ check_answer files ports name i n trace)
same-said None name i n trace a ports small is found = tt
same-said (Some files) name i n trace a ports small is found =
    check-is files name i n trace a ports (Ok same_text) small is found

pub check-same : (contents told' : Option FileMap) (name : List ℕ) (i n : ℕ)
    (trace : List ℕ) (a : Alone) (ports : List (Option Row)) →
    told' ≡ contents → i < 8 → IfSome contents (λ files. IsAlone files name i n a) →
    IfSome told'
    (λ files. over_file (comparison_of (told_alone a ports)) (files trace) ≡ Ok same_text) →
    IfSome contents (λ files. Says 0 same_text ≡ check_answer files ports name i n trace)
check-same contents told' name i n trace a ports kept small is found =
    let Found : Option FileMap → Type 0 = λ contents. IfSome contents
    (λ files. over_file (comparison_of (told_alone a ports)) (files trace) ≡ Ok same_text) in
    same-said contents name i n trace a ports small is (subst Found kept found)

other-said : (contents : Option FileMap) (name : List ℕ) (i n : ℕ) (trace : List ℕ) (a : Alone)
    (ports : List (Option Row)) → i < 8 → IfSome contents (λ files. IsAlone files name i n a) →
    IfSome contents (λ files. (x : Answer) → over_file (comparison_of (told_alone a ports))
    (files trace) ≡ Err x → x ≡ check_answer files ports name i n trace)
other-said None name i n trace a ports small is = tt
other-said (Some files) name i n trace a ports small is =
    λ x found. check-is files name i n trace a ports (Err x) small is found

rose-earlier : (b b' a : ℕ) → b ≤ b' → HasRisen b' a → HasRisen b a
rose-earlier b b' a first rose = omega (arith, first, rose)

pub check-differs : (contents told' : Option FileMap) (name : List ℕ) (i n : ℕ)
    (trace : List ℕ) (a : Alone) (ports : List (Option Row)) → told' ≡ contents → i < 8 →
    (b b' a' : ℕ) (stop : CommandStop) → b ≤ b' → IfSome contents (λ files. IsAlone files
    name i n a) →
    IsStop told' (λ files x. over_file (comparison_of (told_alone a ports)) (files trace) ≡ Err x)
    b' a' stop → IsStop contents (IsAnswerIn (Check name i n trace) ports) b a' stop
check-differs contents told' name i n trace a ports kept small b b' a' stop first is stops =
    let Found : FileMap → Answer → Type 0 =
    λ files x. over_file (comparison_of (told_alone a ports)) (files trace) ≡ Err x in
    let At : Option FileMap → Type 0 = λ contents. IsStop contents Found b' a' stop in
    stop-turns contents Found (IsAnswerIn (Check name i n trace) ports) b a' stop
    (other-said contents name i n trace a ports small is)
    (stop-later contents Found b b' a' stop (rose-earlier b b' a' first) (subst At kept stops))

-- the prepared comparison answers `check`
pub same-prepares : (contents : Option FileMap) (name : List ℕ) (i n : ℕ)
    (trace : List ℕ) (before after : List (Option Row)) → after ≡ before →
    IfSome contents (λ files. Says 0 same_text ≡ check_answer files before name i n trace) →
    IfSome contents (λ files. Prepares (Check name i n trace) files before after prepared.Same)
same-prepares None name i n trace before after kept is = tt
same-prepares (Some files) name i n trace before after kept is = record {
  written = same_text;
  delivers = refl;
  is = is;
  leaves = λ last leaves. leaves ∙ kept;
  leaves_part = λ last leaves. leaves ∙ kept;
}
