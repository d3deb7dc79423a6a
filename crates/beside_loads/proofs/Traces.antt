-- A command wrote for a protected thread the text of the one-thread definition.
use Rattle.std.proofs.Common.{◌≡◌, ℕ, List, [], ◌++◌, Bool, true, Option}
use Rattle.std.proofs.Common.{Some, None, IfSome, ap, subst, sym, ◌∙◌, ◌↔◌, ◌≢◌}
use Rattle.flexpret_top.specs.Answer.{Answer, IsSaid}
use Rattle.flexpret_top.specs.Answer.Answer.{Says, Missing}
use Rattle.flexpret_top.specs.Ask.{Ask}
use Rattle.flexpret_top.specs.Ask.TheVariants.{Run}
use Rattle.flexpret_top.specs.Command.{IsAnswer, Said}
use Rattle.flexpret_top.specs.Commands.{ask}
use Rattle.flexpret_top.specs.Content.{FileMap}
use Rattle.flexpret_top.specs.Headline.{IsIsolated, WritesIsolated, machine_of}
use Rattle.flexpret_top.specs.Outcome.{KnownOutcome, State}
use Rattle.flexpret_top.specs.PluggedPorts.{Row}
use Rattle.flexpret_top.specs.Solo.{solo}
use Rattle.flexpret_top.specs.Text.{text}
use Rattle.flexpret_top.specs.ThreadView.{View}
use Rattle.flexpret_top.specs.TraceLaws.{view_of}
use Rattle.beside_loads.specs.Loads.{IsProtected, IsSameBeside, IsTraceBeside}

-- status 0 is none of those at which nothing is said
not-seven : {s : ℕ} → s ≡ 0 → s ≢ 7
not-seven zero seven = cc

not-eight : {s : ℕ} → s ≡ 0 → s ≢ 8
not-eight zero eight = cc

not-nine : {s : ℕ} → s ≡ 0 → s ≢ 9
not-nine zero nine = cc

-- into a sink that was empty
written : (asked : Option Ask) (files : FileMap) (ports : List (Option Row))
    (before bytes : List ℕ) → before ≡ [] → WritesIsolated asked files ports (Some before)
    (Some bytes) → (setup : List ℕ) (i n : ℕ) (v : View) → asked ≡ Some (Run setup i n) →
    IsProtected files ports setup i n v → bytes ≡ text (solo v n)
written asked files ports before bytes empty wrote setup i n v is p =
    let Wrote : Option Ask → Type 0 =
    λ o. WritesIsolated o files ports (Some before) (Some bytes) in
    let run : IsIsolated (machine_of p.loaded ports) i n (Some before) (Some bytes) =
    (subst Wrote is wrote) p.loaded p.found in
    run.by_view p.hard p.quiet
    ∙ ap (λ (xs : List ℕ). xs ++ text (solo (view_of (machine_of p.loaded ports) i n) n)) empty
    ∙ ap (λ (w : View). text (solo w n)) p.view

-- the text of an answer with status 0, into an empty sink
said-text : (Is : Answer → Type 0) (status : ℕ) (before bytes : List ℕ) → before ≡ [] →
    status ≡ 0 → Said Is status (Some before) (Some bytes) → Is (Says 0 bytes)
said-text Is status before bytes empty zero h = go h.answer h.is h.said
  where
    go : (x : Answer) → Is x → IsSaid status (Some before) (Some bytes) x → Is (Says 0 bytes)
    go (Says s text) is said =
        let same : text ≡ bytes =
        sym (ap (λ (xs : List ℕ). xs ++ text) empty) ∙ sym said.1 in
        let none : s ≡ 0 = sym said.0 ∙ zero in
        subst (λ (xs : List ℕ). Is (Says 0 xs)) same (subst (λ k. Is (Says k text)) none is)
    go Missing is said = absurd said

pub traced : {F K P : Type 0} (contents : Option FileMap) (words : List (List ℕ))
    (before after : State F K P) (status : ℕ) →
    IfSome contents (λ files. KnownOutcome files (ask words) before after status) →
    (first bytes : List ℕ) → first ≡ [] → before.written ≡ Some first →
    after.written ≡ Some bytes → status ≡ 0 → IsTraceBeside contents words before.rows bytes
traced None words before after status known first bytes empty was is zero =
    record { answer = tt; text_of = tt }
traced (Some files) words before after status known first bytes empty was is zero =
    let wrote : WritesIsolated (ask words) files before.rows (Some first) (Some bytes) =
    (let At : Option (List ℕ) → Type 0 = λ o.
    WritesIsolated (ask words) files before.rows o after.written in
    let Now : Option (List ℕ) → Type 0 = λ o.
    WritesIsolated (ask words) files before.rows (Some first) o in
    subst Now is (subst At was (known.isolated zero))) in
    let said : Said (IsAnswer words files before.rows) status (Some first) (Some bytes) =
    (let At : Option (List ℕ) → Type 0 = λ o.
    Said (IsAnswer words files before.rows) status o after.written in
    let Now : Option (List ℕ) → Type 0 = λ o.
    Said (IsAnswer words files before.rows) status (Some first) o in
    subst Now is (subst At was
    (known.said (not-seven zero) (not-eight zero) (not-nine zero)))) in
    record {
      answer =
          said-text (IsAnswer words files before.rows) status first bytes empty zero said;
      text_of = written (ask words) files before.rows first bytes empty wrote;
    }

-- two traces of a protected thread
both-same : (one other : Option FileMap) (words : List (List ℕ)) (ports ports' : List (Option Row))
    (first second : List ℕ) (same : Bool) → (first ≡ second → same ≡ true) →
    IfSome one (λ files. (setup : List ℕ) (i n : ℕ) (v : View) → ask words ≡ Some (Run setup i n) →
    IsProtected files ports setup i n v → first ≡ text (solo v n)) →
    IfSome other (λ files. (setup : List ℕ) (i n : ℕ) (v : View) → ask words
    ≡ Some (Run setup i n) → IsProtected files ports' setup i n v → second ≡ text (solo v n)) →
    IfSome one (λ f. IfSome other (λ s. (setup : List ℕ) (i n : ℕ) (v : View) →
    ask words ≡ Some (Run setup i n) → IsProtected f ports setup i n v →
    IsProtected s ports' setup i n v → same ≡ true))
both-same None other words ports ports' first second same compare a b = tt
both-same (Some f) None words ports ports' first second same compare a b = tt
both-same (Some f) (Some s) words ports ports' first second same compare a b =
    λ setup i n v is p q. compare (a setup i n v is p ∙ sym (b setup i n v is q))

pub same_beside : (one other : Option FileMap) (words : List (List ℕ))
    (ports ports' : List (Option Row)) (first second : List ℕ) (same : Bool) →
    (same ≡ true) ↔ (first ≡ second) → IsTraceBeside one words ports first →
    IsTraceBeside other words ports' second → IsSameBeside one other words ports ports' same
same_beside one other words ports ports' first second same compare a b = record {
  first = first;
  second = second;
  with_one = a;
  with_other = b;
  exact = compare;
  always = both-same one other words ports ports' first second same compare.1 a.text_of b.text_of;
}
