-- A command wrote a bound of a thread's section that holds beside any load.
use Rattle.std.proofs.Common.{◌≡◌, ℕ, ◌-◌, ◌≤◌, List, [], ◌++◌, Option}
use Rattle.std.proofs.Common.{Some, None, Ok, IfSome, ap, subst, ◌∙◌}
use Rattle.flexpret_top.specs.Ask.{Ask}
use Rattle.flexpret_top.specs.Ask.TheVariants.{Bound, Calls}
use Rattle.flexpret_top.specs.Bounds.{bound_text}
use Rattle.flexpret_top.specs.Commands.{ask}
use Rattle.flexpret_top.specs.Content.{FileMap}
use Rattle.flexpret_top.specs.Corollaries.{LongestByCallsWhileScheduled}
use Rattle.flexpret_top.specs.Corollaries.{LongestWhileScheduled}
use Rattle.flexpret_top.specs.Headline.{BoundsCallVisits, BoundsVisits, IsLongest}
use Rattle.flexpret_top.specs.Headline.{IsLongestByCalls, machine_of}
use Rattle.flexpret_top.specs.LoadedProgram.{Program}
use Rattle.flexpret_top.specs.Outcome.{KnownOutcome, State}
use Rattle.flexpret_top.specs.Program.{program}
use Rattle.flexpret_top.specs.ProgramRules.{ProgramsKeepRules}
use Rattle.flexpret_top.specs.Section.{Section}
use Rattle.beside_loads.specs.Bounds.{BoundsBeside, BoundsCallsBeside, IsBoundBeside}

section-bound : ProgramsKeepRules → LongestWhileScheduled → (p : Program) (i : ℕ)
    (section : Section) (before bytes : List ℕ) → before ≡ [] →
    IsLongest p i section (Some before) (Some bytes) → BoundsBeside p i section bytes
section-bound rules law p i section before bytes empty h = record {
  cycles = h.cycles;
  text = h.wrote ∙ ap (λ (xs : List ℕ). xs ++ bound_text h.cycles) empty;
  beside =
      λ files name q ports n load same last earlier v keeps.
      law p i section (Some before) (Some bytes) h (machine_of q ports) n
      (rules files name q load.found) load.hard same load.kept last earlier v keeps;
}

calls-bound : ProgramsKeepRules → LongestByCallsWhileScheduled → (p : Program) (i : ℕ)
    (section : Section) (file : List ℕ) (before bytes : List ℕ) → before ≡ [] →
    IsLongestByCalls p i section file (Some before) (Some bytes) →
    BoundsCallsBeside p i section file bytes
calls-bound rules law p i section file before bytes empty h = record {
  cycles = h.cycles;
  text = h.wrote ∙ ap (λ (xs : List ℕ). xs ++ bound_text h.cycles) empty;
  routines = h.routines;
  listed = h.listed;
  beside =
      λ files name q ports n load same last earlier v returns keeps.
      law p i section file (Some before) (Some bytes) h (machine_of q ports) n
      (rules files name q load.found) load.hard same load.kept last earlier v returns keeps;
}

of-section : ProgramsKeepRules → LongestWhileScheduled → (asked : Option Ask) (files : FileMap)
    (before bytes : List ℕ) → before ≡ [] →
    BoundsVisits asked files (Some before) (Some bytes) →
    (setup : List ℕ) (i : ℕ) (section : Section) (p : Program) →
    asked ≡ Some (Bound setup i section) → program files setup ≡ Ok p →
    BoundsBeside p i section bytes
of-section rules law asked files before bytes empty wrote setup i section p is found =
    let Wrote : Option Ask → Type 0 = λ o. BoundsVisits o files (Some before) (Some bytes) in
    section-bound rules law p i section before bytes empty ((subst Wrote is wrote) p found)

of-calls : ProgramsKeepRules → LongestByCallsWhileScheduled → (asked : Option Ask)
    (files : FileMap) (before bytes : List ℕ) → before ≡ [] →
    BoundsCallVisits asked files (Some before) (Some bytes) →
    (setup : List ℕ) (i : ℕ) (section : Section) (routines file : List ℕ) (p : Program) →
    asked ≡ Some (Calls setup i section routines) → program files setup ≡ Ok p →
    files routines ≡ Some file → BoundsCallsBeside p i section file bytes
of-calls rules law asked files before bytes empty wrote setup i section routines file p is found
    has =
    let Wrote : Option Ask → Type 0 = λ o. BoundsCallVisits o files (Some before) (Some bytes) in
    calls-bound rules law p i section file before bytes empty
    ((subst Wrote is wrote) p file found has)

-- the theorems that the bound beside a load rests on
pub record Theorems : Type 0 where
  pub rules : ProgramsKeepRules
  pub sections : LongestWhileScheduled
  pub calls : LongestByCallsWhileScheduled

pub bounded : {F K P : Type 0} (t : Theorems) (contents : Option FileMap) (words : List (List ℕ))
    (before after : State F K P) (status : ℕ) →
    IfSome contents (λ files. KnownOutcome files (ask words) before after status) →
    (first bytes : List ℕ) → first ≡ [] → before.written ≡ Some first →
    after.written ≡ Some bytes → status ≡ 0 → IsBoundBeside contents words bytes
bounded t None words before after status known first bytes empty was is zero =
    record { of_section = tt; of_calls = tt }
bounded t (Some files) words before after status known first bytes empty was is zero =
    record {
      of_section =
          of-section t.rules t.sections (ask words) files first bytes empty
          (let At : Option (List ℕ) → Type 0 = λ o.
          BoundsVisits (ask words) files o after.written in
          let Now : Option (List ℕ) → Type 0 = λ o.
          BoundsVisits (ask words) files (Some first) o in
          subst Now is (subst At was (known.visits zero)));
      of_calls =
          of-calls t.rules t.calls (ask words) files first bytes empty
          (let At : Option (List ℕ) → Type 0 = λ o.
          BoundsCallVisits (ask words) files o after.written in
          let Now : Option (List ℕ) → Type 0 = λ o.
          BoundsCallVisits (ask words) files (Some first) o in
          subst Now is (subst At was (known.call_visits zero)));
    }
