-- The promises for one thread, from a command's status and output.
use Rattle.std.proofs.Common.{◌≡◌, ℕ, List, Option, Some, None, Result, Ok, Err}
use Rattle.std.proofs.Common.{inl, inr, refl, ap, sym, subst, ◌∙◌, nat_lt}
use Rattle.std.proofs.Common.{eqb-true, Bool, true, false, not, if◌then◌else◌, ◌==◌}
use Rattle.std.specs.Prelude.{option_map}
use Rattle.std.specs.Io.KnownBytes.{Appends}
use Rattle.fp_io.specs.Content.{FileMap}
use Rattle.fp_ports.specs.PluggedPorts.{Row}
use Rattle.command_line.specs.declared.asked.Ask.{Ask}
use Rattle.command_line.specs.declared.asked.Ask.TheVariants.{Run, Dump, Asm, Bound, Selfrun}
use Rattle.command_line.specs.declared.asked.Ask.TheVariants.{Phases, Solo, Check, Elf, Calls}
use Rattle.call_bounds.specs.RoutinesFile.{routines_of}
use Rattle.call_bounds.specs.declared.routines_refusals.RoutinesRefused.{RoutinesRefused}
use Rattle.call_bounds.specs.declared.routines_refusals.RoutinesRefused.TheVariants as in_list
use Rattle.call_bounds.specs.declared.routines.Routine.{Routine}
use Rattle.call_bounds.specs.Listing.{calls}
use Rattle.call_bounds.specs.declared.tree.CallNo.{CallNo}
use Rattle.call_bounds.specs.declared.tree.CallNo.TheVariants as in_calls
use Rattle.fp_elf.specs.Elf.{elf_of}
use Rattle.fp_elf.specs.Law.{ReadsBack}
use Rattle.fp_elf.specs.declared.refusals.ElfRefused.{ElfRefused}
use Rattle.fp_elf.specs.declared.refusals.ElfRefused.TheVariants as in_elf
use Rattle.fp_image.specs.Format.{file_of}
use Rattle.fp_image.specs.declared.parts.Segment.{Segment}
use Rattle.region_tree.specs.Tree.{Tree}
use Rattle.region_tree.specs.declared.section.Section.{Section}
use Rattle.region_tree.specs.declared.tree.TreeNo.{TreeNo}
use Rattle.region_tree.specs.declared.tree.TreeNo.TheVariants as in_tree
use Rattle.isolation.specs.RetiredTraces.{RetiredTraceAlone, RetiredTraceByPhases}
use Rattle.isolation.specs.TraceLaws.{IsConfinedHard}
use Rattle.fp_setup.specs.AcceptedSetups.{AcceptedKeepRules}
use Rattle.fp_setup.specs.Rules.{KeepsRules}
use Rattle.fp_setup.specs.Settings.{Settings, size_of}
use Rattle.fp_setup.specs.Setup.{setup as setup_meant}
use Rattle.fp_setup.specs.declared.refusal.Fault.{Fault}
use Rattle.setup_model.specs.Start.{thread_setup_of}
use Rattle.slot_scheduler.specs.ModeWord.{mode_of}
use Rattle.visit_bounds.specs.SetupInSettings.{CallVisitsStayBoundedInSettings}
use Rattle.visit_bounds.specs.SetupInSettings.{VisitsStayBoundedInSettings}
use Rattle.trace_print.specs.declared.refusals.Refusal.TheVariants as refusal
use Rattle.commands.specs.BoundAnswer.{IsBoundAnswer, IsSectionAnswer}
use Rattle.commands.specs.BoundAnswer.{section_fault, section_tree}
use Rattle.commands.specs.CallsAnswer.{IsCallsAnswer, IsRoutinesAnswer, IsSectionCallsAnswer}
use Rattle.commands.specs.CallsAnswer.{of_routines, routines_in, section_listing}
use Rattle.commands.specs.Codes.{call_refusal, tree_refusal}
use Rattle.commands.specs.declared.codes.SectionNo.{SectionNo}
use Rattle.commands.specs.declared.codes.SectionNo.TheVariants.{NotHard, NotConfined}
use Rattle.commands.specs.declared.program.Program.{Program}
use Rattle.commands.specs.Answer.{Answer, IsSaid, refusal_answer, then_by, over_file, ends}
use Rattle.flexpret_top.specs.SoloAndCheck.{alone_fault, alone_in, alone_of}
use Rattle.flexpret_top.specs.SoloAndCheck.{alone_text, unless_fault}
use Rattle.commands.specs.Elf.{elf_in, of_elf}
use Rattle.flexpret_top.specs.Command.{IsAnswerTo, Said}
use Rattle.flexpret_top.specs.Headline.{BoundsCallVisits, BoundsVisits, IsImported}
use Rattle.flexpret_top.specs.Headline.{IsLongest, IsLongestByCalls, WritesAsRun}
use Rattle.flexpret_top.specs.Headline.{WritesImage, WritesIsolated, machine_of}
use Rattle.commands.specs.Program.{image_in, of_setup, program, setup_in, with_image}
use Rattle.flexpret_top.specs.Run.{trace_of}

-- a refusal isn't status 0
no-zero : (status : ℕ) → 0 ≡ status → (nat_lt 0 status ≡ true) → ⊥
no-zero status is more = let e : nat_lt 0 0 ≡ true = rw (sym is) at more in cc

-- the setup of a program keeps the rules
setup-made : (s : Settings) (r : Result (List Segment) Answer) (p : Program) →
    then_by r (with_image s) ≡ Ok p → s ≡ p.setup
setup-made s (Ok image) p is =
    let same : ◌≡◌ {A = Program} (record { setup = s; image = image }) p = cc in
    ap (λ (q : Program). q.setup) same
setup-made s (Err answer) p is = cc

read-keeps : AcceptedKeepRules → (files : FileMap) (bytes : List ℕ)
    (r : Result Settings Fault) (p : Program) → setup_meant bytes ≡ r → then_by (of_setup r)
    (λ s. then_by (over_file (image_in (size_of s.version)) (files s.image)) (with_image s))
    ≡ Ok p → KeepsRules p.setup
read-keeps keep files bytes (Ok s) p read is =
    subst KeepsRules (setup-made s (over_file (image_in (size_of s.version)) (files s.image)) p is)
    (keep bytes s read)
read-keeps keep files bytes (Err fault) p read is = absurd (let no : ⊥ = cc in no)

file-keeps : AcceptedKeepRules → (files : FileMap) (file : Option (List ℕ)) (p : Program) →
    then_by (over_file setup_in file)
    (λ s. then_by (over_file (image_in (size_of s.version)) (files s.image)) (with_image s))
    ≡ Ok p → KeepsRules p.setup
unfolding setup_in
file-keeps keep files None p is = absurd (let no : ⊥ = cc in no)
file-keeps keep files (Some bytes) p is = read-keeps keep files bytes (setup_meant bytes) p refl is

program-keeps : AcceptedKeepRules → (files : FileMap) (name : List ℕ) (p : Program) →
    program files name ≡ Ok p → KeepsRules p.setup
program-keeps keep files name p is = file-keeps keep files (files name) p is

-- over one map of files
pub isolated-over : RetiredTraceAlone → RetiredTraceByPhases → AcceptedKeepRules →
    (asked : Option Ask) (files : FileMap) (ports : List (Option Row))
    (before after : Option (List ℕ)) → Said (IsAnswerTo asked files ports) 0 before after →
    WritesIsolated asked files ports before after
isolated-over law phased keep None files ports before after said = tt
isolated-over law phased keep (Some (Run setup i n)) files ports before after said =
    λ p is. (
    let answers = ap (λ (q : Result Program Answer). ends (then_by q (trace_of ports i n))) is in
    let Tells : Answer → Type 0 = IsSaid 0 before after in
    let contents = subst Tells (said.is ∙ answers) said.said in
    let Adds : List ℕ → Type 0 = Appends before after in
    record {
      by_view =
          λ hard quiet. subst Adds
          (law (machine_of p ports) i n (program-keeps keep files setup p is) hard
          quiet) contents.1;
      by_phases =
          λ confined kept. subst Adds (phased (machine_of p ports) i n
          (program-keeps keep files setup p is) confined kept) contents.1;
    })
isolated-over law phased keep (Some (Dump setup n)) files ports before after said = tt
isolated-over law phased keep (Some (Asm source)) files ports before after said = tt
isolated-over law phased keep (Some (Bound setup i section)) files ports before after said = tt
isolated-over law phased keep (Some (Selfrun number)) files ports before after said = tt
isolated-over law phased keep (Some (Phases setup n)) files ports before after said = tt
isolated-over law phased keep (Some (Solo setup i n)) files ports before after said = tt
isolated-over law phased keep (Some (Check setup i n trace)) files ports before after said = tt
isolated-over law phased keep (Some (Elf file)) files ports before after said = tt
isolated-over law phased keep (Some (Calls setup i section routines)) files ports
    before after said = tt

-- the text that `solo` writes with status 0 is that of a confined hard thread
record IsSolo (p : Program) (i n : ℕ) (ports : List (Option Row))
    (before after : Option (List ℕ)) : Type 0 where
  thread : IsConfinedHard (machine_of p ports) i
  wrote : Appends before after (alone_text ports i n p)

solo-said : (p : Program) (i n : ℕ) (ports : List (Option Row)) (before after : Option (List ℕ)) →
    IsSaid 0 before after (ends (then_by (alone_in i p) (alone_of ports i n))) →
    IsSolo p i n ports before after
unfolding alone_fault
solo-said p i n ports before after said =
    go (mode_of p.setup.modes i == 0) refl (thread_setup_of p.setup i).confined refl said
  where
    go : (hard : Bool) → (mode_of p.setup.modes i == 0) ≡ hard →
        (confined : Bool) → (thread_setup_of p.setup i).confined ≡ confined →
        IsSaid 0 before after (ends (then_by (unless_fault p (if not hard then Some NotHard
        else if not confined then Some NotConfined else None)) (alone_of ports i n))) →
        IsSolo p i n ports before after
    go false is_hard confined is_confined refusal = absurd (no-zero 3 refusal.0 refl)
    go true is_hard false is_confined refusal = absurd (no-zero 3 refusal.0 refl)
    go true is_hard true is_confined text = record {
      thread =
          record { confined = is_confined; hard = eqb-true (mode_of p.setup.modes i) 0 is_hard };
      wrote = text.1;
    }

pub as-run-over : RetiredTraceAlone → AcceptedKeepRules → (asked : Option Ask)
    (files : FileMap) (ports : List (Option Row)) (before after : Option (List ℕ)) →
    Said (IsAnswerTo asked files ports) 0 before after → WritesAsRun asked files ports before after
as-run-over law keep None files ports before after said = tt
as-run-over law keep (Some (Solo setup i n)) files ports before after said =
    λ p is quiet. (
    let answers = ap (λ (q : Result Program Answer).
    ends (then_by (then_by q (alone_in i)) (alone_of ports i n))) is in
    let Tells : Answer → Type 0 = IsSaid 0 before after in
    let solo : IsSolo p i n ports before after = solo-said p i n ports before after
    (subst Tells (said.is ∙ answers) said.said) in
    let Adds : List ℕ → Type 0 = Appends before after in
    subst Adds (sym (law (machine_of p ports) i n
    (program-keeps keep files setup p is) solo.thread quiet)) solo.wrote)
as-run-over law keep (Some (Run setup i n)) files ports before after said = tt
as-run-over law keep (Some (Dump setup n)) files ports before after said = tt
as-run-over law keep (Some (Asm source)) files ports before after said = tt
as-run-over law keep (Some (Bound setup i section)) files ports before after said = tt
as-run-over law keep (Some (Selfrun number)) files ports before after said = tt
as-run-over law keep (Some (Phases setup n)) files ports before after said = tt
as-run-over law keep (Some (Check setup i n trace)) files ports before after said = tt
as-run-over law keep (Some (Elf file)) files ports before after said = tt
as-run-over law keep (Some (Calls setup i section routines)) files ports before after said = tt

-- the image of an executable, by what its definition gives
elf-imported : ReadsBack → (file : List ℕ) (before after : Option (List ℕ))
    (image : Result (List Segment) ElfRefused) → elf_of file ≡ image →
    IsSaid 0 before after (ends (then_by (of_elf image) (λ segments. Ok (file_of segments)))) →
    IsImported file before after
elf-imported law file before after (Ok image) is said = record {
  image = image;
  defined = is;
  bytes = file_of image;
  wrote = said.1;
  read_back = law file image is;
}
elf-imported law file before after (Err (in_elf.Fault code offset)) is said =
    absurd (no-zero 4 said.0 refl)
elf-imported law file before after (Err in_elf.NoMemory) is said = absurd (no-zero 9 said.0 refl)

file-imported : ReadsBack → (bytes : List ℕ) (before after : Option (List ℕ)) →
    IsSaid 0 before after (ends (then_by (elf_in bytes) (λ segments. Ok (file_of segments)))) →
    IsImported bytes before after
unfolding elf_in
file-imported law bytes before after said =
    elf-imported law bytes before after (elf_of bytes) refl said

pub imported-over : ReadsBack → (asked : Option Ask) (files : FileMap) (ports : List (Option Row))
    (before after : Option (List ℕ)) → Said (IsAnswerTo asked files ports) 0 before after →
    WritesImage asked files before after
imported-over law None files ports before after said = tt
imported-over law (Some (Run setup i n)) files ports before after said = tt
imported-over law (Some (Dump setup n)) files ports before after said = tt
imported-over law (Some (Asm source)) files ports before after said = tt
imported-over law (Some (Bound setup i section)) files ports before after said = tt
imported-over law (Some (Selfrun number)) files ports before after said = tt
imported-over law (Some (Phases setup n)) files ports before after said = tt
imported-over law (Some (Solo setup i n)) files ports before after said = tt
imported-over law (Some (Check setup i n trace)) files ports before after said = tt
imported-over law (Some (Calls setup i section routines)) files ports before after said = tt
imported-over law (Some (Elf name)) files ports before after said =
    λ bytes there. (
    let answers = ap (λ (file : Option (List ℕ)).
    ends (then_by (over_file elf_in file) (λ segments. Ok (file_of segments)))) there in
    let Tells : Answer → Type 0 = IsSaid 0 before after in
    file-imported law bytes before after (subst Tells (said.is ∙ answers) said.said))

refused-said : (x : Answer) (code address : ℕ) (before after : Option (List ℕ)) →
    Some x ≡ Some (refusal_answer (refusal.Bound code address)) → IsSaid 0 before after x → ⊥
refused-said x code address before after line said =
    let is : x ≡ refusal_answer (refusal.Bound code address) = cc in
    let Tells : Answer → Type 0 = IsSaid 0 before after in
    no-zero 6 (subst Tells is said).0 refl

tree-refused : (t : Tree) (no : TreeNo) (x : Answer) (before after : Option (List ℕ)) →
    Some x ≡ option_map refusal_answer (tree_refusal no) → IsSaid 0 before after x → ⊥
tree-refused t (in_tree.Nesting a) x before after line said =
    refused-said x 1 a before after line said
tree-refused t (in_tree.IndirectJump a) x before after line said =
    refused-said x 2 a before after line said
tree-refused t (in_tree.TimedWait a) x before after line said =
    refused-said x 3 a before after line said
tree-refused t (in_tree.UnboundedBackEdge a) x before after line said =
    refused-said x 4 a before after line said
tree-refused t in_tree.NoMemory x before after line said = cc

section-longest : VisitsStayBoundedInSettings → (p : Program) (i : ℕ) (section : Section)
    (before after : Option (List ℕ)) (fault : Option SectionNo) (x : Answer) →
    IsSectionAnswer p i section fault x → IsSaid 0 before after x →
    IsLongest p i section before after
section-longest law p i section before after (Some code) x is said =
    let Tells : Answer → Type 0 = IsSaid 0 before after in
    absurd (no-zero 3 (subst Tells is said).0 refl)
section-longest law p i section before after None x (inl bad) said =
    absurd (tree-refused (section_tree p section) bad.no x before after bad.line said)
section-longest law p i section before after None x (inr (inl large)) said =
    let Tells : Answer → Type 0 = IsSaid 0 before after in
    absurd (no-zero 6 (subst Tells large.line said).0 refl)
section-longest law p i section before after None x (inr (inr bounded)) said =
    let Tells : Answer → Type 0 = IsSaid 0 before after in
    record {
      cycles = bounded.cycles;
      wrote = (subst Tells bounded.line said).1;
      accepted = bounded.accepted;
      met = bounded.is;
      longest =
          λ m n rules words last earlier here visit keeps.
          law p.setup p.image section p.setup.slots i bounded.cycles m n bounded.accepted
          bounded.is.kept rules words last earlier here visit keeps;
    }

pub visits-over : VisitsStayBoundedInSettings → (asked : Option Ask) (files : FileMap)
    (ports : List (Option Row)) (before after : Option (List ℕ)) →
    Said (IsAnswerTo asked files ports) 0 before after → BoundsVisits asked files before after
visits-over law None files ports before after said = tt
visits-over law (Some (Run setup i n)) files ports before after said = tt
visits-over law (Some (Dump setup n)) files ports before after said = tt
visits-over law (Some (Asm source)) files ports before after said = tt
visits-over law (Some (Selfrun number)) files ports before after said = tt
visits-over law (Some (Phases setup n)) files ports before after said = tt
visits-over law (Some (Solo setup i n)) files ports before after said = tt
visits-over law (Some (Check setup i n trace)) files ports before after said = tt
visits-over law (Some (Elf file)) files ports before after said = tt
visits-over law (Some (Calls setup i section routines)) files ports before after said = tt
visits-over law (Some (Bound setup i section)) files ports before after said =
    λ p is. (
    let Answers : Result Program Answer → Type 0 = λ q. IsBoundAnswer q i section said.answer in
    section-longest law p i section before after (section_fault p.setup i section) said.answer
    (subst Answers is said.is) said.said)

call-refused : (no : CallNo) (x : Answer) (before after : Option (List ℕ)) →
    Some x ≡ option_map refusal_answer (call_refusal no) → IsSaid 0 before after x → ⊥
call-refused (in_calls.Nesting a) x before after line said =
    refused-said x 1 a before after line said
call-refused (in_calls.IndirectJump a) x before after line said =
    refused-said x 2 a before after line said
call-refused (in_calls.TimedWait a) x before after line said =
    refused-said x 3 a before after line said
call-refused (in_calls.UnboundedBackEdge a) x before after line said =
    refused-said x 4 a before after line said
call-refused (in_calls.Overlap a) x before after line said =
    refused-said x 8 a before after line said
call-refused (in_calls.Recursion a) x before after line said =
    refused-said x 9 a before after line said
call-refused (in_calls.Escape a) x before after line said =
    refused-said x 10 a before after line said
call-refused in_calls.NoMemory x before after line said = cc

-- over the routines of a file
listed-longest : CallVisitsStayBoundedInSettings → (p : Program) (i : ℕ) (section : Section)
    (file : List ℕ) (before after : Option (List ℕ)) (x : Answer)
    (r : Result (List Routine) RoutinesRefused) →
    routines_of (size_of p.setup.version) file ≡ r →
    IsRoutinesAnswer p i section (of_routines r) x → IsSaid 0 before after x →
    IsLongestByCalls p i section file before after
listed-longest law p i section file before after x (Ok routines) listed (inl bad) said =
    absurd (call-refused bad.no x before after bad.line said)
listed-longest law p i section file before after x (Ok routines) listed (inr (inl large)) said =
    let Tells : Answer → Type 0 = IsSaid 0 before after in
    absurd (no-zero 6 (subst Tells large.line said).0 refl)
listed-longest law p i section file before after x (Ok routines) listed (inr (inr bounded)) said =
    let Tells : Answer → Type 0 = IsSaid 0 before after in
    record {
      routines = routines;
      listed = listed;
      cycles = bounded.cycles;
      wrote = (subst Tells bounded.line said).1;
      listing = bounded.listing;
      accepted = bounded.accepted;
      met = bounded.is;
      longest =
          λ m n rules words last earlier here visit returns keeps.
          law (calls (section_listing p section routines)) p.setup.slots i bounded.cycles m
          n bounded.listing bounded.accepted bounded.is.kept rules words last earlier here visit
          returns keeps;
    }
listed-longest law p i section file before after x
    (Err (in_list.Fault line code)) listed same said =
    let Tells : Answer → Type 0 = IsSaid 0 before after in
    absurd (no-zero 10 (subst Tells same said).0 refl)
listed-longest law p i section file before after x (Err in_list.NoMemory) listed same said =
    let Tells : Answer → Type 0 = IsSaid 0 before after in
    absurd (no-zero 9 (subst Tells same said).0 refl)

routines-longest : CallVisitsStayBoundedInSettings → (p : Program) (i : ℕ) (section : Section)
    (file : List ℕ) (before after : Option (List ℕ)) (x : Answer) →
    IsRoutinesAnswer p i section (routines_in (size_of p.setup.version) file) x →
    IsSaid 0 before after x → IsLongestByCalls p i section file before after
unfolding routines_in
routines-longest law p i section file before after x is said =
    listed-longest law p i section file before after x
    (routines_of (size_of p.setup.version) file) refl is said

calls-longest : CallVisitsStayBoundedInSettings → (p : Program) (i : ℕ) (section : Section)
    (file : List ℕ) (before after : Option (List ℕ)) (fault : Option SectionNo) (x : Answer) →
    IsSectionCallsAnswer p i section (Some file) fault x → IsSaid 0 before after x →
    IsLongestByCalls p i section file before after
calls-longest law p i section file before after (Some code) x is said =
    let Tells : Answer → Type 0 = IsSaid 0 before after in
    absurd (no-zero 3 (subst Tells is said).0 refl)
calls-longest law p i section file before after None x is said =
    routines-longest law p i section file before after x is said

pub call-visits-over : CallVisitsStayBoundedInSettings → (asked : Option Ask) (files : FileMap)
    (ports : List (Option Row)) (before after : Option (List ℕ)) →
    Said (IsAnswerTo asked files ports) 0 before after → BoundsCallVisits asked files before after
call-visits-over law None files ports before after said = tt
call-visits-over law (Some (Run setup i n)) files ports before after said = tt
call-visits-over law (Some (Dump setup n)) files ports before after said = tt
call-visits-over law (Some (Asm source)) files ports before after said = tt
call-visits-over law (Some (Bound setup i section)) files ports before after said = tt
call-visits-over law (Some (Selfrun number)) files ports before after said = tt
call-visits-over law (Some (Phases setup n)) files ports before after said = tt
call-visits-over law (Some (Solo setup i n)) files ports before after said = tt
call-visits-over law (Some (Check setup i n trace)) files ports before after said = tt
call-visits-over law (Some (Elf file)) files ports before after said = tt
call-visits-over law (Some (Calls setup i section routines)) files ports before after said =
    λ p file is there. (
    let Answers : Result Program Answer → Type 0 = λ q.
    IsCallsAnswer q i section (files routines) said.answer in
    let In : Option (List ℕ) → Type 0 = λ o. IsCallsAnswer (Ok p) i section o said.answer in
    calls-longest law p i section file before after (section_fault p.setup i section) said.answer
    (subst In there (subst Answers is said.is)) said.said)
