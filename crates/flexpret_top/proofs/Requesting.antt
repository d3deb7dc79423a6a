-- The requests of a command to the files, step by step.
use Rattle.std.proofs.Common.{◌≡◌, ◌⊎◌, ℕ, List, [], ◌∷◌, ◌++◌, Option}
use Rattle.std.proofs.Common.{Some, None, inl, inr, refl, sym, subst}
use Rattle.std.specs.Prelude.{◌≢◌, IfSome}
use Rattle.fp_io.specs.Content.{HasRequested, FileMap, Request}
use Rattle.fp_setup.specs.Settings.{Settings}
use Rattle.region_tree.specs.declared.section.Section.{Section}
use Rattle.commands.specs.declared.program.Program.{Program}
use Rattle.commands.specs.Program.{IsProgramAsked, program, program_requests}
use Rattle.commands.specs.Stops.{IsMadeBy}
use Rattle.commands.proofs.Asking.{HasRequested-trans}
use Rattle.commands.specs.BoundAnswer.{section_fault}
use Rattle.commands.specs.declared.codes.SectionNo.{SectionNo}
use Rattle.commands.specs.CallsAnswer.{routines_request}
use Rattle.flexpret_top.specs.declared.ready.Alone.{Alone}
use Rattle.flexpret_top.specs.Requests.{AreRoutinesAsked, IsTraceAsked, trace_request}
use Rattle.flexpret_top.specs.SoloAndCheck.{IsAlone}

-- a program and then a trace
asked-together : (name : List ℕ) (n : ℕ) (trace : List ℕ)
    (a : Alone) (x y z : Option (List Request)) → a.cycles ≡ n →
    HasRequested x y (program_requests name a.setup) → HasRequested y z (trace_request trace
    a.cycles ∷ []) →
    HasRequested x z (program_requests name a.setup ++ (trace_request trace n ∷ []))
asked-together name n trace a x y z same first then =
    let To : ℕ → Type 0 =
    λ k. HasRequested x z (program_requests name a.setup ++ (trace_request trace k ∷ [])) in
    subst To same (HasRequested-trans x y z (program_requests name a.setup)
    (trace_request trace a.cycles ∷ []) first then)

pub trace-asked : (contents : Option FileMap) (name : List ℕ) (i n : ℕ)
    (trace : List ℕ) (a : Alone) (x y z : Option (List Request)) →
    a.cycles ≡ n → IfSome contents (λ files. IsAlone files name i n a) →
    HasRequested x y (program_requests name a.setup) → HasRequested y z (trace_request trace
    a.cycles ∷ []) →
    IsProgramAsked contents name x z ⊎ IsTraceAsked contents name i n trace x z
trace-asked None name i n trace a x y z same is first then =
    inr (record {
      made = record { setup = a.setup; image = [] };
      is = tt;
      asks = asked-together name n trace a x y z same first then;
    })
trace-asked (Some files) name i n trace a x y z same is first then =
    let Of : Settings → Type 0 =
    λ s. HasRequested x z (program_requests name s ++ (trace_request trace n ∷ [])) in
    inr (record {
      made = is.made;
      is = is.is;
      asks = subst Of is.alone.setup (asked-together name n trace a x y z same first then);
    })

-- a program, and then the routines if the section has no fault
pub routines-asked : (contents : Option FileMap) (name : List ℕ) (i : ℕ) (section : Section)
    (routines : List ℕ) (p : Program) (x y z : Option (List Request)) →
    IsMadeBy contents (λ files. program files name) p →
    IsProgramAsked contents name x y → HasRequested x y (program_requests name p.setup) →
    (section_fault p.setup i section ≢ None → z ≡ y) →
    (section_fault p.setup i section ≡ None → HasRequested y z (routines_request routines ∷ [])) →
    IsProgramAsked contents name x z ⊎ AreRoutinesAsked contents name i section routines x z
routines-asked contents name i section routines p x y z is asked first refused then =
    go (section_fault p.setup i section) refl
  where
    go : (o : Option SectionNo) → section_fault p.setup i section ≡ o →
        IsProgramAsked contents name x z ⊎ AreRoutinesAsked contents name i section routines x z
    go None right = inr (record {
      made = p;
      is = is;
      right = right;
      asks =
          HasRequested-trans x y z (program_requests name p.setup)
          (routines_request routines ∷ []) first (then right);
    })
    go (Some code) wrong =
        let To : Option (List Request) → Type 0 = λ last. IsProgramAsked contents name x last in
        let some : section_fault p.setup i section ≢ None = λ none. cc in
        inl (subst To (sym (refused some)) asked)
