-- The answers for a section with routines that has no bound.
use Rattle.std.proofs.Common.{◌≡◌, ◌<◌, ◌^◌, ℕ, List, None, Ok, Err, Option, Result}
use Rattle.std.proofs.Common.{Some, ap, ap₂, inl, inr, refl, subst, sym, ◌∙◌}
use Rattle.std.specs.Prelude.{IfErr, IfOk, IfSome}
use Rattle.fp_io.specs.Content.{FileMap}
use Rattle.call_bounds.specs.declared.routines.Routine.{Routine}
use Rattle.fp_setup.specs.Settings.{size_of}
use Rattle.region_tree.specs.declared.section.Section.{Section}
use Rattle.bound_calc.specs.declared.cycle_bound.BoundNo.{BoundNo}
use Rattle.bound_calc.specs.declared.cycle_bound.BoundNo.TheVariants as in_bound
use Rattle.call_bounds.specs.CallRefusals.{IsCallable, IsListing}
use Rattle.call_bounds.specs.CallRefused.{IsCallRefused}
use Rattle.call_bounds.specs.CallWalk.{CostsOf, IsCallBound, IsTooCostly, route}
use Rattle.call_bounds.specs.Listing.{Listing, calls}
use Rattle.call_bounds.specs.declared.tree.CallNo.{CallNo}
use Rattle.call_bounds.specs.declared.tree.CallNo.TheVariants as in_calls
use Rattle.trace_print.specs.Bounds.{bound_text}
use Rattle.trace_print.specs.declared.refusals.Refusal.TheVariants as refusal
use Rattle.commands.specs.Answer.{Answer, over_file, refusal_answer}
use Rattle.commands.specs.Answer.Answer.{Says}
use Rattle.commands.specs.BoundAnswer.{section_fault}
use Rattle.commands.specs.Codes.{section_code}
use Rattle.commands.specs.declared.codes.SectionNo.{SectionNo}
use Rattle.commands.specs.CallsAnswer.{IsCallsAnswer, IsListingAnswer}
use Rattle.commands.specs.CallsAnswer.{IsListingRefused, routines_in, section_listing}
use Rattle.commands.specs.declared.program.Program.{Program}
use Rattle.commands.specs.declared.stop.CommandStop.{CommandStop}
use Rattle.commands.specs.declared.stop.CommandStop.TheVariants.{Refused, Differs, Read, NoMemory}
use Rattle.commands.specs.Stops.{IsAnswerStop, IsStop}
use Rattle.commands.specs.BoundStops.{stop_of_bound, stop_of_calls}

pub call_stops : (l : Listing) (no : CallNo) → IsCallRefused (calls l) no →
    IsAnswerStop (IsListingRefused l) (stop_of_calls no)
call_stops l (in_calls.Nesting address) is =
    record { no = in_calls.Nesting address; is = is; line = refl }
call_stops l (in_calls.IndirectJump address) is =
    record { no = in_calls.IndirectJump address; is = is; line = refl }
call_stops l (in_calls.TimedWait address) is =
    record { no = in_calls.TimedWait address; is = is; line = refl }
call_stops l (in_calls.UnboundedBackEdge address) is =
    record { no = in_calls.UnboundedBackEdge address; is = is; line = refl }
call_stops l (in_calls.Overlap address) is =
    record { no = in_calls.Overlap address; is = is; line = refl }
call_stops l (in_calls.Recursion address) is =
    record { no = in_calls.Recursion address; is = is; line = refl }
call_stops l (in_calls.Escape address) is =
    record { no = in_calls.Escape address; is = is; line = refl }
call_stops l in_calls.NoMemory is = tt

-- the answer for a refused section with routines
pub refused_calls : (l : Listing) (slots i : ℕ) (stop : CommandStop) →
    IsAnswerStop (IsListingRefused l) stop → IsAnswerStop (IsListingAnswer l slots i) stop
refused_calls l slots i (Refused refusal) is = inl is
refused_calls l slots i (Differs line) is = inl is
refused_calls l slots i Read is = is
refused_calls l slots i NoMemory is = tt

-- the bound of a listing for a word of slots, if these are the section's slots and words
pub calls_told : (l section : Listing) (word slots i cycles : ℕ) → l ≡ section →
    word ≡ slots → IsListing (calls section) → IsCallable (calls section) → cycles < 2 ^ 64 →
    IsCallBound (route (calls l) word i) cycles →
    IsListingAnswer section slots i (Says 0 (bound_text cycles))
calls_told l section word slots i cycles same_listing same_slots listing accepted small is =
    let same = ap₂ (λ (l : Listing) (w : ℕ). route (calls l) w i) same_listing same_slots in
    inr (inr (record {
      listing = listing;
      accepted = accepted;
      cycles = cycles;
      is = subst (λ x. IsCallBound x cycles) same is;
      small = small;
      line = refl;
    }))

pub calls_stop : (l section : Listing) (word slots i : ℕ) (no : BoundNo) → l ≡ section →
    word ≡ slots → IsCallable (calls section) → IsTooCostly (route (calls l) word i) no →
    IsAnswerStop (IsListingAnswer section slots i) (stop_of_bound no)
calls_stop l section word slots i (in_bound.Overflow value) same_listing same_slots accepted is =
    let same = ap₂ (λ (l : Listing) (w : ℕ). route (calls l) w i) same_listing same_slots in
    inr (inl (record {
      accepted = accepted;
      cycles = is.1.0;
      is = subst (λ x. CostsOf x is.1.0) same is.1.1;
      large = is.1.2;
      line = rw is.0 refl;
    }))
calls_stop l section word slots i in_bound.NoMemory same_listing same_slots accepted is = tt

-- the answer for a section, over the routines of a file that exists
over_routines : (p : Program) (i : ℕ) (section : Section) (file : Option (List ℕ))
    (size : ℕ) (list : List Routine) (x : Answer) → section_fault p.setup i section ≡ None →
    size ≡ size_of p.setup.version → over_file (routines_in size) file ≡ Ok list →
    IsListingAnswer (section_listing p section list) p.setup.slots i x →
    IsCallsAnswer (Ok p) i section file x
over_routines p i section file size list x none same made is =
    let list_is : over_file (routines_in (size_of p.setup.version)) file ≡ Ok list =
    ap (λ n. over_file (routines_in n) file) (sym same) ∙ made in
    rw (none, list_is) is

pub calls_ok : (contents : Option FileMap) (name : List ℕ) (p : Program)
    (i : ℕ) (section : Section) (size : ℕ) (list : List Routine) →
    section_fault p.setup i section ≡ None → size ≡ size_of p.setup.version →
    IfSome contents (λ files. over_file (routines_in size) (files name) ≡ Ok list) →
    (r : Result ℕ CommandStop) → IfOk r (λ cycles. IsListingAnswer (section_listing p section list)
    p.setup.slots i (Says 0 (bound_text cycles))) → IfOk r (λ cycles.
    IfSome contents (λ files. IsCallsAnswer (Ok p) i section (files name) (Says 0
    (bound_text cycles))))
calls_ok None name p i section size list none same made (Ok cycles) is = tt
calls_ok (Some files) name p i section size list none same made (Ok cycles) is =
    over_routines p i section (files name) size list (Says 0 (bound_text cycles)) none same made is
calls_ok None name p i section size list none same made (Err stop) is = tt
calls_ok (Some files) name p i section size list none same made (Err stop) is = tt

pub calls_stopped : (contents : Option FileMap) (name : List ℕ) (p : Program) (i : ℕ)
    (section : Section) (size : ℕ) (list : List Routine) (before after : ℕ) →
    section_fault p.setup i section ≡ None → size ≡ size_of p.setup.version →
    IfSome contents (λ files. over_file (routines_in size) (files name) ≡ Ok list) →
    (r : Result ℕ CommandStop) →
    IfErr r (IsAnswerStop (IsListingAnswer (section_listing p section list) p.setup.slots i)) →
    IfErr r (IsStop contents (λ files x. IsCallsAnswer (Ok p) i section (files name) x)
    before after)
calls_stopped contents name p i section size list before after none same made (Ok cycles) is = tt
calls_stopped contents name p i section size list before after none same made (Err stop) is =
    go contents stop made is
  where
    go : (contents : Option FileMap) (stop : CommandStop) →
        IfSome contents (λ files. over_file (routines_in size) (files name) ≡ Ok list) →
        IsAnswerStop (IsListingAnswer (section_listing p section list) p.setup.slots i) stop →
        IsStop contents (λ files x. IsCallsAnswer (Ok p) i section (files name) x) before after stop
    go None (Refused refusal) made is = tt
    go None (Differs line) made is = tt
    go None Read made is = absurd is
    go None NoMemory made is = tt
    go (Some files) (Refused refusal) made is =
        over_routines p i section (files name) size list _ none same made is
    go (Some files) (Differs line) made is =
        over_routines p i section (files name) size list _ none same made is
    go (Some files) Read made is = absurd is
    go (Some files) NoMemory made is = tt

-- if the section has a fault, the answer depends on no file
pub fault_told : (contents : Option FileMap) (name : List ℕ) (p : Program) (i : ℕ)
    (section : Section) (fault : SectionNo) → section_fault p.setup i section ≡ Some fault →
    IfSome contents
    (λ files. IsCallsAnswer (Ok p) i section (files name)
    (refusal_answer (refusal.Section (section_code fault))))
fault_told None name p i section fault is = tt
fault_told (Some files) name p i section fault is = rw is refl
