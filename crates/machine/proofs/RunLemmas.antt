-- A cycle of the machine, and the text of a run.
use Rattle.std.proofs.Common.{◌≡◌, ℕ, zero, suc, ◌+◌, ◌-◌, ◌<◌, List, [], ◌++◌, get_or}
use Rattle.std.proofs.Common.{take, length, Bool, true, false, Option, Some, None, arith}
use Rattle.std.proofs.Common.{refl, ap, sym, subst, ◌∙◌, add-one, add-zero, append_assoc}
use Rattle.std.specs.Prelude.{if◌then◌else◌}
use Rattle.std.proofs.lemmas.List.{append-nil}
use Rattle.std.proofs.lemmas.Grind.{flat_map-append}
use Rattle.std.specs.Io.KnownBytes.{Appends}
use Rattle.fp_io.specs.Content.{AppendsPrefix}
use Rattle.fp_ports.specs.PluggedPorts.{Row, row_at}
use Rattle.rv_exec.specs.declared.outcome.Event.{Event}
use Rattle.trace_print.specs.Text.{line_text, text}
use Rattle.core_model.specs.World.{Start, recent, world, events}
use Rattle.pipe_model.specs.Stages.{StageRegisters, Ticked, step}
use Rattle.pipe_model.proofs.Keeping.{keeps}
use Rattle.pipe_model.specs.Relation.{Begins, PortsRefine, PipelineRefines, RefinesNext}
use Rattle.pipe_model.specs.Relation.{event_in, turn_at, of_thread, port_words, stays_in}
use Rattle.pipe_model.specs.PipelineLaws.{EventsGrow}
use Rattle.pipeline_core.specs.Abstraction.{abstract_stages, abstract_state, registers_in}
use Rattle.pipeline_core.specs.Abstraction.{ticked_with}
use Rattle.pipe_model.specs.declared.stage_registers.Held.{Held}
use Rattle.pipe_model.specs.declared.stage_registers.Written.{Written}
use Rattle.pipeline_core.specs.declared.stages.Stages.{Stages}
use Rattle.machine.specs.FieldRelation.{FieldsRefine, ports_left_in}
use Rattle.machine.specs.FieldLaws.{Unplugged, with_ports_left}
use Rattle.machine.proofs.PortLemmas.{unplugs, goes_on, kept-row}
use Rattle.machine.specs.declared.state.Machine.{Machine}
use Rattle.machine.specs.WorldRelation.{Refines, RefinesWith, IsLeft, AreLeft, Ticks, TicksWith}
use Rattle.machine.specs.WorldRelation.{AppendsBeyond, HasRun}
use Rattle.fp_io.proofs.Prefixes.{appends_nothing}

left_words : (before after : Option Row) (stays : Bool) →
    port_words after ≡ port_words (if stays then before else None) → IsLeft before after
left_words before None stays h = tt
left_words before (Some r) true h = sym h
left_words before (Some r) false h = cc

-- a port shows the same word in a cycle, unless its removal was due
pub left_is : (before after left : Option Row) (unplug : Option ℕ) (c : ℕ) →
    port_words after ≡ port_words left → left ≡ (if stays_in unplug c then before else None) →
    IsLeft before after
left_is before after left unplug c same is =
    left_words before after (stays_in unplug c) (same ∙ ap port_words is)

pub left_more : (before between after : Option Row) → IsLeft before between → IsLeft between after →
    IsLeft before after
left_more before between None first second = tt
left_more before (Some r) (Some q) first second = first ∙ second
left_more before None (Some q) first second = cc

pub left_all : (ports : List (Option Row)) → AreLeft ports ports
left_all ports k below = go (row_at ports k)
  where
    go : (o : Option Row) → IsLeft o o
    go None = tt
    go (Some r) = refl

-- a cycle, with the ports that are left
pub ticks : (s : Start) (n : ℕ) (p q : StageRegisters) (m after : Machine)
    (rows between new : List (Option Row)) (event : Option Event) → length rows ≡ 8 →
    between ≡ ports_left_in m.unplugs m.at rows 8 → m.at < n + 3 → RefinesWith s m.at n p m rows →
    (Begins s → PortsRefine s m.at between →
    PipelineRefines s m.at p (abstract_state m.units between) →
    RefinesNext s m.at between (ticked_with q after.units new event)) →
    after.at ≡ m.at + 1 → after.unplugs ≡ m.unplugs → TicksWith s m.at n rows q after new event
ticks s n p q m after rows between new event eight is within st preserves at plan =
    let t : Ticked = ticked_with q after.units new event in
    let left : Unplugged s m.at p
    (with_ports_left (abstract_state m.units rows) m.at m.unplugs) = unplugs s m.at n
    p (abstract_state m.units rows) m.at m.unplugs st within eight in
    let P : List (Option Row) → Type 0 = λ x. PortsRefine s m.at x in
    let Q : List (Option Row) → Type 0 =
    λ x. PipelineRefines s m.at p (abstract_state m.units x) in
    let R : List (Option Row) → Type 0 = λ x. RefinesNext s m.at x t in
    let kept : RefinesNext s m.at (ports_left_in m.unplugs m.at rows 8) t =
    subst R is
    (preserves st.begins (subst P (sym is) left.shows) (subst Q (sym is) left.refines)) in
    let next : FieldsRefine s (suc m.at) n q
    (abstract_state after.units new) (suc m.at) m.unplugs = goes_on s m.at n
    p (abstract_state m.units rows) m.at m.unplugs t st eight kept in
    let A : ℕ → Type 0 = λ k. FieldsRefine s (suc m.at) n
    q (abstract_state after.units new) k m.unplugs in
    let B : List (Option ℕ) → Type 0 = λ xs. FieldsRefine s (suc m.at) n
    q (abstract_state after.units new) after.at xs in
    record {
      refines = subst B (sym plan) (subst A (sym (add-one m.at) ∙ sym at) next);
      event_is = kept.event;
      left =
          λ k below. left_is (row_at rows k) (row_at new k)
          (row_at (ports_left_in m.unplugs m.at rows 8) k) (get_or m.unplugs k None) m.at
          (kept.ports k) (kept-row m.unplugs m.at rows k eight below);
    }

-- the same by the step of the stages
pub ticks_by_step : (s : Start) (n : ℕ) (p q : StageRegisters) (m after : Machine)
    (rows between new : List (Option Row)) (event : Option Event) → length rows ≡ 8 →
    between ≡ ports_left_in m.unplugs m.at rows 8 → m.at < n + 3 → RefinesWith s m.at n p m rows →
    ticked_with q after.units new event ≡ step p (abstract_state m.units between) m.at →
    after.at ≡ m.at + 1 → after.unplugs ≡ m.unplugs → TicksWith s m.at n rows q after new event
ticks_by_step s n p q m after rows between new event eight is within st stepped at plan =
    ticks s n p q m after rows between new event eight is within st
    (λ begins shows refines. subst (λ (t : Ticked). RefinesNext s m.at between t) (sym stepped)
    (keeps s m.at p (abstract_state m.units between) begins shows refines)) at plan

no_events : (s : Start) (i : ℕ) → events s i 0 ≡ []
unfolding world recent
no_events s i = refl

text-append : (xs ys : List Event) → text (xs ++ ys) ≡ text xs ++ text ys
text-append xs ys = flat_map-append line_text xs ys

pub text-next : EventsGrow → (s : Start) (i c : ℕ) (event : Option Event) → event ≡ event_in (c - 4)
    (turn_at s c 3) → text (events s i (suc c)) ≡ text (events s i c) ++ text (of_thread i event)
text-next grows s i c event e =
    ap text (grows s i c)
    ∙ text-append (events s i c) (of_thread i (event_in (c - 4) (turn_at s c 3)))
    ∙ ap (λ x. text (events s i c) ++ text (of_thread i x)) (sym e)

-- later cycles don't change the text of earlier ones
pub text_goes_on : EventsGrow → (s : Start) (i c more : ℕ) →
    (rest : List ℕ) × (text (events s i (c + more)) ≡ text (events s i c) ++ rest)
text_goes_on grows s i c zero = ([], rw (add-zero c) (sym (append-nil (text (events s i c)))))
text_goes_on grows s i c (suc more) =
    let (rest, is) = text_goes_on grows s i c more in
    let e : Option Event = event_in (c + more - 4) (turn_at s (c + more) 3) in
    let next : c + suc more ≡ suc (c + more) = omega arith in (
      rest ++ text (of_thread i e),
      ap (λ k. text (events s i k)) next ∙ text-next grows s i (c + more) e refl
          ∙ ap (λ zs. zs ++ text (of_thread i e)) is
          ∙ append_assoc (text (events s i c)) rest (text (of_thread i e)),
    )

pub run_begins : (s : Start) (n thread : ℕ) (m : Machine) (rows : List (Option Row))
    (prior : Option (List ℕ)) → Refines s 0 n m rows → HasRun s 0 n thread rows m rows prior prior
run_begins s n thread m rows prior st =
    let Put : List Event → Type 0 = λ es. Appends prior prior (text es) in
    record {
      put = subst Put (sym (no_events s thread)) (appends_nothing prior);
      refines = st;
      left = left_all rows;
    }

-- bytes, and then a prefix of others
pub beyond : (before between now : Option (List ℕ)) (xs ys : List ℕ) → Appends before between xs →
    AppendsPrefix between now ys → AppendsBeyond before now xs
beyond None between now xs ys first second = tt
beyond (Some prior) None now xs ys first second = absurd first
beyond (Some prior) (Some more) None xs ys first second = absurd second
beyond (Some prior) (Some more) (Some most) xs ys first (n, within, taken) =
    (take n ys, taken ∙ ap (λ zs. zs ++ take n ys) first)

-- a cycle of a machine by the stage registers of its run
pub ticks_of_run : (s : Start) (n : ℕ) (stages : Stages) (m after : Machine)
    (rows new : List (Option Row)) (event retired : Option Event) →
    registers_in stages m.pipe.w ≡ abstract_stages m.pipe → event ≡ retired →
    Refines s m.at n m rows →
    ((w : Held Written) → RefinesWith s m.at n (registers_in stages w) m rows →
    Ticks s m.at n rows after new retired) → Ticks s m.at n rows after new event
ticks_of_run s n stages m after rows new event retired is same st tick =
    subst (λ (e : Option Event). Ticks s m.at n rows after new e) (sym same)
    (tick m.pipe.w (subst (λ p. RefinesWith s m.at n p m rows) (sym is) st))

pub ticks_given_back : (s : Start) (c n : ℕ) (q : StageRegisters) (m after : Machine)
    (rows new : List (Option Row)) (event : Option Event) → abstract_stages after.pipe ≡ q →
    after ≡ record m { pipe = after.pipe } → TicksWith s c n rows q m new event →
    Ticks s c n rows after new event
ticks_given_back s c n q m after rows new event is same ticked =
    let p : StageRegisters = abstract_stages after.pipe in
    let With : Machine → Type 0 = λ x. RefinesWith s (suc c) n p x new in
    record {
      refines =
          subst With (sym same) (subst (λ x. RefinesWith s (suc c) n x m new) (sym is)
          ticked.refines);
      event_is = ticked.event_is;
      left = ticked.left;
    }
