-- The machine at its start refines cycle 0.
use Rattle.std.proofs.Common.{◌≡◌, ℕ, ◌/◌, Bool, true, false, List, [], ◌∷◌, get_or, map}
use Rattle.std.proofs.Common.{length, Option, Some, None, arith, refl, ap, sym, subst, ◌∙◌}
use Rattle.std.specs.Prelude.{is_some, IfSome, ◌&&◌, if◌then◌else◌, replicate}
use Rattle.std.proofs.lemmas.Bool.Decides.{nat_tests}
use Rattle.std.proofs.lemmas.List.{length-map}
use Rattle.std.proofs.Math.ListN.{get_or-map}
use Rattle.std.proofs.lemmas.List.FromFn.{fill_by_all, get_or-map-range_with_len}
use Rattle.std.proofs.lemmas.List.FromFn.{length-map-range_with_len}
use Rattle.fp_image.specs.declared.parts.Segment.{Segment}
use Rattle.fp_ports.specs.PluggedPorts.{Row, row_at}
use Rattle.fp_ports.specs.ShownWords.{is_gone, shown_at, shown}
use Rattle.fp_setup.specs.SetupOfTables.{default_thread}
use Rattle.fp_setup.specs.Settings.{Settings}
use Rattle.fp_setup.specs.declared.thread_list.ThreadSetup.{ThreadSetup}
use Rattle.core_model.specs.Thread.{Thread, fresh}
use Rattle.trap_unit.specs.Rows.{no_trap}
use Rattle.timer_unit.specs.Time.{no_timer}
use Rattle.core_model.specs.World.{Start, start_world}
use Rattle.setup_model.specs.Start.{start, words_from, thread_setup_of, is_handed, first_latch}
use Rattle.pipe_model.specs.Stages.{StageRegisters, State}
use Rattle.pipe_model.specs.Relation.{Begins, PipelineRefines, HasLatches}
use Rattle.pipe_model.specs.PipelineLaws.{StartRefines, empty, first_units}
use Rattle.pipeline_core.specs.Abstraction.{abstract_stages, abstract_state}
use Rattle.machine.specs.DumpedState.{is_port_left}
use Rattle.machine.specs.FieldRelation.{Plugged, port_read}
use Rattle.machine.specs.declared.state.Machine.{Machine}
use Rattle.machine.specs.WorldRelation.{Refines, start_with_ports, units_at_start}

-- eight entries, one by one
pub eight_are : {A : Type 0} → (xs : List A) (d : A) → length xs ≡ 8 →
    xs ≡ get_or xs 0 d ∷ get_or xs 1 d ∷ get_or xs 2 d ∷ get_or xs 3 d ∷ get_or xs 4 d
    ∷ get_or xs 5 d ∷ get_or xs 6 d ∷ get_or xs 7 d ∷ []
eight_are xs d eight = fill_by_all (λ k. get_or xs k d) xs 8 d eight (λ k h. refl)

pub length-words : (image : List Segment) (base size : ℕ) →
    length (words_from image base size) ≡ size / 4
unfolding words_from
length-words image base size = length-map-range_with_len _ 0 (size / 4)

-- a value that all threads have at the start
all_same : {B : Type 0} → (f : Thread → B) (xs : List ThreadSetup) (v : B) →
    length xs ≡ 8 → ((entry : ℕ) → f (fresh entry) ≡ v) →
    map f (map (λ (t : ThreadSetup). fresh t.entry) xs) ≡ replicate 8 v
all_same f xs v eight same =
    let at = λ (k : ℕ). same (get_or xs k default_thread).entry in
    ap (λ (ys : List ThreadSetup). map f (map (λ (t : ThreadSetup). fresh t.entry) ys))
    (eight_are xs default_thread eight) ∙ rw (at 0, at 1, at 2, at 3, at 4, at 5, at 6, at 7) refl

pub units-start : (s : Settings) (image : List Segment) (ports : List (Option Row)) (n : ℕ) →
    length s.threads ≡ 8 →
    first_units (start_with_ports s image ports n) ports ≡ units_at_start s image ports
unfolding start
units-start s image ports n eight =
    let bank = all_same (λ (t : Thread). t.regs) s.threads (replicate 31 0) eight (λ entry. refl) in
    let timers = all_same (λ (t : Thread). t.own.timer) s.threads no_timer eight (λ entry. refl) in
    let traps = all_same (λ (t : Thread). t.own.trap) s.threads no_trap eight (λ entry. refl) in
    let sleeps = all_same (λ (t : Thread). t.own.sleep) s.threads 0 eight (λ entry. refl) in
    rw (bank, timers, traps, sleeps) refl

entries-are : (xs : List ThreadSetup) →
    map (λ (t : Thread). t.pc) (map (λ (t : ThreadSetup). fresh t.entry) xs)
    ≡ map (λ (t : ThreadSetup). t.entry) xs
entries-are [] = refl
entries-are (t ∷ xs) = ap (λ (ys : List ℕ). t.entry ∷ ys) (entries-are xs)

begins : (s : Settings) (image : List Segment) (ports : List (Option Row)) (n : ℕ) →
    length s.threads ≡ 8 → length ports ≡ 8 → Begins (start_with_ports s image ports n)
unfolding start
begins s image ports n eight eight_ports = record {
  eight = length-map s.threads (λ (t : ThreadSetup). fresh t.entry) ∙ eight;
  ready =
      λ k. ap (λ (t : Thread). t.ready)
      (get_or-map (λ (t : ThreadSetup). fresh t.entry) s.threads k default_thread);
  latches = length-map ports first_latch ∙ eight_ports;
}

latch-first : (o : Option Row) → IfSome o (λ row. row.latch ≡ first_latch o)
latch-first None = tt
latch-first (Some r) = refl

latches : (s : Settings) (image : List Segment) (ports : List (Option Row)) (n : ℕ) →
    HasLatches (start_world (start_with_ports s image ports n)) ports
unfolding start
latches s image ports n k below =
    rw (get_or-map first_latch ports k None) (latch-first (row_at ports k))

handed-is : (o : Option Row) (unplug : Option ℕ) →
    is_some o ≡ (is_handed o && is_port_left unplug 0)
handed-is None unplug = refl
handed-is (Some r) None = refl
handed-is (Some r) (Some x) = grind (arith, nat_tests)

found-is : (o : Option Row) (unplug : Option ℕ) (at : ℕ) →
    shown_at o [] unplug at ≡ port_read unplug o at
found-is None unplug at = go (is_gone unplug at) 0xFFFFFFFF
  where
    go : (b : Bool) (ones : ℕ) → ones ≡ (if b then ones else ones)
    go true ones = refl
    go false ones = refl
found-is (Some r) unplug at = refl

plugged : (s : Settings) (image : List Segment) (ports : List (Option Row)) (n : ℕ) →
    Plugged (start_with_ports s image ports n) 0 n ports
unfolding start
plugged s image ports n = record {
  there =
      λ k below.
      handed-is (row_at ports k) (get_or (map (λ (t : ThreadSetup). t.unplug) s.threads) k None)
      ∙ ap (λ b. b && is_port_left (get_or (map (λ (t : ThreadSetup). t.unplug) s.threads) k None)
      0) (sym (get_or-map is_handed ports k None));
  words =
      λ k at below within late.
      ap (λ (xs : List ℕ). get_or xs at 0xFFFFFFFF) (get_or-map-range_with_len (λ i.
      shown (row_at ports i) [] (thread_setup_of s i).unplug n) 0 8 k k [] below (omega arith))
      ∙ get_or-map-range_with_len (shown_at (row_at ports k) [] (thread_setup_of s k).unplug) 0 n at
      at 0xFFFFFFFF within (omega arith) ∙ found-is (row_at ports k) (thread_setup_of s k).unplug at
      ∙ ap (λ (u : Option ℕ). port_read u (row_at ports k) at)
      (sym (get_or-map (λ (t : ThreadSetup). t.unplug) s.threads k default_thread));
}

unplugs-are : (s : Settings) (image : List Segment) (ports : List (Option Row)) (n : ℕ) →
    map (λ (t : ThreadSetup). t.unplug) s.threads ≡ (start_with_ports s image ports n).unplugs
unfolding start
unplugs-are s image ports n = refl

pcs-are : (s : Settings) (image : List Segment) (ports : List (Option Row)) (n : ℕ) →
    map (λ (t : Thread). t.pc) (start_with_ports s image ports n).threads
    ≡ map (λ (t : ThreadSetup). t.entry) s.threads
unfolding start
pcs-are s image ports n = entries-are s.threads

pub loaded : StartRefines → (s : Settings) (image : List Segment) (ports : List (Option Row))
    (n : ℕ) (m : Machine) (entries : List ℕ) → length s.threads ≡ 8 → length ports ≡ 8 →
    abstract_stages m.pipe ≡ empty entries →
    entries ≡ map (λ (t : ThreadSetup). t.entry) s.threads →
    abstract_state m.units ports ≡ units_at_start s image ports →
    m.at ≡ 0 → m.unplugs ≡ map (λ (t : ThreadSetup). t.unplug) s.threads →
    Refines (start_with_ports s image ports n) 0 n m ports
loaded starts s image ports n m entries eight eight_ports pipe of_entries units at plan =
    let w : Start = start_with_ports s image ports n in
    let b : Begins w = begins s image ports n eight eight_ports in
    let first : PipelineRefines w 0 (empty (map (λ (t : Thread). t.pc) w.threads))
    (first_units w ports) = starts w ports b (latches s image ports n) in
    let P : StageRegisters → Type 0 = λ p. PipelineRefines w 0 p (first_units w ports) in
    let U : State → Type 0 = λ u. PipelineRefines w 0 (abstract_stages m.pipe) u in
    record {
      begins = b;
      refines =
          subst U (units-start s image ports n eight ∙ sym units)
          (subst P (ap empty (pcs-are s image ports n ∙ sym of_entries) ∙ sym pipe) first);
      cycle = at;
      due = plan ∙ unplugs-are s image ports n;
      ports = plugged s image ports n;
    }
