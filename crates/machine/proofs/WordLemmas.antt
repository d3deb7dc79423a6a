-- The words of the ports that are left after a cycle, and the ports that are left after cycles of a
-- world.
use Rattle.std.proofs.Common.{◌≡◌, ℕ, ◌-◌, Bool, true, false, List, get_or, set, map, length}
use Rattle.std.proofs.Common.{Some, None, Option, refl, ap, ap₂, sym, ◌∙◌, true≢false}
use Rattle.std.specs.Prelude.{if◌then◌else◌, ◌&&◌, ◌==◌, is_some, IfSome}
use Rattle.std.proofs.lemmas.Bool.{false≢true}
use Rattle.std.proofs.Math.ListN.{get_or-map}
use Rattle.std.proofs.Math.Seq.{map-set_same}
use Rattle.rv_exec.specs.declared.outcome.Effect.{Effect}
use Rattle.rv_exec.specs.declared.outcome.Effect.TheVariants.{Nothing, Reg, Store, Csr, Trap, Wait}
use Rattle.fp_ports.specs.PluggedPorts.{Row, row_at, row_with_word}
use Rattle.core_model.specs.World.{world}
use Rattle.pipe_model.specs.declared.stage_registers.Held.{Held}
use Rattle.pipe_model.specs.declared.stage_registers.Held.TheVariants.{Bubble, Flushed, Issue}
use Rattle.pipe_model.specs.declared.stage_registers.Stored.{Stored}
use Rattle.pipe_model.specs.Stages.{StageRegisters, State, Ticked, ports_stored, put_at_port, step}
use Rattle.pipe_model.specs.Relation.{port_words}
use Rattle.pipeline_core.specs.Abstraction.{abstract_state}
use Rattle.machine.specs.FieldRelation.{ports_left_in}
use Rattle.machine.specs.DumpedState.{is_port_left}
use Rattle.machine.proofs.PortLemmas.{kept-row}
use Rattle.machine.specs.declared.state.Machine.{Machine}
use Rattle.machine.specs.WorldRelation.{IsLeft, AreLeft}
use Rattle.machine.specs.PortLaws.{LeavesPorts}
use Rattle.machine.proofs.RunLemmas.{left_is, left_more}

-- a store changes no word that a port shows
written-words : (row : Option Row) (value : ℕ) →
    port_words (row_with_word row value) ≡ port_words row
written-words None value = refl
written-words (Some row) value = refl

put-words : (ports : List (Option Row)) (k : ℕ) (effect : Option Effect) →
    map port_words (put_at_port k effect ports) ≡ map port_words ports
put-words ports k None = refl
put-words ports k (Some Nothing) = refl
put-words ports k (Some (Reg rd value)) = refl
put-words ports k (Some (Store address width value)) = go (address == 0x40000000)
  where
    go : (b : Bool) →
        map port_words (if b then set ports k (row_with_word (row_at ports k) value) else ports)
        ≡ map port_words ports
    go true =
        map-set_same port_words ports k (row_with_word (row_at ports k) value) None
        (written-words (row_at ports k) value)
    go false = refl
put-words ports k (Some (Csr csr value rd old)) = refl
put-words ports k (Some (Trap pc cause)) = refl
put-words ports k (Some Wait) = refl

stored-words : (h : Held Stored) (ports : List (Option Row)) →
    map port_words (ports_stored h ports) ≡ map port_words ports
unfolding ports_stored
stored-words Bubble ports = refl
stored-words (Flushed k) ports = refl
stored-words (Issue k x) ports = put-words ports k x.effect

step-words : (p : StageRegisters) (u : State) (c : ℕ) →
    map port_words (step p u c).state.ports ≡ map port_words u.ports
unfolding step
step-words p u c = stored-words _ u.ports

row-words : (before after : List (Option Row)) (k : ℕ) →
    map port_words after ≡ map port_words before →
    port_words (row_at after k) ≡ port_words (row_at before k)
row-words before after k same =
    sym (get_or-map port_words after k None) ∙ ap (λ xs. get_or xs k None) same
    ∙ get_or-map port_words before k None

-- the ports that a cycle leaves show the same words as before
pub cycle_words : (m : Machine) (p : StageRegisters) (rows between : List (Option Row))
    (t : Ticked) → length rows ≡ 8 → between ≡ ports_left_in m.unplugs m.at rows 8 →
    t ≡ step p (abstract_state m.units between) m.at → AreLeft rows t.state.ports
cycle_words m p rows between t eight is stepped k below =
    let same : map port_words t.state.ports ≡ map port_words between =
    ap (λ (x : Ticked). map port_words x.state.ports) stepped
    ∙ step-words p (abstract_state m.units between) m.at in
    left_is (row_at rows k) (row_at t.state.ports k) (row_at between k)
    (get_or m.unplugs k None) m.at (row-words between t.state.ports k same)
    (ap (λ (xs : List (Option Row)). row_at xs k) is ∙ kept-row m.unplugs m.at rows k eight below)

-- a port that is left is the one from before, with another latch
row_is : (before after : Option Row) (there : Bool) (latch : ℕ) → is_some after ≡ there →
    IsLeft before after → IfSome after (λ row. row.latch ≡ latch) →
    after ≡ (if there then row_with_word before latch else None)
row_is before None true latch h left at = absurd (false≢true h)
row_is before None false latch h left at = refl
row_is before (Some row) false latch h left at = absurd (true≢false h)
row_is None (Some row) true latch h left at = cc
row_is (Some old) (Some row) true latch h left at =
    let words : row.words ≡ old.words = cc in
    let R : ℕ → (ℕ → ℕ) → Option Row = λ l f. Some (record { latch = l; words = f }) in
    ap₂ R at words

-- one more cycle of a run
pub words_on : (first rows new : List (Option Row)) → AreLeft first rows → AreLeft rows new →
    AreLeft first new
words_on first rows new before now k below =
    left_more (row_at first k) (row_at rows k) (row_at new k) (before k below) (now k below)

-- the ports after cycles of a world are those from before, with the latches of the world
pub ports_after : LeavesPorts
ports_after s c n m before after st left k below =
    row_is (row_at before k) (row_at after k) (get_or s.handed k false
    && is_port_left (get_or s.unplugs k None) c) (get_or (world s (c - 3)).latches k 0)
    (st.ports.there k below) (left k below) (st.refines.ports k below)
