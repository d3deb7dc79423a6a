-- The turn of an issue that retires. If no port is ever removed, none is due.
use Rattle.std.proofs.Common.{◌≡◌, ℕ, zero, suc, ◌+◌, ◌-◌, ◌<◌, nat_lt, List, [], ◌∷◌}
use Rattle.std.proofs.Common.{get_or, Bool, true, false}
use Rattle.std.proofs.Common.{Some, None, Option, refl, subst, ap, ◌∙◌, add-one}
use Rattle.std.specs.Prelude.{is_some, if◌then◌else◌, slice_index_or, slice_set}
use Rattle.std.specs.List.{list_any}
use Rattle.fp_ports.specs.PluggedPorts.{Row}
use Rattle.rv_exec.specs.declared.outcome.Event.{Event}
use Rattle.core_model.specs.World.{Start}
use Rattle.pipe_model.specs.declared.stage_registers.Held.{Held}
use Rattle.pipe_model.specs.declared.stage_registers.Held.TheVariants.{Bubble, Flushed, Issue}
use Rattle.pipe_model.specs.declared.stage_registers.Stored.{Stored}
use Rattle.pipe_model.specs.Stages.{retired_event, writeback_stage}
use Rattle.pipeline_core.specs.Turns.{is_issue, turn_of}
use Rattle.pipeline_core.specs.StageFacts.{StoredFits}
use Rattle.pipe_model.specs.Relation.{stays_in}
use Rattle.machine.specs.FieldRelation.{ports_left_in}
use Rattle.machine.specs.declared.state.Machine.{Machine}
use Rattle.machine.specs.WorldRelation.{Ticks}

-- a turn with an event is an issue
pub event_issue : (cycle : ℕ) (h : Held Stored) → is_some (retired_event cycle h) ≡ true →
    is_issue h ≡ true
unfolding retired_event
event_issue cycle Bubble h = cc
event_issue cycle (Flushed k) h = cc
event_issue cycle (Issue k x) h = refl

-- the turn of an issue
pub issue_is : (turn : ℕ) (x : Stored) → is_issue (turn_of turn x) ≡ true →
    turn_of turn x ≡ Issue turn x
unfolding turn_of
issue_is turn x h = go (nat_lt turn 8) (nat_lt turn 16) h
  where
    go : (a b : Bool) →
        is_issue (if a then Issue turn x else if b then Flushed (turn - 8) else Bubble) ≡ true →
        (if a then Issue turn x else if b then Flushed (turn - 8) else Bubble) ≡ Issue turn x
    go true b h = refl
    go false true h = cc
    go false false h = cc

-- the turn in W
pub issue_written : (turn : ℕ) (x : Stored) → is_issue (turn_of turn x) ≡ true →
    writeback_stage (turn_of turn x) ≡ Issue turn (record { pc = x.pc; word = x.word })
unfolding writeback_stage
issue_written turn x h = rw (issue_is turn x h) refl

pub issue_below : (turn : ℕ) (x : Stored) → is_issue (turn_of turn x) ≡ true →
    StoredFits (turn_of turn x) → turn < 8
issue_below turn x h fits = (rw (issue_is turn x h) at fits).0

none_at : (unplugs : List (Option ℕ)) (k : ℕ) → list_any is_some unplugs ≡ false →
    get_or unplugs k None ≡ None
none_at [] k h = refl
none_at (None ∷ more) zero h = refl
none_at (None ∷ more) (suc k) h = none_at more k h
none_at (Some unplug ∷ more) k h = cc

pub none_due : (unplugs : List (Option ℕ)) (cycle : ℕ) (rows : List (Option Row)) (k : ℕ) →
    list_any is_some unplugs ≡ false → ports_left_in unplugs cycle rows k ≡ rows
none_due unplugs cycle rows zero h = refl
none_due unplugs cycle rows (suc k) h = rw (none_at unplugs k h) (none_due unplugs cycle rows k h)

-- one more thread
pub kept_more : (unplugs : List (Option ℕ)) (cycle : ℕ) (first now after : List (Option Row))
    (k : ℕ) → now ≡ ports_left_in unplugs cycle first k →
    after ≡ (if stays_in (slice_index_or unplugs k None) cycle then now else slice_set now k None) →
    after ≡ ports_left_in unplugs cycle first (k + 1)
kept_more unplugs cycle first now after k is step =
    rw (add-one k) (step ∙ ap (λ (rows : List (Option Row)).
    if stays_in (slice_index_or unplugs k None) cycle then rows else slice_set rows k None) is)

pub ticks_by : (s : Start) (c n : ℕ) (before : List (Option Row)) (m : Machine)
    (ports : List (Option Row)) (a b : Option Event) → a ≡ b → Ticks s c n before m ports a →
    Ticks s c n before m ports b
ticks_by s c n before m ports a b same ticks =
    subst (λ (e : Option Event). Ticks s c n before m ports e) same ticks
