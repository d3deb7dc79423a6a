-- What an observer makes of the events of a run.
use Rattle.std.specs.Prelude.{◌≡◌, ℕ, zero, suc, ◌+◌, ◌-◌, ◌<◌, ◌≤◌, Option, Some, None}
use Rattle.std.specs.Prelude.{List, [], ◌++◌}
use Rattle.std.specs.Io.KnownBytes.{Appends}
use Rattle.fp_io.specs.Content.{AppendsPrefix}
use Rattle.rv_exec.specs.declared.outcome.Event.{Event}
use Rattle.core_model.specs.Delays.{cycles_to_w}
use Rattle.core_model.specs.World.{Start}
use Rattle.pipe_model.specs.Relation.{event_in, turn_at}

-- how an observer takes events: its state after an event, the bytes that it puts for the event, and
-- the bytes that it has ready to put
pub record Acts (O : Type 0) : Type 0 where
  pub next : O → Event → O
  pub puts : O → Event → List ℕ
  pub ready : O → List ℕ

-- an observer after a turn with this event, if the turn has one
abbrev pub next_with : {O : Type 0} → Acts O → O → Option Event → O
next_with acts o None = o
next_with acts o (Some e) = acts.next o e

-- the bytes that it puts for the turn
abbrev pub puts_with : {O : Type 0} → Acts O → O → Option Event → List ℕ
puts_with acts o None = []
puts_with acts o (Some e) = acts.puts o e

-- the event that retires in a cycle of a world, if there is one: that of the turn in m, which is
-- three turns behind the newest one
abbrev pub retires : Start → ℕ → Option Event
retires s c = event_in (c - cycles_to_w) (turn_at s c 3)

-- an observer after k cycles of a world, from cycle c on
abbrev pub observer_after : {O : Type 0} → Acts O → Start → ℕ → O → ℕ → O
observer_after acts s c o zero = o
observer_after acts s c o (suc k) =
    next_with acts (observer_after acts s c o k) (retires s (c + k))

-- the bytes that it puts in them
abbrev pub puts_in : {O : Type 0} → Acts O → Start → ℕ → O → ℕ → List ℕ
puts_in acts s c o zero = []
puts_in acts s c o (suc k) =
    puts_in acts s c o k ++ puts_with acts (observer_after acts s c o k) (retires s (c + k))

-- the observer saw the cycles from c to d, and its bytes were put
pub record HasSeen {O : Type 0} (acts : Acts O) (s : Start) (c d : ℕ) (first now : O)
    (before after : Option (List ℕ)) : Type 0 where
  pub low : c ≤ d
  pub is : now ≡ observer_after acts s c first (d - c)
  pub put : Appends before after (puts_in acts s c first (d - c))

-- The observer saw the cycles from c to d, of which there is one at least. The bytes of all but the
-- last cycle were put, and a prefix of those of the last one.
pub record SawInPart {O : Type 0} (acts : Acts O) (s : Start) (c d : ℕ) (first : O)
    (before after : Option (List ℕ)) : Type 0 where
  pub some : c < d
  pub last : O
  pub between : Option (List ℕ)
  pub earlier : HasSeen acts s c (d - 1) first last before between
  pub part : AppendsPrefix between after (puts_with acts last (retires s (d - 1)))
