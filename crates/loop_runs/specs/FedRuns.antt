-- A machine whose ports are fed while it runs.
use Rattle.std.specs.Prelude.{ℕ, ◌^◌, ◌-◌, ◌≡◌, ◌<◌, ◌≤◌, nat_le, ◌&&◌, if◌then◌else◌}
use Rattle.std.specs.Prelude.{⊤, List, [], ◌∷◌, length, map, slice_set, Option}
use Rattle.std.specs.List.{range_with_len}
use Rattle.fp_ports.specs.declared.feeds.Feed.{Feed}
use Rattle.fp_ports.specs.Kinds.{kept_from}
use Rattle.fp_ports.specs.PluggedPorts.{Row, Forgot, row_at, fed}
use Rattle.core_model.specs.World.{Start, has_port, port_word}
use Rattle.core_model.specs.Delays.{cycles_to_m}
use Rattle.closed_loops.specs.Answered.{with_shown}
use Rattle.machine.specs.declared.state.Machine.{Machine}
use Rattle.machine.specs.WorldRelation.{Refines}

-- the words of thread i's port in n cycles, once it is fed at a cycle: the fed word from that cycle
-- on, while the port is present, and the earlier words in all other cycles
abbrev pub words_fed : Start → ℕ → ℕ → ℕ → ℕ → List ℕ
words_fed s i at word n =
    map (λ c. if nat_le at c && has_port s i c then word else port_word s c i) (range_with_len 0 n)

-- the start whose port of thread i shows these words
abbrev pub fed_start : Start → ℕ → ℕ → ℕ → ℕ → Start
fed_start s i at word n = with_shown s i (words_fed s i at word n)

-- the ports, once the port of thread i is fed
abbrev pub fed_ports : List (Option Row) → ℕ → ℕ → ℕ → List (Option Row)
fed_ports ports i at word = slice_set ports i (fed (row_at ports i) at word)

-- machine and ports refine cycle c of a world. If a port is fed at cycle c or later, they refine
-- cycle c of the world whose port shows the fed word. The loads issued in cycles c - 3 to c - 1,
-- which are still in flight, read the earlier words
abbrev pub FeedsRunning : Type 0
FeedsRunning = (s : Start) (c n : ℕ) (m : Machine) (ports : List (Option Row)) (i at word : ℕ)
    → Refines s c n m ports → length ports ≡ 8 → i < 8 → i < length s.shown → n ≤ 2 ^ 64
    → c ≤ n → c ≤ at → Refines (fed_start s i at word n) c n m (fed_ports ports i at word)

-- each port forgot its words of the cycles before `first`, and kept its other words and its latch
abbrev pub AllForgot : ℕ → List (Option Row) → List (Option Row) → Type 0
AllForgot first before after = (k : ℕ) → k < 8 → Forgot first (row_at before k) (row_at after k)

-- Machine and ports that refine cycle c of a world still do so after the ports forget their words
-- before cycle c - 3. The loads in flight were issued in cycles c - 3 to c - 1.
abbrev pub ForgetsRunning : Type 0
ForgetsRunning = (s : Start) (c n : ℕ) (m : Machine) (before after : List (Option Row))
    → Refines s c n m before → AllForgot (c - cycles_to_m) before after → Refines s c n m after

-- feeds, the newest first: each is of an earlier cycle than the one before it, and all are before c
abbrev pub FallsBelow : ℕ → List Feed → Type 0
FallsBelow c [] = ⊤
FallsBelow c (feed ∷ older) = (feed.at < c) × FallsBelow feed.at older

-- a device of fp_ports keeps at most three of such feeds, once it forgets the cycles before c - 3
abbrev pub KeepsThree : Type 0
KeepsThree = (feeds : List Feed) (c : ℕ) → 0 < c → FallsBelow c feeds
    → length (kept_from (c - cycles_to_m) feeds) ≤ cycles_to_m
