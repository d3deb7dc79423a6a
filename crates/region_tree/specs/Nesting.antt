-- Refused nestings of loops: loops that cross, are nested too deep, or are entered past their head.
use Rattle.std.specs.Prelude.{◌≡◌, ◌≢◌, ℕ, ◌<◌, ◌≤◌, ◌⊎◌, nat_le, ◌&&◌, Bool}
use Rattle.std.specs.Prelude.{List, length, slice_index_or, count_by, Contains}
use Rattle.fp_setup.specs.declared.loop_list.LoopSetup.{LoopSetup}
use Rattle.region_tree.specs.Graph.{Edge, Graph, Holds, Inside, Reachable}

-- the loop at an index of the list
abbrev pub loop_at : List LoopSetup → ℕ → LoopSetup
loop_at loops k = slice_index_or loops k (record { head = 0; last = 0; limit = 0 })

-- Two loops overlap, and neither is inside the other with its head above the other's.
pub record Crosses (j i : LoopSetup) : Type 0 where
  pub below : j.head ≤ i.last
  pub above : i.head ≤ j.last
  pub apart : Inside j i → ⊥
  pub apart' : Inside i j → ⊥

-- of two loops that cross, the head of the one listed later
pub record CrossedAt (loops : List LoopSetup) (a : ℕ) : Type 0 where
  pub earlier : ℕ
  pub later : ℕ
  pub order : earlier < later
  pub within : later < length loops
  pub crosses : Crosses (loop_at loops earlier) (loop_at loops later)
  pub address : a ≡ (loop_at loops later).head

-- whether the second loop contains all of the first
abbrev pub around : LoopSetup → LoopSetup → Bool
around j i = nat_le i.head j.head && nat_le j.last i.last

-- the nesting depth of a loop: the number of loops around it, including itself
abbrev pub depth : List LoopSetup → LoopSetup → ℕ
depth loops j = count_by (around j) loops

-- the greatest allowed nesting depth
abbrev pub most_depth : ℕ
most_depth = 4

-- the head of a loop that is nested deeper
pub record DeepAt (loops : List LoopSetup) (a : ℕ) : Type 0 where
  pub deep : LoopSetup
  pub known : Contains loops deep
  pub depth : most_depth < depth loops deep
  pub address : a ≡ deep.head

-- the head of a loop that a reachable edge enters from outside past its head. The section's first
-- word can enter a loop only at its head, since no counting loop begins before it.
pub record EnteredAt (g : Graph) (a : ℕ) : Type 0 where
  pub entered : LoopSetup
  pub known : Contains g.loops entered
  pub from : ℕ
  pub by : Edge
  pub reached : Reachable g from
  pub edge : Contains (g.edges from) by
  pub inner : Holds entered by.to
  pub outer : Holds entered from → ⊥
  pub other : by.to ≢ entered.head
  pub address : a ≡ entered.head

-- Nesting is refused at an address: loops cross, are nested too deep, or are entered past their
-- head.
abbrev pub NestingAt : Graph → ℕ → Type 0
NestingAt g a = CrossedAt g.loops a ⊎ (DeepAt g.loops a ⊎ EnteredAt g a)
