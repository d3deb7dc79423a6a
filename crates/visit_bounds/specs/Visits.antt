-- The issues of one thread in a run, and its visits of a section of code.
use Rattle.std.specs.Prelude.{◌≡◌, ◌⊎◌, ℕ, ◌==◌, ◌≤◌, Bool, true, false, if◌then◌else◌}
use Rattle.std.specs.Prelude.{List, [], ◌∷◌, ◌++◌, length, Contains}
use Rattle.core_model.specs.Traps.{is_trap}
use Rattle.fp_setup.specs.declared.loop_list.LoopSetup.{LoopSetup}
use Rattle.region_tree.specs.Graph.{Graph, Lies}
use Rattle.region_tree.specs.Walk.{counter_after}
use Rattle.core_model.specs.World.{Took}
use Rattle.core_model.specs.World.Took.{Ran}

-- an issue: its cycle, its address, and whether it traps
pub record Issued : Type 0 where
  pub cycle : ℕ
  pub pc : ℕ
  pub traps : Bool

-- the issue of a turn in cycle c, if it is one of thread i's; a spinning one, which has no effect,
-- counts too
abbrev pub issue_in : ℕ → ℕ → Took → List Issued
issue_in i c (Ran k pc word effect) =
    if k == i then record { cycle = c; pc = pc; traps = is_trap effect } ∷ [] else []
issue_in i c _ = []

-- the issues of thread i, the newest first, by the turns of the cycles so far
abbrev pub issues_of : ℕ → List Took → List Issued
issues_of i [] = []
issues_of i (took ∷ turns) = issue_in i (length turns) took ++ issues_of i turns

-- the first of some issues, the newest first
abbrev pub first_of : Issued → List Issued → Issued
first_of last [] = last
first_of last (i ∷ before) = first_of i before

-- each is in the section and doesn't trap
abbrev pub StaysInSection : Graph → List Issued → Type 0
StaysInSection g [] = Unit {0}
StaysInSection g (i ∷ before) = StaysInSection g before × Lies g i.pc × (i.traps ≡ false)

-- A visit: issues in order, the newest first, among all those of the thread. The first is at the
-- section's first word. The last is the first of them that is outside the section or traps; if
-- there is none, it is the thread's last one.
pub record IsVisit (g : Graph) (issues : List Issued) (last : Issued)
    (before : List Issued) : Type 0 where
  pub earlier : List Issued
  pub later : List Issued
  pub among : issues ≡ later ++ (last ∷ (before ++ earlier))
  pub starts : (first_of last before).pc ≡ g.from
  pub goes_on : StaysInSection g before
  pub ends : (later ≡ []) ⊎ ((Lies g last.pc → ⊥) ⊎ (last.traps ≡ true))

-- a loop's counter at an issue, by the addresses of those before it, the newest first: 0 at the
-- first
abbrev pub counter_at : LoopSetup → Issued → List Issued → ℕ
counter_at j last [] = 0
counter_at j last (i ∷ before) = counter_after i.pc last.pc j (counter_at j i before)

-- no counter ever passes its loop's bound
abbrev pub KeepsBounds : List LoopSetup → Issued → List Issued → Type 0
KeepsBounds loops last [] = Unit {0}
KeepsBounds loops last (i ∷ before) =
    KeepsBounds loops i before
    × ((j : LoopSetup) → Contains loops j → counter_at j last (i ∷ before) ≤ j.limit)
