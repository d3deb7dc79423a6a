-- The steps of a path inside a loop as rounds, and rounds as steps of a path.
use Rattle.std.specs.Prelude.{◌≡◌, ◌≢◌, ℕ, ◌+◌, ◌≤◌, ◌&&◌, nat_le, nat_lt}
use Rattle.std.specs.Prelude.{List, [], ◌∷◌, ◌++◌, filter, Contains}
use Rattle.fp_setup.specs.declared.loop_list.LoopSetup.{LoopSetup}
use Rattle.region_tree.specs.Graph.{Holds, Reachable}
use Rattle.region_tree.specs.Tree.{IsTree, Tree, graph}
use Rattle.region_tree.specs.Walk.{Course, IsWalk, Keeps, Leads, Step}
use Rattle.bound_calc.specs.Bound.{course}

-- the loops strictly inside a loop
abbrev pub inner_loops : List LoopSetup → LoopSetup → List LoopSetup
inner_loops loops j = filter (λ i. nat_lt j.head i.head && nat_le i.last j.last) loops

-- the word and the position to which steps lead, the newest first, from word u at position p
abbrev pub word_after : ℕ → List Step → ℕ
word_after u [] = u
word_after u (t ∷ ts) = t.to

-- the position after some steps, the last one first
abbrev pub position_after : ℕ → List Step → ℕ
position_after p [] = p
position_after p (t ∷ ts) = t.position

-- each step begins and ends in the loop
abbrev pub AreIn : LoopSetup → List Step → Type 0
AreIn j [] = Unit {0}
AreIn j (t ∷ ts) = AreIn j ts × Holds j t.from × Holds j t.to

-- no step goes to the loop's head
abbrev pub Avoid : LoopSetup → List Step → Type 0
Avoid j [] = Unit {0}
Avoid j (t ∷ ts) = Avoid j ts × (t.to ≢ j.head)

-- Steps in a loop, from its head at position p to word v at position q. They keep the bounds of the
-- loops inside; each counter is 0 at the head.
pub record AreSteps (x : Course) (j : LoopSetup) (p : ℕ) (ts : List Step) (v q : ℕ) : Type 0 where
  pub leads : Leads x j.head p ts v q
  pub within : AreIn j ts
  pub keeps : Keeps (inner_loops x.graph.loops j) (λ i. 0) ts

-- A whole round: its last step goes to the head, and no other step does.
abbrev pub IsRound : Course → LoopSetup → ℕ → List Step → ℕ → Type 0
IsRound x j p [] q = ⊥
IsRound x j p (t ∷ ts) q = AreSteps x j p (t ∷ ts) j.head q × Avoid j ts

-- n whole rounds, each from where the one before it ended
pub data AreRounds (x : Course) (j : LoopSetup) (p : ℕ) : ℕ → List Step → ℕ → Type 0 where
  none : AreRounds x j p 0 [] p
  more : {n m q : ℕ} {ts : List Step} (ss : List Step) → AreRounds x j p n ts m →
      IsRound x j m ss q → AreRounds x j p (n + 1) (ss ++ ts) q

-- Steps in at most bound + 1 rounds: at most as many whole ones as the loop's bound, and a last one
-- without a step to the head, which may have no step at all.
pub record AreBounded (x : Course) (j : LoopSetup) (p : ℕ) (ts : List Step) (v q : ℕ) : Type 0 where
  pub count : ℕ
  pub at : ℕ
  pub early : List Step
  pub late : List Step
  pub rounds : AreRounds x j p count early at
  pub few : count ≤ j.limit
  pub last : AreSteps x j at late v q
  pub onward : Avoid j late
  pub steps : ts ≡ late ++ early

-- steps that come to a loop's head from outside the loop, or none from its head
abbrev pub EntersLoop : LoopSetup → ℕ → List Step → Type 0
EntersLoop j u [] = u ≡ j.head
EntersLoop j u (t ∷ ts) = (t.to ≡ j.head) × (Holds j t.from → ⊥)

-- When a path that keeps the bounds enters a loop at its head, or starts there, it makes at most
-- bound + 1 rounds. This holds while it stays in the loop, up to the next step that leaves it or to
-- the path's end.
abbrev pub StaysInRounds : Type 0
StaysInRounds =
    (x : Course) (j : LoopSetup) (p v q : ℕ) (before during after : List Step) →
    Contains x.graph.loops j →
    IsWalk x p (after ++ (during ++ before)) v q → EntersLoop j x.graph.from before →
    AreIn j during →
    AreBounded x j (position_after p before) during (word_after j.head during)
    (position_after (position_after p before) during)

-- Take at most bound + 1 rounds of a loop with a reachable head, in a section that has a bound.
-- They are steps from the head that stay in the loop. Neither its counter nor one of a loop inside
-- passes its bound, each being 0 at first.
abbrev pub RoundsAreSteps : Type 0
RoundsAreSteps =
    (t : Tree) (slots thread : ℕ) (j : LoopSetup) (p v q : ℕ) (ts : List Step) →
    IsTree t → Contains t.loops j → Reachable (graph t) j.head →
    AreBounded (course t slots thread) j p ts v q →
    Leads (course t slots thread) j.head p ts v q × AreIn j ts
    × Keeps (j ∷ inner_loops t.loops j) (λ i. 0) ts
