-- Intermediate results of the search for refusals.
use Rattle.std.specs.Prelude.{◌≡◌, ◌≢◌, ℕ, ◌+◌, ◌-◌, ◌*◌, ◌/◌, ◌<◌, ◌≤◌, ◌⊎◌, ◌&&◌, ◌↔◌, nat_le}
use Rattle.std.specs.Prelude.{nat_lt, min, Bool, true, false, cond, if◌then◌else◌, Option, Some}
use Rattle.std.specs.Prelude.{None, List, length, slice_index_or, sum_by, MatchOption, Contains}
use Rattle.fp_setup.specs.declared.loop_list.LoopSetup.{LoopSetup}
use Rattle.region_tree.specs.declared.section.Section.{Section}
use Rattle.region_tree.specs.Graph.{Edge, Lies, Holds, Reachable}
use Rattle.region_tree.specs.Edges.{edges_of}
use Rattle.region_tree.specs.Refusals.{Nowhere, IsLowest}
use Rattle.region_tree.specs.Nesting.{Crosses, depth, loop_at, most_depth}
use Rattle.region_tree.specs.Tree.{Tree, graph, word_at}

-- the address of a tree's word by its index
abbrev pub address : Tree → ℕ → ℕ
address t k = t.section.from + 4 * k

-- the index of the word at a target, if it is in the section
abbrev pub index_of : Section → Option ℕ → Option ℕ
index_of s None = None
index_of s (Some v) = if nat_le s.from v && nat_lt v s.to then Some ((v - s.from) / 4) else None

-- which of the words are met
abbrev pub is_met : List Bool → ℕ → Bool
is_met met k = slice_index_or met k false

-- a word is visited exactly if it is reachable
pub record IsMet (t : Tree) (met : List Bool) : Type 0 where
  pub count : length met ≡ length t.words
  pub exact : (k : ℕ) → k < length t.words →
      (is_met met k ≡ true) ↔ Reachable (graph t) (address t k)

-- the number of words that aren't visited yet
abbrev pub unmet_count : List Bool → ℕ
unmet_count met = sum_by (λ b. cond b 0 1) met

-- a word at an index was visited, and added to the pending words if it wasn't visited before
pub record IsVisited (index : Option ℕ) (met met' : List Bool) (todo todo' : List ℕ) : Type 0 where
  pub count : length met' ≡ length met
  pub grows : (k : ℕ) → is_met met k ≡ true → is_met met' k ≡ true
  pub here : (k : ℕ) → index ≡ Some k → is_met met' k ≡ true
  pub from : (k : ℕ) → is_met met' k ≡ true → (is_met met k ≡ true) ⊎ (index ≡ Some k)
  pub stays : (k : ℕ) → Contains todo k → Contains todo' k
  pub done : (k : ℕ) → is_met met' k ≡ true → (is_met met k ≡ true) ⊎ Contains todo' k
  pub came : (k : ℕ) → Contains todo' k → Contains todo k ⊎ (index ≡ Some k)
  pub less : 2 * unmet_count met' + length todo' ≤ 2 * unmet_count met + length todo

-- every edge of the word at an index leads to a visited word, or out of the section
abbrev pub IsClosed : Tree → List Bool → ℕ → Type 0
IsClosed t met k =
    (e : Edge) → Contains ((graph t).edges (address t k)) e → Lies (graph t) e.to →
    is_met met ((e.to - t.section.from) / 4) ≡ true

-- Visited words are reachable, and each is still pending, or excepted, or closed.
pub record IsGathered (t : Tree) (out : ℕ → Type 0) (met : List Bool) (todo : List ℕ) : Type 0 where
  pub count : length met ≡ length t.words
  pub first : is_met met 0 ≡ true
  pub sound : (k : ℕ) → is_met met k ≡ true → Reachable (graph t) (address t k)
  pub known : (k : ℕ) → Contains todo k → is_met met k ≡ true
  pub closed : (k : ℕ) → is_met met k ≡ true → (Contains todo k ⊎ out k) ⊎ IsClosed t met k

-- the lowest address at which a fact holds, or None
abbrev pub LowestOf : (ℕ → Type 0) → Option ℕ → Type 0
LowestOf P r = MatchOption r (Nowhere P) (IsLowest P)

-- the lower of two optional addresses
unfoldable pub lower_of : Option ℕ → Option ℕ → Option ℕ
lower_of None b = b
lower_of (Some x) None = Some x
lower_of (Some x) (Some y) = Some (min x y)

-- a fact that holds for one of the indices below n
abbrev pub Before : (ℕ → ℕ → Type 0) → ℕ → ℕ → Type 0
Before C n a = (k : ℕ) × (k < n) × C k a

-- the head of the loop at an index, if an earlier loop crosses it
pub record CrossedHere (loops : List LoopSetup) (later a : ℕ) : Type 0 where
  pub earlier : ℕ
  pub order : earlier < later
  pub crosses : Crosses (loop_at loops earlier) (loop_at loops later)
  pub address : a ≡ (loop_at loops later).head

-- the head of the loop at an index, if it is nested deeper than `most_depth`
pub record DeepHere (loops : List LoopSetup) (k a : ℕ) : Type 0 where
  pub depth : most_depth < depth loops (loop_at loops k)
  pub address : a ≡ (loop_at loops k).head

-- an edge from u to v enters a loop, but not at its head
pub record EntersOff (j : LoopSetup) (u v : ℕ) : Type 0 where
  pub inner : Holds j v
  pub outer : Holds j u → ⊥
  pub other : v ≢ j.head

-- the head of the loop at an index that such an edge enters
pub record EnteredHere (loops : List LoopSetup) (u v k a : ℕ) : Type 0 where
  pub enters : EntersOff (loop_at loops k) u v
  pub address : a ≡ (loop_at loops k).head

-- the head of a loop that the edge to a target enters
abbrev pub EnteredBy : List LoopSetup → ℕ → Option ℕ → ℕ → Type 0
EnteredBy loops u target a =
    (v : ℕ) × (target ≡ Some v) × Before (EnteredHere loops u v) (length loops) a

-- the head of a loop that an edge of the word at an index enters
pub record EnteredFrom (t : Tree) (k a : ℕ) : Type 0 where
  pub reached : Reachable (graph t) (address t k)
  pub by : let e = edges_of (word_at t (address t k)) (address t k) in
      EnteredBy t.loops (address t k) e.next a ⊎ EnteredBy t.loops (address t k) e.jump a

-- an edge back from u to v is bounded
abbrev pub GoesBack : List LoopSetup → ℕ → ℕ → Type 0
GoesBack loops u v = (j : LoopSetup) × Contains loops j × (v ≡ j.head) × Holds j u

-- a target inside the section, at or below u, that is no head of a loop that contains u
pub record ReturnsBadly (t : Tree) (u : ℕ) (target : Option ℕ) : Type 0 where
  pub to : ℕ
  pub is : target ≡ Some to
  pub inside : Lies (graph t) to
  pub down : to ≤ u
  pub unbounded : GoesBack t.loops u to → ⊥
