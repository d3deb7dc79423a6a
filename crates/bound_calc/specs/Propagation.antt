-- Costs propagated along the edges of a section, from its first word to its last.
use Rattle.std.specs.Prelude.{◌≡◌, ◌≢◌, ℕ, ◌+◌, ◌-◌, ◌*◌, ◌/◌, ◌<◌, ◌≤◌, ◌⊎◌, ◌↔◌, MatchOption}
use Rattle.std.specs.Prelude.{min, ◌%◌, ◌&&◌, nat_lt, nat_le, not, if◌then◌else◌, Bool, true, false}
use Rattle.std.specs.Prelude.{List, [], length, Option, Some, None, slice_index_or, Contains, Box}
use Rattle.std.specs.Global.{Global}
use Rattle.std.specs.Option.{option_map}
use Rattle.rv_decode.specs.Lag.{redirect_lag}
use Rattle.fp_setup.specs.declared.loop_list.LoopSetup.{LoopSetup}
use Rattle.region_tree.specs.Edges.{edges_of}
use Rattle.region_tree.specs.Graph.{Edge, Lies, Reachable}
use Rattle.region_tree.specs.Search.{address}
use Rattle.region_tree.specs.Tree.{Tree, graph, word_at}
use Rattle.region_tree.specs.Walk.{Course, CostsOf, IsOwn, Positions}
use Rattle.region_tree.specs.declared.edges.Edges.{Edges}
use Rattle.bound_calc.specs.Best.{AreBest, Costs, Either, Then, Entries, In, IsBest, ceiling}
use Rattle.bound_calc.specs.Context.{Scope, body, IsScope, IsNested}
use Rattle.bound_calc.specs.Section.{Field, Steps, field, net, whole}
use Rattle.bound_calc.specs.PathCosts.{Reaches, Rounds}
use Rattle.bound_calc.specs.Pass.{Below, Comes}
use Rattle.bound_calc.specs.Matrices.{entry}
use Rattle.bound_calc.specs.Hops.{Hops, IsLargest}
use Rattle.bound_calc.specs.declared.frontier.Frontier.{Frontier}
use Rattle.bound_calc.specs.declared.hop.Hop.{Hop}
use Rattle.bound_calc.specs.declared.matrix.Matrix.{Matrix}

-- the graph and the positions of paths through a tree's section
abbrev pub walks : Tree → Positions → Course
walks t s = record { graph = graph t; positions = s }

-- the edges of the word at an index
abbrev pub edges_at : Tree → ℕ → Edges
edges_at t k = edges_of (word_at t (address t k)) (address t k)

-- the index of an address in the section
abbrev pub index : Tree → ℕ → ℕ
index t u = (u - t.section.from) / 4

-- a matrix without entries
abbrev pub no_matrix : Matrix
no_matrix = record { best = [] }

-- the matrix at an index
abbrev pub matrix_at : List Matrix → ℕ → Entries
matrix_at at k = entry (slice_index_or at k no_matrix)

-- by index the matrices of loops, where they are computed
abbrev pub Powers : Type 0
Powers = List (Option (Box Matrix Global))

-- the power of the loop whose head is the word at an index
abbrev pub power_at : Powers → ℕ → Option Matrix
power_at powers k = option_map (λ b. b.value) (slice_index_or powers k None)

-- the costs of going on from a word: by the turns, or by a matrix
abbrev pub move_costs : Positions → Option Matrix → ℕ → Costs
move_costs s None lag = Steps s lag
move_costs s (Some m) lag = In (entry m)

-- the matrices of the words that have costs of their own, by index
abbrev pub CostsOn : Type 0
CostsOn = ℕ → Option Matrix

-- the matrix with an index, if there is one
abbrev pub matrix_of : List Matrix → Option ℕ → Option Matrix
matrix_of costs None = None
matrix_of costs (Some i) =
    if nat_lt i (length costs) then Some (slice_index_or costs i no_matrix) else None

-- matrices, and for the index of a word the index of its matrix
pub record CostTable : Type 0 where
  pub indices : List (Option ℕ)
  pub costs : List Matrix

-- the matrices of such a table, by index
abbrev pub costs_on : CostTable → CostsOn
costs_on w k = matrix_of w.costs (slice_index_or w.indices k None)

-- The same paths, where the words at some indices go on at the costs of a matrix.
abbrev pub over : Tree → Positions → CostsOn → Field
over t s word_costs =
    record {
      graph = graph t;
      own = IsOwn s;
      move = λ u lag. move_costs s (word_costs
          (index t u)) lag;
    }

-- these matrices lead to the thread's own positions
abbrev pub AreWordCosts : Positions → CostsOn → Type 0
AreWordCosts s word_costs =
    (k : ℕ) (m : Matrix) → word_costs k ≡ Some m → (p c q : ℕ) → In (entry m) p c q → IsOwn s q

-- the part of a loop, or the whole section
abbrev pub scope_of : Field → Option LoopSetup → Scope
scope_of x None = whole x
scope_of x (Some j) = body (net x) j

-- the indices of a part's first and last word
pub record IsSpan (t : Tree) (s : Scope) (first last : ℕ) : Type 0 where
  pub low : s.low ≡ address t first
  pub within : address t last ≤ s.high
  pub top : (v : ℕ) → v % 4 ≡ 0 → v ≤ s.high → v ≤ address t last
  pub order : first ≤ last
  pub inside : last < length t.words

-- the index of an edge's target, where it is above an index and at most at another
abbrev pub up_of : Tree → ℕ → ℕ → Option ℕ → Option ℕ
up_of t k high None = None
up_of t k high (Some v) =
    if nat_lt (address t k) v && nat_le v (address t high) then Some (index t v) else None

-- the frontier of a pass between two words
pub record FrontierModel : Type 0 where
  pub waiting : Powers
  pub base : Matrix
  pub hops : List (Option Hop)

abbrev pub abstract_frontier : Frontier → FrontierModel
abstract_frontier f = record { waiting = f.waiting.items; base = f.base.value; hops = f.hops.hops }

-- the matrix that waited at an index, or a matrix without sums
abbrev pub IsTaken : Option Matrix → Matrix → Type 0
IsTaken waiting m = MatchOption waiting ((p q c : ℕ) → entry m p q ≡ Some c → ⊥) (λ n. m ≡ n)

-- a matrix was chained with a power, if there is one
abbrev pub IsThrough : Option Matrix → Matrix → Matrix → Type 0
IsThrough power old new =
    MatchOption power (new ≡ old) (λ m. IsBest (entry new) (Then (In (entry old)) (In (entry m))))

-- the costs that wait at the word with an index
abbrev pub Waits : Powers → ℕ → Costs
Waits waiting k p c q = (m : Matrix) × (power_at waiting k ≡ Some m) × In (entry m) p c q

-- the costs that an edge to an index brings to another one
abbrev pub Via : Option ℕ → ℕ → Costs → Costs
Via to w f p c q = (to ≡ Some w) × f p c q

-- the costs with which a frontier goes on to the next word
abbrev pub FrontierCosts : FrontierModel → Costs
FrontierCosts f = Then (In (entry f.base)) (Hops f.hops)

-- the costs of a frontier before the word at index n, at the word at index w
abbrev pub Ahead : FrontierModel → ℕ → ℕ → Costs
Ahead f n w = Either (Waits f.waiting w) (λ p c q. (w ≡ n) × FrontierCosts f p c q)

-- the powers of the loops of a part whose heads are reachable
pub record IsPowers (x : Field) (t : Tree) (s : Scope) (powers : Powers) : Type 0 where
  pub some : (j : LoopSetup) → s.loops j → Reachable x.graph j.head → (m : Matrix)
      × (power_at powers (index t j.head) ≡ Some m) × IsBest (entry m) (Rounds (net x) j j.limit)
  pub only : (k : ℕ) (m : Matrix) → s.low ≤ address t k →
      address t k ≤ s.high → power_at powers k ≡ Some m →
      (j : LoopSetup) × s.loops j × (address t k ≡ j.head) × Reachable x.graph (address t k)

-- by index the costs at each word of the section
pub record AreReached (t : Tree) (s : Positions) (word_costs : CostsOn) (at : List Matrix)
    : Type 0 where
  pub count : length at ≡ length t.words
  pub best : (k : ℕ) → k < length t.words →
      IsBest (matrix_at at k) (Reaches (net (over t s word_costs)) (whole (over t s word_costs))
      (address t k))

-- these costs were joined with those that wait at an edge's target
pub record IsBrought (to : Option ℕ) (f : Costs) (old new : FrontierModel) : Type 0 where
  pub count : length new.waiting ≡ length old.waiting
  pub base : new.base ≡ old.base
  pub hops : new.hops ≡ old.hops
  pub waits : (w : ℕ) → AreBest (Waits new.waiting w) (Either (Waits old.waiting w) (Via to w f))

-- Before the word at index n of a part a frontier has the costs from below it at each word ahead.
-- Its steps are those of at most n words.
pub record IsFrontier (x : Field) (t : Tree) (s : Scope) (n : ℕ) (f : FrontierModel) : Type 0 where
  pub count : length f.waiting ≡ length t.words
  pub positions : (p d q : ℕ) → Hops f.hops p d q → (p < 8) × (q < 8)
  pub short : (p d q : ℕ) → Hops f.hops p d q → d ≤ 10 * n
  pub ahead : (k : ℕ) → n ≤ k → address t k ≤ s.high →
      AreBest (Ahead f n k) (Comes x s (Below x (address t n)) (address t k))

-- a word of straight code: nothing waits there, it has no power of a loop, and its only edge is to
-- the next word, by the turns
pub record IsStraight (t : Tree) (e : Edges) (k last : ℕ) (edge_costs power : Option Matrix)
    (f : FrontierModel) : Type 0 where
  pub jump : e.jump ≡ None
  pub next : up_of t k last e.next ≡ Some (k + 1)
  pub no_way : edge_costs ≡ None
  pub no_power : power ≡ None
  pub waits : power_at f.waiting k ≡ None

-- a step was composed with those before it
pub record IsSkipped (s : Positions) (lag : ℕ) (old new : FrontierModel) : Type 0 where
  pub frame : length s.frame ≤ 8
  pub waiting : new.waiting ≡ old.waiting
  pub base : new.base ≡ old.base
  pub hops : (p d q : ℕ) → Hops new.hops p d q ↔ Then (Hops old.hops) (Steps s lag) p d q

-- the costs of the frontier at a word were collected, and taken through the power of the loop whose
-- head it is
pub record IsArrived (power : Option Matrix) (k : ℕ) (old new : FrontierModel) : Type 0 where
  pub count : length new.waiting ≡ length old.waiting
  pub others : (w : ℕ) → w ≢ k → power_at new.waiting w ≡ power_at old.waiting w
  pub joined : Matrix
  pub best : IsBest (entry joined) (Ahead old k k)
  pub here : IsThrough power joined new.base

-- a frontier went on to the next word, at these costs
pub record IsLed (s : Positions) (edge_costs : Option Matrix) (next : Option ℕ) (lag k : ℕ)
    (old new : FrontierModel) : Type 0 where
  pub count : length new.waiting ≡ length old.waiting
  pub base : new.base ≡ old.base
  pub positions : (p d q : ℕ) → Hops new.hops p d q → (p < 8) × (q < 8)
  pub short : (p d q : ℕ) → Hops new.hops p d q → d ≤ 10
  pub ahead : (w : ℕ) → k < w → AreBest (Ahead new (k + 1) w) (Either (Waits old.waiting w)
      (Via next w (Then (In (entry old.base)) (move_costs s edge_costs lag))))

-- a frontier went on from a word along its edges
pub record IsGone (t : Tree) (s : Positions) (edge_costs : Option Matrix) (e : Edges) (k last : ℕ)
    (old new : FrontierModel) : Type 0 where
  pub count : length new.waiting ≡ length old.waiting
  pub base : new.base ≡ old.base
  pub positions : (p d q : ℕ) → Hops new.hops p d q → (p < 8) × (q < 8)
  pub short : (p d q : ℕ) → Hops new.hops p d q → d ≤ 10
  pub ahead : (w : ℕ) → k < w → AreBest (Ahead new (k + 1) w) (Either (Either (Waits old.waiting w)
      (Via (up_of t k last e.next) w (Then (In (entry old.base)) (move_costs s edge_costs
      e.next_lag))))
      (Via (up_of t k last e.jump) w (Then (In (entry old.base)) (move_costs s edge_costs
      redirect_lag))))

-- the requirements of a pass over a part
pub record IsReady (x : Field) (t : Tree) (s : Scope) (powers : Powers) : Type 0 where
  pub nested : IsNested (net x)
  pub part : IsScope (net x) s
  pub reached : Reachable x.graph s.low
  pub rounds : IsPowers x t s powers
  pub count : length powers ≡ length t.words

-- a matrix was taken back to a head, if the edge leads there
pub record IsTurned (f : Costs) (back here : Matrix) (target : Option ℕ) (head : ℕ)
    (new : Matrix) : Type 0 where
  pub other : (target ≡ Some head → ⊥) → new ≡ back
  pub there : target ≡ Some head →
      IsBest (entry new) (Either (In (entry back)) (Then (In (entry here)) f))

-- the powers of the loops whose heads are at index n or above
pub record IsFilled (x : Field) (t : Tree) (n : ℕ) (powers : Powers) : Type 0 where
  pub count : length powers ≡ length t.words
  pub some : (j : LoopSetup) → Contains x.graph.loops j → n ≤ index t j.head →
      Reachable x.graph j.head → (m : Matrix) × (power_at powers (index t j.head) ≡ Some m)
      × IsBest (entry m) (Rounds (net x) j j.limit)
  pub only : (k : ℕ) (m : Matrix) → power_at powers k ≡ Some m → (n ≤ k) × ((j : LoopSetup)
      × Contains x.graph.loops j × (address t k ≡ j.head) × Reachable x.graph (address t k))

-- the largest so far, with the step along an edge that leaves the section
pub record IsOut (s : Positions) (here : Matrix) (leaves : Bool) (lag old new : ℕ) : Type 0 where
  pub stays : old ≤ new
  pub upper : leaves ≡ true → (p c q : ℕ) → Then (In (entry here)) (Steps s lag) p c q →
      min c ceiling ≤ new
  pub met : (new ≡ old) ⊎ ((leaves ≡ true) × ((p : ℕ) × (c : ℕ) × (q : ℕ)
      × Then (In (entry here)) (Steps s lag) p c q × (new ≡ min c ceiling)))

-- whether an edge leaves the section
abbrev pub leaves : Tree → Option ℕ → Bool
leaves t None = false
leaves t (Some v) = not (nat_le t.section.from v && nat_lt v t.section.to)

-- the largest so far, with the costs at a word and the steps on from there that leave the section
pub record IsMostFrom (t : Tree) (s : Positions) (here : Matrix) (e : Edges)
    (old new : ℕ) : Type 0 where
  pub inner : ℕ
  pub next : ℕ
  pub largest : IsLargest here old inner
  pub by_next : IsOut s here (leaves t e.next) e.next_lag inner next
  pub by_jump : IsOut s here (leaves t e.jump) redirect_lag next new

-- a cost of some path, no less than the costs at the words with indices below n, and on their edges
-- out of the section
pub record IsMost (x : Course) (t : Tree) (n most : ℕ) : Type 0 where
  pub met : (c : ℕ) × CostsOf x c × (min most ceiling ≡ min c ceiling)
  pub inside : (k p c q : ℕ) → k < n →
      Reaches (net (field x)) (whole (field x)) (address t k) p c q → min c ceiling ≤ most
  pub out : (k p c q : ℕ) (e : Edge) → k < n → Contains (x.graph.edges (address t k)) e →
      (Lies x.graph e.to → ⊥) → Then (Reaches (net (field x)) (whole (field x)) (address t k))
      (Steps x.positions e.lag) p c q → min c ceiling ≤ most

-- the costs at the words below index n that are ends, and then a jump
pub record Ended (s : Positions) (ends : List Bool) (at : List Matrix) (n p c q : ℕ) : Type 0 where
  pub index : ℕ
  pub below : index < n
  pub is : slice_index_or ends index false ≡ true
  pub jump : Then (In (matrix_at at index)) (Steps s redirect_lag) p c q

-- a matrix was joined after a jump, if its word is an end
pub record EndedHere (s : Positions) (is_end : Bool) (here back new : Matrix) : Type 0 where
  pub other : is_end ≡ false → new ≡ back
  pub there : is_end ≡ true →
      IsBest (entry new) (Either (In (entry back)) (Then (In (entry here)) (Steps s 3)))
