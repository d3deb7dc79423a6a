-- The intermediate results from which the tree of a section with routines is built.
use Rattle.std.specs.Prelude.{◌≡◌, ℕ, ◌+◌, ◌*◌, ◌<◌, ◌≤◌, ◌⊎◌, ◌↔◌, Bool, true, false, Option}
use Rattle.std.specs.Prelude.{Some, None, List, length, count_by, slice_index_or, Contains}
use Rattle.call_bounds.specs.Reachability.{IsExact, is_met}
use Rattle.region_tree.specs.Graph.{Edge, Graph, Lies, Reachable}
use Rattle.region_tree.specs.Refusals.{IndirectAt, TimedAt, UnboundedAt}
use Rattle.region_tree.specs.Nesting.{NestingAt}
use Rattle.region_tree.specs.Search.{Before, LowestOf, address, lower_of}
use Rattle.region_tree.specs.Tree.{Tree, graph}
use Rattle.region_tree.specs.declared.tree.TreeNo.{TreeNo}
use Rattle.region_tree.specs.declared.section.Section.{Section}
use Rattle.call_bounds.specs.declared.tree.CallNo.{CallNo}
use Rattle.call_bounds.specs.declared.tree.CallNo.TheVariants.{IndirectJump, Nesting}
use Rattle.call_bounds.specs.declared.tree.CallNo.TheVariants.{TimedWait, UnboundedBackEdge}
use Rattle.call_bounds.specs.Calls.{IsReached, callee, function}
use Rattle.call_bounds.specs.Listing.{DoesCall, IsTreeOf, Listing, calls}
use Rattle.call_bounds.specs.Listing.{function_at, function_count, tree_at}
use Rattle.call_bounds.specs.declared.causes.Causes.{Causes}

-- the word at an index of a tree is reachable and calls a function
pub record CallsAt (l : Listing) (t : Tree) (index k : ℕ) : Type 0 where
  pub known : Reachable (graph t) (address t index)
  pub routine : 0 < k
  pub listed : k < function_count l
  pub call : callee (calls l) (address t index) ≡ function_at l k

-- a function was marked, if there is one
pub record Marked (o : Option ℕ) (old new : List Bool) : Type 0 where
  pub count : length new ≡ length old
  pub grows : (k : ℕ) → is_met old k ≡ true → is_met new k ≡ true
  pub here : (k : ℕ) → o ≡ Some k → is_met new k ≡ true
  pub from : (k : ℕ) → is_met new k ≡ true → (is_met old k ≡ true) ⊎ (o ≡ Some k)

-- the functions that the words before an index call
pub record IsRowTo (l : Listing) (t : Tree) (c : ℕ) (row : List Bool) : Type 0 where
  pub count : length row ≡ function_count l
  pub exact : (k : ℕ) → (is_met row k ≡ true) ↔ Before (CallsAt l t) c k

-- the functions that one function calls
pub record IsRow (l : Listing) (j : ℕ) (row : List Bool) : Type 0 where
  pub count : length row ≡ function_count l
  pub exact : (k : ℕ) → k < function_count l → (is_met row k ≡ true) ↔
      DoesCall (calls l) (function_at l j) (function_at l k)

-- which functions call which, for the callers below c
pub record IsTableTo (l : Listing) (c : ℕ) (table : List Bool) : Type 0 where
  pub count : length table ≡ c * function_count l
  pub exact : (j k : ℕ) → j < c → k < function_count l →
      (slice_index_or table (j * function_count l + k) false ≡ true) ↔
      DoesCall (calls l) (function_at l j) (function_at l k)

-- which functions call which, for all functions
abbrev pub IsTable : Listing → List Bool → Type 0
IsTable l table = IsTableTo l (function_count l) table

-- exactly the reached functions are marked
pub record AreReached (l : Listing) (reached : List Bool) : Type 0 where
  pub count : length reached ≡ function_count l
  pub exact : (k : ℕ) → k < function_count l → (is_met reached k ≡ true) ↔
      IsReached (calls l) (function_at l k)

-- P holds at an address of a function, which is reached
abbrev pub InFunction : Listing → (Graph → ℕ → Type 0) → ℕ → ℕ → Type 0
InFunction l P k a = IsReached (calls l) (function_at l k) × P (function (calls l)
    (function_at l k)) a

-- the lowest address of each cause, up to the first cause that holds anywhere
pub record AreCauses (D : (Graph → ℕ → Type 0) → ℕ → Type 0) (f : Causes) : Type 0 where
  pub nesting : LowestOf (D NestingAt) f.nesting
  pub indirect : f.nesting ≡ None → LowestOf (D IndirectAt) f.indirect
  pub timed : f.nesting ≡ None → f.indirect ≡ None → LowestOf (D TimedAt) f.timed
  pub unbounded : f.nesting ≡ None → f.indirect ≡ None → f.timed ≡ None →
      LowestOf (D UnboundedAt) f.unbounded

-- no causes
abbrev pub no_causes : Causes
no_causes = record { nesting = None; indirect = None; timed = None; unbounded = None }

-- the cause of one refusal, unless memory ran out
abbrev pub IsCauseOf : TreeNo → Causes → Type 0
IsCauseOf (TreeNo.Nesting a) f = f ≡ record no_causes { nesting = Some a }
IsCauseOf (TreeNo.IndirectJump a) f = f ≡ record no_causes { indirect = Some a }
IsCauseOf (TreeNo.TimedWait a) f = f ≡ record no_causes { timed = Some a }
IsCauseOf (TreeNo.UnboundedBackEdge a) f = f ≡ record no_causes { unbounded = Some a }
IsCauseOf TreeNo.NoMemory f = ⊥

-- the causes of two sets of functions: the lower address of each cause
abbrev pub join_causes : Causes → Causes → Causes
join_causes f g = record {
  nesting = lower_of f.nesting g.nesting;
  indirect = lower_of f.indirect g.indirect;
  timed = lower_of f.timed g.timed;
  unbounded = lower_of f.unbounded g.unbounded;
}

-- the functions below c: their causes, and their trees if there are no causes
pub record AreTreesTo (l : Listing) (c : ℕ) (trees : List (Option Tree)) (f : Causes) : Type 0 where
  pub count : length trees ≡ c
  pub causes : AreCauses (λ P. Before (InFunction l P) c) f
  pub built : f ≡ no_causes → (k : ℕ) → k < c → IsTreeOf (calls l) (function_at l k)
      (tree_at trees k)

-- one function: its causes, and its tree if there are no causes
pub record IsTried (l : Listing) (k : ℕ) (tree : Option Tree) (f : Causes) : Type 0 where
  pub causes : AreCauses (λ P. InFunction l P k) f
  pub built : f ≡ no_causes → IsTreeOf (calls l) (function_at l k) tree

-- a reachable word with an edge out of the section
pub record HasExitAt (g : Graph) (u : ℕ) : Type 0 where
  pub by : Edge
  pub reached : Reachable g u
  pub edge : Contains (g.edges u) by
  pub out : Lies g by.to → ⊥

-- a target outside a section
abbrev pub LeadsOut : Section → Option ℕ → Type 0
LeadsOut s target = (v : ℕ) × (target ≡ Some v) × ((s.from ≤ v) × (v < s.to) → ⊥)

-- an edge out of a routine, in its tree
pub record EscapeFrom (trees : List (Option Tree)) (k a : ℕ) : Type 0 where
  pub routine : 0 < k
  pub tree : Tree
  pub at : tree_at trees k ≡ Some tree
  pub leaves : HasExitAt (graph tree) a

-- the number of functions that are reachable by calls from one
abbrev pub IsRankOf : ℕ → List Bool → ℕ → ℕ → Type 0
IsRankOf n table k rank = (led : List Bool) × IsExact n table k led × (rank ≡ count_by (λ b. b) led)

-- the first cause that has an address
abbrev pub IsFirst : Causes → CallNo → Type 0
IsFirst f (Nesting a) = f.nesting ≡ Some a
IsFirst f (IndirectJump a) = (f.nesting ≡ None) × (f.indirect ≡ Some a)
IsFirst f (TimedWait a) = (f.nesting ≡ None) × (f.indirect ≡ None) × (f.timed ≡ Some a)
IsFirst f (UnboundedBackEdge a) = (f.nesting ≡ None) × (f.indirect ≡ None) × (f.timed ≡ None) ×
    (f.unbounded ≡ Some a)
IsFirst f _ = ⊥
