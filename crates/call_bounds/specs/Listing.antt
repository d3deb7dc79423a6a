-- A section with its routines, words and loops, as plain data, and its functions by number.
use Rattle.std.specs.Prelude.{◌≡◌, ℕ, ◌+◌, ◌/◌, ◌<◌, ◌≤◌, Option, Some, None}
use Rattle.std.specs.Prelude.{List, ◌∷◌, length, map, slice_index, slice_index_or}
use Rattle.region_guard.specs.MemoryMap.{large_size}
use Rattle.fp_setup.specs.declared.loop_list.LoopSetup.{LoopSetup}
use Rattle.region_tree.specs.Graph.{Reachable}
use Rattle.region_tree.specs.Tree.{Tree, section_words}
use Rattle.region_tree.specs.declared.section.Section.{Section}
use Rattle.call_bounds.specs.declared.routines.Routine.{Routine}
use Rattle.call_bounds.specs.Calls.{Calls, IsReached, Function, callee, function}
use Rattle.call_bounds.specs.CallRefusals.{IsCallable, IsListing}
use Rattle.call_bounds.specs.Patched.{function_tree}

-- A section, the listed routines, the words of memory from address 0 on, and the listed loops.
pub record Listing : Type 0 where
  pub section : Section
  pub routines : List Routine
  pub words : List ℕ
  pub loops : List LoopSetup

-- the largest scratchpad, as a section
abbrev pub scratchpad : Section
scratchpad = record { from = 0; to = large_size }

-- the listing of a memory that is given by its words
abbrev pub listing_of : (ℕ → ℕ) → Section → List Routine → List LoopSetup → Listing
listing_of memory s routines loops =
    record {
      section = s;
      routines = routines;
      words = section_words memory scratchpad;
      loops = loops;
    }

-- the same as a section with routines, whose memory is given by its words
abbrev pub calls : Listing → Calls
calls l = record {
  section = l.section;
  routines = l.routines;
  word = λ u. slice_index l.words (u / 4);
  loops = l.loops;
}

-- the number of functions: the section and the routines
abbrev pub function_count : Listing → ℕ
function_count l = length l.routines + 1

-- the function with a number: 0 is the section, and the routines follow in their order
abbrev pub function_at : Listing → ℕ → Function
function_at l k = slice_index_or (None ∷ map Some l.routines) k None

-- a reachable word of one function calls the other
pub record DoesCall (x : Calls) (p q : Function) : Type 0 where
  pub routine : Routine
  pub word : ℕ
  pub known : Reachable (function x p) word
  pub call : callee x word ≡ Some routine
  pub to : q ≡ Some routine

-- the rank of the function with a number
abbrev pub rank_at : List ℕ → ℕ → ℕ
rank_at ranks k = slice_index ranks k

-- A rank for each function, so that the callees of a reached function have lower ones.
pub record AreRanks (l : Listing) (ranks : List ℕ) : Type 0 where
  pub count : length ranks ≡ function_count l
  pub few : (k : ℕ) → k < function_count l → rank_at ranks k ≤ function_count l
  pub rise : (j k : ℕ) → j < function_count l → k < function_count l → IsReached (calls l)
      (function_at l j) →
      DoesCall (calls l) (function_at l j) (function_at l k) →
      rank_at ranks k < rank_at ranks j

-- the tree of the function with a number, if it has one
abbrev pub tree_at : List (Option Tree) → ℕ → Option Tree
tree_at trees k = slice_index_or trees k None

-- the tree of a function, if it is reached
pub data IsTreeOf (x : Calls) (p : Function) : Option Tree → Type 0 where
  reached : IsReached x p → IsTreeOf x p (Some (function_tree x p))
  other : (IsReached x p → ⊥) → IsTreeOf x p None

-- the trees of the functions
pub record AreFunctionTrees (l : Listing) (trees : List (Option Tree)) : Type 0 where
  pub count : length trees ≡ function_count l
  pub each : (k : ℕ) → k < function_count l → IsTreeOf (calls l) (function_at l k) (tree_at trees k)

-- a listing that keeps the rules, with as many words as the largest scratchpad has
pub record IsCode (l : Listing) : Type 0 where
  pub listing : IsListing (calls l)
  pub words : length l.words ≡ large_size / 4

-- The invariant of every tree of calls that was built.
pub record IsCallTree (l : Listing) (trees : List (Option Tree)) (ranks : List ℕ) : Type 0 where
  pub listing : IsListing (calls l)
  pub callable : IsCallable (calls l)
  pub functions : AreFunctionTrees l trees
  pub order : AreRanks l ranks
