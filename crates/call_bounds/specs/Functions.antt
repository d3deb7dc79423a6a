-- The results of queries about the functions of a section with routines.
use Rattle.std.specs.Prelude.{◌≡◌, ℕ, ◌<◌, Option, None, MatchOption, List}
use Rattle.fp_setup.specs.declared.loop_list.LoopSetup.{LoopSetup}
use Rattle.region_tree.specs.Tree.{Tree, section_words}
use Rattle.region_tree.specs.declared.section.Section.{Section}
use Rattle.call_bounds.specs.declared.routines.Routine.{Routine}
use Rattle.call_bounds.specs.Calls.{Calls, IsReached, callee, range}
use Rattle.call_bounds.specs.Listing.{Listing, calls, listing_of, function_at, function_count}
use Rattle.call_bounds.specs.Patched.{function_tree, patched_word}

-- whether the function with a number is reached
abbrev pub IsFunctionReached : Listing → ℕ → Type 0
IsFunctionReached l k = IsReached (calls l) (function_at l k)

-- a function's addresses
abbrev pub range_of_function : Listing → ℕ → Section
range_of_function l k = range (calls l) (function_at l k)

-- a function's words, with its calls and returns replaced
abbrev pub words_of_function : Listing → ℕ → List ℕ
words_of_function l k = section_words (patched_word (calls l) (function_at l k))
    (range_of_function l k)

-- a function's tree
abbrev pub tree_of_function : Listing → ℕ → Tree
tree_of_function l k = function_tree (calls l) (function_at l k)

-- the number of the function that the word at an address calls, if it is a call
abbrev pub IsCallee : Listing → ℕ → Option ℕ → Type 0
IsCallee l u r =
    MatchOption r (callee (calls l) u ≡ None)
    (λ k. (0 < k) × (k < function_count l) × (callee (calls l) u ≡ function_at l k))

-- a section of a memory that is given by its words, with the listed routines and loops
abbrev pub calls_of : (ℕ → ℕ) → Section → List Routine → List LoopSetup → Calls
calls_of memory s routines loops = calls (listing_of memory s routines loops)
