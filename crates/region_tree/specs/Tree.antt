-- A tree of loops: a section, its words, and the loops that count in it.
use Rattle.std.specs.Prelude.{◌≡◌, ℕ, ◌+◌, ◌-◌, ◌*◌, ◌/◌, ◌%◌, ◌<◌, ◌≤◌, ◌&&◌, nat_le}
use Rattle.std.specs.Prelude.{nat_lt, Bool, List, length, map, filter, slice_index, Contains}
use Rattle.std.specs.List.{range_with_len}
use Rattle.region_guard.specs.MemoryMap.{large_size}
use Rattle.fp_setup.specs.declared.loop_list.LoopSetup.{LoopSetup}
use Rattle.fp_setup.specs.Loops.{IsLoop}
use Rattle.region_tree.specs.Edges.{edges_of}
use Rattle.region_tree.specs.Graph.{Graph, edge_list}
use Rattle.region_tree.specs.Refusals.{IsAllowed}
use Rattle.region_tree.specs.declared.section.Section.{Section}

-- a valid section: not empty, aligned, and inside the largest instruction scratchpad
pub record IsSection (s : Section) : Type 0 where
  pub order : s.from < s.to
  pub from_aligned : s.from % 4 ≡ 0
  pub to_aligned : s.to % 4 ≡ 0
  pub end : s.to ≤ large_size

-- a section, its words in order, and its loops
pub record Tree : Type 0 where
  pub section : Section
  pub words : List ℕ
  pub loops : List LoopSetup

-- the words of a section of a memory, given as a function from addresses to words
unfoldable pub section_words : (ℕ → ℕ) → Section → List ℕ
section_words memory s = map (λ k. memory (s.from + 4 * k)) (range_with_len 0 ((s.to - s.from) / 4))

-- a loop counts if its head and its last word are in the section
abbrev pub counts : Section → LoopSetup → Bool
counts s j =
    (nat_le s.from j.head && nat_lt j.head s.to) && (nat_le s.from j.last && nat_lt j.last s.to)

-- the tree of a section, its words and loops
abbrev pub tree_with : Section → List ℕ → List LoopSetup → Tree
tree_with s words loops = record { section = s; words = words; loops = filter (counts s) loops }

-- the tree of a memory, a section and loops
abbrev pub tree_of : (ℕ → ℕ) → Section → List LoopSetup → Tree
tree_of memory s loops = tree_with s (section_words memory s) loops

-- a tree's word at an address of its section
abbrev pub word_at : Tree → ℕ → ℕ
word_at t address = slice_index t.words ((address - t.section.from) / 4)

-- the control graph of a tree
abbrev pub graph : Tree → Graph
graph t = record {
  from = t.section.from;
  to = t.section.to;
  edges = λ u. edge_list (edges_of (word_at t u) u);
  stop = λ u. (edges_of (word_at t u) u).stop;
  loops = t.loops;
}

-- A valid section, with as many words, and loops that count in it and keep their own rules.
pub record IsDraft (t : Tree) : Type 0 where
  pub section : IsSection t.section
  pub words : t.section.to ≡ t.section.from + 4 * length t.words
  pub loops : (j : LoopSetup) → Contains t.loops j → IsLoop j
  pub counting : (j : LoopSetup) → Contains t.loops j →
      (t.section.from ≤ j.head) × (j.last < t.section.to)

-- The invariant of accepted trees.
pub record IsTree (t : Tree) : Type 0 where
  pub draft : IsDraft t
  pub allowed : IsAllowed (graph t)
