-- The reachable words of a tree.
use Rattle.std.proofs.Common.{◌≡◌, ℕ, ◌-◌, ◌/◌, ◌%◌, ◌<◌, arith, length}
use Rattle.region_tree.specs.Graph.{Lies, Reachable}
use Rattle.region_tree.specs.Graph.Reachable.{first, next}
use Rattle.region_tree.specs.Search.{address}
use Rattle.region_tree.specs.Tree.{Tree, IsDraft, graph, word_at}
use Rattle.region_tree.proofs.EdgeLaws.{edge-aligned}

-- they are multiples of four
pub reachable-aligned : (t : Tree) → IsDraft t → (u : ℕ) → Reachable (graph t) u → u % 4 ≡ 0
reachable-aligned t d u first = d.section.from_aligned
reachable-aligned t d u (next {u = v} e r h l) =
    edge-aligned (word_at t v) v e (reachable-aligned t d v r) h

-- they lie in the section
pub reachable-lies : (t : Tree) → IsDraft t → (u : ℕ) → Reachable (graph t) u → Lies (graph t) u
reachable-lies t d u first = record { low = omega arith; high = d.section.order }
reachable-lies t d u (next e r h l) = l

-- the word at an index, and the index of a word
pub index-address : (t : Tree) → IsDraft t → (u : ℕ) → u % 4 ≡ 0 → Lies (graph t) u →
    address t ((u - t.section.from) / 4) ≡ u
index-address t d u a l = let s = d.section.from_aligned in let low = l.low in omega arith

pub index-within : (t : Tree) → IsDraft t → (u : ℕ) → Lies (graph t) u →
    (u - t.section.from) / 4 < length t.words
index-within t d u l = let w = d.words in let high = l.high in let low = l.low in omega arith

pub address-index : (t : Tree) (k : ℕ) → (address t k - t.section.from) / 4 ≡ k
address-index t k = omega arith

pub address-lies : (t : Tree) → IsDraft t → (k : ℕ) → k < length t.words →
    Lies (graph t) (address t k)
address-lies t d k h = let w = d.words in record { low = omega arith; high = omega arith }
