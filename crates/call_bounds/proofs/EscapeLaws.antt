-- Edges out of functions, by their trees.
use Rattle.std.proofs.Common.{◌≡◌, ℕ, ◌<◌, ◌≤◌, ◌⊎◌, ◌↔◌, refl, arith, inl, inr, ap, sym}
use Rattle.std.proofs.Common.{subst, ◌∙◌, Option, Some, None, List, Bool, true, false}
use Rattle.region_tree.specs.Edges.{edges_of}
use Rattle.region_tree.specs.Graph.{Reachable}
use Rattle.region_tree.specs.Refusals.{Nowhere}
use Rattle.region_tree.specs.Search.{Before, LowestOf, address}
use Rattle.region_tree.specs.Tree.{Tree, graph, word_at}
use Rattle.region_tree.specs.declared.edges.Edges.{Edges}
use Rattle.region_tree.specs.declared.section.Section.{Section}
use Rattle.region_tree.proofs.LowestLaws.{by-edge, edge-by, lowest-same}
use Rattle.call_bounds.specs.Build.{EscapeFrom, LeadsOut, HasExitAt}
use Rattle.call_bounds.specs.CallRefusals.{EscapeAt, IsListing}
use Rattle.call_bounds.specs.Calls.{Calls, IsReached, Function, function}
use Rattle.call_bounds.specs.Listing.{AreFunctionTrees, IsTreeOf, Listing}
use Rattle.call_bounds.specs.Listing.{calls, function_at, function_count, tree_at}
use Rattle.call_bounds.specs.Patched.{function_tree}
use Rattle.call_bounds.proofs.Numbers.{function-section, reached-number, routine-of}
use Rattle.call_bounds.proofs.Same.{leaves-same}

-- by a word's two edges
pub leaves-by : (t : Tree) (k : ℕ) → Reachable (graph t) (address t k) →
    let e = edges_of (word_at t (address t k)) (address t k) in
    LeadsOut t.section e.next ⊎ LeadsOut t.section e.jump → HasExitAt (graph t) (address t k)
leaves-by t k r h = elim h [ inl x ↦ found x.0 (inl x.1) x.2 | inr x ↦ found x.0 (inr x.1) x.2 ]
  where
    found : (v : ℕ) → let e = edges_of (word_at t (address t k)) (address t k) in
        (e.next ≡ Some v) ⊎ (e.jump ≡ Some v) → ((t.section.from ≤ v) × (v < t.section.to) → ⊥) →
        HasExitAt (graph t) (address t k)
    found v is out = let b = edge-by t k v is in record {
      by = b.0;
      reached = r;
      edge = b.1;
      out =
          λ l.
          out (subst (λ v. t.section.from ≤ v) b.2 l.low, subst (λ v. v < t.section.to) b.2 l.high);
    }

pub by-leaves : (t : Tree) (k : ℕ) → HasExitAt (graph t) (address t k) →
    let e = edges_of (word_at t (address t k)) (address t k) in
    LeadsOut t.section e.next ⊎ LeadsOut t.section e.jump
by-leaves t k h =
    elim (by-edge t k h.by h.edge) [ inl e ↦ inl (h.by.to, e, out) | inr e ↦ inr (h.by.to, e, out) ]
  where
    out : (t.section.from ≤ h.by.to) × (h.by.to < t.section.to) → ⊥
    out l = h.out (record { low = l.0; high = l.1 })

-- exactly the reached functions have a tree
pub tree-is : (x : Calls) (p : Function) (o : Option Tree) (t : Tree) → IsTreeOf x p o →
    o ≡ Some t →
    IsReached x p × (t ≡ function_tree x p)
tree-is x p o t (IsTreeOf.reached r) e = (r, (let s : function_tree x p ≡ t = cc in sym s))
tree-is x p o t (IsTreeOf.other out) e = cc

pub tree-known : (x : Calls) (p : Function) (o : Option Tree) → IsTreeOf x p o → IsReached x p →
    o ≡ Some (function_tree x p)
tree-known x p o (IsTreeOf.reached r) h = refl
tree-known x p o (IsTreeOf.other out) h = absurd (out h)

pub escape-all : (l : Listing) (trees : List (Option Tree)) (c : ℕ) (r : Option ℕ) →
    IsListing (calls l) → AreFunctionTrees l trees → c ≡ function_count l →
    LowestOf (Before (EscapeFrom trees) c) r → LowestOf (EscapeAt (calls l)) r
escape-all l trees c r ok are all =
    lowest-same (Before (EscapeFrom trees) c) (EscapeAt (calls l)) r there back
  where
    there : (a : ℕ) → Before (EscapeFrom trees) c a → EscapeAt (calls l) a
    there a h =
        let lt : h.0 < function_count l = omega (arith, h.1) in
        let z = routine-of l h.0 h.2.routine lt in
        let y =
        tree-is (calls l) (function_at l h.0) (tree_at trees h.0) h.2.tree (are.each h.0
        lt) h.2.at in
        let leaves : HasExitAt (function (calls l) (function_at l h.0)) a =
        (leaves-same (calls l) (function_at l h.0) (function-section l ok h.0 lt)).there a
        (subst (λ t. HasExitAt (graph t) a) y.1 h.2.leaves) in
        let out : HasExitAt (function (calls l) (Some z.0)) a =
        subst (λ p. HasExitAt (function (calls l) p) a) z.1 leaves in
        record {
          routine = z.0;
          from = subst (λ p. IsReached (calls l) p) z.1 y.0;
          word = out.reached;
          by = out.by;
          edge = out.edge;
          out = out.out;
        }

    back : (a : ℕ) → EscapeAt (calls l) a → Before (EscapeFrom trees) c a
    back a h =
        let z = reached-number l (Some h.routine) h.from in
        let leaves : HasExitAt (function (calls l) (Some h.routine)) a =
        record { by = h.by; reached = h.word; edge = h.edge; out = h.out } in
        let here : HasExitAt (function (calls l) (function_at l z.0)) a =
        subst (λ p. HasExitAt (function (calls l) p) a) (sym z.2) leaves in (
          z.0,
          omega (arith, z.1),
          record {
            routine = some z.0 z.2;
            tree = function_tree (calls l) (function_at l z.0);
            at =
                tree-known (calls l) (function_at l z.0) (tree_at trees z.0) (are.each z.0 z.1)
                (subst (λ p. IsReached (calls l) p) (sym z.2) h.from);
            leaves =
                (leaves-same (calls l) (function_at l z.0) (function-section l ok z.0
                z.1)).back a here;
          },
        )
      where
        some : (k : ℕ) → function_at l k ≡ Some h.routine → 0 < k
        some k e = elim (let z : (k ≡ 0) ⊎ (0 < k) = grind arith in z) [
          | inl y ↦
              absurd
              (let x : None ≡ Some h.routine = subst (λ i. function_at l i ≡ Some h.routine) y e in
              cc)
          | inr lt ↦ lt
        ]

-- a word of a tree, as the code finds it
edges-at : (t : Tree) (k a w : ℕ) (e : Edges) → a ≡ address t k → w ≡ word_at t a →
    e ≡ edges_of w a → e ≡ edges_of (word_at t (address t k)) (address t k)
edges-at t k a w e at is edges =
    edges ∙ (ap (λ w. edges_of w a) is ∙ ap (λ a. edges_of (word_at t a) a) at)

pub leaves-first : (t : Tree) (k a w : ℕ) (s : Section) (e : Edges) (r : Bool) → a ≡ address t k →
    s ≡ t.section → w ≡ word_at t a → e ≡ edges_of w a → Reachable (graph t) a →
    (r ≡ true) ↔ LeadsOut s e.next → r ≡ true → (r ≡ true) ↔ HasExitAt (graph t) (address t k)
leaves-first t k a w s e r at in_s is edges reached says passed =
    let same = edges-at t k a w e at is edges in (
      (λ h. leaves-by t k (subst (λ a. Reachable (graph t) a) at reached) (inl (subst (λ e.
          LeadsOut t.section e.next) same (subst (λ s. LeadsOut s e.next) in_s (says.0 passed))))),
      (λ h. passed),
    )

pub leaves-second : (t : Tree) (k a w : ℕ) (s : Section) (e : Edges) (r q : Bool) →
    a ≡ address t k → s ≡ t.section → w ≡ word_at t a → e ≡ edges_of w a → Reachable (graph t) a →
    (r ≡ true) ↔ LeadsOut s e.next → r ≡ false → (q ≡ true) ↔ LeadsOut s e.jump →
    (q ≡ true) ↔ HasExitAt (graph t) (address t k)
leaves-second t k a w s e r q at in_s is edges reached first fails second = (
  (λ h. leaves-by t k (subst (λ a. Reachable (graph t) a) at reached) (inr (subst
      (λ e. LeadsOut t.section e.jump) same (subst (λ s. LeadsOut s e.jump) in_s (second.0 h))))),
  (λ h. go (by-leaves t k h)),
)
  where
    same : e ≡ edges_of (word_at t (address t k)) (address t k)
    same = edges-at t k a w e at is edges

    go : let e = edges_of (word_at t (address t k)) (address t k) in
        LeadsOut t.section e.next ⊎ LeadsOut t.section e.jump → q ≡ true
    go (inl n) =
        absurd (let z : r ≡ true = first.1 (subst (λ s. LeadsOut s e.next)
        (sym in_s) (subst (λ e. LeadsOut t.section e.next) (sym same) n)) in
        let y : false ≡ true = sym fails ∙ z in cc)
    go (inr j) =
        second.1 (subst (λ s. LeadsOut s e.jump) (sym in_s)
        (subst (λ e. LeadsOut t.section e.jump) (sym same) j))

-- of one function
pub escape-section : (trees : List (Option Tree)) → Nowhere (EscapeFrom trees 0)
escape-section trees a h = absurd (let z = h.routine in omega arith)

pub escape-some : (trees : List (Option Tree)) (k : ℕ) (t : Tree) (r : Option ℕ) → 0 < k →
    tree_at trees k ≡ Some t → LowestOf (HasExitAt (graph t)) r → LowestOf (EscapeFrom trees k) r
escape-some trees k t r some e =
    lowest-same (HasExitAt (graph t)) (EscapeFrom trees k) r
    (λ a h. record { routine = some; tree = t; at = e; leaves = h })
    (λ a h. let z : Some h.tree ≡ Some t = sym h.at ∙ e in
    let same : h.tree ≡ t = cc in
    subst (λ t. HasExitAt (graph t) a) same h.leaves)

pub escape-none : (trees : List (Option Tree)) (k : ℕ) → tree_at trees k ≡ None →
    Nowhere (EscapeFrom trees k)
escape-none trees k e a h = let z : Some h.tree ≡ None = sym h.at ∙ e in cc
