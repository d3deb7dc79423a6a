-- The lowest address at which a fact holds, found bit by bit.
use Rattle.std.proofs.Common.{◌≡◌, ℕ, ◌+◌, ◌-◌, ◌/◌, ◌%◌, ◌^◌, ◌≤◌, ◌<◌, ◌⊎◌, ◌↔◌}
use Rattle.std.proofs.Common.{min, refl, arith, inl, inr, sym, subst, ◌∙◌, Option}
use Rattle.std.proofs.Common.{Some, None, Bool, true, false, List, length, Contains}
use Rattle.std.proofs.lemmas.List.{get_or_default}
use Rattle.std.proofs.lemmas.List.Elements.{Contains-get_or, Contains-append_cases}
use Rattle.std.proofs.lemmas.List.Elements.{Contains-append_left, Contains-append_right}
use Rattle.fp_setup.specs.declared.loop_list.LoopSetup.{LoopSetup}
use Rattle.region_tree.specs.declared.edges.Edges.{Edges}
use Rattle.region_tree.specs.Edges.{edges_of}
use Rattle.region_tree.specs.Graph.{Edge, Lies, Holds, Reachable, edge_to}
use Rattle.region_tree.specs.Refusals.{UnboundedAt, Nowhere, IsLowest}
use Rattle.region_tree.specs.Nesting.{CrossedAt, DeepAt, EnteredAt, depth, loop_at}
use Rattle.region_tree.specs.Search.{Before, CrossedHere, DeepHere, EntersOff}
use Rattle.region_tree.specs.Search.{EnteredHere, EnteredBy, EnteredFrom, GoesBack}
use Rattle.region_tree.specs.Search.{ReturnsBadly, LowestOf, address, lower_of}
use Rattle.region_tree.specs.Tree.{Tree, IsDraft, graph, word_at}
use Rattle.region_tree.proofs.EdgeLaws.{edge-is, is-edge, next-word}
use Rattle.region_tree.proofs.GraphLaws.{reachable-aligned, reachable-lies}
use Rattle.region_tree.proofs.GraphLaws.{index-address, index-within}

pub lowest-same : (P Q : ℕ → Type 0) (r : Option ℕ) → ((a : ℕ) → P a → Q a) →
    ((a : ℕ) → Q a → P a) → LowestOf P r → LowestOf Q r
lowest-same P Q None there back none = λ a q. none a (back a q)
lowest-same P Q (Some x) there back l =
    record { holds = there x l.holds; lowest = λ b q. l.lowest b (back b q) }

-- of two facts
pub lowest-either : (P Q : ℕ → Type 0) (a b : Option ℕ) → LowestOf P a → LowestOf Q b →
    LowestOf (λ x. P x ⊎ Q x) (lower_of a b)
unfolding lower_of
lowest-either P Q None None p q = λ x h. elim h [ inl y ↦ p x y | inr y ↦ q x y ]
lowest-either P Q None (Some y) p q = record {
  holds = inr q.holds;
  lowest = λ b h. elim h [ inl z ↦ absurd (p b z) | inr z ↦ q.lowest b z ];
}
lowest-either P Q (Some x) None p q = record {
  holds = inl p.holds;
  lowest = λ b h. elim h [ inl z ↦ p.lowest b z | inr z ↦ absurd (q b z) ];
}
lowest-either P Q (Some x) (Some y) p q = record {
  holds = pick (let z : (min x y ≡ x) ⊎ (min x y ≡ y) = grind arith in z);
  lowest = λ b h. elim h [
    | inl z ↦ (let w = p.lowest b z in omega arith)
    | inr z ↦ (let w = q.lowest b z in omega arith)
  ];
}
  where
    pick : (min x y ≡ x) ⊎ (min x y ≡ y) → P (min x y) ⊎ Q (min x y)
    pick (inl e) = inl (subst P (sym e) p.holds)
    pick (inr e) = inr (subst Q (sym e) q.holds)

-- of one more index
pub lowest-next : (C : ℕ → ℕ → Type 0) (n : ℕ) (f r : Option ℕ) → LowestOf (Before C n) f →
    LowestOf (C n) r → LowestOf (Before C (n + 1)) (lower_of f r)
lowest-next C n f r p q =
    lowest-same (λ a. Before C n a ⊎ C n a) (Before C (n + 1)) (lower_of f r)
    (λ a h. elim h [ inl z ↦ (z.0, omega (arith, z.1), z.2) | inr z ↦ (n, omega arith, z) ])
    (λ a h. last a h (let z : (h.0 < n) ⊎ (n ≡ h.0) = grind (arith, h.1) in z))
    (lowest-either (Before C n) (C n) f r p q)
  where
    last : (a : ℕ) (h : Before C (n + 1) a) → (h.0 < n) ⊎ (n ≡ h.0) → Before C n a ⊎ C n a
    last a h (inl below) = inl (h.0, below, h.2)
    last a h (inr same) = inr (subst (λ k. C k a) (sym same) h.2)

-- a loop of the list is the one at its index
pub at-index : (loops : List LoopSetup) (j : LoopSetup) (h : Contains loops j) →
    loop_at loops h.0 ≡ j
at-index loops j h = get_or_default loops h.0 (record { head = 0; last = 0; limit = 0 }) j h.1 ∙ h.2

pub known-index : (loops : List LoopSetup) (k : ℕ) → k < length loops →
    Contains loops (loop_at loops k)
known-index loops k h = Contains-get_or loops k (record { head = 0; last = 0; limit = 0 }) h

pub crossed-all : (loops : List LoopSetup) (n : ℕ) (r : Option ℕ) → n ≡ length loops →
    LowestOf (Before (CrossedHere loops) n) r → LowestOf (CrossedAt loops) r
crossed-all loops n r all l = lowest-same (Before (CrossedHere loops) n) (CrossedAt loops) r
    (λ a h. record {
      earlier = h.2.earlier;
      later = h.0;
      order = h.2.order;
      within = omega (arith, h.1);
      crosses = h.2.crosses;
      address = h.2.address;
    })
    (λ a h. (
      h.later,
      omega (arith, h.within),
      record { earlier = h.earlier; order = h.order; crosses = h.crosses; address = h.address },
    )) l

pub deep-all : (loops : List LoopSetup) (n : ℕ) (r : Option ℕ) → n ≡ length loops →
    LowestOf (Before (DeepHere loops) n) r → LowestOf (DeepAt loops) r
deep-all loops n r all l = lowest-same (Before (DeepHere loops) n) (DeepAt loops) r
    (λ a h. record {
      deep = loop_at loops h.0;
      known = known-index loops h.0 (omega (arith, h.1));
      depth = h.2.depth;
      address = h.2.address;
    })
    (λ a h. let same = at-index loops h.deep h.known in (
      h.known.0,
      omega (arith, h.known.1),
      record {
        depth = subst (λ j. 4 < depth loops j) (sym same) h.depth;
        address = subst (λ j. a ≡ j.head) (sym same) h.address;
      },
    )) l

pub entered-by : (loops : List LoopSetup) (u v n : ℕ) (target r : Option ℕ) →
    target ≡ Some v → n ≡ length loops → LowestOf (Before (EnteredHere loops u v) n) r →
    LowestOf (EnteredBy loops u target) r
entered-by loops u v n target r is all l =
    lowest-same (Before (EnteredHere loops u v) n) (EnteredBy loops u target) r
    (λ a h. (v, is, subst (λ n. Before (EnteredHere loops u v) n a) all h))
    (λ a h. let k : Some v ≡ Some h.0 = sym is ∙ h.1 in
    let same : h.0 ≡ v = cc in
    subst (λ n. Before (EnteredHere loops u v) n a) (sym all)
    (subst (λ v. Before (EnteredHere loops u v) (length loops) a) same h.2)) l

-- an edge to a target of the word at an index
pub edge-by : (t : Tree) (k v : ℕ) → let e = edges_of (word_at t (address t k)) (address t k) in
    (e.next ≡ Some v) ⊎ (e.jump ≡ Some v) →
    (b : Edge) × Contains ((graph t).edges (address t k)) b × (b.to ≡ v)
edge-by t k v (inl is) = (
  record { to = v; lag = e.next_lag },
  Contains-append_left (edge_to e.next e.next_lag) (edge_to e.jump 3)
      (record { to = v; lag = e.next_lag }) (is-edge e.next e.next_lag v is),
  refl,
)
  where
    e : Edges
    e = edges_of (word_at t (address t k)) (address t k)
edge-by t k v (inr is) = (
  record { to = v; lag = 3 },
  Contains-append_right (edge_to e.next e.next_lag) (edge_to e.jump 3) (record { to = v; lag = 3 })
      (is-edge e.jump 3 v is),
  refl,
)
  where
    e : Edges
    e = edges_of (word_at t (address t k)) (address t k)

pub by-edge : (t : Tree) (k : ℕ) (b : Edge) → Contains ((graph t).edges (address t k)) b → let e =
    edges_of (word_at t (address t k)) (address t k) in (e.next ≡ Some b.to) ⊎ (e.jump ≡ Some b.to)
by-edge t k b h = elim (Contains-append_cases (edge_to e.next e.next_lag) (edge_to e.jump 3) b h) [
  | inl n ↦ inl (edge-is e.next e.next_lag b n).0
  | inr j ↦ inr (edge-is e.jump 3 b j).0
]
  where
    e : Edges
    e = edges_of (word_at t (address t k)) (address t k)

-- the edge to the next word enters a loop only at its head
entered-next : (t : Tree) (k a : ℕ) → IsDraft t → k < length t.words →
    EnteredBy t.loops (address t k) (edges_of (word_at t (address t k)) (address t k)).next a → ⊥
entered-next t k a d within h =
    let l = d.loops (loop_at t.loops h.2.0) (known-index t.loops h.2.0 h.2.1) in
    let e = h.2.2.enters in
    let next : h.0 ≡ (address t k + 4) % 2 ^ 32 =
    next-word (word_at t (address t k)) (address t k) h.0 h.1 in
    let from = d.section.from_aligned in
    let end = d.section.end in
    let words = d.words in
    e.outer (omega (arith, e.inner.0, e.other, l.head_aligned), omega (arith, e.inner.1))

pub entered-from : (t : Tree) (k : ℕ) (j : Option ℕ) → IsDraft t → k < length t.words →
    Reachable (graph t) (address t k) → LowestOf (EnteredBy t.loops (address t k)
    (edges_of (word_at t (address t k)) (address t k)).jump) j → LowestOf (EnteredFrom t k) j
entered-from t k j d within r y =
    lowest-same (EnteredBy t.loops (address t k)
    (edges_of (word_at t (address t k)) (address t k)).jump) (EnteredFrom t k) j
    (λ a h. record { reached = r; by = inr h })
    (λ a h. elim h.by [ inl next ↦ absurd (entered-next t k a d within next) | inr jump ↦ jump ]) y

pub entered-all : (t : Tree) (n : ℕ) (r : Option ℕ) → IsDraft t → n ≡ length t.words →
    LowestOf (Before (EnteredFrom t) n) r → LowestOf (EnteredAt (graph t)) r
entered-all t n r d all l =
    lowest-same (Before (EnteredFrom t) n) (EnteredAt (graph t)) r
    (λ a h. there a h.0 h.2 h.2.by) back l
  where
    found : (a k v : ℕ) → EnteredFrom t k a →
        let e = edges_of (word_at t (address t k)) (address t k) in
        (e.next ≡ Some v) ⊎ (e.jump ≡ Some v) →
        Before (EnteredHere t.loops (address t k) v) (length t.loops) a → EnteredAt (graph t) a
    found a k v f is h =
        let b = edge-by t k v is in
        record {
          entered = loop_at t.loops h.0;
          known = known-index t.loops h.0 h.1;
          from = address t k;
          by = b.0;
          reached = f.reached;
          edge = b.1;
          inner = subst (λ v. Holds (loop_at t.loops h.0) v) (sym b.2) h.2.enters.inner;
          outer = h.2.enters.outer;
          other = λ e. h.2.enters.other (sym b.2 ∙ e);
          address = h.2.address;
        }

    there : (a k : ℕ) → EnteredFrom t k a →
        let e = edges_of (word_at t (address t k)) (address t k) in
        EnteredBy t.loops (address t k) e.next a ⊎ EnteredBy t.loops (address t k) e.jump a →
        EnteredAt (graph t) a
    there a k f (inl h) = found a k h.0 f (inl h.1) h.2
    there a k f (inr h) = found a k h.0 f (inr h.1) h.2

    back : (a : ℕ) → EnteredAt (graph t) a → Before (EnteredFrom t) n a
    back a h =
        let k = (h.from - t.section.from) / 4 in
        let at : address t k ≡ h.from = index-address t d h.from
        (reachable-aligned t d h.from h.reached) (reachable-lies t d h.from h.reached) in
        let here : EnteredAt (graph t) a = record {
          entered = h.entered;
          known = h.known;
          from = address t k;
          by = h.by;
          reached = subst (λ u. Reachable (graph t) u) (sym at) h.reached;
          edge = subst (λ u. Contains ((graph t).edges u) h.by) (sym at) h.edge;
          inner = h.inner;
          outer = subst (λ u. Holds h.entered u → ⊥) (sym at) h.outer;
          other = h.other;
          address = h.address;
        } in
        let same = at-index t.loops h.entered h.known in
        let entered : Before (EnteredHere t.loops (address t k) h.by.to) (length t.loops) a = (
          h.known.0,
          h.known.1,
          record {
            enters =
                subst (λ j. EntersOff j (address t k) h.by.to) (sym same)
                (record { inner = here.inner; outer = here.outer; other = here.other });
            address = subst (λ j. a ≡ j.head) (sym same) h.address;
          },
        ) in (
          k,
          (let z = index-within t d h.from (reachable-lies t d h.from h.reached) in omega arith),
          record {
            reached = here.reached;
            by = elim (by-edge t k h.by here.edge) [
              | inl e ↦ inl (h.by.to, e, entered)
              | inr e ↦ inr (h.by.to, e, entered)
            ];
          },
        )

-- the first index at which a fact of reachable words holds
pub lowest-first : (t : Tree) (P : ℕ → Type 0) (n : ℕ) → IsDraft t →
    ((u : ℕ) → P u → Reachable (graph t) u) → ((k : ℕ) → k < n → P (address t k) → ⊥) →
    P (address t n) → IsLowest P (address t n)
lowest-first t P n d is none holds = record {
  holds = holds;
  lowest = λ b h. go b h (let z : (address t n ≤ b) ⊎ (b < address t n) = grind arith in z);
}
  where
    go : (b : ℕ) → P b → (address t n ≤ b) ⊎ (b < address t n) → address t n ≤ b
    go b h (inl le) = le
    go b h (inr lt) =
        let r = is b h in
        let at : address t ((b - t.section.from) / 4) ≡ b =
        index-address t d b (reachable-aligned t d b r) (reachable-lies t d b r) in
        absurd (none ((b - t.section.from) / 4)
        (let l = (reachable-lies t d b r).low in omega arith) (subst P (sym at) h))

pub lowest-never : (t : Tree) (P : ℕ → Type 0) (n : ℕ) → IsDraft t → n ≡ length t.words →
    ((u : ℕ) → P u → Reachable (graph t) u) → ((k : ℕ) → k < n → P (address t k) → ⊥) → Nowhere P
lowest-never t P n d all is none b h =
    let r = is b h in
    let at : address t ((b - t.section.from) / 4) ≡ b =
    index-address t d b (reachable-aligned t d b r) (reachable-lies t d b r) in
    none ((b - t.section.from) / 4)
    (let z = index-within t d b (reachable-lies t d b r) in omega arith) (subst P (sym at) h)

-- a word with a back edge without a bound, by its two edges
pub unbounded-by : (t : Tree) (k : ℕ) → Reachable (graph t) (address t k) →
    let e = edges_of (word_at t (address t k)) (address t k) in
    ReturnsBadly t (address t k) e.next ⊎ ReturnsBadly t (address t k) e.jump →
    UnboundedAt (graph t) (address t k)
unbounded-by t k r h = elim h [
  | inl x ↦ found x.to (inl x.is) x.inside x.down x.unbounded
  | inr x ↦ found x.to (inr x.is) x.inside x.down x.unbounded
]
  where
    found : (v : ℕ) → let e = edges_of (word_at t (address t k)) (address t k) in
        (e.next ≡ Some v) ⊎ (e.jump ≡ Some v) → Lies (graph t) v → v ≤ address t k →
        (GoesBack t.loops (address t k) v → ⊥) → UnboundedAt (graph t) (address t k)
    found v is l le none =
        let b = edge-by t k v is in
        record {
          by = b.0;
          reached = r;
          edge = b.1;
          inside = subst (λ v. Lies (graph t) v) (sym b.2) l;
          down = omega (arith, b.2);
          unbounded = λ j known e held. none (j, known, sym b.2 ∙ e, held);
        }

pub by-unbounded : (t : Tree) (k : ℕ) → UnboundedAt (graph t) (address t k) →
    let e = edges_of (word_at t (address t k)) (address t k) in
    ReturnsBadly t (address t k) e.next ⊎ ReturnsBadly t (address t k) e.jump
by-unbounded t k h = elim (by-edge t k h.by h.edge) [
  | inl e ↦ inl (record {
    to = h.by.to;
    is = e;
    inside = h.inside;
    down = h.down;
    unbounded = λ g. h.unbounded g.0 g.1 g.2 g.3;
  })
  | inr e ↦ inr (record {
    to = h.by.to;
    is = e;
    inside = h.inside;
    down = h.down;
    unbounded = λ g. h.unbounded g.0 g.1 g.2 g.3;
  })
]

pub unbounded-first : (t : Tree) (k a : ℕ) (e : Edges) (r : Bool) →
    a ≡ address t k → e ≡ edges_of (word_at t (address t k)) (address t k) →
    Reachable (graph t) (address t k) → (r ≡ true) ↔ ReturnsBadly t a e.next → r ≡ true →
    (r ≡ true) ↔ UnboundedAt (graph t) (address t k)
unbounded-first t k a e r at is reached says passed = (
  (λ h. unbounded-by t k reached (inl (subst (λ e. ReturnsBadly t (address t k) e.next) is
      (subst (λ a. ReturnsBadly t a e.next) at (says.0 passed))))),
  (λ h. passed),
)

pub unbounded-second : (t : Tree) (k a : ℕ) (e : Edges) (r s : Bool) → a ≡ address t k →
    e ≡ edges_of (word_at t (address t k)) (address t k) → Reachable (graph t) (address t k) →
    (r ≡ true) ↔ ReturnsBadly t a e.next → r ≡ false → (s ≡ true) ↔ ReturnsBadly t a e.jump →
    (s ≡ true) ↔ UnboundedAt (graph t) (address t k)
unbounded-second t k a e r s at is reached first fails second = (
  (λ h. unbounded-by t k reached (inr (subst (λ e. ReturnsBadly t (address t k) e.jump) is
      (subst (λ a. ReturnsBadly t a e.jump) at (second.0 h))))),
  (λ u. go (by-unbounded t k u)),
)
  where
    go : let e = edges_of (word_at t (address t k)) (address t k) in
        ReturnsBadly t (address t k) e.next ⊎ ReturnsBadly t (address t k) e.jump → s ≡ true
    go (inl n) =
        absurd (let z : r ≡ true = first.1 (subst (λ a. ReturnsBadly t a e.next)
        (sym at) (subst (λ e. ReturnsBadly t (address t k) e.next) (sym is) n)) in
        let y : false ≡ true = sym fails ∙ z in cc)
    go (inr j) =
        second.1 (subst (λ a. ReturnsBadly t a e.jump) (sym at)
        (subst (λ e. ReturnsBadly t (address t k) e.jump) (sym is) j))
