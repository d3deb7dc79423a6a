-- Following edges until no pending word is left.
use Rattle.std.proofs.Common.{◌≡◌, ◌≢◌, ℕ, ◌+◌, ◌-◌, ◌/◌, ◌≤◌, ◌<◌, ◌⊎◌, ◌&&◌, nat_le}
use Rattle.std.proofs.Common.{nat_lt, cond, if◌then◌else◌, refl, arith, inl, inr, ap}
use Rattle.std.proofs.Common.{sym, subst, ◌∙◌, Option, Some, None, Bool, true, false}
use Rattle.std.proofs.Common.{List, [], ◌∷◌, ◌++◌, length, slice_set, get_or-set_other}
use Rattle.std.proofs.Common.{get_or-set_same, length-set, length-append, Contains}
use Rattle.std.proofs.lemmas.List.Elements.{Contains-append_cases}
use Rattle.std.proofs.lemmas.List.Elements.{Contains-append_left, Contains-append_right}
use Rattle.std.proofs.lemmas.List.Elements.{Contains-push, Contains-push_cases}
use Rattle.std.proofs.lemmas.List.{get_or_past}
use Rattle.std.proofs.lemmas.List.Sums.{sum_by-set}
use Rattle.std.proofs.lemmas.Bool.Decides.{nat_tests}
use Rattle.region_tree.specs.declared.section.Section.{Section}
use Rattle.region_tree.specs.declared.edges.Edges.{Edges}
use Rattle.region_tree.specs.Edges.{edges_of}
use Rattle.region_tree.specs.Graph.{Lies, Reachable, edge_to}
use Rattle.region_tree.specs.Graph.Reachable.{first, next}
use Rattle.region_tree.specs.Search.{IsVisited, IsGathered, IsMet, IsClosed}
use Rattle.region_tree.specs.Search.{address, is_met, unmet_count, index_of}
use Rattle.region_tree.specs.Tree.{Tree, IsDraft, graph, word_at}
use Rattle.region_tree.proofs.EdgeLaws.{edge-is, is-edge}
use Rattle.region_tree.proofs.GraphLaws.{reachable-aligned, reachable-lies}
use Rattle.region_tree.proofs.GraphLaws.{index-address, address-index}

pub is_or_not : (a b : ℕ) → (a ≡ b) ⊎ (a ≢ b)
is_or_not a b = grind arith

-- a word that isn't marked yet
pub visited : (index : Option ℕ) (k : ℕ) (met : List Bool) (todo todo' : List ℕ) →
    index ≡ Some k → k < length met → is_met met k ≡ false → todo' ≡ todo ++ k ∷ [] →
    IsVisited index met (slice_set met k true) todo todo'
visited index k met todo todo' is lt fresh pushed = record {
  count = length-set met k true;
  grows = λ u h. grows u h (is_or_not u k);
  here =
      λ u h. let same : Some k ≡ Some u = sym is ∙ h in
      let e : k ≡ u = cc in
      subst (λ u. is_met (slice_set met k true) u ≡ true) e (get_or-set_same met k true false lt);
  from = λ u h. came u h (is_or_not u k);
  stays = λ u h. subst (λ l. Contains l u) (sym pushed) (Contains-append_left todo (k ∷ []) u h);
  done = λ u h. elim (came u h (is_or_not u k)) [
    | inl old ↦ inl old
    | inr new ↦
        inr (let same : Some k ≡ Some u = sym is ∙ new in
        let e : k ≡ u = cc in subst
        (λ u. Contains todo' u) e (subst (λ l. Contains l k) (sym pushed) (Contains-push todo k)))
  ];
  came = λ u h. elim (Contains-push_cases todo k u (subst (λ l. Contains l u) pushed h)) [
    | inl old ↦ inl old
    | inr same ↦ inr (is ∙ ap Some same)
  ];
  less =
      let one : unmet_count (slice_set met k true) + cond {A = ℕ} (is_met met k) 0 1
      ≡ unmet_count met + 0 = sum_by-set (λ b. cond b 0 1) met k true false lt in
      let was : cond {A = ℕ} (is_met met k) 0 1 ≡ 1 = ap (λ b. cond b 0 1) fresh in
      let long : length todo' ≡ length todo + 1 = ap length pushed ∙ length-append todo (k ∷ []) in
      omega arith;
}
  where
    grows : (u : ℕ) → is_met met u ≡ true → (u ≡ k) ⊎ (u ≢ k) →
        is_met (slice_set met k true) u ≡ true
    grows u h (inl same) =
        subst (λ u. is_met (slice_set met k true) u ≡ true) (sym same)
        (get_or-set_same met k true false lt)
    grows u h (inr other) = get_or-set_other met k u true false other ∙ h

    came : (u : ℕ) → is_met (slice_set met k true) u ≡ true → (u ≡ k) ⊎ (u ≢ k) →
        (is_met met u ≡ true) ⊎ (index ≡ Some u)
    came u h (inl same) = inr (is ∙ ap Some (sym same))
    came u h (inr other) = inl (sym (get_or-set_other met k u true false other) ∙ h)

-- a marked word has an index
pub met-within : (met : List Bool) (k : ℕ) → is_met met k ≡ true → k < length met
met-within met k h = go (let z : (k < length met) ⊎ (length met ≤ k) = grind arith in z)
  where
    go : (k < length met) ⊎ (length met ≤ k) → k < length met
    go (inl lt) = lt
    go (inr past) = absurd (let z : false ≡ true = sym (get_or_past met k false past) ∙ h in cc)

-- the index of a target that lies in the section
pub index-is : (s : Section) (v k : ℕ) → index_of s (Some v) ≡ Some k →
    (s.from ≤ v) × (v < s.to) × (k ≡ (v - s.from) / 4)
index-is s v k e = go (nat_le s.from v) (nat_lt v s.to) refl refl e
  where
    go : (a b : Bool) → nat_le s.from v ≡ a → nat_lt v s.to ≡ b →
        (if a && b then Some ((v - s.from) / 4) else None) ≡ Some k →
        (s.from ≤ v) × (v < s.to) × (k ≡ (v - s.from) / 4)
    go true true x y e = (
      grind (arith, nat_tests),
      grind (arith, nat_tests),
      (let z : (v - s.from) / 4 ≡ k = cc in sym z),
    )
    go true false x y e = cc
    go false b x y e = cc

pub index-some : (s : Section) (v : ℕ) → s.from ≤ v → v < s.to →
    index_of s (Some v) ≡ Some ((v - s.from) / 4)
index-some s v a b =
    let x : nat_le s.from v ≡ true = grind (arith, nat_tests) in
    let y : nat_lt v s.to ≡ true = grind (arith, nat_tests) in rw (x, y) refl

pub target-is : (s : Section) (target : Option ℕ) (k : ℕ) → index_of s target ≡ Some k →
    (v : ℕ) × (target ≡ Some v) × (s.from ≤ v) × (v < s.to) × (k ≡ (v - s.from) / 4)
target-is s None k e = cc
target-is s (Some v) k e = let z = index-is s v k e in (v, refl, z.0, z.1, z.2)

pub gather-start : (t : Tree) (met met' : List Bool) (todo : List ℕ) → length met ≡ length t.words →
    ((k : ℕ) → is_met met k ≡ false) → IsVisited (Some 0) met met' [] todo →
    IsGathered t (λ k. ⊥) met' todo
gather-start t met met' todo count none v = record {
  count = v.count ∙ count;
  first = v.here 0 refl;
  sound = λ k h. elim (v.from k h) [
    | inl old ↦ absurd (never k old)
    | inr new ↦
        (let same : 0 ≡ k = cc in subst (λ k. Reachable (graph t) (address t k)) same
        (let e : t.section.from ≡ address t 0 = omega arith in
        subst (λ u. Reachable (graph t) u) e first))
  ];
  known =
      λ k h. elim (v.came k h) [ inl old ↦ absurd (omega (arith, old.1)) | inr new ↦ v.here k new ];
  closed = λ k h. elim (v.done k h) [ inl old ↦ absurd (never k old) | inr new ↦ inl (inl new) ];
}
  where
    never : (k : ℕ) → is_met met k ≡ true → ⊥
    never k h = let z : false ≡ true = sym (none k) ∙ h in cc

pub gather-pop : (t : Tree) (met : List Bool) (todo todo' : List ℕ) (k : ℕ) →
    todo ≡ todo' ++ k ∷ [] → IsGathered t (λ u. ⊥) met todo → IsGathered t (λ u. k ≡ u) met todo'
gather-pop t met todo todo' k is g = record {
  count = g.count;
  first = g.first;
  sound = g.sound;
  known =
      λ u h.
      g.known u (subst (λ l. Contains l u) (sym is) (Contains-append_left todo' (k ∷ []) u h));
  closed = λ u h. elim (g.closed u h) [
    | inl a ↦ inl (elim a [
      | inl old ↦ Contains-push_cases todo' k u (subst (λ l. Contains l u) is old)
      | inr none ↦ absurd none
    ])
    | inr done ↦ inr done
  ];
}

-- a target of a reachable word, if it lies in the section
abbrev pub ReachesTarget : Tree → Option ℕ → Type 0
ReachesTarget t target = (v : ℕ) → target ≡ Some v → Lies (graph t) v → Reachable (graph t) v

pub gather-visit : (t : Tree) (out : ℕ → Type 0) (target : Option ℕ)
    (met met' : List Bool) (todo todo' : List ℕ) → IsDraft t → ReachesTarget t target →
    IsVisited (index_of t.section target) met met' todo todo' → IsGathered t out met todo →
    IsGathered t out met' todo'
gather-visit t out target met met' todo todo' d leads v g = record {
  count = v.count ∙ g.count;
  first = v.grows 0 g.first;
  sound = λ k h. elim (v.from k h) [ inl old ↦ g.sound k old | inr new ↦ reached k new ];
  known = λ k h. elim (v.came k h) [ inl old ↦ v.grows k (g.known k old) | inr new ↦ v.here k new ];
  closed =
      λ k h. elim (v.done k h) [ inl old ↦ later k (g.closed k old) | inr new ↦ inl (inl new) ];
}
  where
    reached : (k : ℕ) → index_of t.section target ≡ Some k → Reachable (graph t) (address t k)
    reached k e =
        let z = target-is t.section target k e in
        let lies : Lies (graph t) z.0 = record { low = z.2; high = z.3 } in
        let r : Reachable (graph t) z.0 = leads z.0 z.1 lies in
        let same : z.0 ≡ address t k =
        sym (ap (address t) z.4 ∙ index-address t d z.0 (reachable-aligned t d z.0 r) lies) in
        subst (λ u. Reachable (graph t) u) same r

    later : (k : ℕ) → (Contains todo k ⊎ out k) ⊎ IsClosed t met k →
        (Contains todo' k ⊎ out k) ⊎ IsClosed t met' k
    later k (inl (inl old)) = inl (inl (v.stays k old))
    later k (inl (inr o)) = inl (inr o)
    later k (inr done) = inr (λ e h l. v.grows ((e.to - t.section.from) / 4) (done e h l))

-- both edges of a word
pub closed-by : (t : Tree) (k : ℕ) (m0 m1 m2 : List Bool) (d0 d1 d2 : List ℕ) →
    let e = edges_of (word_at t (address t k)) (address t k) in
    IsVisited (index_of t.section e.next) m0 m1 d0 d1 →
    IsVisited (index_of t.section e.jump) m1 m2 d1 d2 → IsClosed t m2 k
closed-by t k m0 m1 m2 d0 d1 d2 n j e h l =
    go (Contains-append_cases (edge_to w.next w.next_lag) (edge_to w.jump 3) e h)
  where
    w : Edges
    w = edges_of (word_at t (address t k)) (address t k)

    index : (o : Option ℕ) → o ≡ Some e.to →
        index_of t.section o ≡ Some ((e.to - t.section.from) / 4)
    index o is = ap (index_of t.section) is ∙ index-some t.section e.to l.low l.high

    go : Contains (edge_to w.next w.next_lag) e ⊎ Contains (edge_to w.jump 3) e →
        is_met m2 ((e.to - t.section.from) / 4) ≡ true
    go (inl a) =
        j.grows ((e.to - t.section.from) / 4)
        (n.here ((e.to - t.section.from) / 4) (index w.next (edge-is w.next w.next_lag e a).0))
    go (inr b) = j.here ((e.to - t.section.from) / 4) (index w.jump (edge-is w.jump 3 e b).0)

pub gather-done : (t : Tree) (k : ℕ) (met : List Bool) (todo : List ℕ) → IsClosed t met k →
    IsGathered t (λ u. k ≡ u) met todo → IsGathered t (λ u. ⊥) met todo
gather-done t k met todo c g = record {
  count = g.count;
  first = g.first;
  sound = g.sound;
  known = g.known;
  closed = λ u h. elim (g.closed u h) [
    | inl a ↦
        elim a [ inl old ↦ inl (inl old) | inr same ↦ inr (subst (λ u. IsClosed t met u) same c) ]
    | inr done ↦ inr done
  ];
}

reach-met : (t : Tree) (met : List Bool) → IsDraft t → IsGathered t (λ u. ⊥) met [] → (u : ℕ) →
    Reachable (graph t) u → is_met met ((u - t.section.from) / 4) ≡ true
reach-met t met d g u first =
    let z : 0 ≡ (t.section.from - t.section.from) / 4 = omega arith in
    subst (λ k. is_met met k ≡ true) z g.first
reach-met t met d g u (next {u = v} e r h l) =
    go (g.closed ((v - t.section.from) / 4) (reach-met t met d g v r))
  where
    back : address t ((v - t.section.from) / 4) ≡ v
    back = index-address t d v (reachable-aligned t d v r) (reachable-lies t d v r)

    go : (Contains [] ((v - t.section.from) / 4) ⊎ ⊥) ⊎ IsClosed t met ((v - t.section.from) / 4) →
        is_met met ((e.to - t.section.from) / 4) ≡ true
    go (inl (inl none)) = absurd (omega (arith, none.1))
    go (inl (inr none)) = absurd none
    go (inr done) = done e (subst (λ a. Contains ((graph t).edges a) e) (sym back) h) l

pub gather-end : (t : Tree) (met : List Bool) (todo : List ℕ) → IsDraft t → todo ≡ [] →
    IsGathered t (λ u. ⊥) met todo → IsMet t met
gather-end t met todo d none g = record {
  count = g.count;
  exact = λ k h. (
    g.sound k,
    λ r. subst (λ k. is_met met k ≡ true) (address-index t k)
        (reach-met t met d (subst (λ l. IsGathered t (λ u. ⊥) met l) none g) (address t k) r),
  );
}

-- the targets of a reachable word
pub next-leads : (t : Tree) (k : ℕ) → Reachable (graph t) (address t k) →
    ReachesTarget t (edges_of (word_at t (address t k)) (address t k)).next
next-leads t k r v is l =
    next (record { to = v; lag = e.next_lag }) r (Contains-append_left (edge_to e.next e.next_lag)
    (edge_to e.jump 3) (record { to = v; lag = e.next_lag }) (is-edge e.next e.next_lag v is)) l
  where
    e : Edges
    e = edges_of (word_at t (address t k)) (address t k)

pub jump-leads : (t : Tree) (k : ℕ) → Reachable (graph t) (address t k) →
    ReachesTarget t (edges_of (word_at t (address t k)) (address t k)).jump
jump-leads t k r v is l =
    next (record { to = v; lag = 3 }) r (Contains-append_right (edge_to e.next e.next_lag)
    (edge_to e.jump 3) (record { to = v; lag = 3 }) (is-edge e.jump 3 v is)) l
  where
    e : Edges
    e = edges_of (word_at t (address t k)) (address t k)

pub empty : (todo : List ℕ) → length todo ≡ 0 → todo ≡ []
empty [] h = refl
empty (k ∷ todo) h = absurd (omega arith)
