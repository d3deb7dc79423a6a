-- The powers of the loops from an index on are those of a part.
use Rattle.std.proofs.Common.{◌≡◌, ◌≢◌, ℕ, zero, suc, ◌+◌, ◌<◌, ◌≤◌, ◌⊎◌, [], ◌∷◌, ◌++◌, arith}
use Rattle.std.proofs.Common.{refl, subst, sym, ap, ◌∙◌, inl, inr, length, Some, None, slice_set}
use Rattle.std.proofs.Common.{get_or-set_other, get_or-set_same, length-set, Contains, Box, Global}
use Rattle.std.specs.Option.{option_map}
use Rattle.fp_setup.specs.declared.loop_list.LoopSetup.{LoopSetup}
use Rattle.region_tree.specs.Graph.{Inside, Reachable}
use Rattle.region_tree.specs.Graph.Reachable.{first}
use Rattle.region_tree.specs.Search.{address}
use Rattle.region_tree.specs.Tree.{IsTree, Tree, graph}
use Rattle.region_tree.specs.Walk.{Positions}
use Rattle.region_tree.proofs.GraphLaws.{index-address}
use Rattle.bound_calc.specs.declared.matrix.Matrix.{Matrix}
use Rattle.bound_calc.specs.Best.{IsBest}
use Rattle.bound_calc.specs.Context.{Net, Scope, Walk, body}
use Rattle.bound_calc.specs.Context.Walk.{start, step}
use Rattle.bound_calc.specs.Matrices.{entry}
use Rattle.bound_calc.specs.Propagation.{IsFilled, IsPowers, IsReady, Powers, AreWordCosts}
use Rattle.bound_calc.specs.Propagation.{over, index, power_at, walks, CostsOn}
use Rattle.bound_calc.specs.Section.{IsModest, net, whole}
use Rattle.bound_calc.specs.PathCosts.{Rounds}
use Rattle.bound_calc.proofs.Accepted.{accepted, modest}
use Rattle.bound_calc.proofs.Embed.{body-part, is_or_not, same_head}
use Rattle.bound_calc.proofs.PassLaws.{over-nested}
use Rattle.bound_calc.proofs.Sections.{field-part}

-- a path stays below the end of its part
pub below : {g : Net} {s : Scope} {p n v q c : ℕ} {k : LoopSetup → ℕ} → s.low ≤ s.high →
    Walk g s p n v q c k → v ≤ s.high
below h (start o) = h
below h (step w arc high may f) = high

-- the head of a loop of a tree is the word at its index
pub head-index : (t : Tree) → IsTree t → (j : LoopSetup) → Contains t.loops j →
    address t (index t j.head) ≡ j.head
head-index t is j h =
    let o = (accepted t is).ordered j h in
    index-address t is.draft j.head (is.draft.loops j h).head_aligned
    (record { low = o.0; high = omega arith })

-- for the part of the loop whose head is at index k
powers-body : (t : Tree) (o : Positions) (word_costs : CostsOn) (j : LoopSetup) (k : ℕ)
    (powers : Powers) →
    IsTree t → Contains t.loops j → address t k ≡ j.head →
    IsFilled (over t o word_costs) t (k + 1) powers →
    IsPowers (over t o word_costs) t (body (net (over t o word_costs)) j) powers
powers-body t o word_costs j k powers is known head f = record {
  some =
      λ i inner r.
      f.some i inner.0 (let e = head-index t is i inner.0 in let y = inner.1.0 in omega arith) r;
  only = λ w m lo hi e. let y = f.only w m e in lift w lo hi y.0 y.1;
}
  where
    lift : (w : ℕ) → j.head ≤ address t w → address t w ≤ j.last → k + 1 ≤ w →
        (i : LoopSetup) × Contains t.loops i × (address t w ≡ i.head) × Reachable (graph t)
        (address t w) → (i : LoopSetup) × (Contains t.loops i × Inside j i) × (address t w ≡ i.head)
        × Reachable (graph t) (address t w)
    lift w lo hi up (i, known_i, e, r) =
        go ((accepted t is).nested j i known known_i
        (let y = (accepted t is).ordered i known_i in omega (arith, y.1)) (omega arith))
      where
        go : (j ≡ i) ⊎ (Inside j i ⊎ Inside i j) →
            (i : LoopSetup) × (Contains t.loops i × Inside j i) × (address t w ≡ i.head)
            × Reachable (graph t) (address t w)
        go (inl same) =
            absurd
            (let heads : j.head ≡ i.head = ap (λ (l : LoopSetup). l.head) same in omega arith)
        go (inr (inl inside)) = (i, (known_i, inside), e, r)
        go (inr (inr outside)) = absurd (omega (arith, outside.0))

powers-whole : (t : Tree) (o : Positions) (word_costs : CostsOn) (powers : Powers) →
    IsFilled (over t o word_costs) t 0 powers → IsPowers (over t o word_costs) t (whole (over t o
    word_costs)) powers
powers-whole t o word_costs powers f = record {
  some = λ i known r. f.some i known (omega arith) r;
  only = λ w m lo hi e. (f.only w m e).1;
}

-- a loop's power put at its head
pub filled-more : (t : Tree) (o : Positions) (word_costs : CostsOn) (j : LoopSetup) (k : ℕ)
    (powers : Powers) (b : Box Matrix Global) (m : Matrix) → IsTree t → AreWordCosts o word_costs →
    Contains t.loops j → address t k ≡ j.head → Reachable (graph t) (address t k) →
    k < length t.words → IsFilled (over t o word_costs) t (k + 1) powers →
    b.value ≡ m → IsBest (entry m) (Rounds (net (over t o word_costs)) j j.limit) →
    IsFilled (over t o word_costs) t k (slice_set powers k (Some b))
filled-more t o word_costs j k powers b m is are known head r within f boxed best = record {
  count = length-set powers k (Some b) ∙ f.count;
  some = λ i known_i le ri. some i known_i le ri (is_or_not (index t i.head) k);
  only = λ w n e. only w n e (is_or_not w k);
}
  where
    put : power_at (slice_set powers k (Some b)) k ≡ Some m
    put =
        ap (λ y. option_map (λ (b : Box Matrix Global). b.value) y)
        (get_or-set_same powers k (Some b) None (omega (arith, f.count))) ∙ ap Some boxed

    other : (w : ℕ) → w ≢ k → power_at (slice_set powers k (Some b)) w ≡ power_at powers w
    other w ne =
        ap (λ y. option_map (λ (b : Box Matrix Global). b.value) y)
        (get_or-set_other powers k w (Some b) None ne)

    some : (i : LoopSetup) → Contains t.loops i → k ≤ index t i.head →
        Reachable (graph t) i.head → (index t i.head ≡ k) ⊎ (index t i.head ≢ k) →
        (n : Matrix) × (power_at (slice_set powers k (Some b)) (index t i.head) ≡ Some n)
        × IsBest (entry n) (Rounds (net (over t o word_costs)) i i.limit)
    some i known_i le ri (inl e) =
        let heads : j.head ≡ i.head =
        sym head ∙ (ap (address t) (sym e) ∙ head-index t is i known_i) in
        let nested = over-nested t o word_costs is are in
        let same : j ≡ i = same_head nested j i known known_i heads in (
          m,
          ap (power_at (slice_set powers k (Some b))) e ∙ put,
          subst (λ (i : LoopSetup). IsBest (entry m) (Rounds (net (over t o word_costs)) i
              i.limit)) same
              best,
        )
    some i known_i le ri (inr ne) =
        let y = f.some i known_i (omega arith) ri in (y.0, other (index t i.head) ne ∙ y.1, y.2)

    only : (w : ℕ) (n : Matrix) → power_at (slice_set powers k (Some b)) w ≡ Some n →
        (w ≡ k) ⊎ (w ≢ k) → (k ≤ w) × ((i : LoopSetup) × Contains t.loops i × (address t w ≡ i.head)
        × Reachable (graph t) (address t w))
    only w n e (inl same) = (
      omega arith,
      (
        j,
        known,
        ap (address t) same ∙ head,
        subst (λ w. Reachable (graph t) (address t w)) (sym same) r,
      ),
    )
    only w n e (inr ne) = let y = f.only w n (sym (other w ne) ∙ e) in (omega (arith, y.0), y.1)

-- no loop has its head there
pub filled-same : (t : Tree) (o : Positions) (word_costs : CostsOn) (k : ℕ) (powers : Powers)
    → IsTree t →
    ((j : LoopSetup) → Contains t.loops j → address t k ≡ j.head →
    Reachable (graph t) (address t k) → ⊥) → IsFilled (over t o word_costs) t (k + 1) powers →
    IsFilled (over t o word_costs) t k powers
filled-same t o word_costs k powers is none f = record {
  count = f.count;
  some = λ i known le r. go i known le r (is_or_not (index t i.head) k);
  only = λ w n e. let y = f.only w n e in (omega (arith, y.0), y.1);
}
  where
    go : (i : LoopSetup) → Contains t.loops i → k ≤ index t i.head →
        Reachable (graph t) i.head → (index t i.head ≡ k) ⊎ (index t i.head ≢ k) →
        (n : Matrix) × (power_at powers (index t i.head) ≡ Some n)
        × IsBest (entry n) (Rounds (net (over t o word_costs)) i i.limit)
    go i known le r (inl e) =
        let head : address t k ≡ i.head = ap (address t) (sym e) ∙ head-index t is i known in
        absurd (none i known head (subst (λ v. Reachable (graph t) v) (sym head) r))
    go i known le r (inr ne) = f.some i known (omega arith) r

-- no head of a loop is skipped
pub filled-down : (t : Tree) (o : Positions) (word_costs : CostsOn) (k n : ℕ) (powers : Powers) →
    k < n → ((j : LoopSetup) → Contains t.loops j → j.head < address t n → index t j.head ≤ k) →
    IsFilled (over t o word_costs) t n powers → IsFilled (over t o word_costs) t (k + 1) powers
filled-down t o word_costs k n powers lt next f = record {
  count = f.count;
  some =
      λ j known le r. f.some j known (above j known le
      (let z : (j.head < address t n) ⊎ (address t n ≤ j.head) = grind arith in z)) r;
  only = λ w m e. let y = f.only w m e in (omega (arith, y.0), y.1);
}
  where
    above : (j : LoopSetup) → Contains t.loops j → k + 1 ≤ index t j.head →
        (j.head < address t n) ⊎ (address t n ≤ j.head) → n ≤ index t j.head
    above j known le (inl below) = absurd (let h = next j known below in omega arith)
    above j known le (inr up) = omega arith

-- a tree whose frame has at most eight slots
pub modest-over : (t : Tree) (o : Positions) → IsTree t → length o.frame ≤ 8 → IsModest (walks t o)
modest-over t o is frame = let m = modest t 0 0 is in record {
  frame = frame;
  lags = m.lags;
  bounds = m.bounds;
  depths = m.depths;
  end = m.end;
  order = m.order;
}

pub ready-body : (t : Tree) (o : Positions) (word_costs : CostsOn) (j : LoopSetup) (k : ℕ)
    (powers : Powers) → IsTree t → AreWordCosts o word_costs → Contains t.loops j →
    address t k ≡ j.head →
    Reachable (graph t) (address t k) → IsFilled (over t o word_costs) t (k + 1) powers →
    IsReady (over t o word_costs) t (body (net (over t o word_costs)) j) powers
ready-body t o word_costs j k powers is are known head r f =
    let a = accepted t is in
    let l = a.ordered j known in
    record {
      nested = over-nested t o word_costs is are;
      part = body-part (over-nested t o word_costs is are) j known;
      reached = subst (λ v. Reachable (graph t) v) head r;
      rounds = powers-body t o word_costs j k powers is known head f;
      count = f.count;
    }

pub ready-whole : (t : Tree) (o : Positions) (word_costs : CostsOn) (powers : Powers) →
    IsTree t → AreWordCosts o word_costs → IsFilled (over t o word_costs) t 0 powers →
    IsReady (over t o word_costs) t (whole (over t o word_costs)) powers
ready-whole t o word_costs powers is are f =
    let a = accepted t is in
    let order = is.draft.section.order in
    record {
      nested = over-nested t o word_costs is are;
      part = field-part (over t o word_costs) a;
      reached = first;
      rounds = powers-whole t o word_costs powers f;
      count = f.count;
    }

-- no loop's head is past the last word
pub filled-none : (t : Tree) (o : Positions) (word_costs : CostsOn) (powers : Powers) →
    IsTree t → length powers ≡ length t.words → ((k : ℕ) → power_at powers k ≡ None) →
    IsFilled (over t o word_costs) t (length t.words) powers
filled-none t o word_costs powers is count none = record {
  count = count;
  some =
      λ j known le r. let l = (accepted t is).ordered j known in
      let w = is.draft.words in
      let e = head-index t is j known in absurd (omega (arith, l.1, l.2));
  only = λ k m e. let z : None ≡ Some m = sym (none k) ∙ e in cc;
}

-- no power at one more index
pub none-more : (powers : Powers) → ((k : ℕ) → power_at powers k ≡ None) → (k : ℕ) →
    power_at (powers ++ None ∷ []) k ≡ None
none-more [] none zero = refl
none-more [] none (suc k) = refl
none-more (p ∷ powers) none zero = none 0
none-more (p ∷ powers) none (suc k) = none-more powers (λ j. none (suc j)) k
