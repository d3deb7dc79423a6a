-- Loops that lie in at most three others are shallow, and a step costs at most 10. So each cost is
-- bounded.
use Rattle.std.proofs.Common.{◌≡◌, ℕ, zero, suc, ◌+◌, ◌-◌, ◌*◌, ◌%◌, ◌^◌, ◌<◌}
use Rattle.std.proofs.Common.{◌≤◌, ◌⊎◌, refl, arith, inl, inr, ap, subst, sym, ◌∙◌}
use Rattle.std.proofs.Common.{Contains, List, [], ◌∷◌, length, Bool, true, false, cond}
use Rattle.std.proofs.Math.Nat.{mul-le-mul_right, add-mod_right}
use Rattle.std.proofs.lemmas.Bool.Decides.{nat_tests}
use Rattle.std.specs.Prelude.{count_by}
use Rattle.std.proofs.lemmas.List.Recursion.{is_count_by}
use Rattle.bound_calc.proofs.BestLaws.{same}
use Rattle.bound_calc.proofs.Embed.{body-part}
use Rattle.bound_calc.proofs.Limits.{IsSmall, limit, rounds_cost}
use Rattle.bound_calc.proofs.Outermost.{cons-cases, outer-body, outer-whole}
use Rattle.bound_calc.proofs.Sections.{net-nested, whole-part}
use Rattle.bound_calc.specs.Context.{body}
use Rattle.bound_calc.specs.Limit.{Shallow, room}
use Rattle.bound_calc.specs.Section.{IsAccepted, IsModest, field, net, whole}
use Rattle.bound_calc.specs.PathCosts.{Reaches, Round, Rounds}
use Rattle.fp_setup.specs.declared.loop_list.LoopSetup.{LoopSetup}
use Rattle.region_tree.specs.Graph.{Inside}
use Rattle.region_tree.specs.Nesting.{around, depth}
use Rattle.region_tree.specs.Walk.{Course, IsOwn, IsNextTurn, Positions}

-- the number of loops that pass a test
abbrev pub passing : (LoopSetup → Bool) → List LoopSetup → ℕ
passing p [] = 0
passing p (j ∷ js) = cond (p j) 1 0 + passing p js

-- a test that holds more often has a larger count
count-≤ : (p q : LoopSetup → Bool) → ((x : LoopSetup) → p x ≡ true → q x ≡ true) →
    (xs : List LoopSetup) → passing p xs ≤ passing q xs
count-≤ p q h [] = omega arith
count-≤ p q h (y ∷ ys) = go (p y) (q y) refl refl (count-≤ p q h ys)
  where
    go : (a b : Bool) → p y ≡ a → q y ≡ b → passing p ys ≤ passing q ys →
        cond a 1 0 + passing p ys ≤ cond b 1 0 + passing q ys
    go true true e f le = omega arith
    go true false e f le = absurd (let z : q y ≡ true = h y e in cc)
    go false true e f le = omega arith
    go false false e f le = omega arith

count-< : (p q : LoopSetup → Bool) → ((x : LoopSetup) → p x ≡ true → q x ≡ true) →
    (xs : List LoopSetup) (x : LoopSetup) → Contains xs x → p x ≡ false → q x ≡ true →
    passing p xs < passing q xs
count-< p q h [] x known np qx = absurd (omega (arith, known.1))
count-< p q h (y ∷ ys) x known np qx =
    go (p y) (q y) refl refl (cons-cases y ys x known) (λ rest. count-< p q h ys x rest np qx)
    (count-≤ p q h ys)
  where
    go : (a b : Bool) → p y ≡ a → q y ≡ b → (y ≡ x) ⊎ Contains ys x →
        (Contains ys x → passing p ys < passing q ys) → passing p ys ≤ passing q ys →
        cond a 1 0 + passing p ys < cond b 1 0 + passing q ys
    go true b e f (inl same) before le = absurd (let z : p y ≡ false = ap p same ∙ np in cc)
    go false false e f (inl same) before le = absurd (let z : q y ≡ true = ap q same ∙ qx in cc)
    go false true e f (inl same) before le = omega arith
    go true true e f (inr rest) before le = let z = before rest in omega arith
    go true false e f (inr rest) before le = absurd (let z : q y ≡ true = h y e in cc)
    go false true e f (inr rest) before le = let z = before rest in omega arith
    go false false e f (inr rest) before le = let z = before rest in omega arith

passing-count : (p : LoopSetup → Bool) (xs : List LoopSetup) → passing p xs ≡ count_by p xs
passing-count p xs = is_count_by (passing p) p refl (λ x ys. go (p x) ys) xs
  where
    go : (b : Bool) (ys : List LoopSetup) →
        cond b 1 0 + passing p ys ≡ cond b (1 + passing p ys) (passing p ys)
    go true ys = refl
    go false ys = omega arith

-- a loop inside another lies deeper
deeper : (loops : List LoopSetup) (j i : LoopSetup) → Contains loops i → Inside j i →
    i.head ≤ i.last → depth loops j < depth loops i
deeper loops j i known inside order =
    let less : passing (around j) loops < passing (around i) loops =
    count-< (around j) (around i) (λ x h. grind (arith, nat_tests)) loops i known
    (grind (arith, nat_tests)) (grind (arith, nat_tests)) in
    omega (arith, passing-count (around j) loops, passing-count (around i) loops)

-- each loop holds itself
not-outside : (loops : List LoopSetup) (j : LoopSetup) → Contains loops j → 1 ≤ depth loops j
not-outside loops j known =
    let none : (xs : List LoopSetup) → passing (λ x. false) xs ≡ 0 = zeros in
    let less : passing (λ x. false) loops < passing (around j) loops =
    count-< (λ x. false) (around j) (λ x h. cc) loops j known refl (grind (arith, nat_tests)) in
    omega (arith, passing-count (around j) loops)
  where
    zeros : (xs : List LoopSetup) → passing (λ x. false) xs ≡ 0
    zeros [] = refl
    zeros (x ∷ xs) = omega (arith, zeros xs)

pub shallow-body : (x : Course) (h : ℕ) (j : LoopSetup) → IsAccepted x.graph →
    ((i : LoopSetup) → Contains x.graph.loops i → depth x.graph.loops i ≤ 4) →
    Contains x.graph.loops j → 4 ≤ depth x.graph.loops j + h →
    Shallow h (net (field x)) (body (net (field x)) j)
shallow-body x zero j a few known deep =
    λ i inner. let z = deeper x.graph.loops j i inner.0 inner.1 (a.ordered i inner.0).1 in
    let w = few i inner.0 in absurd (omega arith)
shallow-body x (suc h) j a few known deep =
    λ i inner. let z = deeper x.graph.loops j i inner.0 inner.1 (a.ordered i inner.0).1 in
    shallow-body x h i a few inner.0 (omega arith)

pub shallow-whole : (x : Course) → IsAccepted x.graph →
    ((i : LoopSetup) → Contains x.graph.loops i → depth x.graph.loops i ≤ 4) →
    Shallow 4 (net (field x)) (whole (field x))
shallow-whole x a few =
    λ j known.
    shallow-body x 3 j a few known (let z = not-outside x.graph.loops j known in omega arith)

-- the longest step
pub step-short : (s : Positions) (lag p d q : ℕ) → lag ≤ 3 → length s.frame ≤ 8 →
    IsNextTurn s lag p d q → d ≤ 10
step-short s lag p d q small len t =
    go (let z : (d ≤ 10) ⊎ (lag + length s.frame ≤ d) = grind arith in z)
  where
    go : (d ≤ 10) ⊎ (lag + length s.frame ≤ d) → d ≤ 10
    go (inl le) = le
    go (inr far) =
        let back : (p + (d - length s.frame)) + length s.frame ≡ p + d = omega arith in
        let mods : (p + (d - length s.frame)) % length s.frame ≡ (p + d) % length s.frame =
        sym (add-mod_right (p + (d - length s.frame)) (length s.frame))
        ∙ ap (λ n. n % length s.frame) back in
        let own : IsOwn s ((p + (d - length s.frame)) % length s.frame) =
        subst (λ n. IsOwn s n) (t.lands ∙ sym mods) t.own in
        let w = t.own.within in
        absurd (t.first (d - length s.frame) (omega arith) (omega arith) own)

net-small : (x : Course) → IsModest x → IsSmall (net (field x)) 1048576
net-small x m = record {
  steps =
      λ {u} {p} {d} {v} {q} arc. step-short x.positions arc.lag p d q
      (m.lags u (record { to = v; lag = arc.lag }) arc.edge) m.frame arc.move;
  bounds = m.bounds;
  outer = λ j h v. outer-body x j v;
}

pub limit-whole : (x : Course) → IsAccepted x.graph → IsModest x → (p c q v : ℕ) →
    Reaches (net (field x)) (whole (field x)) v p c q → v < x.graph.to → c < 2 ^ 110
limit-whole x a m p c q v r lt =
    let z : c + 10 ≤ 10 * (room 1048576 4 * (x.graph.to - x.graph.from)) =
    limit 1048576 4 (whole (field x)) (net-nested x a) (net-small x m)
    (whole-part x a) (outer-whole x) (shallow-whole x a m.depths) p c q v r
    (omega (arith, m.order)) (x.graph.to - x.graph.from) (omega (arith, m.order)) in
    omega (arith, m.end)

limit-part : (x : Course) (j : LoopSetup) → IsAccepted x.graph →
    IsModest x → Contains x.graph.loops j → (p c q v : ℕ) →
    Reaches (net (field x)) (body (net (field x)) j) v p c q → v ≤ j.last →
    c + 10 ≤ 10 * (room 1048576 3 * ((j.last + 1) - j.head))
limit-part x j a m known p c q v r le =
    let o = a.ordered j known in
    limit 1048576 3 (body (net (field x)) j) (net-nested x a)
    (net-small x m) (body-part (net-nested x a) j known) (outer-body x j)
    (shallow-body x 3 j a m.depths known (let z = not-outside x.graph.loops j known in omega arith))
    p c q v r le ((j.last + 1) - j.head) (omega arith)

pub limit-body : (x : Course) (j : LoopSetup) → IsAccepted x.graph →
    IsModest x → Contains x.graph.loops j → (p c q v : ℕ) →
    Reaches (net (field x)) (body (net (field x)) j) v p c q → v ≤ j.last → c < 2 ^ 110
limit-body x j a m known p c q v r le =
    let z = limit-part x j a m known p c q v r le in
    let o = a.ordered j known in omega (arith, m.end)

pub limit-rounds : (x : Course) (j : LoopSetup) → IsAccepted x.graph →
    IsModest x → Contains x.graph.loops j → (n : ℕ) → n ≤ j.limit → (p c q : ℕ) →
    Rounds (net (field x)) j n p c q → c < 2 ^ 110
limit-rounds x j a m known n le p c q r =
    let o = a.ordered j known in
    let size : (j.last + 1) - j.head ≤ 65536 = omega (arith, m.end) in
    let b : j.limit ≤ 1048576 = m.bounds j known in
    let z : c ≤ n * (10 * (room 1048576 3 * ((j.last + 1) - j.head))) =
    rounds_cost (IsOwn x.positions) (Round (net (field x)) j)
    (10 * (room 1048576 3 * ((j.last + 1) - j.head)))
    (λ p c q w. let y = limit-part x j a m known p w.one w.at w.from w.walk w.held.1 in
    let d : w.two ≤ 10 = (net-small x m).steps w.arc in omega (arith, w.cost)) n p c q r in
    let k : n * (10 * (room 1048576 3 * ((j.last + 1) - j.head)))
    ≤ 1048576 * (10 * (room 1048576 3 * ((j.last + 1) - j.head))) =
    mul-le-mul_right (10 * (room 1048576 3 * ((j.last + 1) - j.head))) (omega arith) in
    omega arith
