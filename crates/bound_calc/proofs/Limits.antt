-- An upper bound on the cost of a path of a shallow part.
use Rattle.std.proofs.Common.{◌≡◌, ℕ, zero, suc, ◌+◌, ◌-◌, ◌*◌, ◌<◌, ◌≤◌}
use Rattle.std.proofs.Common.{◌⊎◌, refl, arith, inl, inr, ap, subst, sym}
use Rattle.std.proofs.Math.Nat.{mul-le-mul_left, mul-le-mul_right}
use Rattle.bound_calc.proofs.BestLaws.{same}
use Rattle.bound_calc.proofs.Counters.{above, kept}
use Rattle.bound_calc.proofs.Embed.{body-part}
use Rattle.bound_calc.proofs.Heads.{at_head}
use Rattle.bound_calc.proofs.Split.{Split, split}
use Rattle.bound_calc.specs.Best.{Costs, Either, Power, Stays, Then}
use Rattle.bound_calc.specs.Context.{IsNested, IsScope, May, Net, Scope, Walk, body}
use Rattle.bound_calc.specs.Limit.{Shallow, room}
use Rattle.bound_calc.specs.PathCosts.{Enters, Reaches, Round, Rounds}
use Rattle.fp_setup.specs.declared.loop_list.LoopSetup.{LoopSetup}
use Rattle.region_tree.specs.Graph.{Holds, Inside}
use Rattle.region_tree.specs.Nesting.{around}
use Rattle.bound_calc.specs.Context.Walk.{start, step}

-- a word's outermost loop, if it has one
abbrev pub Outer : Scope → ℕ → Type 0
Outer s v =
    ((j : LoopSetup) → s.loops j → Holds j v → ⊥)
    ⊎ ((j : LoopSetup) × s.loops j × Holds j v × ((i : LoopSetup) → s.loops i → Inside i j → ⊥))

pub record IsSmall (g : Net) (b : ℕ) : Type 0 where
  pub steps : {u p d v q : ℕ} → g.arc u p d v q → d ≤ 10
  pub bounds : (j : LoopSetup) → g.loop j → j.limit ≤ b
  pub outer : (j : LoopSetup) → g.loop j → (v : ℕ) → Outer (body g j) v

pub rounds_cost : (own : ℕ → Type 0) (f : Costs) (most : ℕ) → ((p c q : ℕ) → f p c q → c ≤ most) →
    (n p c q : ℕ) → Power own (Either (Stays own) f) n p c q → c ≤ n * most
rounds_cost own f most h zero p c q x = omega (arith, x.2)
rounds_cost own f most h (suc n) p c q x =
    go (rounds_cost own f most h n p x.one x.at x.first) x.second
  where
    go : x.one ≤ n * most → Either (Stays own) f x.at x.two q → c ≤ suc n * most
    go y (inl stays) = omega (arith, x.cost, stays.2)
    go y (inr z) = let w : x.two ≤ most = h x.at x.two q z in omega (arith, x.cost)

-- the products of the two cases
plain_sum : (r t t' c d : ℕ) → 1 ≤ r → t' + 1 ≤ t → c + 10 ≤ 10 * (r * t') → d ≤ 10 →
    (c + d) + 10 ≤ 10 * (r * t)
plain_sum r t t' c d one le h d10 =
    let x : r * (t' + 1) ≤ r * t = mul-le-mul_left r le in omega arith

loop_sum : (r b t t1 m k e rounds rest : ℕ) → e ≤ 10 * ((r * (b + 1)) * t1) →
    rounds ≤ k * (10 * (r * m)) → rest + 10 ≤ 10 * (r * m) → k ≤ b → t1 + m ≤ t →
    ((e + rounds) + rest) + 10 ≤ 10 * ((r * (b + 1)) * t)
loop_sum r b t t1 m k e rounds rest h1 h2 h3 le sizes =
    let x : (r * (b + 1)) * (t1 + m) ≤ (r * (b + 1)) * t = mul-le-mul_left (r * (b + 1)) sizes in
    let y : k * (r * m) ≤ b * (r * m) = mul-le-mul_right (r * m) le in
    omega arith

room_pos : (b h : ℕ) → 1 ≤ room b h
room_pos b zero = omega arith
room_pos b (suc h) =
    let x = room_pos b h in
    let y : room b h * 1 ≤ room b h * (b + 1) =
    mul-le-mul_left (room b h) (omega arith) in omega arith

-- paths to words v below fuel, where the loops that hold v end at or below z
abbrev pub AllBelow : Net → Scope → ℕ → ℕ → ℕ → Type 0
AllBelow g s p r fuel =
    (n v q c : ℕ) (k : LoopSetup → ℕ) → Walk g s p n v q c k → v < fuel → (z t : ℕ) →
    v ≤ z → ((j : LoopSetup) → s.loops j → Holds j v → j.last ≤ z) → s.low + t ≡ z + 1 →
    c + 10 ≤ 10 * (r * t)

-- to a word in no loop
plain_limit : {g : Net} {s : Scope} {p : ℕ} (b r fuel : ℕ) → 1 ≤ r → IsNested g → IsSmall g b →
    IsScope g s → AllBelow g s p r fuel → {n v q c : ℕ} {k : LoopSetup → ℕ} → Walk g s p n v q c k →
    v < suc fuel → ((j : LoopSetup) → s.loops j → Holds j v → ⊥) → (z t : ℕ) → v ≤ z →
    s.low + t ≡ z + 1 → c + 10 ≤ 10 * (r * t)
plain_limit b r fuel one nest small part before (start o) few none z t le size =
    let x : r * 1 ≤ r * t = mul-le-mul_left r (omega arith) in omega arith
plain_limit {g} {s} {p} b r fuel one nest small part before
    (step {n} {u} {q} {c} {d} {v} {r = r'} {k} w a high may f) few none z t le size = go may
  where
    ends : u < v → (j : LoopSetup) → s.loops j → Holds j u → j.last ≤ v - 1
    ends up j known held = go (let x : (v ≤ j.last) ⊎ (j.last ≤ v - 1) = grind arith in x)
      where
        go : (v ≤ j.last) ⊎ (j.last ≤ v - 1) → j.last ≤ v - 1
        go (inl over) = absurd (none j known (omega arith, over))
        go (inr under) = under

    go : May s u v → (c + d) + 10 ≤ 10 * (r * t)
    go (inl up) =
        let low : s.low ≤ u = above part w in
        let x : c + 10 ≤ 10 * (r * (v - s.low)) = before n u q c k w (omega arith)
        (v - 1) (v - s.low) (omega arith) (ends up) (omega arith) in
        plain_sum r t (v - s.low) c d one (omega arith) x (small.steps a)
    go (inr (j, known, e, held)) =
        absurd (none j known (let o : j.head ≤ j.last = nest.ordered j (part.known j known) in
        (omega arith, omega arith)))

-- the costs from below at the head of an outermost loop
enter_limit : {g : Net} {s : Scope} {p : ℕ} (b r fuel : ℕ) (j : LoopSetup) →
    IsNested g → IsSmall g b → IsScope g s → s.loops j → AllBelow g s p r fuel →
    ((i : LoopSetup) → s.loops i → Inside i j → ⊥) → j.head < suc fuel → {c q : ℕ} →
    Enters g s j.head p c q → (t : ℕ) → s.low + t ≡ j.head → 1 ≤ r → c ≤ 10 * (r * t)
enter_limit b r fuel j nest small part known before out few (inl (e, stays)) t size one =
    omega (arith, stays.2)
enter_limit {g} {s} {p} b r fuel j nest small part known before out few {c} {q} (inr e) t size one =
    let low : s.low ≤ e.from = above part e.walk.walk in
    let x : e.one + 10 ≤ 10 * (r * t) =
    before e.walk.steps e.from e.at e.one e.walk.counters e.walk.walk (omega (arith, e.up))
    (j.head - 1) t (omega (arith, e.up)) ends (omega (arith, e.up)) in
    let y : e.two ≤ 10 = small.steps e.arc in
    omega (arith, e.cost)
  where
    ends : (i : LoopSetup) → s.loops i → Holds i e.from → i.last ≤ j.head - 1
    ends i known_i held = go (let x : (j.head ≤ i.last) ⊎ (i.last ≤ j.head - 1) = grind arith in x)
      where
        apart : i.head ≤ j.last → j.head ≤ i.last → (i ≡ j) ⊎ (Inside i j ⊎ Inside j i) → ⊥
        apart a b (inl same) =
            let heads : i.head ≡ j.head = ap (λ l. l.head) same in omega (arith, e.up)
        apart a b (inr (inl around)) = out i known_i around
        apart a b (inr (inr within)) = omega (arith, e.up)

        go : (j.head ≤ i.last) ⊎ (i.last ≤ j.head - 1) → i.last ≤ j.head - 1
        go (inl over) =
            let o : j.head ≤ j.last = nest.ordered j (part.known j known) in
            let a : i.head ≤ j.last = omega (arith, e.up) in
            absurd
            (apart a over (nest.nested i j (part.known i known_i) (part.known j known) a over))
        go (inr under) = under

-- to a word of an outermost loop
loop_limit : {g : Net} {s : Scope} {p : ℕ} (b r fuel : ℕ) (j : LoopSetup) →
    1 ≤ r * (b + 1) → IsNested g → IsSmall g b → IsScope g s → s.loops j →
    AllBelow g s p (r * (b + 1)) fuel → ((i : LoopSetup) → s.loops i → Inside i j → ⊥) →
    ((p c q v : ℕ) → Reaches g (body g j) v p c q → v ≤ j.last →
    (m : ℕ) → j.head + m ≡ j.last + 1 → c + 10 ≤ 10 * (r * m)) →
    {n v q c : ℕ} {k : LoopSetup → ℕ} → Walk g s p n v q c k → v < suc fuel → Holds j v →
    (z t : ℕ) → j.last ≤ z → s.low + t ≡ z + 1 → c + 10 ≤ 10 * ((r * (b + 1)) * t)
loop_limit {g} {s} {p} b r fuel j one nest small part known before out bodies
    {n} {v} {q} {c} {k} w few held z t le size =
    let x : Split g s j p n v q c k = split j nest part known w held in
    let y : Then (Enters g s j.head) (Rounds g j (x.counters_1 j)) p x.cost_1 x.at =
    at_head (x.steps_1 + 1) j nest part known x.first refl (omega arith) in
    let low : s.low ≤ j.head = (part.within j known).0 in
    let o : j.head ≤ j.last = nest.ordered j (part.known j known) in
    let m : ℕ = (j.last + 1) - j.head in
    let t1 : ℕ = j.head - s.low in
    let e1 : y.one ≤ 10 * ((r * (b + 1)) * t1) = enter_limit b (r * (b + 1)) fuel j
    nest small part known before out (omega arith) y.first t1 (omega arith) one in
    let e2 : y.two ≤ (x.counters_1 j) * (10 * (r * m)) =
    rounds_cost g.own (Round g j) (10 * (r * m)) rounds (x.counters_1 j) y.at y.two x.at y.second in
    let e3 : x.cost_2 + 10 ≤ 10 * (r * m) = bodies x.at x.cost_2 q v
    (record { steps = x.steps_2; counters = x.counters_2; walk = x.rest }) held.1 m (omega arith) in
    let e4 : x.counters_1 j ≤ b =
    (let f = kept x.first j known in let f' = small.bounds j (part.known j known) in omega arith) in
    let e5 : ((y.one + y.two) + x.cost_2) + 10 ≤ 10 * ((r * (b + 1)) * t) =
    loop_sum r b t t1 m (x.counters_1 j) y.one y.two x.cost_2 e1 e2 e3 e4 (omega arith) in
    omega (arith, x.cost, y.cost)
  where
    rounds : (p c q : ℕ) → Round g j p c q → c ≤ 10 * (r * ((j.last + 1) - j.head))
    rounds p c q z =
        let a : z.one + 10 ≤ 10 * (r * ((j.last + 1) - j.head)) =
        bodies p z.one z.at z.from z.walk z.held.1 ((j.last + 1) - j.head)
        (let o : j.head ≤ j.last = nest.ordered j (part.known j known) in omega arith) in
        let d : z.two ≤ 10 = small.steps z.arc in
        omega (arith, z.cost)

all_below : {g : Net} {s : Scope} {p : ℕ} (b h fuel : ℕ) →
    IsNested g → IsSmall g b → IsScope g s → ((v : ℕ) → Outer s v) →
    ((j : LoopSetup) → s.loops j → (r : ℕ) × (room b h ≡ r * (b + 1)) × ((p c q v : ℕ) → Reaches g
    (body g j) v p c q → v ≤ j.last → (m : ℕ) → j.head + m ≡ j.last + 1 → c + 10 ≤ 10 * (r * m))) →
    AllBelow g s p (room b h) fuel
all_below b h zero nest small part outer bodies n v q c k w few z t le ends size =
    absurd (omega arith)
all_below {g} {s} {p} b h (suc fuel) nest small part outer bodies n v q c k w few z t le ends size =
    go (all_below b h fuel nest small part outer bodies) (outer v)
  where
    go : AllBelow g s p (room b h) fuel → Outer s v → c + 10 ≤ 10 * (room b h * t)
    go before (inl none) =
        plain_limit b (room b h) fuel (room_pos b h) nest small part before w few none z t le size
    go before (inr (j, known, held, out)) =
        let x = bodies j known in
        let e = x.1 in
        let y : c + 10 ≤ 10 * ((x.0 * (b + 1)) * t) =
        loop_limit b x.0 fuel j (subst (λ r. 1 ≤ r) e (room_pos b h)) nest small part known
        (subst (λ r. AllBelow g s p r fuel) e before) out x.2 w few held z t
        (ends j known held) size in
        subst (λ r. c + 10 ≤ 10 * (r * t)) (sym e) y

-- the costs at a word of a part of height h
pub limit : {g : Net} (b h : ℕ) (s : Scope) → IsNested g → IsSmall g b → IsScope g s →
    ((v : ℕ) → Outer s v) → Shallow h g s → (p c q v : ℕ) → Reaches g s v p c q → v ≤ s.high →
    (t : ℕ) → s.low + t ≡ s.high + 1 → c + 10 ≤ 10 * (room b h * t)
limit b zero s nest small part outer flat p c q v x le t size =
    all_below b zero (v + 1) nest small part outer (λ j known. absurd (flat j known)) x.steps v q c
    x.counters x.walk (omega arith) s.high t le (λ j known held. (part.within j known).1) size
limit {g} b (suc h) s nest small part outer flat p c q v x le t size =
    all_below b (suc h) (v + 1) nest small part outer
    (λ j known. (
      room b h,
      refl,
      λ p c q v y le m size. limit b h (body g j) nest small (body-part nest j (part.known j known))
          (small.outer j (part.known j known)) (flat j known) p c q v y le m size,
    ))
    x.steps v q c x.counters x.walk (omega arith) s.high t le
    (λ j known held. (part.within j known).1) size
