-- A thread's turns, and the steps between them.
use Rattle.std.proofs.Common.{◌≡◌, ◌≢◌, ℕ, zero, suc, ◌+◌, ◌*◌, ◌%◌, ◌<◌, ◌≤◌, ◌⊎◌, ◌↔◌}
use Rattle.std.proofs.Common.{◌==◌, nat_lt, refl, arith, subst, sym, ap, ◌∙◌, inl, inr}
use Rattle.std.proofs.Common.{List, [], ◌∷◌, length, Option, Some, None, slice_index}
use Rattle.std.proofs.Common.{slice_index_or, slice_set, replicate, get_or-set_other}
use Rattle.std.proofs.Common.{get_or-set_same, Bool, true, false, if◌then◌else◌}
use Rattle.std.proofs.Math.Nat.{add-mul-mod_self_right, mod-eq_of_lt, mul-le-mul_right}
use Rattle.std.proofs.lemmas.List.{get_or_default, get_or_past}
use Rattle.std.proofs.lemmas.Bool.Decides.{nat_tests}
use Rattle.slot_table.specs.declared.frame.Turn.TheVariants.{Thread, Soft, Nobody}
use Rattle.slot_table.specs.Frame.{frame, turn, turn_in, turn_of_slot}
use Rattle.region_tree.specs.Walk.{Positions, IsOwn, IsNextTurn}
use Rattle.bound_calc.specs.declared.matrix.Matrix.{Matrix}
use Rattle.bound_calc.specs.declared.hop.Hop.{Hop}
use Rattle.bound_calc.specs.Best.{Covers, Among, IsBest, Stays, ceiling}
use Rattle.bound_calc.specs.Bound.{positions}
use Rattle.bound_calc.specs.declared.hop.HopRow.{HopRow}
use Rattle.bound_calc.specs.Hops.{Hops, IsHops, no_hops}
use Rattle.bound_calc.specs.Matrices.{cell, entry}
use Rattle.bound_calc.proofs.Embed.{is_or_not}
use Rattle.bound_calc.proofs.Entries.{min-under, entry-range, entry-in}

-- the thread of a slot
slot-thread : (x n : ℕ) → turn_of_slot x ≡ Thread n → x ≡ n
slot-thread x n e = go (nat_lt x 8) refl e
  where
    go : (b : Bool) → nat_lt x 8 ≡ b → (if b then Thread x else Soft) ≡ Thread n → x ≡ n
    go true h e = cc
    go false h e = cc

slot-soft : (x : ℕ) → turn_of_slot x ≡ Soft → 8 ≤ x
slot-soft x e = go (nat_lt x 8) refl e
  where
    go : (b : Bool) → nat_lt x 8 ≡ b → (if b then Thread x else Soft) ≡ Soft → 8 ≤ x
    go true h e = cc
    go false h e = grind (arith, nat_tests)

slot-nobody : (x : ℕ) → turn_of_slot x ≡ Nobody → ⊥
slot-nobody x e = go (nat_lt x 8) refl e
  where
    go : (b : Bool) → nat_lt x 8 ≡ b → (if b then Thread x else Soft) ≡ Nobody → ⊥
    go true h e = cc
    go false h e = cc

-- the slot of a cycle
at-slot : (f : List ℕ) (c : ℕ) → c % length f < length f →
    slice_index_or f (c % length f) 14 ≡ slice_index f (c % length f)
at-slot f c h = get_or_default f (c % length f) 14 0 h

own-in : (f : List ℕ) (c n thread : ℕ) → turn_in f c ≡ Thread n →
    (n ≡ thread) ↔ IsOwn (record { frame = f; thread = thread }) (c % length f)
own-in [] c n thread e = cc
own-in (s ∷ ss) c n thread e =
    let lt : c % length (s ∷ ss) < length (s ∷ ss) = omega arith in
    let is : slice_index_or (s ∷ ss) (c % length (s ∷ ss)) 14 ≡ n =
    slot-thread (slice_index_or (s ∷ ss) (c % length (s ∷ ss)) 14) n e in
    let at : slice_index (s ∷ ss) (c % length (s ∷ ss)) ≡ n = sym (at-slot (s ∷ ss) c lt) ∙ is in
    ((λ same. record { within = lt; own = at ∙ same }), (λ o. sym at ∙ o.own))

soft-in : (f : List ℕ) (c thread : ℕ) → thread < 8 → turn_in f c ≡ Soft →
    IsOwn (record { frame = f; thread = thread }) (c % length f) → ⊥
soft-in [] c thread h e o = cc
soft-in (s ∷ ss) c thread h e o =
    let lt : c % length (s ∷ ss) < length (s ∷ ss) = omega arith in
    let is : 8 ≤ slice_index_or (s ∷ ss) (c % length (s ∷ ss)) 14 =
    slot-soft (slice_index_or (s ∷ ss) (c % length (s ∷ ss)) 14) e in
    let own : slice_index (s ∷ ss) (c % length (s ∷ ss)) ≡ thread = o.own in
    let at : slice_index_or (s ∷ ss) (c % length (s ∷ ss)) 14
    ≡ slice_index (s ∷ ss) (c % length (s ∷ ss)) = at-slot (s ∷ ss) c lt in
    omega arith

nobody-in : (f : List ℕ) (c thread : ℕ) → turn_in f c ≡ Nobody →
    IsOwn (record { frame = f; thread = thread }) (c % length f) → ⊥
nobody-in [] c thread e o = let w = o.within in omega arith
nobody-in (s ∷ ss) c thread e o = slot-nobody (slice_index_or (s ∷ ss) (c % length (s ∷ ss)) 14) e

pub own-thread : (slots c n thread : ℕ) → turn slots c ≡ Thread n →
    (n ≡ thread) ↔ IsOwn (positions slots thread) (c % length (frame slots))
unfolding turn
own-thread slots c n thread e = own-in (frame slots) c n thread e

pub own-soft : (slots c thread : ℕ) → thread < 8 → turn slots c ≡ Soft →
    IsOwn (positions slots thread) (c % length (frame slots)) → ⊥
unfolding turn
own-soft slots c thread h e o = soft-in (frame slots) c thread h e o

pub own-nobody : (slots c thread : ℕ) → turn slots c ≡ Nobody →
    IsOwn (positions slots thread) (c % length (frame slots)) → ⊥
unfolding turn
own-nobody slots c thread e o = nobody-in (frame slots) c thread e o

pub own-test : (n thread : ℕ) (P : Type 0) → (n ≡ thread) ↔ P → ((n == thread) ≡ true) ↔ P
own-test n thread P k = (
  (λ h. k.0 (let e : n ≡ thread = grind (arith, nat_tests) in e)),
  (λ p. let e : n ≡ thread = k.1 p in grind (arith, nat_tests)),
)

pub own-neither : (slots c thread : ℕ) → thread < 8 →
    (turn slots c ≡ Soft) ⊎ (turn slots c ≡ Nobody) →
    IsOwn (positions slots thread) (c % length (frame slots)) → ⊥
own-neither slots c thread h (inl e) = own-soft slots c thread h e
own-neither slots c thread h (inr e) = own-nobody slots c thread e

-- a position is its own remainder
pub own-position : (s : Positions) (p : ℕ) → p < length s.frame →
    IsOwn s (p % length s.frame) → IsOwn s p
own-position s p h o = subst (λ n. IsOwn s n) (mod-eq_of_lt h) o

pub position-own : (s : Positions) (p : ℕ) → IsOwn s p → IsOwn s (p % length s.frame)
position-own s p o = subst (λ n. IsOwn s n) (sym (mod-eq_of_lt o.within)) o

-- whole frames later the thread has a turn again
pub not_yet : (s : Positions) (p lag d : ℕ) → IsOwn s p → d ≤ lag * length s.frame →
    (IsOwn s ((p + d) % length s.frame) → ⊥) → d < lag * length s.frame
not_yet s p lag d o le none =
    go (let z : (d ≡ lag * length s.frame) ⊎ (d < lag * length s.frame) = grind arith in z)
  where
    go : (d ≡ lag * length s.frame) ⊎ (d < lag * length s.frame) → d < lag * length s.frame
    go (inr lt) = lt
    go (inl same) =
        let back : (p + d) % length s.frame ≡ p =
        (ap (λ n. (p + n) % length s.frame) same ∙ add-mul-mod_self_right p lag (length s.frame))
        ∙ mod-eq_of_lt o.within in
        absurd (none (subst (λ n. IsOwn s n) (sym back) o))

-- the next turn is unique
pub same_step : (s : Positions) (lag p d e q r : ℕ) → IsNextTurn s lag p d q →
    IsNextTurn s lag p e r → d ≡ e
same_step s lag p d e q r a b = go (let z : (d ≡ e) ⊎ ((d < e) ⊎ (e < d)) = grind arith in z)
  where
    off : (d e q r : ℕ) → IsNextTurn s lag p d q → IsNextTurn s lag p e r → d < e → ⊥
    off d e q r a b lt = b.first d a.late lt (subst (λ n. IsOwn s n) a.lands a.own)

    go : (d ≡ e) ⊎ ((d < e) ⊎ (e < d)) → d ≡ e
    go (inl same) = same
    go (inr (inl lt)) = absurd (off d e q r a b lt)
    go (inr (inr gt)) = absurd (off e d r q b a gt)

-- the hop to the next turn is the one step
abbrev pub hop : ℕ → ℕ → Hop
hop d q = record { cost = d; position = q }

abbrev pub some_hop : ℕ → ℕ → Option Hop
some_hop d q = Some (hop d q)

some-is : (a b : Hop) → Some a ≡ Some b → a ≡ b
some-is a b e = cc

pub hop-found : (s : Positions) (lag p c r d q : ℕ) → IsNextTurn s lag p c r →
    some_hop c r ≡ some_hop d q → IsNextTurn s lag p d q
hop-found s lag p c r d q t e =
    let same : hop c r ≡ hop d q = some-is (hop c r) (hop d q) e in
    let a : c ≡ d = ap (λ (h : Hop). h.cost) same in
    let b : r ≡ q = ap (λ (h : Hop). h.position) same in
    subst (λ n. IsNextTurn s lag p d n) b (subst (λ n. IsNextTurn s lag p n r) a t)

pub hop-all : (s : Positions) (lag p c r d q : ℕ) → IsNextTurn s lag p c r →
    IsNextTurn s lag p d q → some_hop c r ≡ some_hop d q
hop-all s lag p c r d q t u =
    let same : c ≡ d = same_step s lag p c d r q t u in
    let position : r ≡ q = t.lands ∙ (ap (λ n. (p + n) % length s.frame) same ∙ sym u.lands) in
    λ i. Some (record { cost = same i; position = position i })

-- positions past the eighth have no turns
pub hops-all : (s : Positions) (lag : ℕ) (hops : List (Option Hop)) → length s.frame ≤ 8 →
    length hops ≡ 8 → ((p : ℕ) → p < 8 → ((d q : ℕ) → Hops hops p d q → IsNextTurn s lag p d q)
    × ((d q : ℕ) → IsNextTurn s lag p d q → Hops hops p d q)) → IsHops s lag hops
hops-all s lag hops frame count each = record {
  found =
      λ p d q h.
      (each p (let z = within p (record { cost = d; position = q }) h in omega arith)).0 d q h;
  all = λ p d q t. (each p (let w = t.start.within in omega arith)).1 d q t;
}
  where
    within : (p : ℕ) (h : Hop) → slice_index_or hops p None ≡ Some h → p < length hops
    within p h e = go (let z : (p < length hops) ⊎ (length hops ≤ p) = grind arith in z)
      where
        go : (p < length hops) ⊎ (length hops ≤ p) → p < length hops
        go (inl lt) = lt
        go (inr past) =
            absurd (let z : None ≡ Some h = sym (get_or_past hops p None past) ∙ e in cc)

pub best-stays : (s : Positions) (m : Matrix) → length s.frame ≤ 8 →
    ((p q d : ℕ) → p < 8 → q < 8 → cell m p q ≡ Some d → Stays (IsOwn s) p d q) →
    ((p q d : ℕ) → p < 8 → Stays (IsOwn s) p d q → cell m p q ≡ Some d) →
    IsBest (entry m) (Stays (IsOwn s))
best-stays s m frame there back = (covers, among)
  where
    covers : Covers (entry m) (Stays (IsOwn s))
    covers p d q t = let a = t.0.within in let b = t.1 in (
      d,
      entry-in m p q (omega arith) (omega arith) ∙ back p q d (omega arith) t,
      (let le : d ≤ d = omega arith in min-under d d ceiling le),
    )

    among : Among (entry m) (Stays (IsOwn s))
    among p d q e =
        let r = entry-range m p q d e in
        (d, there p q d r.0 r.1 (sym (entry-in m p q r.0 r.1) ∙ e), refl)

-- a row without entries
abbrev pub nothing : Option ℕ
nothing = None

pub get-none : (n q : ℕ) → slice_index_or (replicate n nothing) q nothing ≡ nothing
get-none zero q = refl
get-none (suc n) zero = refl
get-none (suc n) (suc q) = get-none n q

-- a row that has one entry, 0 at an own position
pub one-found : (s : Positions) (p : ℕ) → p < 8 → IsOwn s p → (q d : ℕ) → q < 8 →
    slice_index_or (slice_set (replicate 8 nothing) p (Some 0)) q None ≡ Some d →
    Stays (IsOwn s) p d q
one-found s p lt o q d h e = go (is_or_not q p)
  where
    at : slice_index_or (slice_set (replicate 8 nothing) p (Some 0)) p None ≡ Some 0
    at =
        get_or-set_same (replicate 8 nothing) p (Some 0) None
        (let z : length (replicate 8 nothing) ≡ 8 = refl in omega arith)

    go : (q ≡ p) ⊎ (q ≢ p) → Stays (IsOwn s) p d q
    go (inl same) =
        let k : Some 0 ≡ Some d = sym at ∙ (ap
        (λ n. slice_index_or (slice_set (replicate 8 nothing) p (Some 0)) n None) (sym same) ∙ e) in
        let none : 0 ≡ d = cc in
        (o, sym same, sym none)
    go (inr other) =
        absurd (let k : nothing ≡ Some d = sym (get-none 8 q)
        ∙ (sym (get_or-set_other (replicate 8 nothing) p q (Some 0) None other) ∙ e) in cc)

pub one-all : (s : Positions) (p : ℕ) → p < 8 → (q d : ℕ) → Stays (IsOwn s) p d q →
    slice_index_or (slice_set (replicate 8 nothing) p (Some 0)) q None ≡ Some d
one-all s p lt q d t =
    let at : slice_index_or (slice_set (replicate 8 nothing) p (Some 0)) p None ≡ Some 0 =
    get_or-set_same (replicate 8 nothing) p (Some 0) None
    (let z : length (replicate 8 nothing) ≡ 8 = refl in omega arith) in
    subst (λ n. slice_index_or (slice_set (replicate 8 nothing) p (Some 0)) n None ≡ Some d) t.1
    (at ∙ ap Some (sym t.2))

pub four : (s : Positions) (h0 h1 h2 h3 : HopRow) → IsHops s 0 h0.hops →
    IsHops s 1 h1.hops → IsHops s 2 h2.hops → IsHops s 3 h3.hops → (lag : ℕ) → lag ≤ 3 →
    IsHops s lag (slice_index_or (h0 ∷ h1 ∷ h2 ∷ h3 ∷ []) lag no_hops).hops
four s h0 h1 h2 h3 a b c d zero h = a
four s h0 h1 h2 h3 a b c d (suc zero) h = b
four s h0 h1 h2 h3 a b c d (suc (suc zero)) h = c
four s h0 h1 h2 h3 a b c d (suc (suc (suc zero))) h = d
four s h0 h1 h2 h3 a b c d (suc (suc (suc (suc n)))) h = absurd (omega arith)

pub far : (lag cycles count : ℕ) → lag ≤ 3 → count ≤ 8 → cycles ≤ lag * count → cycles ≤ 24
far lag cycles count few frame le =
    let x : lag * count ≤ 3 * count = mul-le-mul_right count few in omega arith

-- one more position
pub row-found : (s : Positions) (lag k : ℕ) (hops : List (Option Hop)) (h : Option Hop) →
    k < length hops → ((p d q : ℕ) → p < k → Hops hops p d q → IsNextTurn s lag p d q) →
    ((d q : ℕ) → h ≡ some_hop d q → IsNextTurn s lag k d q) → (p d q : ℕ) → p < k + 1 →
    Hops (slice_set hops k h) p d q → IsNextTurn s lag p d q
row-found s lag k hops h lt before here p d q le is = go (is_or_not p k)
  where
    go : (p ≡ k) ⊎ (p ≢ k) → IsNextTurn s lag p d q
    go (inl same) =
        subst (λ n. IsNextTurn s lag n d q) (sym same)
        (here d q (sym (get_or-set_same hops k h None lt)
        ∙ (ap (λ n. slice_index_or (slice_set hops k h) n None) (sym same) ∙ is)))
    go (inr other) = before p d q (omega arith) (sym (get_or-set_other hops k p h None other) ∙ is)

pub row-all : (s : Positions) (lag k : ℕ) (hops : List (Option Hop)) (h : Option Hop) →
    k < length hops → ((p d q : ℕ) → p < k → IsNextTurn s lag p d q → Hops hops p d q) →
    ((d q : ℕ) → IsNextTurn s lag k d q → h ≡ some_hop d q) → (p d q : ℕ) → p < k + 1 →
    IsNextTurn s lag p d q → Hops (slice_set hops k h) p d q
row-all s lag k hops h lt before here p d q le t = go (is_or_not p k)
  where
    go : (p ≡ k) ⊎ (p ≢ k) → Hops (slice_set hops k h) p d q
    go (inl same) =
        (ap (λ n. slice_index_or (slice_set hops k h) n None) same
        ∙ get_or-set_same hops k h None lt) ∙ here d q (subst (λ n. IsNextTurn s lag n d q) same t)
    go (inr other) = get_or-set_other hops k p h None other ∙ before p d q (omega arith) t
