-- Marking callees until none is new.
use Rattle.std.proofs.Common.{◌≡◌, ◌≢◌, ℕ, zero, suc, ◌+◌, ◌<◌, ◌≤◌, ◌⊎◌, refl, arith}
use Rattle.std.proofs.Common.{inl, inr, ap, sym, subst, ◌∙◌, cond, if◌then◌else◌, Bool}
use Rattle.std.proofs.Common.{true, false, List, [], length, replicate, slice_index_or}
use Rattle.std.proofs.Common.{slice_set, get_or-set_other, get_or-set_same, length-set}
use Rattle.std.proofs.lemmas.List.{get_or_default, get_or_past, length-replicate}
use Rattle.std.proofs.lemmas.List.Sums.{sum_by-set}
use Rattle.call_bounds.specs.Reachability.{HasCall, IsClosed, IsExact, IsSound, IsCalled}
use Rattle.call_bounds.specs.Reachability.{Spread, SpreadMet, Swept, is_met, unmet_count}

is_or_not : (a b : ℕ) → (a ≡ b) ⊎ (a ≢ b)
is_or_not a b = grind arith

differ : (b : Bool) → b ≡ true → b ≡ false → ⊥
differ true a c = cc
differ false a c = cc

pub met-within : (met : List Bool) (k : ℕ) → is_met met k ≡ true → k < length met
met-within met k h = go (let z : (k < length met) ⊎ (length met ≤ k) = grind arith in z)
  where
    go : (k < length met) ⊎ (length met ≤ k) → k < length met
    go (inl lt) = lt
    go (inr past) = absurd (differ (is_met met k) h (get_or_past met k false past))

-- the mark of a function
pub mark-at : (met : List Bool) (k : ℕ) (b : Bool) → k < length met → b ≡ slice_index_or met k b →
    is_met met k ≡ b
mark-at met k b within e = get_or_default met k false b within ∙ sym e

none-at : (n k : ℕ) → is_met (replicate n false) k ≡ false
none-at zero k = get_or_past [] k false (omega arith)
none-at (suc n) zero = refl
none-at (suc n) (suc k) = none-at n k

-- a number of marks, none of them set
pub none-met : (n : ℕ) (met : List Bool) → met ≡ replicate n false →
    (length met ≡ n) × ((k : ℕ) → is_met met k ≡ false)
none-met n met e =
    (ap length e ∙ length-replicate n false, λ k. ap (λ m. is_met m k) e ∙ none-at n k)

pub spread-start : (n : ℕ) (table : List Bool) (j : ℕ) (met : List Bool) → length met ≡ n →
    Spread n table j 0 met met false
spread-start n table j met count = record {
  count = count;
  grows = λ k h. h;
  here = λ k lt h. absurd (omega arith);
  from = λ k h. inl h;
  same = λ e. refl;
  less = λ e. cc;
  fewer = omega arith;
}

-- a new callee is marked
pub spread-one : (n : ℕ) (table : List Bool) (j c : ℕ) (old new : List Bool) (changed : Bool) →
    HasCall n table j c → is_met new c ≡ false → Spread n table j c old new changed →
    Spread n table j (c + 1) old (slice_set new c true) true
spread-one n table j c old new changed call fresh s = record {
  count = length-set new c true ∙ s.count;
  grows = λ k h. grows k (s.grows k h) (is_or_not k c);
  here = λ k lt h. grows-here k h (let z : (k < c) ⊎ (k ≡ c) = grind arith in z);
  from = λ k h. came k h (is_or_not k c);
  same = λ e. cc;
  less = λ e. drop;
  fewer = let d = drop in omega arith;
}
  where
    within : c < length new
    within = let w = call.1 in omega (arith, s.count)

    drop : unmet_count (slice_set new c true) < unmet_count old
    drop =
        let one : unmet_count (slice_set new c true) + cond {A = ℕ} (is_met new c) 0 1
        ≡ unmet_count new + 0 = sum_by-set (λ b. cond b 0 1) new c true false within in
        let was : cond {A = ℕ} (is_met new c) 0 1 ≡ 1 = ap (λ b. cond b 0 1) fresh in
        let f = s.fewer in
        omega arith

    grows : (k : ℕ) → is_met new k ≡ true → (k ≡ c) ⊎ (k ≢ c) →
        is_met (slice_set new c true) k ≡ true
    grows k h (inl same) =
        subst (λ k. is_met (slice_set new c true) k ≡ true) (sym same)
        (get_or-set_same new c true false within)
    grows k h (inr other) = get_or-set_other new c k true false other ∙ h

    grows-here : (k : ℕ) → HasCall n table j k → (k < c) ⊎ (k ≡ c) →
        is_met (slice_set new c true) k ≡ true
    grows-here k h (inl below) = grows k (s.here k below h) (is_or_not k c)
    grows-here k h (inr same) =
        subst (λ k. is_met (slice_set new c true) k ≡ true) (sym same)
        (get_or-set_same new c true false within)

    came : (k : ℕ) → is_met (slice_set new c true) k ≡ true → (k ≡ c) ⊎ (k ≢ c) →
        (is_met old k ≡ true) ⊎ HasCall n table j k
    came k h (inl same) = inr (subst (λ k. HasCall n table j k) (sym same) call)
    came k h (inr other) = s.from k (sym (get_or-set_other new c k true false other) ∙ h)

-- no callee, or a marked one
pub spread-same : (n : ℕ) (table : List Bool) (j c : ℕ) (old new : List Bool) (changed : Bool) →
    (HasCall n table j c → is_met new c ≡ true) → Spread n table j c old new changed →
    Spread n table j (c + 1) old new changed
spread-same n table j c old new changed known s = record {
  count = s.count;
  grows = s.grows;
  here = λ k lt h. here k h (let z : (k < c) ⊎ (k ≡ c) = grind arith in z);
  from = s.from;
  same = s.same;
  less = s.less;
  fewer = s.fewer;
}
  where
    here : (k : ℕ) → HasCall n table j k → (k < c) ⊎ (k ≡ c) → is_met new k ≡ true
    here k h (inl below) = s.here k below h
    here k h (inr e) =
        subst (λ k. is_met new k ≡ true) (sym e) (known (subst (λ k. HasCall n table j k) e h))

pub sweep-start : (n : ℕ) (table met : List Bool) → length met ≡ n → Swept n table 0 met met false
sweep-start n table met count = record {
  count = count;
  grows = λ k h. h;
  sound = λ a h. h;
  closed = λ e j k lt h. absurd (omega arith);
  same = λ e. refl;
  less = λ e. cc;
  fewer = omega arith;
}

-- a function that isn't marked
pub sweep-none : (n : ℕ) (table : List Bool) (c : ℕ) (old new : List Bool) (changed : Bool) →
    is_met new c ≡ false → Swept n table c old new changed → Swept n table (c + 1) old new changed
sweep-none n table c old new changed out s = record {
  count = s.count;
  grows = s.grows;
  sound = s.sound;
  closed = λ e j k lt h call. closed e j k h call (let z : (j < c) ⊎ (j ≡ c) = grind arith in z);
  same = s.same;
  less = s.less;
  fewer = s.fewer;
}
  where
    closed : changed ≡ false → (j k : ℕ) → is_met new j ≡ true → HasCall n table j k →
        (j < c) ⊎ (j ≡ c) → is_met new k ≡ true
    closed e j k h call (inl below) = s.closed e j k below h call
    closed e j k h call (inr same) =
        absurd (differ (is_met new c) (subst (λ j. is_met new j ≡ true) same h) out)

sound-more : (n : ℕ) (table : List Bool) (c a : ℕ) (mid new : List Bool) (more : Bool) →
    is_met mid c ≡ true → Spread n table c n mid new more → IsSound n table a mid →
    IsSound n table a new
sound-more n table c a mid new more here p sound k h =
    elim (p.from k h) [ inl old ↦ sound k old | inr call ↦ IsCalled.more (sound c here) call ]

-- a marked function with a new callee
pub sweep-more : (n : ℕ) (table : List Bool) (c : ℕ) (old mid new : List Bool) (changed : Bool) →
    is_met mid c ≡ true → Swept n table c old mid changed → Spread n table c n mid new true →
    Swept n table (c + 1) old new true
sweep-more n table c old mid new changed here s p = record {
  count = p.count;
  grows = λ k h. p.grows k (s.grows k h);
  sound = λ a h. sound-more n table c a mid new true here p (s.sound a h);
  closed = λ e. cc;
  same = λ e. cc;
  less = λ e. let l = p.less refl in let f = s.fewer in omega arith;
  fewer = let l = p.less refl in let f = s.fewer in omega arith;
}

-- a marked function without a new callee
pub sweep-same : (n : ℕ) (table : List Bool) (c : ℕ) (old mid new : List Bool) (changed : Bool) →
    is_met mid c ≡ true → Swept n table c old mid changed → Spread n table c n mid new false →
    Swept n table (c + 1) old new changed
sweep-same n table c old mid new changed here s p =
    subst (λ m. Swept n table (c + 1) old m changed) (sym (p.same refl)) (record {
      count = s.count;
      grows = s.grows;
      sound = s.sound;
      closed =
          λ e j k lt h call. closed e j k h call (let z : (j < c) ⊎ (j ≡ c) = grind arith in z);
      same = s.same;
      less = s.less;
      fewer = s.fewer;
    })
  where
    closed : changed ≡ false → (j k : ℕ) → is_met mid j ≡ true → HasCall n table j k →
        (j < c) ⊎ (j ≡ c) → is_met mid k ≡ true
    closed e j k h call (inl below) = s.closed e j k below h call
    closed e j k h call (inr same) =
        subst (λ m. is_met m k ≡ true) (p.same refl)
        (p.here k call.1 (subst (λ j. HasCall n table j k) same call))

-- one more function
pub sweep-function : (n : ℕ) (table : List Bool) (c : ℕ) (old mid new : List Bool)
    (changed more : Bool) → Swept n table c old mid changed → SpreadMet n table c mid new more →
    Swept n table (c + 1) old new (if more then true else changed)
sweep-function n table c old mid new changed more s (inl z) =
    subst (λ m. Swept n table (c + 1) old m (if more then true else changed)) (sym z.2)
    (subst (λ b. Swept n table (c + 1) old mid (if b then true else changed)) (sym z.1)
    (sweep-none n table c old mid changed z.0 s))
sweep-function n table c old mid new changed true s (inr z) =
    sweep-more n table c old mid new changed z.0 s z.1
sweep-function n table c old mid new changed false s (inr z) =
    sweep-same n table c old mid new changed z.0 s z.1

-- the rounds so far
pub record Marks (n : ℕ) (table : List Bool) (a : ℕ) (met : List Bool)
    (changed : Bool) : Type 0 where
  pub count : length met ≡ n
  pub sound : IsSound n table a met
  pub begun : (k : ℕ) → HasCall n table a k → is_met met k ≡ true
  pub closed : changed ≡ false → IsClosed n table met

pub goes-start : (n : ℕ) (table : List Bool) (a : ℕ) (old new : List Bool) (changed : Bool) →
    ((k : ℕ) → is_met old k ≡ false) → Spread n table a n old new changed → Marks n table a new true
goes-start n table a old new changed none p = record {
  count = p.count;
  sound = λ k h. elim (p.from k h) [
    | inl o ↦ absurd (differ (is_met old k) o (none k))
    | inr call ↦ IsCalled.one call
  ];
  begun = λ k call. p.here k call.1 call;
  closed = λ e. cc;
}

pub goes-on : (n : ℕ) (table : List Bool) (a : ℕ) (old new : List Bool) (before changed : Bool) →
    Marks n table a old before → Swept n table n old new changed → Marks n table a new changed
goes-on n table a old new before changed g s = record {
  count = s.count;
  sound = s.sound a g.sound;
  begun = λ k call. s.grows k (g.begun k call);
  closed = λ e j k h call. s.closed e j k call.0 h call;
}

pub exact : (n : ℕ) (table : List Bool) (a : ℕ) (met : List Bool) → Marks n table a met false →
    IsExact n table a met
exact n table a met g = record { count = g.count; exact = λ k. (g.sound k, there k) }
  where
    there : (k : ℕ) → IsCalled n table a k → is_met met k ≡ true
    there k l = found l
      where
        found : {k : ℕ} → IsCalled n table a k → is_met met k ≡ true
        found (IsCalled.one call) = g.begun _ call
        found (IsCalled.more l call) = g.closed refl _ _ (found l) call
