-- The words of sampled plants.
use Rattle.std.proofs.Common.{◌≡◌, ℕ, zero, suc, ◌+◌, ◌*◌, ◌-◌, ◌/◌, ◌<◌, ◌≤◌, Bool}
use Rattle.std.proofs.Common.{true, false, List, [], ◌∷◌, ◌++◌, get_or, length, Some}
use Rattle.std.proofs.Common.{None, Option, refl, ap, ap₂, sym, ◌∙◌, subst, arith}
use Rattle.std.specs.Prelude.{if◌then◌else◌, nat_lt, filter}
use Rattle.std.proofs.Math.Nat.{div-mul-le_self, suc-mul}
use Rattle.core_model.specs.World.{Start, has_port, port_word}
use Rattle.closed_loops.specs.Loop.{Plant, PortStore}
use Rattle.closed_loops.specs.Answered.{closed_start, stores_before}
use Rattle.closed_loops.specs.Sampled.{SampledWords, arrived_stores, last_word}
use Rattle.closed_loops.specs.Sampled.{latch_samples, latch_word, plant_of}
use Rattle.closed_loops.specs.Sampled.{present_stores, sampled_at, sampled_start, samples}
use Rattle.closed_loops.proofs.Closed.{loops-exist}
use Rattle.closed_loops.proofs.Latches.{latch-of-stores, store-delay}

-- two filters in either order
filters-swap : (p q : PortStore → Bool) (xs : List PortStore) →
    filter p (filter q xs) ≡ filter q (filter p xs)
filters-swap p q [] = refl
filters-swap p q (x ∷ xs) = go (p x) (q x) refl refl (filters-swap p q xs)
  where
    go : (a b : Bool) → p x ≡ a → q x ≡ b → filter p (filter q xs) ≡ filter q (filter p xs)
        → filter p (if q x then x ∷ filter q xs else filter q xs)
        ≡ filter q (if p x then x ∷ filter p xs else filter p xs)
    go true true e f same = rw (e, f, e) (ap (λ (ys : List PortStore). x ∷ ys) same)
    go true false e f same = rw (e, f) same
    go false true e f same = rw (e, f, e) same
    go false false e f same = rw (e, f) same

-- a sample of the latch is the word of the last store that has reached the port, or the latch at
-- the start
latch-sample : (t : Start) (i a m : ℕ) → i < length t.latches → m ≤ a + 3
    → latch_word t i m
    ≡ last_word (get_or t.latches i 0) (arrived_stores m (present_stores t i (stores_before t i a)))
latch-sample t i a m inside l =
    latch-of-stores t i (m - 3) inside
    ∙ ap (λ (xs : List PortStore). last_word (get_or t.latches i 0) (present_stores t i xs))
    (sym (store-delay t i a m l))
    ∙ ap (λ (xs : List PortStore). last_word (get_or t.latches i 0) xs)
    (filters-swap (λ (store : PortStore). has_port t i store.cycle)
    (λ (store : PortStore). nat_lt (store.cycle + 3) m) (stores_before t i a))

samples-same : (t : Start) (i every a k : ℕ) → i < length t.latches → k * every ≤ a
    → latch_samples t i every k
    ≡ samples every (get_or t.latches i 0) (present_stores t i (stores_before t i a)) k
samples-same t i every a zero inside l = refl
samples-same t i every a (suc k) inside l =
    ap₂ (λ (xs : List ℕ) (x : ℕ). xs ++ x ∷ [])
    (samples-same t i every a k inside (omega (arith, l, suc-mul k every)))
    (latch-sample t i a (suc k * every) inside (omega (arith, l)))

-- the plant of a thread that has one
at-port : (s t : Start) (every i c : ℕ) (response : List ℕ → ℕ) (stores : List PortStore) →
    has_port s i c ≡ true → sampled_at s every i response stores c
    ≡ response (samples every (get_or s.latches i 0) (present_stores s i stores) (c / every))
at-port s t every i c response stores on = rw on refl

pub sampled-words : SampledWords
sampled-words responses every s n i c response below inside l is on =
    let plants : ℕ → Plant = λ k. plant_of s every k (responses k) in
    let t = sampled_start responses every s n in
    let stores = stores_before t i c in
    loops-exist plants s i n below c l
    ∙ ap (λ (o : Option (List ℕ → ℕ)). plant_of s every i o stores c) is
    ∙ at-port s t every i c response stores on
    ∙ ap response (sym (samples-same t i every c (c / every) inside (div-mul-le_self c every)))

-- an absent port reads as ones
pub absent-word : (responses : ℕ → Option (List ℕ → ℕ)) (every : ℕ) (s : Start) (n i c : ℕ)
    (response : List ℕ → ℕ) → i < 8 → c < n → responses i ≡ Some response → has_port s i c ≡ false →
    port_word (sampled_start responses every s n) c i ≡ 0xFFFFFFFF
absent-word responses every s n i c response below l is off =
    let plants : ℕ → Plant = λ k. plant_of s every k (responses k) in
    let stores = stores_before (sampled_start responses every s n) i c in
    loops-exist plants s i n below c l
    ∙ ap (λ (o : Option (List ℕ → ℕ)). plant_of s every i o stores c) is ∙ rw off refl

-- a thread without a sampled plant has its input words
pub input-word : (responses : ℕ → Option (List ℕ → ℕ)) (every : ℕ) (s : Start) (n i c : ℕ) → i < 8 →
    c < n → responses i ≡ None → port_word (sampled_start responses every s n) c i ≡ port_word s c i
input-word responses every s n i c below l is =
    let plants : ℕ → Plant = λ k. plant_of s every k (responses k) in
    let stores = stores_before (sampled_start responses every s n) i c in
    loops-exist plants s i n below c l
    ∙ ap (λ (o : Option (List ℕ → ℕ)). plant_of s every i o stores c) is
