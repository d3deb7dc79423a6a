-- The runs of placed addresses as segments.
use Rattle.std.proofs.Common.{◌≡◌, ℕ, zero, suc, ◌<◌, ◌≤◌, ◌+◌, ◌*◌, ◌%◌, ◌==◌, Bool, true, false}
use Rattle.std.proofs.Common.{List, [], ◌∷◌, refl, sym, ap, subst, ◌∙◌, ◌⊎◌, inl, inr, map}
use Rattle.std.proofs.Common.{take, drop, arith, Ordering, cond, ◌||◌}
use Rattle.std.specs.declared.cmp.Ordering.TheVariants.{Less, Equal, Greater}
use Rattle.std.specs.Ordering.{nat_cmp, is_eq, MatchOrdering}
use Rattle.std.proofs.lemmas.Bool.Decides.{nat_tests}
use Rattle.std.proofs.lemmas.Map.Lookups.{exact_unsigned}
use Rattle.std.proofs.lemmas.Cmp.{nat_cmp_total, tied_itself, ranked}
use Rattle.fp_image.specs.declared.parts.Segment.{Segment}
use Rattle.fp_asm.specs.First.{is_taken}
use Rattle.fp_asm.specs.Second.{Memory}
use Rattle.fp_asm.specs.Runs.{runs_from, runs_of, word_at, word_bytes}
use Rattle.fp_asm.specs.Runs.{bytes_from, segment_of, ArePlaced}
use Rattle.fp_asm.proofs.Segments.{length-bytes_from}
use Rattle.asm_laws.specs.Segments.{IsWordOf, IsWordIn, AreMaximal}

-- the bytes of word i of a run
nth_word : (m : Memory) (a n i : ℕ) → i < n →
    take 4 (drop (4 * i) (bytes_from m a n)) ≡ word_bytes (word_at m (a + 4 * i))
unfolding bytes_from
nth_word m a zero i lt = absurd (omega (arith, lt))
nth_word m a (suc n) zero lt = let e : a
    ≡ a + 4 * 0 = omega arith in ap (λ b. word_bytes (word_at m b)) e
nth_word m a (suc n) (suc i) lt =
    let e : 4 * suc i ≡ suc (suc (suc (suc (4 * i)))) = omega arith in
    let f : a + 4 + 4 * i ≡ a + 4 * suc i = omega arith in
    ap (λ k. take 4 (drop k (bytes_from m a (suc n)))) e
    ∙ nth_word m (a + 4) n i (omega (arith, lt)) ∙ ap (λ b. word_bytes (word_at m b)) f

-- an address is one of a run of n words from a on, or one of a list
abbrev pub IsOf : ℕ → ℕ → List ℕ → ℕ → Type 0
IsOf a n bs b = ((i : ℕ) × (i < n) × (b ≡ a + 4 * i)) ⊎ (is_taken bs b ≡ true)

-- segments have the words of a memory at these addresses, and no others
pub record HasWords (m : Memory) (a n : ℕ) (bs : List ℕ) (ss : List Segment) : Type 0 where
  pub has : (b : ℕ) → IsOf a n bs b → IsWordIn ss b (word_bytes (word_at m b))
  pub only : (b : ℕ) (bytes : List ℕ) → IsWordIn ss b bytes →
      IsOf a n bs b × (bytes ≡ word_bytes (word_at m b))
  pub maximal : (from : ℕ) → from ≤ a → AreMaximal from ss

module _ (m : Memory) (a n : ℕ) (some : 0 < n) (four : a % 4 ≡ 0) where
  run : Segment
  run = segment_of m (record { first = a; count = n })

  run_has : (b i : ℕ) → i < n → b ≡ a + 4 * i → IsWordOf run b (word_bytes (word_at m b))
  unfolding run
  run_has b i lt e = (
    i,
    omega (arith, length-bytes_from m a n, lt),
    e,
    ap (λ c. word_bytes (word_at m c)) e ∙ sym (nth_word m a n i lt),
  )

  run_only : (b : ℕ) (bytes : List ℕ) → IsWordOf run b bytes →
      ((i : ℕ) × (i < n) × (b ≡ a + 4 * i)) × (bytes ≡ word_bytes (word_at m b))
  unfolding run
  run_only b bytes h =
      let lt : h.0 < n = omega (arith, length-bytes_from m a n, h.1) in
      ((h.0, lt, h.2), h.3 ∙ nth_word m a n h.0 lt ∙ ap (λ c. word_bytes (word_at m c)) (sym h.2))

  run_maximal : (from : ℕ) (ss : List Segment) → from ≤ a → AreMaximal (a + 4 * n + 1) ss →
      AreMaximal from (run ∷ ss)
  unfolding run
  run_maximal from ss low rest =
      let long = length-bytes_from m a n in (
        low,
        four,
        omega (arith, long),
        omega (arith, long, some),
        subst (λ k. AreMaximal (a + k + 1) ss) (sym long) rest,
      )

  last : HasWords m a n [] (run ∷ [])
  last = record {
    has = λ b h. by_has b h;
    only = λ b bytes h. by_only b bytes h;
    maximal = λ from low. run_maximal from [] low tt;
  }
    where
      by_has : (b : ℕ) → IsOf a n [] b → IsWordIn (run ∷ []) b (word_bytes (word_at m b))
      by_has b (inl p) = inl (run_has b p.0 p.1 p.2)
      by_has b (inr h) = absurd (cc)

      by_only : (b : ℕ) (bytes : List ℕ) → IsWordIn (run ∷ []) b bytes →
          IsOf a n [] b × (bytes ≡ word_bytes (word_at m b))
      by_only b bytes (inl h) = let r = run_only b bytes h in (inl r.0, r.1)
      by_only b bytes (inr h) = absurd h

  -- the head of the list lies right behind the run, or not
  taken_head : (c : ℕ) (bs : List ℕ) → is_taken (c ∷ bs) c ≡ true
  taken_head c bs = rw (tied_itself nat_cmp_total c) refl

  taken_later : (c b : ℕ) (bs : List ℕ) → is_taken bs b ≡ true → is_taken (c ∷ bs) b ≡ true
  taken_later c b bs h = go (is_eq (nat_cmp b c))
    where
      go : (t : Bool) → (t || is_taken bs b) ≡ true
      go true = refl
      go false = h

  taken_split : (c b : ℕ) (bs : List ℕ) → is_taken (c ∷ bs) b ≡ true →
      (b ≡ c) ⊎ (is_taken bs b ≡ true)
  taken_split c b bs h = go (nat_cmp b c) refl h
    where
      go : (o : Ordering) → nat_cmp b c ≡ o → (is_eq o || is_taken bs b) ≡ true →
          (b ≡ c) ⊎ (is_taken bs b ≡ true)
      go Equal e h = inl (exact_unsigned b c e)
      go Less e h = inr h
      go Greater e h = inr h

  joined : (c : ℕ) (bs : List ℕ) (ss : List Segment) → c ≡ a + 4 * n → HasWords m a (n + 1) bs ss →
      HasWords m a n (c ∷ bs) ss
  joined c bs ss e h = record {
    has = λ b p. h.has b (to b p);
    only = λ b bytes p. let r = h.only b bytes p in (of b r.0, r.1);
    maximal = h.maximal;
  }
    where
      to : (b : ℕ) → IsOf a n (c ∷ bs) b → IsOf a (n + 1) bs b
      to b (inl p) = inl (p.0, omega (arith, p.1), p.2)
      to b (inr t) = by (taken_split c b bs t)
        where
          by : (b ≡ c) ⊎ (is_taken bs b ≡ true) → IsOf a (n + 1) bs b
          by (inl k) = inl (n, omega arith, k ∙ e)
          by (inr t) = inr t

      of : (b : ℕ) → IsOf a (n + 1) bs b → IsOf a n (c ∷ bs) b
      of b (inr t) = inr (taken_later c b bs t)
      of b (inl p) = by (nat_cmp p.0 n) (ranked p.0 n (nat_cmp p.0 n) refl)
        where
          by : (o : Ordering) → MatchOrdering o (p.0 < n) (p.0 ≡ n) (n < p.0) → IsOf a n (c ∷ bs) b
          by Equal same =
              let at_c : c ≡ b = omega (arith, e, p.2, same) in
              inr (subst (λ d. is_taken (c ∷ bs) d ≡ true) at_c (taken_head c bs))
          by Less lt = inl (p.0, lt, p.2)
          by Greater lt = absurd (omega (arith, lt, p.1))

  split : (c : ℕ) (bs : List ℕ) (ss : List Segment) → a + 4 * n + 1 ≤ c → HasWords m c 1 bs ss →
      HasWords m a n (c ∷ bs) (run ∷ ss)
  split c bs ss gap h = record {
    has = λ b p. by_has b p;
    only = λ b bytes p. by_only b bytes p;
    maximal = λ from low. run_maximal from ss low (h.maximal (a + 4 * n + 1) gap);
  }
    where
      by_has : (b : ℕ) → IsOf a n (c ∷ bs) b → IsWordIn (run ∷ ss) b (word_bytes (word_at m b))
      by_has b (inl p) = inl (run_has b p.0 p.1 p.2)
      by_has b (inr t) = inr (h.has b (by (taken_split c b bs t)))
        where
          by : (b ≡ c) ⊎ (is_taken bs b ≡ true) → IsOf c 1 bs b
          by (inl e) = inl (0, omega arith, omega (arith, e))
          by (inr t) = inr t

      by_only : (b : ℕ) (bytes : List ℕ) → IsWordIn (run ∷ ss) b bytes →
          IsOf a n (c ∷ bs) b × (bytes ≡ word_bytes (word_at m b))
      by_only b bytes (inl h1) = let r = run_only b bytes h1 in (inl r.0, r.1)
      by_only b bytes (inr h1) = let r = h.only b bytes h1 in (inr (by r.0), r.1)
        where
          by : IsOf c 1 bs b → is_taken (c ∷ bs) b ≡ true
          by (inl p) =
              let e : c ≡ b = omega (arith, p.1, p.2) in
              subst (λ d. is_taken (c ∷ bs) d ≡ true) e (taken_head c bs)
          by (inr t) = taken_later c b bs t

runs_have : (m : Memory) (a n : ℕ) (bs : List ℕ) → 0 < n → a % 4 ≡ 0 → ArePlaced (a + 4 * n) bs →
    HasWords m a n bs (map (segment_of m) (runs_from a n bs))
unfolding runs_from run
runs_have m a n [] some four ps = last m a n some four
runs_have m a n (c ∷ bs) some four ps =
    go (c == a + 4 * n) refl
    (λ e. runs_have m a (n + 1) bs (omega arith) four
    (subst (λ k. ArePlaced k bs) (omega (arith, e)) ps.3))
    (runs_have m c 1 bs (omega arith) ps.2 (subst (λ k. ArePlaced k bs) (omega arith) ps.3))
  where
    go : (t : Bool) → (c == a + 4 * n) ≡ t →
        (c ≡ a + 4 * n → HasWords m a (n + 1) bs (map (segment_of m) (runs_from a (n + 1) bs))) →
        HasWords m c 1 bs (map (segment_of m) (runs_from c 1 bs)) →
        HasWords m a n (c ∷ bs) (map (segment_of m)
        (cond t (runs_from a (n + 1) bs) (record { first = a; count = n } ∷ runs_from c 1 bs)))
    go true e on off =
        let same : c ≡ a + 4 * n = grind (arith, nat_tests, e) in
        joined m a n some four c bs (map (segment_of m) (runs_from a (n + 1) bs)) same (on same)
    go false e on off =
        split m a n some four c bs (map (segment_of m) (runs_from c 1 bs))
        (grind (arith, nat_tests, e, ps.0)) off

-- the segments of placed addresses
pub record AllWords (m : Memory) (xs : List ℕ) (ss : List Segment) : Type 0 where
  pub has : (b : ℕ) → is_taken xs b ≡ true → IsWordIn ss b (word_bytes (word_at m b))
  pub only : (b : ℕ) (bytes : List ℕ) → IsWordIn ss b bytes →
      (is_taken xs b ≡ true) × (bytes ≡ word_bytes (word_at m b))
  pub maximal : AreMaximal 0 ss

pub all_words : (m : Memory) (xs : List ℕ) → ArePlaced 0 xs →
    AllWords m xs (map (segment_of m) (runs_of xs))
unfolding runs_of
all_words m [] ps = record {
  has = λ b h. absurd (cc);
  only = λ b bytes h. absurd h;
  maximal = tt;
}
all_words m (a ∷ bs) ps =
    let h = runs_have m a 1 bs (omega arith) ps.2 (subst (λ k. ArePlaced k bs)
    (omega arith) ps.3) in
    let some : 0 < 1 = omega arith in
    record {
      has = λ b t. h.has b (by b (taken_split m a 1 some ps.2 a b bs t));
      only = λ b bytes p. let r = h.only b bytes p in (of b r.0, r.1);
      maximal = h.maximal 0 (omega arith);
    }
  where
    by : (b : ℕ) → (b ≡ a) ⊎ (is_taken bs b ≡ true) → IsOf a 1 bs b
    by b (inl e) = inl (0, omega arith, omega (arith, e))
    by b (inr t) = inr t

    of : (b : ℕ) → IsOf a 1 bs b → is_taken (a ∷ bs) b ≡ true
    of b (inl p) =
        let e : a ≡ b = omega (arith, p.1, p.2) in
        let some : 0 < 1 = omega arith in
        subst (λ d. is_taken (a ∷ bs) d ≡ true) e (taken_head m a 1 some ps.2 a bs)
    of b (inr t) = let some : 0 < 1 = omega arith in taken_later m a 1 some ps.2 a b bs t
