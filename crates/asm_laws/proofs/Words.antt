-- The words of a statement, at addresses where none were.
use Rattle.std.proofs.Common.{◌≡◌, ℕ, zero, suc, ◌<◌, ◌+◌, ◌*◌, ◌%◌, ◌^◌, ◌&&◌, Bool, true}
use Rattle.std.proofs.Common.{false, List, [], ◌∷◌, Option, Some, None, refl, sym, ap, subst, ◌∙◌}
use Rattle.std.proofs.Common.{◌⊎◌, inl, inr, length, get_or, is_some, arith, Ordering}
use Rattle.std.specs.declared.cmp.Ordering.TheVariants.{Less, Equal, Greater}
use Rattle.std.specs.List.{list_all}
use Rattle.std.specs.Map.{lookup}
use Rattle.std.specs.Ordering.{nat_cmp, is_eq}
use Rattle.std.specs.BTreeMap.{insert_entry, is_at}
use Rattle.std.specs.BTreeSet.{insert_key}
use Rattle.std.proofs.lemmas.Bool.Decides.{nat_tests}
use Rattle.std.proofs.lemmas.Cmp.{nat_cmp_total}
use Rattle.std.proofs.lemmas.Map.Lookups.{exact_unsigned}
use Rattle.fp_asm.specs.First.{is_inside, is_taken, addresses, with_taken}
use Rattle.fp_asm.specs.Second.{Memory, with_words}
use Rattle.asm_laws.proofs.Entries.{found, kept, any_found, any_kept}

-- the word at an address, if one was written
abbrev pub at : Memory → ℕ → Option ℕ
at memory a = lookup (is_at (nat_cmp a)) memory

-- the addresses are those of the memory
abbrev pub IsSame : List ℕ → Memory → Type 0
IsSame xs m = (b : ℕ) → is_taken xs b ≡ is_some (at m b)

low : (a : ℕ) → is_inside a ≡ true → a < 2 ^ 30
low a h = grind (arith, nat_tests, h)

next_address : (a : ℕ) → is_inside a ≡ true → (a + 4) % 2 ^ 32 ≡ a + 4
next_address a h = omega (arith, low a h)

both : (a b : Bool) → (a && b) ≡ true → (a ≡ true) × (b ≡ true)
both true b h = (refl, h)
both false b h = absurd (cc)

-- what holds of all addresses of words inside a scratchpad
pub all_addresses : (P : ℕ → Bool) (a n : ℕ) → list_all is_inside (addresses a n) ≡ true →
    list_all P (addresses a n) ≡ true → (j : ℕ) → j < n → P (a + 4 * j) ≡ true
unfolding addresses
all_addresses P a zero i h j lt = absurd (omega (arith, lt))
all_addresses P a (suc n) i h zero lt =
    let head : P a ≡ true = (both (P a) _ h).0 in
    let e : a ≡ a + 4 * 0 = omega arith in subst (λ b. P b ≡ true) e head
all_addresses P a (suc n) i h (suc j) lt =
    let here = both (is_inside a) (list_all is_inside (addresses ((a + 4) % 2 ^ 32) n)) i in
    let rest = (both (P a) (list_all P (addresses ((a + 4) % 2 ^ 32) n)) h).1 in
    let e = next_address a here.0 in
    let inside : list_all is_inside (addresses (a + 4) n) ≡ true =
    subst (λ b. list_all is_inside (addresses b n) ≡ true) e here.1 in
    let all : list_all P (addresses (a + 4) n) ≡ true =
    subst (λ b. list_all P (addresses b n) ≡ true) e rest in
    let to : a + 4 + 4 * j ≡ a + 4 * suc j = omega arith in
    subst (λ b. P b ≡ true) to (all_addresses P (a + 4) n inside all j (omega (arith, lt)))

-- A statement's words were written at their addresses, and nothing else changed.
pub record Wrote (m n : Memory) (xs ys : List ℕ) (a : ℕ) (ws : List ℕ) : Type 0 where
  pub same : IsSame ys n
  pub old : (b x : ℕ) → at m b ≡ Some x → at n b ≡ Some x
  pub new_ : (j : ℕ) → j < length ws → at n (a + 4 * j) ≡ Some (get_or ws j 0)
  pub only : (b x : ℕ) → at n b ≡ Some x → (at m b ≡ Some x)
      ⊎ ((j : ℕ) × (j < length ws) × (b ≡ a + 4 * j) × (get_or ws j 0 ≡ x))

-- one more word
module _ (xs : List ℕ) (m : Memory) (a w : ℕ) (s : IsSame xs m) where
  abbrev more : Memory
  more = insert_entry nat_cmp m a w

  here : at more a ≡ Some w
  here = found nat_cmp_total exact_unsigned a w m

  there : (b : ℕ) → is_eq (nat_cmp b a) ≡ false → at more b ≡ at m b
  there b h = kept nat_cmp_total exact_unsigned a w b m h

  apart : (b : ℕ) → a < b → is_eq (nat_cmp b a) ≡ false
  apart b lt = go (nat_cmp b a) refl
    where
      go : (o : Ordering) → nat_cmp b a ≡ o → is_eq o ≡ false
      go Less e = refl
      go Greater e = refl
      go Equal e = let same : b ≡ a = exact_unsigned b a e in absurd (omega (arith, same, lt))

  same_more : IsSame (insert_key nat_cmp xs a) more
  same_more b = go (nat_cmp b a) refl
    where
      go : (o : Ordering) → nat_cmp b a ≡ o →
          is_taken (insert_key nat_cmp xs a) b ≡ is_some (at more b)
      go Equal e =
          let eq : a ≡ b = sym (exact_unsigned b a e) in
          subst (λ c. is_taken (insert_key nat_cmp xs a) c ≡ is_some (at more c)) eq
          (any_found a xs nat_cmp_total ∙ ap is_some (sym here))
      go Less e = any_kept a b xs (rw e refl) ∙ s b ∙ ap is_some (sym (there b (rw e refl)))
      go Greater e = any_kept a b xs (rw e refl) ∙ s b ∙ ap is_some (sym (there b (rw e refl)))

  old_more : at m a ≡ None → (b x : ℕ) → at m b ≡ Some x → at more b ≡ Some x
  old_more free b x h = go (nat_cmp b a) refl
    where
      go : (o : Ordering) → nat_cmp b a ≡ o → at more b ≡ Some x
      go Equal e =
          let was : at m a ≡ Some x = subst (λ c. at m c ≡ Some x) (exact_unsigned b a e) h in
          absurd (cc)
      go Less e = there b (rw e refl) ∙ h
      go Greater e = there b (rw e refl) ∙ h

  only_more : (b x : ℕ) → at more b ≡ Some x → (at m b ≡ Some x) ⊎ ((b ≡ a) × (w ≡ x))
  only_more b x h = go (nat_cmp b a) refl
    where
      go : (o : Ordering) → nat_cmp b a ≡ o → (at m b ≡ Some x) ⊎ ((b ≡ a) × (w ≡ x))
      go Equal e =
          let eq : b ≡ a = exact_unsigned b a e in
          let now : at more a ≡ Some x = subst (λ c. at more c ≡ Some x) eq h in
          let said : Some w ≡ Some x = sym here ∙ now in
          inr (eq, cc)
      go Less e = inl (sym (there b (rw e refl)) ∙ h)
      go Greater e = inl (sym (there b (rw e refl)) ∙ h)

pub wrote : (ws : List ℕ) (a : ℕ) (xs : List ℕ) (m : Memory) → IsSame xs m →
    ((j : ℕ) → j < length ws → is_inside (a + 4 * j) ≡ true) →
    ((j : ℕ) → j < length ws → at m (a + 4 * j) ≡ None) →
    Wrote m (with_words m a ws) xs (with_taken xs (addresses a (length ws))) a ws
unfolding with_words addresses
wrote [] a xs m s inside free = record {
  same = s;
  old = λ b x h. h;
  new_ = λ j lt. absurd (omega (arith, lt));
  only = λ b x h. inl h;
}
wrote (w ∷ ws) a xs m s inside free =
    let n : ℕ = length ws in
    let zeroth : a + 4 * 0 ≡ a = omega arith in
    let nth : (j : ℕ) → a + 4 * suc j ≡ a + 4 + 4 * j = λ j. omega arith in
    let first : is_inside a ≡ true =
    subst (λ b. is_inside b ≡ true) zeroth (inside 0 (omega arith)) in
    let none : at m a ≡ None = subst (λ b. at m b ≡ None) zeroth (free 0 (omega arith)) in
    let m1 : Memory = insert_entry nat_cmp m a w in
    let rest : Wrote m1 (with_words m1 (a + 4) ws) (insert_key nat_cmp xs a)
    (with_taken (insert_key nat_cmp xs a) (addresses (a + 4) (length ws))) (a + 4) ws =
    wrote ws (a + 4) (insert_key nat_cmp xs a) m1 (same_more xs m a w s)
    (λ j lt. subst (λ b. is_inside b ≡ true) (nth j) (inside (suc j) (omega (arith, lt))))
    (λ j lt. there xs m a w s (a + 4 + 4 * j) (apart xs m a w s (a + 4 + 4 * j) (omega arith))
    ∙ subst (λ b. at m b ≡ None) (nth j) (free (suc j) (omega (arith, lt)))) in
    let whole : Wrote m (with_words m1 (a + 4) ws) xs
    (with_taken (insert_key nat_cmp xs a) (addresses (a + 4) (length ws))) a (w ∷ ws) = record {
      same = rest.same;
      old = λ b x h. rest.old b x (old_more xs m a w s none b x h);
      new_ = λ j lt. by_place rest j lt;
      only = λ b x h. by_word b x (rest.only b x h);
    } in
    subst (λ c. Wrote m (with_words m1 c ws) xs
    (with_taken (insert_key nat_cmp xs a) (addresses c (length ws))) a (w ∷ ws))
    (sym (next_address a first)) whole
  where
    by_place : Wrote (insert_entry nat_cmp m a w) (with_words (insert_entry nat_cmp m a w)
        (a + 4) ws) (insert_key nat_cmp xs a)
        (with_taken (insert_key nat_cmp xs a) (addresses (a + 4) (length ws))) (a + 4) ws →
        (j : ℕ) → j < length (w ∷ ws) →
        at (with_words (insert_entry nat_cmp m a w) (a + 4) ws) (a + 4 * j)
        ≡ Some (get_or (w ∷ ws) j 0)
    by_place rest zero lt =
        let e : a ≡ a + 4 * 0 = omega arith in
        subst (λ b. at (with_words (insert_entry nat_cmp m a w) (a + 4) ws) b ≡ Some w) e
        (rest.old a w (here xs m a w s))
    by_place rest (suc j) lt =
        let e : a + 4 + 4 * j ≡ a + 4 * suc j = omega arith in
        subst (λ b. at (with_words (insert_entry nat_cmp m a w) (a + 4) ws) b
        ≡ Some (get_or ws j 0)) e (rest.new_ j (omega (arith, lt)))

    by_word : (b x : ℕ) → (at (insert_entry nat_cmp m a w) b ≡ Some x)
        ⊎ ((j : ℕ) × (j < length ws) × (b ≡ a + 4 + 4 * j) × (get_or ws j 0 ≡ x)) →
        (at m b ≡ Some x)
        ⊎ ((j : ℕ) × (j < length (w ∷ ws)) × (b ≡ a + 4 * j) × (get_or (w ∷ ws) j 0 ≡ x))
    by_word b x (inl h) = by_old (only_more xs m a w s b x h)
      where
        by_old : (at m b ≡ Some x) ⊎ ((b ≡ a) × (w ≡ x)) → (at m b ≡ Some x)
            ⊎ ((j : ℕ) × (j < length (w ∷ ws)) × (b ≡ a + 4 * j) × (get_or (w ∷ ws) j 0 ≡ x))
        by_old (inl h) = inl h
        by_old (inr p) = inr (0, omega arith, omega (arith, p.0), p.1)
    by_word b x (inr p) = inr (suc p.0, omega (arith, p.1), omega (arith, p.2), p.3)
