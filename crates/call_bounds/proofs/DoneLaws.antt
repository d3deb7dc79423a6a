-- The routines by their ranks, one after the other.
use Rattle.std.proofs.Common.{◌≡◌, ℕ, zero, suc, ◌+◌, ◌<◌, ◌≤◌, ◌⊎◌, ◌∙◌, refl, arith, inl, inr}
use Rattle.std.proofs.Common.{ap, sym, subst, Option, Some, None, List, [], length, slice_index_or}
use Rattle.std.proofs.Common.{slice_set, replicate, get_or-set_other, get_or-set_same, length-set}
use Rattle.std.proofs.lemmas.List.{length-replicate}
use Rattle.region_tree.specs.Walk.{IsOwn, Positions}
use Rattle.bound_calc.specs.Best.{IsBest, Then}
use Rattle.bound_calc.specs.Matrices.{entry}
use Rattle.bound_calc.specs.Section.{Steps}
use Rattle.bound_calc.specs.Propagation.{matrix_at, no_matrix}
use Rattle.bound_calc.specs.declared.matrix.Matrix.{Matrix}
use Rattle.bound_calc.proofs.Embed.{is_or_not}
use Rattle.bound_calc.proofs.Entries.{entry-in, entry-range}
use Rattle.bound_calc.proofs.PassLaws.{none-entry}
use Rattle.call_bounds.specs.CallRefusals.{IsCallable, IsListing}
use Rattle.call_bounds.specs.Calls.{Calls, IsReached, Function}
use Rattle.call_bounds.specs.Listing.{AreRanks, DoesCall, Listing, calls}
use Rattle.call_bounds.specs.Listing.{function_at, function_count, rank_at}
use Rattle.call_bounds.specs.Runs.{Deep, Through}
use Rattle.call_bounds.specs.Summaries.{AreKnown, AreSummaries, IsAdded, IsSummary}
use Rattle.call_bounds.specs.Summaries.{IsSummaryAt, IsSummaryOf, KnowsCallees, route}
use Rattle.call_bounds.proofs.FunctionLaws.{function-some}

pub callee-reached : (x : Calls) (a b : Function) → IsReached x a → DoesCall x a b → IsReached x b
callee-reached x a b r h = subst (λ b. IsReached x b) (sym h.to) (IsReached.next r h.known h.call)

-- if all functions of lower ranks are computed, a function's callees are
pub knows-callees : (l : Listing) (s : Positions) (ranks : List ℕ) (n : ℕ)
    (known : ℕ → Type 0) (through deep : List Matrix) → AreRanks l ranks → n < function_count l →
    ((k : ℕ) → rank_at ranks k < rank_at ranks n → known k) → AreKnown l s known through deep →
    IsReached (calls l) (function_at l n) → KnowsCallees l s n through deep
knows-callees l s ranks n known through deep are lt lower all reached k lt' call =
    all k lt' (callee-reached (calls l) (function_at l n) (function_at l k) reached call)
    (lower k (are.rise n k lt lt' reached call))

-- of lower ranks, or of this one and a number below n
abbrev pub Before : List ℕ → ℕ → ℕ → ℕ → Type 0
Before ranks rank n k = (rank_at ranks k < rank) ⊎ ((rank_at ranks k ≡ rank) × (k < n))

-- the section is no routine and has no summary
no-routine : (l : Listing) (s : Positions) (through deep : List Matrix) (k : ℕ) → k < 1 →
    IsSummaryAt l s k through deep
no-routine l s through deep zero lt t e = cc
no-routine l s through deep (suc k) lt t e = absurd (omega arith)

pub before-first : (l : Listing) (s : Positions) (ranks : List ℕ) (rank : ℕ)
    (through deep : List Matrix) → AreKnown l s (λ k. rank_at ranks k < rank) through deep →
    AreKnown l s (Before ranks rank 1) through deep
before-first l s ranks rank through deep all k lt reached (inl below) = all k lt reached below
before-first l s ranks rank through deep all k lt reached (inr y) =
    no-routine l s through deep k y.1

-- a function of another rank
pub before-skip : (l : Listing) (s : Positions) (ranks : List ℕ) (rank n : ℕ)
    (through deep : List Matrix) → (rank_at ranks n ≡ rank → ⊥) →
    AreKnown l s (Before ranks rank n) through deep →
    AreKnown l s (Before ranks rank (n + 1)) through deep
before-skip l s ranks rank n through deep other all k lt reached (inl below) =
    all k lt reached (inl below)
before-skip l s ranks rank n through deep other all k lt reached (inr y) =
    go (let z : (k < n) ⊎ (k ≡ n) = (let b = y.1 in grind arith) in z)
  where
    go : (k < n) ⊎ (k ≡ n) → IsSummaryAt l s k through deep
    go (inl below) = all k lt reached (inr (y.0, below))
    go (inr same) = absurd (other (subst (λ k. rank_at ranks k ≡ rank) same y.0))

-- a function that was computed
pub before-more : (l : Listing) (s : Positions) (ranks : List ℕ)
    (rank n : ℕ) (through deep through' deep' : List Matrix) →
    AreKnown l s (Before ranks rank n) through deep → IsAdded l s n through deep through' deep' →
    AreKnown l s (Before ranks rank (n + 1)) through' deep'
before-more l s ranks rank n through deep through' deep' all added k lt reached h =
    go (let z : (k ≡ n) ⊎ ((k < n) ⊎ (n < k)) = grind arith in z) h
  where
    kept : (k ≡ n → ⊥) → Before ranks rank n k → IsSummaryAt l s k through' deep'
    kept other before t e =
        let y = all k lt reached before t e in
        record {
          back =
              subst (λ m. IsBest (entry m) (Then (Steps s 3) (Through (route l s) t)))
              (sym (added.other k other)) y.back;
          ends =
              subst (λ m. IsBest (entry m) (Then (Steps s 3) (Deep (route l s) (Some t))))
              (sym (added.other' k other)) y.ends;
        }

    go : (k ≡ n) ⊎ ((k < n) ⊎ (n < k)) → Before ranks rank (n + 1) k →
        IsSummaryAt l s k through' deep'
    go (inl same) h =
        subst (λ k. IsSummaryAt l s k through' deep') (sym same)
        (added.known (subst (λ k. IsReached (calls l) (function_at l k)) same reached))
    go (inr (inl below)) (inl h) = kept (λ e. let z : ⊥ = omega arith in z) (inl h)
    go (inr (inl below)) (inr h) = kept (λ e. let z : ⊥ = omega arith in z) (inr (h.0, below))
    go (inr (inr above)) (inl h) = kept (λ e. let z : ⊥ = omega arith in z) (inl h)
    go (inr (inr above)) (inr h) = absurd (let b = h.1 in omega arith)

-- all functions of a rank
pub before-all : (l : Listing) (s : Positions) (ranks : List ℕ)
    (rank n : ℕ) (through deep : List Matrix) → function_count l ≤ n →
    AreKnown l s (Before ranks rank n) through deep →
    AreKnown l s (λ k. rank_at ranks k < rank + 1) through deep
before-all l s ranks rank n through deep top all k lt reached h =
    all k lt reached
    (go (let z : (rank_at ranks k < rank) ⊎ (rank_at ranks k ≡ rank) = grind arith in z))
  where
    go : (rank_at ranks k < rank) ⊎ (rank_at ranks k ≡ rank) → Before ranks rank n k
    go (inl below) = inl below
    go (inr same) = inr (same, omega arith)

pub known-all : (l : Listing) (s : Positions) (ranks : List ℕ) (rank : ℕ)
    (through deep : List Matrix) → AreRanks l ranks → function_count l < rank →
    AreKnown l s (λ k. rank_at ranks k < rank) through deep →
    AreKnown l s (λ k. Unit {0}) through deep
known-all l s ranks rank through deep are top all k lt reached h =
    all k lt reached (let f = are.few k in omega arith)

pub known-none : (l : Listing) (s : Positions) (ranks : List ℕ) (through deep : List Matrix) →
    AreKnown l s (λ k. rank_at ranks k < 0) through deep
known-none l s ranks through deep k lt reached h = absurd (omega arith)

-- an empty list gives the default
no-element : {X : Type 0} (k : ℕ) (d : X) → slice_index_or [] k d ≡ d
no-element zero d = refl
no-element (suc k) d = refl

no-entry : (p q c : ℕ) → entry no_matrix p q ≡ Some c → ⊥
no-entry p q c e =
    let r = entry-range no_matrix p q c e in
    let y : slice_index_or (slice_index_or [] p []) q None ≡ Some c =
    sym (entry-in no_matrix p q r.0 r.1) ∙ e in
    let z : slice_index_or (slice_index_or [] p []) q None ≡ nothing =
    ap (λ (row : List (Option ℕ)). slice_index_or row q None) (no-element p [])
    ∙ no-element q None in
    let b : nothing ≡ Some c = sym z ∙ y in
    cc
  where
    nothing : Option ℕ
    nothing = None

-- matrices without entries
none-at : (n k p q c : ℕ) →
    matrix_at (replicate n (record { best = replicate 8 (replicate 8 None) })) k p q ≡ Some c → ⊥
none-at zero k p q c e =
    no-entry p q c (subst (λ (m : Matrix). entry m p q ≡ Some c) (no-element k no_matrix) e)
none-at (suc n) zero p q c e = none-entry p q c e
none-at (suc n) (suc k) p q c e = none-at n k p q c e

pub summaries-none : (l : Listing) (s : Positions) (n : ℕ) (through deep : List Matrix) →
    IsListing (calls l) → IsCallable (calls l) → n ≡ function_count l →
    through ≡ replicate n (record { best = replicate 8 (replicate 8 None) }) →
    deep ≡ replicate n (record { best = replicate 8 (replicate 8 None) }) →
    AreSummaries l s through deep
summaries-none l s n through deep listing callable many is is' = record {
  listing = listing;
  callable = callable;
  count =
      ap length is ∙ (length-replicate n (record { best = replicate 8 (replicate 8 None) }) ∙ many);
  count' =
      ap length is'
      ∙ (length-replicate n (record { best = replicate 8 (replicate 8 None) }) ∙ many);
  own =
      λ k p c q e.
      absurd (none-at n k p q c (subst (λ (ms : List Matrix). matrix_at ms k p q ≡ Some c) is e));
}

-- the matrices of a function are stored
pub added : (l : Listing) (s : Positions) (n : ℕ) (through deep through' deep' : List Matrix)
    (one two : Matrix) → n < function_count l → AreSummaries l s through deep →
    through' ≡ slice_set through n one → deep' ≡ slice_set deep n two → IsSummaryOf l s n one two →
    0 < n → IsAdded l s n through deep through' deep'
added l s n through deep through' deep' one two lt are put put' is pos = record {
  all = record {
    listing = are.listing;
    callable = are.callable;
    count = ap length put ∙ (length-set through n one ∙ are.count);
    count' = ap length put' ∙ (length-set deep n two ∙ are.count');
    own = λ k p c q e. own k p c q e (let z : (k ≡ n) ⊎ ((k ≡ n) → ⊥) = is_or_not k n in z);
  };
  known =
      λ reached t e. subst (λ m. IsSummary (route l s) t m (slice_index_or deep' n no_matrix))
      (sym here) (subst (λ m. IsSummary (route l s) t one m) (sym here') (is t e));
  other = other;
  other' =
      λ k far. ap (λ (ms : List Matrix). slice_index_or ms k no_matrix) put'
      ∙ get_or-set_other deep n k two no_matrix far;
}
  where
    here : slice_index_or through' n no_matrix ≡ one
    here =
        ap (λ (ms : List Matrix). slice_index_or ms n no_matrix) put
        ∙ get_or-set_same through n one no_matrix (omega (arith, are.count))

    here' : slice_index_or deep' n no_matrix ≡ two
    here' =
        ap (λ (ms : List Matrix). slice_index_or ms n no_matrix) put'
        ∙ get_or-set_same deep n two no_matrix (omega (arith, are.count'))

    other : (k : ℕ) → (k ≡ n → ⊥) →
        slice_index_or through' k no_matrix ≡ slice_index_or through k no_matrix
    other k far =
        ap (λ (ms : List Matrix). slice_index_or ms k no_matrix) put
        ∙ get_or-set_other through n k one no_matrix far

    own : (k p c q : ℕ) → matrix_at through' k p q ≡ Some c → (k ≡ n) ⊎ ((k ≡ n) → ⊥) → IsOwn s q
    own k p c q e (inl same) =
        let t = function-some l n pos lt in
        let y = (is t.0 t.1).back.1 p c q (subst (λ m. entry m p q ≡ Some c) here
        (subst (λ k. matrix_at through' k p q ≡ Some c) same e)) in
        y.1.second.turn.own
    own k p c q e (inr far) = are.own k p c q (subst (λ m. entry m p q ≡ Some c) (other k far) e)

-- a function that isn't reached
pub added-none : (l : Listing) (s : Positions) (n : ℕ) (through deep : List Matrix) →
    AreSummaries l s through deep → (IsReached (calls l) (function_at l n) → ⊥) →
    IsAdded l s n through deep through deep
added-none l s n through deep are none = record {
  all = are;
  known = λ reached. absurd (none reached);
  other = λ k far. refl;
  other' = λ k far. refl;
}
