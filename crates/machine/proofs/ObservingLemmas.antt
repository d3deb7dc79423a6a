-- What an observer has seen, cycle by cycle.
use Rattle.std.proofs.Common.{◌≡◌, ℕ, zero, suc, ◌+◌, ◌-◌, ◌<◌, ◌≤◌, List, ◌++◌, Option}
use Rattle.std.proofs.Common.{None, ap, ap₂, sym, subst, ◌∙◌, arith, add-zero}
use Rattle.std.specs.Io.KnownBytes.{Appends}
use Rattle.fp_io.proofs.Prefixes.{appends_nothing, appends_more}
use Rattle.core_model.specs.World.{Start}
use Rattle.machine.specs.Observing.{Acts, HasSeen, next_with, observer_after, puts_in, puts_with}
use Rattle.machine.specs.Observing.{retires}

-- no cycle was seen so far
pub seen_begins : {O : Type 0} (acts : Acts O) (s : Start) (c : ℕ) (o : O)
    (prior : Option (List ℕ)) → HasSeen acts s c c o o prior prior
seen_begins acts s c o prior =
    let none : 0 ≡ c - c = omega arith in
    let Put : ℕ → Type 0 = λ k. Appends prior prior (puts_in acts s c o k) in
    record {
      low = omega arith;
      is = ap (λ k. observer_after acts s c o k) none;
      put = subst Put none (appends_nothing prior);
    }

-- one more cycle, whose bytes were put
pub seen_on : {O : Type 0} (acts : Acts O) (s : Start) (c d : ℕ) (first o next : O)
    (before between now : Option (List ℕ)) → HasSeen acts s c d first o before between →
    next ≡ next_with acts o (retires s d) → Appends between now (puts_with acts o (retires s d)) →
    HasSeen acts s c (suc d) first next before now
seen_on {O} acts s c d first o next before between now seen is put =
    let k : ℕ = d - c in
    let low : c ≤ d = seen.low in
    let more : suc k ≡ suc d - c = omega (arith, low) in
    let there : d ≡ c + k = omega (arith, low) in
    let same : next_with acts o (retires s d) ≡ observer_after acts s c first (suc k) =
    ap₂ (λ (x : O) (e : ℕ). next_with acts x (retires s e)) seen.is there in
    let bytes : puts_in acts s c first k ++ puts_with acts o (retires s d)
    ≡ puts_in acts s c first (suc k) =
    ap₂ (λ (x : O) (e : ℕ). puts_in acts s c first k ++ puts_with acts x (retires s e)) seen.is
    there in
    let Put : List ℕ → Type 0 = λ x. Appends before now x in
    record {
      low = omega (arith, low);
      is = is ∙ same ∙ ap (λ j. observer_after acts s c first j) more;
      put =
          subst Put (bytes ∙ ap (λ j. puts_in acts s c first j) more)
          (appends_more before between now (puts_in acts s c first k)
          (puts_with acts o (retires s d)) seen.put put);
    }

-- cycles in which nothing retires
seen_more : {O : Type 0} (acts : Acts O) (s : Start) (c d j : ℕ) (first o : O)
    (before now : Option (List ℕ)) → HasSeen acts s c d first o before now →
    ((k : ℕ) → d ≤ k → k < d + j → retires s k ≡ None) →
    HasSeen acts s c (d + j) first o before now
seen_more acts s c d zero first o before now seen quiet =
    let At : ℕ → Type 0 = λ e. HasSeen acts s c e first o before now in
    subst At (sym (add-zero d)) seen
seen_more {O} acts s c d (suc j) first o before now seen quiet =
    let At : ℕ → Type 0 = λ e. HasSeen acts s c e first o before now in
    let next : suc (d + j) ≡ d + suc j = omega arith in
    let none : retires s (d + j) ≡ None = quiet (d + j) (omega arith) (omega arith) in
    let so_far : HasSeen acts s c (d + j) first o before now =
    seen_more acts s c d j first o before now seen
    (λ k low below. quiet k low (omega (arith, below))) in
    let is : o ≡ next_with acts o (retires s (d + j)) = ap (λ e. next_with acts o e) (sym none) in
    let put : Appends now now (puts_with acts o (retires s (d + j))) =
    subst (λ e. Appends now now (puts_with acts o e)) (sym none) (appends_nothing now) in
    subst At next (seen_on acts s c (d + j) first o o before now now so_far is put)

pub seen_pass : {O : Type 0} (acts : Acts O) (s : Start) (c d e : ℕ) (first o : O)
    (before now : Option (List ℕ)) → HasSeen acts s c d first o before now → d ≤ e →
    ((k : ℕ) → d ≤ k → k < e → retires s k ≡ None) → HasSeen acts s c e first o before now
seen_pass acts s c d e first o before now seen low quiet =
    let there : d + (e - d) ≡ e = omega (arith, low) in
    let At : ℕ → Type 0 = λ x. HasSeen acts s c x first o before now in
    subst At there (seen_more acts s c d (e - d) first o before now seen
    (λ k from below. quiet k from (omega (arith, low, below))))
