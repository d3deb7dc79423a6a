-- Lemmas on the number of calls so far that are listed.
use Rattle.std.proofs.Common.{◌≡◌, ℕ, zero, suc, ◌+◌, ◌<◌, ◌≤◌, ◌==◌, ◌||◌, ◌⊎◌}
use Rattle.std.proofs.Common.{inl, inr, Bool, true, false, cond, List, [], ◌∷◌, ◌++◌}
use Rattle.std.proofs.Common.{find, is_some, option_map, Option, Some, None, length}
use Rattle.std.proofs.Common.{refl, sym, ◌∙◌, ap, subst, arith, add-one, true≢false}
use Rattle.std.proofs.lemmas.Bool.{eqb-true, cases_lt}
use Rattle.fp_io.specs.declared.memory_sink.Cut.{Cut}
use Rattle.fp_io.specs.Causes.{last_count, risen}
use Rattle.fp_io.specs.Listed.{is_listed, is_cut, listed_before, AreBelowLast}
use Rattle.fp_io.specs.Memory.{FilesAreSound, SinkIsSound}

one_more : (a b : Bool) (m n : ℕ) → m ≤ n → (a ≡ true → b ≡ true) → m + cond a 1 0 ≤ n + cond b 1 0
one_more true true m n le imp = omega arith
one_more true false m n le imp = absurd (true≢false (sym (imp refl)))
one_more false true m n le imp = omega arith
one_more false false m n le imp = omega arith

-- with more listed calls the number before n is no smaller
listed_before_more : (lists more : ℕ → Bool) (n : ℕ) →
    ((call : ℕ) → lists call ≡ true → more call ≡ true) →
    listed_before lists n ≤ listed_before more n
unfolding listed_before
listed_before_more lists more zero imp = omega arith
listed_before_more lists more (suc n) imp =
    one_more (lists n) (more n) _ _ (listed_before_more lists more n imp) (imp n)

-- one more call
listed_before-next : (lists : ℕ → Bool) (n : ℕ) →
    listed_before lists (n + 1) ≡ listed_before lists n + cond (lists n) 1 0
unfolding listed_before
listed_before-next lists n = rw add-one refl

listed_before-listed : (lists : ℕ → Bool) (n : ℕ) → lists n ≡ true →
    listed_before lists (n + 1) ≡ listed_before lists n + 1
listed_before-listed lists n is =
    listed_before-next lists n ∙ ap (λ b. listed_before lists n + cond b 1 0) is

-- the call that is counted now is listed, and so is its fault
pub few_if_listed : (lists : ℕ → Bool) (calls next faults : ℕ) → next ≡ risen calls →
    AreBelowLast lists → lists calls ≡ true → faults ≤ listed_before lists calls →
    risen faults ≤ listed_before lists next
few_if_listed lists calls next faults is below listed few =
    let early : calls < last_count = below calls listed in
    let more : next ≡ calls + 1 = omega arith in
    rw more (omega (arith, listed_before-listed lists calls listed))

-- a call without a fault
pub few_otherwise : (lists : ℕ → Bool) (calls next faults : ℕ) → next ≡ risen calls →
    calls ≤ last_count → faults ≤ listed_before lists calls → faults ≤ listed_before lists next
few_otherwise lists calls next faults is small few = by_cases (cases_lt calls last_count)
  where
    by_cases : (calls < last_count) ⊎ (last_count ≤ calls) → faults ≤ listed_before lists next
    by_cases (inl early) =
        let e : next ≡ calls + 1 = omega arith in
        rw e (omega (arith, listed_before-next lists calls))
    by_cases (inr late) = let e : next ≡ calls = omega arith in rw e few

or_kept : (a b : Bool) → a ≡ true → (a || b) ≡ true
or_kept true b is = refl
or_kept false b is = absurd (true≢false (sym is))

or_either : (a b : Bool) → (a || b) ≡ true → (a ≡ true) ⊎ (b ≡ true)
or_either true b is = inl refl
or_either false b is = inr is

-- one more listing
is_listed-push : (failing : List ℕ) (new call : ℕ) →
    is_listed (failing ++ new ∷ []) call ≡ (is_listed failing call || (new == call))
is_listed-push [] new call = or_nothing (new == call)
  where
    or_nothing : (b : Bool) → (b || false) ≡ (false || b)
    or_nothing true = refl
    or_nothing false = refl
is_listed-push (listed ∷ failing) new call =
    or_first (listed == call) (is_listed-push failing new call)
  where
    or_first : (b : Bool) →
        is_listed (failing ++ new ∷ []) call ≡ (is_listed failing call || (new == call)) →
        (b || is_listed (failing ++ new ∷ []) call)
        ≡ ((b || is_listed failing call) || (new == call))
    or_first true is = refl
    or_first false is = is

is_cut-push : (cuts : List Cut) (new : Cut) (call : ℕ) →
    is_cut (cuts ++ new ∷ []) call ≡ (is_cut cuts call || (new.call == call))
is_cut-push [] new call = last (new.call == call)
  where
    last : (b : Bool) →
        is_some (option_map (λ (cut : Cut). cut.taken) (cond b (Some new) None)) ≡ (false || b)
    last true = refl
    last false = refl
is_cut-push (cut ∷ cuts) new call = first (cut.call == call) (is_cut-push cuts new call)
  where
    found : List Cut → Option Cut
    found = find (λ listed. listed.call == call)

    first : (b : Bool) → is_cut (cuts ++ new ∷ []) call ≡ (is_cut cuts call || (new.call == call))
        → is_some (option_map (λ (c : Cut). c.taken)
        (cond b (Some cut) (find (λ (listed : Cut). listed.call == call) (cuts ++ new ∷ []))))
        ≡ (is_some (option_map (λ (c : Cut). c.taken) (cond b (Some cut)
        (find (λ (listed : Cut). listed.call == call) cuts))) || (new.call == call))
    first true is = refl
    first false is = is

-- a test that lists one more call
module _ (lists more : ℕ → Bool) (new : ℕ)
    (is : (call : ℕ) → more call ≡ (lists call || (new == call))) where
  below_with : new < last_count → AreBelowLast lists → AreBelowLast more
  below_with low below =
      λ call listed. either call (or_either (lists call) (new == call) (sym (is call) ∙ listed))
    where
      either : (call : ℕ) → (lists call ≡ true) ⊎ ((new == call) ≡ true) → call < last_count
      either call (inl old) = below call old
      either call (inr same) = subst (λ (n : ℕ). n < last_count) (eqb-true new call same) low

  few_with : (calls faults : ℕ) → faults ≤ listed_before lists calls →
      faults ≤ listed_before more calls
  few_with calls faults few = omega (
    arith,
    few,
    listed_before_more lists more calls
        (λ call listed. is call ∙ or_kept (lists call) (new == call) listed),
  )

pub files_with : (failing : List ℕ) (new calls faults : ℕ) → new < last_count →
    FilesAreSound failing calls faults → FilesAreSound (failing ++ new ∷ []) calls faults
files_with failing new calls faults low sound = record {
  below = below_with (is_listed failing) _ new (is_listed-push failing new) low sound.below;
  few = few_with (is_listed failing) _ new (is_listed-push failing new) calls faults sound.few;
}

pub sink_with : (bytes : List ℕ) (room capacity : ℕ) (cuts : List Cut) (new : Cut)
    (calls faults : ℕ) → new.call < last_count → SinkIsSound bytes room capacity cuts calls faults →
    SinkIsSound bytes room capacity (cuts ++ new ∷ []) calls faults
sink_with bytes room capacity cuts new calls faults low sound = record {
  within = sound.within;
  reserved = sound.reserved;
  below = below_with (is_cut cuts) _ new.call (is_cut-push cuts new) low sound.below;
  few =
      λ more.
      few_with (is_cut cuts) _ new.call (is_cut-push cuts new) calls faults (sound.few more);
}

-- after a call of `fetch`
pub files_after_fault : (failing : List ℕ) (calls next faults : ℕ) → next ≡ risen calls →
    is_listed failing calls ≡ true → FilesAreSound failing calls faults →
    FilesAreSound failing next (risen faults)
files_after_fault failing calls next faults is listed sound = record {
  below = sound.below;
  few = few_if_listed (is_listed failing) calls next faults is sound.below listed sound.few;
}

pub files_after_call : (failing : List ℕ) (calls next faults : ℕ) → next ≡ risen calls →
    calls ≤ last_count → FilesAreSound failing calls faults → FilesAreSound failing next faults
files_after_call failing calls next faults is small sound = record {
  below = sound.below;
  few = few_otherwise (is_listed failing) calls next faults is small sound.few;
}

-- after a call of `put` that took some bytes
module _ (old new : List ℕ) (room before after : ℕ) (cuts : List Cut) (calls next faults : ℕ)
    (grows : length old ≤ length new) (fits : length new ≤ room) (reserved : before ≤ after)
    (is : next ≡ risen calls) (sound : SinkIsSound old room before cuts calls faults) where
  pub sink_after_call : calls ≤ last_count → SinkIsSound new room after cuts next faults
  sink_after_call small = record {
    within = fits;
    reserved = omega (arith, sound.reserved);
    below = sound.below;
    few = λ more. few_otherwise (is_cut cuts) calls next faults is small (sound.few (omega arith));
  }

  pub sink_after_fault : (is_cut cuts calls ≡ true) ⊎ (room ≤ length new) →
      SinkIsSound new room after cuts next (risen faults)
  sink_after_fault why = record {
    within = fits;
    reserved = omega (arith, sound.reserved);
    below = sound.below;
    few = λ more. by_cause why more;
  }
    where
      by_cause : (is_cut cuts calls ≡ true) ⊎ (room ≤ length new) → length new < room →
          risen faults ≤ listed_before (is_cut cuts) next
      by_cause (inl listed) more =
          few_if_listed (is_cut cuts) calls next faults is sound.below listed
          (sound.few (omega arith))
      by_cause (inr full) more = absurd (omega arith)
