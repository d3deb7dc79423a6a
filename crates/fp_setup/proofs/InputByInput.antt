-- The inputs of a list, input by input.
use Rattle.std.proofs.Common.{◌≡◌, ℕ, ◌<◌, ◌≤◌, ◌+◌, true, arith, List, [], ◌∷◌, ◌++◌, length}
use Rattle.std.proofs.Common.{get_or, take, drop, map, Option, Some, None, refl, sym, ap, ◌∙◌}
use Rattle.std.specs.List.{All, AllPairs}
use Rattle.std.proofs.lemmas.Bool.{ltb-true}
use Rattle.std.proofs.lemmas.List.Elements.{All-push}
use Rattle.std.proofs.lemmas.List.Quantifiers.{all_pairs_push}
use Rattle.std.proofs.lemmas.List.{take_more, drop_more, take_all, drop_all}
use Rattle.std.proofs.lemmas.List.{length-take, length-map, map-append}
use Rattle.fp_setup.specs.declared.refusal.Fault.{Fault}
use Rattle.toml.specs.declared.value.Value.{Value}
use Rattle.toml.specs.View.{view}
use Rattle.fp_setup.specs.declared.refusal.Place.{Place}
use Rattle.fp_setup.specs.declared.input_list.Input.{Input}
use Rattle.fp_setup.specs.Faults.{element_of}
use Rattle.fp_setup.specs.Values.{input_of}
use Rattle.fp_setup.specs.Checks.{input_check, inputs_from, is_after}
use Rattle.fp_setup.proofs.Lists.{IsReached}

-- a fault of an input is the first of the rest
pub found-here : (items : List Value) (i : ℕ) (x : Value) → i < length items →
    x ≡ get_or items i x → (place : Place) (before : Option ℕ) (f : Fault) →
    input_check before (element_of place i) (view x) ≡ Some f →
    inputs_from place i before (map view (drop i items)) ≡ Some f
found-here items i x inside is place before f bad =
    let rest : drop i items ≡ x ∷ drop (i + 1) items =
    drop_more items i x inside ∙ ap (λ y. y ∷ drop (i + 1) items) (sym is) in
    rw (rest, bad) refl

-- after the last input no fault is left, and each input was read
pub found-none : (items : List Value) (i : ℕ) → length items ≤ i → (place : Place)
    (before : Option ℕ) → inputs_from place i before (map view (drop i items)) ≡ None
found-none items i past place before = rw (drop_all i items past) refl

pub read-all : (items : List Value) (i : ℕ) → length items ≤ i → (read : List Input) →
    read ≡ map input_of (map view (take i items)) → read ≡ map input_of (map view items)
read-all items i past read so_far = rw (take_all i items past) at so_far

pub read-few : (items : List Value) (i : ℕ) (read : List Input) → length items ≤ 4096 →
    read ≡ map input_of (map view (take i items)) → length read ≤ 4096
read-few items i read few so_far = rw so_far (simp (length-map, length-take) (omega arith))

module _ (items : List Value) (i : ℕ) (x : Value) (new : Input) (inside : i < length items)
    (is : x ≡ get_or items i x) (same : new ≡ input_of (view x)) where
  -- the faults that are left, after one more input
  pub found-more : (place : Place) (before : Option ℕ) → input_check before (element_of place i)
      (view x) ≡ None → inputs_from place i before (map view (drop i items))
      ≡ inputs_from place (i + 1) (Some new.at) (map view (drop (i + 1) items))
  found-more place before good =
      let rest : drop i items ≡ x ∷ drop (i + 1) items =
      drop_more items i x inside ∙ ap (λ y. y ∷ drop (i + 1) items) (sym is) in
      rw (rest, good, same) refl

  -- the inputs so far
  pub read-more : (read after : List Input) → after ≡ read ++ new ∷ [] →
      read ≡ map input_of (map view (take i items)) →
      after ≡ map input_of (map view (take (i + 1) items))
  read-more read after more before =
      rw (more, take_more items i x inside, ← is, map-append, map-append, before, same) refl

-- a cycle after the last one is after all cycles that were reached before
later : (before : Option ℕ) (old new : ℕ) → IsReached before old →
    is_after before new ≡ true → old < new
later None old new reached after = absurd reached
later (Some last) old new reached after = omega (arith, ltb-true last new after, reached)

module _ (read after : List Input) (new : Input) (before : Option ℕ)
    (more : after ≡ read ++ new ∷ []) (reached : All (λ (i : Input). IsReached before i.at) read)
    (is_later : is_after before new.at ≡ true) where
  -- their cycles rise
  pub rising-more : AllPairs (λ (i j : Input). i.at < j.at) read →
      AllPairs (λ (i j : Input). i.at < j.at) after
  rising-more rising =
      rw more (all_pairs_push (λ (i j : Input). i.at < j.at) read new rising
      (λ k d h. later before _ new.at (reached k d h) is_later))

  -- the new cycle is reached
  pub reached-more : All (λ (i : Input). IsReached (Some new.at) i.at) after
  reached-more =
      rw more (All-push (λ (i : Input). IsReached (Some new.at) i.at) read new (λ k d h.
      let less = later before _ new.at (reached k d h) is_later in omega arith) (omega arith))
