-- The rules that a value keeps if its check finds no fault.
use Rattle.std.proofs.Common.{◌≡◌, ℕ, ℤ, pos, negsuc, ◌+◌, ◌<◌, ◌≤◌, ◌==◌, ◌&&◌, Bool}
use Rattle.std.proofs.Common.{true, false, nat_le, nat_lt, List, [], ◌∷◌, length}
use Rattle.std.proofs.Common.{map, Option, Some, None, is_some, if◌then◌else◌, IfSome}
use Rattle.std.proofs.Common.{IsTrue, option_map, unwrap_or, All, AllPairs, refl, ◌∙◌}
use Rattle.std.proofs.Common.{arith, ltb-true, lt-ltb, ltb-false, leb-true, eqb-true}
use Rattle.std.specs.List.{list_all}
use Rattle.std.specs.Option.{option_map_or}
use Rattle.std.specs.Str.{bytes_eq}
use Rattle.std.proofs.lemmas.Bool.{and_parts}
use Rattle.std.proofs.lemmas.List.{length-map}
use Rattle.std.proofs.lemmas.List.Elements.{All-nil, All-cons, All-weaker}
use Rattle.std.proofs.lemmas.List.Kept.{AllPairs-cons}
use Rattle.toml.specs.Data.{Data, as_integer, as_str, as_bool}
use Rattle.timer_unit.specs.Time.{most_cycles}
use Rattle.fp_setup.specs.declared.refusal.Place.{Place}
use Rattle.fp_setup.specs.declared.refusal.Fault.{Fault}
use Rattle.fp_setup.specs.declared.refusal.SetupNo.TheVariants as no
use Rattle.fp_setup.specs.declared.bounds.Range.{Range}
use Rattle.fp_setup.specs.declared.input_list.Input.{Input}
use Rattle.fp_setup.specs.declared.vocabulary.Words.{Words}
use Rattle.fp_setup.specs.declared.vocabulary.Words.TheVariants.{Slots, Owners, Modes}
use Rattle.fp_setup.specs.Faults.{fault, first, fault_at, element_of}
use Rattle.fp_setup.specs.Inputs.{AreInputs}
use Rattle.fp_setup.specs.Vocabulary.{Text, entries, is_value, is_word}
use Rattle.fp_setup.specs.Vocabulary.{number_in, number_of, refusal}
use Rattle.fp_setup.specs.Values.{as_list, elements, input_in, input_of}
use Rattle.fp_setup.specs.Values.{natural, number, pair, text, truth}
use Rattle.fp_setup.specs.Checks.{Check, typed, is_in, integer_fault, integer_check}
use Rattle.fp_setup.specs.Checks.{bytes_fault, bytes_check, word_fault, word_check, permit_check}
use Rattle.fp_setup.specs.Checks.{each_fault, eight_fault, eight_check, is_after, is_input}
use Rattle.fp_setup.specs.Checks.{input_check, inputs_from, inputs_fault, few_fault, list_check}
use Rattle.fp_setup.specs.FaultOrder.{key_fault}
use Rattle.fp_setup.specs.SetupOfTables.{number_of_name, nibble_word, word_of}
use Rattle.fp_setup.proofs.Digits.{accepted, nibbles-word_of, small_values}

-- a fault isn't None
pub some-fault : (f : Fault) → Some f ≡ None → ⊥
some-fault f h = cc

-- if two checks find nothing, each of them finds nothing
pub parts : (here later : Option Fault) → first here later ≡ None → (here ≡ None) × (later ≡ None)
parts None later h = (refl, h)
parts (Some f) later h = absurd (some-fault f h)

passed : (b : Bool) (f : Fault) → (if b then None else Some f) ≡ None → b ≡ true
passed true f h = refl
passed false f h = absurd (some-fault f h)

failed : (b : Bool) (f : Fault) → (if b then Some f else None) ≡ None → b ≡ false
failed true f h = absurd (some-fault f h)
failed false f h = refl

integer-in : (range : Range) (place : Place) (o : Option ℤ) →
    typed place o (integer_fault range place) ≡ None →
    is_in range (option_map_or natural o 0) ≡ true
integer-in range place None h = absurd (some-fault (fault_at no.WrongType place) h)
integer-in range place (Some (pos n)) h = passed (is_in range n) (fault_at no.OutOfRange place) h
integer-in range place (Some (negsuc n)) h = absurd (some-fault (fault_at no.OutOfRange place) h)

pub integer-kept : (range : Range) (place : Place) (d : Data) → integer_check range place d ≡ None →
    is_in range (number d) ≡ true
unfolding integer_check
integer-kept range place d h = integer-in range place (as_integer d) h

permit-in : (confined : Bool) (place : Place) (o : Option Bool) →
    typed place o (λ (b : Bool). if confined && b then fault no.ConfinedPermit place else None)
    ≡ None → (confined && unwrap_or o false) ≡ false
permit-in confined place None h = absurd (some-fault (fault_at no.WrongType place) h)
permit-in confined place (Some b) h = failed (confined && b) (fault_at no.ConfinedPermit place) h

pub permit-kept : (confined : Bool) (place : Place) (d : Data) →
    permit_check confined place d ≡ None → (confined && truth d) ≡ false
unfolding permit_check
permit-kept confined place d h = permit-in confined place (as_bool d) h

-- the number of a text's bytes is in a range
abbrev pub IsLong : ℕ → ℕ → Text → Type 0
IsLong low high t = (low ≤ length t) × (length t ≤ high)

bytes-in : (low high : ℕ) (place : Place) (o : Option Text) →
    typed place o (bytes_fault low high place) ≡ None → IsLong low high (unwrap_or o [])
bytes-in low high place None h = absurd (some-fault (fault_at no.WrongType place) h)
bytes-in low high place (Some t) h =
    let (least, most) = and_parts (nat_le low (length t)) (nat_le (length t) high)
    (passed (nat_le low (length t) && nat_le (length t) high) (fault_at no.OutOfRange place) h) in
    (leb-true low (length t) least, leb-true (length t) high most)

pub bytes-kept : (low high : ℕ) (place : Place) (d : Data) → bytes_check low high place d ≡ None →
    IsLong low high (text d)
unfolding bytes_check
bytes-kept low high place d h = bytes-in low high place (as_str d) h

-- the value of a listed text is one of the list's numbers
listed : (p : ℕ → Bool) (es : List (Text × ℕ)) (t : Text) →
    list_all (λ (e : Text × ℕ). p e.1) es ≡ true → is_some (number_in es t) ≡ true →
    p (unwrap_or (number_in es t) 0) ≡ true
listed p [] t all some = cc
listed p (e ∷ es) t all some = go (bytes_eq t e.0) some (listed p es t both.1)
  where
    both : (p e.1 ≡ true) × (list_all (λ (e : Text × ℕ). p e.1) es ≡ true)
    both = and_parts (p e.1) (list_all (λ (e : Text × ℕ). p e.1) es) all

    go : (b : Bool) → is_some (if b then Some e.1 else number_in es t) ≡ true →
        (is_some (number_in es t) ≡ true → p (unwrap_or (number_in es t) 0) ≡ true) →
        p (unwrap_or (if b then Some e.1 else number_in es t) 0) ≡ true
    go true h later = both.0
    go false h later = later h

numbers : (words : Words) → list_all (λ (e : Text × ℕ). is_value words e.1) (entries words) ≡ true
numbers Slots = refl
numbers Owners = refl
numbers Modes = refl

word-in : (words : Words) (place : Place) (o : Option Text) →
    typed place o (word_fault words place) ≡ None →
    is_value words (number_of_name words (unwrap_or o [])) ≡ true
unfolding number_of_name number_of
word-in words place None h = absurd (some-fault (fault_at no.WrongType place) h)
word-in words place (Some t) h =
    listed (is_value words) (entries words) t (numbers words)
    (passed (is_some (number_in (entries words) t)) (fault_at (refusal words) place) h)

pub word-kept : (words : Words) (place : Place) (d : Data) → word_check words place d ≡ None →
    is_value words (number_of_name words (text d)) ≡ true
unfolding word_check
word-kept words place d h = word-in words place (as_str d) h

each-kept : (words : Words) (place : Place) (index : ℕ) (ds : List Data) →
    each_fault (word_check words) place index ds ≡ None →
    list_all (is_value words) (map (λ d. number_of_name words (text d)) ds) ≡ true
each-kept words place index [] h = refl
each-kept words place index (d ∷ ds) h =
    let (here, more) = parts (word_check words (element_of place index) d)
    (each_fault (word_check words) place (index + 1) ds) h in
    rw (word-kept words (element_of place index) d here, each-kept words place (index + 1) ds more)
    refl

eight-in : (words : Words) (place : Place) (o : Option (List Data)) →
    typed place o (eight_fault words place) ≡ None →
    IsTrue (is_word words (nibble_word words (unwrap_or o [])))
unfolding nibble_word
eight-in words place None h = absurd (some-fault (fault_at no.WrongType place) h)
eight-in words place (Some ds) h = go (length ds == 8) refl h
  where
    ns : List ℕ
    ns = map (λ d. number_of_name words (text d)) ds

    go : (b : Bool) → (length ds == 8) ≡ b →
        (if b then each_fault (word_check words) place 0 ds else fault no.OutOfRange place) ≡ None →
        IsTrue (is_word words (word_of 16 ns))
    go true e good =
        let values : list_all (is_value words) ns ≡ true = each-kept words place 0 ds good in
        let eight : length ns ≡ 8 =
        length-map ds (λ d. number_of_name words (text d)) ∙ eqb-true (length ds) 8 e in
        accepted words ns (word_of 16 ns)
        (nibbles-word_of ns (small_values words ns values) eight) values
    go false e bad = absurd (some-fault (fault_at no.OutOfRange place) bad)

pub eight-kept : (words : Words) (place : Place) (d : Data) → eight_check words place d ≡ None →
    IsTrue (is_word words (nibble_word words (elements d)))
unfolding eight_check
eight-kept words place d h = eight-in words place (as_list d) h

-- an input is not too late, and comes after the one before
abbrev IsNext : Option ℕ → Input → Type 0
IsNext before i = (i.at ≤ most_cycles) × (is_after before i.at ≡ true)

next-in : (before : Option ℕ) (at word : ℤ) → is_input before at word ≡ true →
    (natural at ≤ most_cycles) × (is_after before (natural at) ≡ true)
next-in before (pos at) (pos word) h =
    let (both, small) =
    and_parts (nat_le at most_cycles && is_after before at) (nat_le word 4294967295) h in
    let (early, late) = and_parts (nat_le at most_cycles) (is_after before at) both in
    (leb-true at most_cycles early, late)
next-in before (pos at) (negsuc word) h = cc
next-in before (negsuc at) word h = cc

input-in : (before : Option ℕ) (place : Place) (o : Option (ℤ × ℤ)) →
    typed place o
    (λ (p : ℤ × ℤ). if is_input before p.0 p.1 then None else fault no.OutOfRange place) ≡ None →
    IsNext before (input_in o)
input-in before place None h = absurd (some-fault (fault_at no.WrongType place) h)
input-in before place (Some p) h =
    next-in before p.0 p.1 (passed (is_input before p.0 p.1) (fault_at no.OutOfRange place) h)

input-kept : (before : Option ℕ) (place : Place) (d : Data) → input_check before place d ≡ None →
    IsNext before (input_of d)
unfolding input_check input_of
input-kept before place d h = input-in before place (pair d) h

-- inputs that come after one with that cycle
record Follow (before : Option ℕ) (inputs : List Input) : Type 0 where
  within : All (λ (i : Input). i.at ≤ most_cycles) inputs
  after : All (λ (i : Input). is_after before i.at ≡ true) inputs
  rising : AllPairs (λ (i j : Input). i.at < j.at) inputs

still-after : (before : Option ℕ) (at later : ℕ) → is_after before at ≡ true →
    nat_lt at later ≡ true → is_after before later ≡ true
still-after None at later h g = refl
still-after (Some first) at later h g =
    lt-ltb first later (omega (arith, ltb-true first at h, ltb-true at later g))

inputs-follow : (place : Place) (index : ℕ) (before : Option ℕ) (ds : List Data) →
    inputs_from place index before ds ≡ None → Follow before (map input_of ds)
inputs-follow place index before [] h = record {
  within = All-nil _;
  after = All-nil _;
  rising = λ i j d below inside. absurd (omega arith);
}
inputs-follow place index before (d ∷ ds) h =
    let i : Input = input_of d in
    let (here, more) = parts (input_check before (element_of place index) d)
    (inputs_from place (index + 1) (Some i.at) ds) h in
    let next : IsNext before i = input-kept before (element_of place index) d here in
    let rest : Follow (Some i.at) (map input_of ds) =
    inputs-follow place (index + 1) (Some i.at) ds more in
    let After : Input → Type 0 = λ j. is_after before j.at ≡ true in
    let Later : Input → Type 0 = λ j. nat_lt i.at j.at ≡ true in
    let Rises : Input → Input → Type 0 = λ k j. k.at < j.at in
    record {
      within = All-cons (λ (j : Input). j.at ≤ most_cycles) i (map input_of ds) next.0 rest.within;
      after =
          All-cons After i (map input_of ds) next.1 (All-weaker Later After
          (λ j later. still-after before i.at j.at next.1 later) (map input_of ds) rest.after);
      rising =
          AllPairs-cons Rises i (map input_of ds) (All-weaker Later (Rises i)
          (λ j later. ltb-true i.at j.at later) (map input_of ds) rest.after) rest.rising;
    }

-- a list has at most that many elements, and their check finds nothing
list-in : (most : ℕ) (check : Place → List Data → Option Fault) (place : Place)
    (o : Option (List Data)) → typed place o (few_fault most check place) ≡ None →
    (length (unwrap_or o []) ≤ most) × (check place (unwrap_or o []) ≡ None)
list-in most check place None h = absurd (some-fault (fault_at no.WrongType place) h)
list-in most check place (Some ds) h = go (nat_lt most (length ds)) refl h
  where
    go : (b : Bool) → nat_lt most (length ds) ≡ b →
        (if b then fault no.TooMany place else check place ds) ≡ None →
        (length ds ≤ most) × (check place ds ≡ None)
    go true e bad = absurd (some-fault (fault_at no.TooMany place) bad)
    go false e good = (ltb-false most (length ds) e, good)

pub list-kept : (most : ℕ) (check : Place → List Data → Option Fault) (place : Place) (d : Data) →
    list_check most check place d ≡ None →
    (length (elements d) ≤ most) × (check place (elements d) ≡ None)
unfolding list_check
list-kept most check place d h = list-in most check place (as_list d) h

pub inputs-kept : (place : Place) (d : Data) → list_check 4096 inputs_fault place d ≡ None →
    AreInputs (map input_of (elements d))
inputs-kept place d h =
    let (few, good) = list-kept 4096 inputs_fault place d h in
    let follow : Follow None (map input_of (elements d)) =
    inputs-follow place 0 None (elements d) good in
    let count : length (map input_of (elements d)) ≡ length (elements d) =
    length-map (elements d) input_of in
    record { few = omega (arith, few, count); within = follow.within; rising = follow.rising }

-- a property of each value that passes the check holds of the value of a key
pub needed-kept : {X : Type 0} (Q : X → Type 0) (say : Data → X) (other : X) (check : Check)
    (place : Place) (o : Option Data) → key_fault check true place o ≡ None →
    ((d : Data) → check place d ≡ None → Q (say d)) → Q (option_map_or say o other)
unfolding key_fault
needed-kept Q say other check place None h each =
    absurd (some-fault (fault_at no.MissingKey place) h)
needed-kept Q say other check place (Some d) h each = each d h

pub optional-kept : {X : Type 0} (Q : X → Type 0) (say : Data → X) (other : X) (check : Check)
    (place : Place) (o : Option Data) → key_fault check false place o ≡ None →
    Q other → ((d : Data) → check place d ≡ None → Q (say d)) → Q (option_map_or say o other)
unfolding key_fault
optional-kept Q say other check place None h rest each = rest
optional-kept Q say other check place (Some d) h rest each = each d h

pub moment-kept : (range : Range) (place : Place) (o : Option Data) →
    key_fault (integer_check range) false place o ≡ None →
    IfSome (option_map number o) (λ at. is_in range at ≡ true)
unfolding key_fault
moment-kept range place None h = tt
moment-kept range place (Some d) h = integer-kept range place d h
