-- The turns of a frame, slot by slot.
use Rattle.std.proofs.Common.{nat_lt, ◌≡◌, ◌<◌, ◌≤◌, ℕ, suc, ◌+◌, ◌-◌, ◌%◌, ◌==◌}
use Rattle.std.proofs.Common.{if◌then◌else◌, Bool, true, false, List, [], ◌∷◌, ◌++◌}
use Rattle.std.proofs.Common.{All, length, take, filter, get_or, set, replicate}
use Rattle.std.proofs.Common.{refl, ap, ◌∙◌, arith, append_assoc, length-append}
use Rattle.std.proofs.lemmas.List.{take_more, get_or_default, get_or-replicate}
use Rattle.std.proofs.lemmas.List.{length-replicate, append-nil}
use Rattle.std.proofs.lemmas.List.Elements.{filter-append, filter_passes}
use Rattle.std.proofs.lemmas.List.Elements.{All-append, All-filter, All-replicate}
use Rattle.std.proofs.lemmas.List.Sums.{length-filter, count_by-le-length, AllPass-from_list_all}
use Rattle.std.proofs.lemmas.Bool.Decides.{nat_tests}
use Rattle.std.proofs.Math.Seq.{set-append_seam}
use Rattle.std.proofs.Math.ListN.{get_or-append}
use Rattle.slot_table.specs.declared.frame.Turn.TheVariants.{Thread, Soft}
use Rattle.slot_table.specs.Nibbles.{nibbles}
use Rattle.slot_table.specs.Frame.{IsTurn, is_slot, is_used, turn_named}
use Rattle.slot_table.specs.Frame.{turn_of_slot, turn_in, frame, turn}
use Rattle.slot_table.specs.Table.{is_table, in_positions}

pub is_used-other : (n : ℕ) → (n ≡ 15 → ⊥) → is_used n ≡ true
is_used-other n other = grind (arith, nat_tests)

pub is_used-disabled : (n : ℕ) → n ≡ 15 → is_used n ≡ false
is_used-disabled n e = rw e refl

-- the frame of one more slot, which it keeps or leaves out
pub used-kept : (xs : List ℕ) (i : ℕ) → i < length xs → (get_or xs i 0 ≡ 15 → ⊥) →
    filter is_used (take (i + 1) xs) ≡ filter is_used (take i xs) ++ get_or xs i 0 ∷ []
used-kept xs i small other =
    rw (take_more xs i 0 small, filter-append is_used, is_used-other (get_or xs i 0) other) refl

pub used-left : (xs : List ℕ) (i : ℕ) → i < length xs → get_or xs i 0 ≡ 15 →
    filter is_used (take (i + 1) xs) ≡ filter is_used (take i xs)
used-left xs i small e =
    rw (take_more xs i 0 small, filter-append is_used, is_used-disabled (get_or xs i 0) e)
    (append-nil (filter is_used (take i xs)))

set-at_seam : (xs : List ℕ) (n : ℕ) (ys : List ℕ) (y z : ℕ) → length xs ≡ n →
    set (xs ++ y ∷ ys) n z ≡ xs ++ z ∷ ys
set-at_seam xs n ys y z e = rw (← e) (set-append_seam xs y ys z)

-- one more slot takes the next position
pub in_positions-push : (slots : List ℕ) (slot : ℕ) → length slots < 8 →
    set (in_positions slots) (length slots) slot ≡ in_positions (slots ++ slot ∷ [])
in_positions-push slots slot few =
    let positions : 8 - length slots ≡ suc (7 - length slots) = omega arith in
    let fewer : 8 - length (slots ++ slot ∷ []) ≡ 7 - length slots =
    simp length-append (omega arith) in
    let seam = set-at_seam slots (length slots) (replicate (7 - length slots) 15) 15 slot refl in
    rw (positions, fewer, append_assoc) seam

-- the frame has no more positions than the register has slots
pub length-filter-le : (p : ℕ → Bool) (xs : List ℕ) → length (filter p xs) ≤ length xs
length-filter-le p xs = rw length-filter (count_by-le-length p xs)

pub length-frame-le : (w : ℕ) → length (frame w) ≤ 8
unfolding frame nibbles
length-frame-le w = length-filter-le is_used (nibbles w)

is_there : (n a b : ℕ) → (if suc n == 0 then a else b) ≡ b
is_there n a b = grind (arith, nat_tests)

turn_named-used : (slot : ℕ) → is_used slot ≡ true → turn_named slot ≡ turn_of_slot slot
turn_named-used slot used = grind (arith, nat_tests, used)

-- the slot at a cycle's position gives the turn of the cycle
turn_named-position : (slots : List ℕ) (c p d : ℕ) → All (λ slot. is_used slot ≡ true) slots →
    p < 8 → p ≡ (if length slots == 0 then 0 else c % length slots) →
    turn_named (get_or (in_positions slots) p d) ≡ turn_in slots c
turn_named-position [] c p d used small e = ap turn_named (get_or-replicate 8 p 15 d small)
turn_named-position (slot ∷ slots) c p d used small e =
    let position : p ≡ c % suc (length slots) =
    e ∙ is_there (length slots) 0 (c % suc (length slots)) in
    let inside : p < length (slot ∷ slots) = omega arith in
    let left = get_or-append (slot ∷ slots) (replicate (8 - length (slot ∷ slots)) 15) d p inside in
    let same = get_or_default (slot ∷ slots) p d 14 inside in
    ap turn_named (left ∙ same)
    ∙ turn_named-used (get_or (slot ∷ slots) p 14) (used p 14 inside)
    ∙ ap (λ i. turn_of_slot (get_or (slot ∷ slots) i 14)) position

pub turn_named-slot : (w c p d : ℕ) → p < 8 →
    p ≡ (if length (frame w) == 0 then 0 else c % length (frame w)) →
    turn_named (get_or (in_positions (frame w)) p d) ≡ turn w c
unfolding frame turn
turn_named-slot w c p d small e =
    turn_named-position (frame w) c p d (filter_passes is_used (nibbles w)) small e

inside-padded : (slots : List ℕ) (p : ℕ) → length slots ≤ 8 → p < 8 →
    p < length (in_positions slots)
inside-padded slots p few small = rw (length-append, length-replicate) (omega (arith, few, small))

-- the nibble of a position is a slot
pub is_slot-position : (w p d : ℕ) → is_table w ≡ true → p < 8 →
    is_slot (get_or (in_positions (frame w)) p d) ≡ true
unfolding frame is_table nibbles
is_slot-position w p d is small =
    let all : All (λ slot. is_slot slot ≡ true) (nibbles w) =
    AllPass-from_list_all is_slot (nibbles w) is in
    let kept = All-filter is_used (λ slot. is_slot slot ≡ true) (nibbles w) all in
    let slots = filter is_used (nibbles w) in
    let padded = All-append (λ slot. is_slot slot ≡ true) slots (replicate (8 - length slots) 15)
    kept (All-replicate (λ slot. is_slot slot ≡ true) (8 - length slots) 15 refl) in
    padded p d (inside-padded slots p (length-filter-le is_used (nibbles w)) small)

-- a thread's slot is that of one of the eight threads
IsTurn-chosen : (slot : ℕ) (below : Bool) → nat_lt slot 8 ≡ below →
    IsTurn (if below then Thread slot else Soft)
IsTurn-chosen slot true e = grind (arith, nat_tests)
IsTurn-chosen slot false e = tt

IsTurn-slot : (slot : ℕ) → IsTurn (turn_of_slot slot)
IsTurn-slot slot = IsTurn-chosen slot (nat_lt slot 8) refl

IsTurn-turn_in : (slots : List ℕ) (c : ℕ) → IsTurn (turn_in slots c)
IsTurn-turn_in [] c = tt
IsTurn-turn_in (slot ∷ slots) c = IsTurn-slot (get_or (slot ∷ slots) (c % suc (length slots)) 14)

pub IsTurn-turn : (w c : ℕ) → IsTurn (turn w c)
unfolding turn
IsTurn-turn w c = IsTurn-turn_in (frame w) c
