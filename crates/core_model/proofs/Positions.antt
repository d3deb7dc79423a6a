-- The positions of a thread.
use Rattle.std.proofs.Common.{◌≡◌, ℕ, ◌%◌, ◌<◌, Bool, true, false, ◌&&◌, List, []}
use Rattle.std.proofs.Common.{◌∷◌, get_or, map, length, refl, ap, sym, ◌∙◌, arith}
use Rattle.std.specs.Prelude.{if◌then◌else◌, ◌==◌, nat_lt}
use Rattle.std.proofs.Math.ListN.{get_or-map}
use Rattle.std.proofs.lemmas.List.{length-map}
use Rattle.std.proofs.lemmas.Bool.Decides.{nat_tests}
use Rattle.core_model.specs.Solo.{has_position}
use Rattle.slot_scheduler.specs.ModeWord.{mode_of}
use Rattle.slot_table.specs.Frame.{frame, turn, turn_in, turn_of_slot}
use Rattle.slot_table.specs.declared.frame.Turn.TheVariants.{Thread, Soft}
use Rattle.core_model.specs.SettingLaws.{OwnPositions, is_turn_of}

of_slot : (i slot : ℕ) → i < 8 → (slot == i) ≡ is_turn_of (turn_of_slot slot) i
of_slot i slot h = go (nat_lt slot 8) refl
  where
    go : (b : Bool) → nat_lt slot 8 ≡ b →
        (slot == i) ≡ is_turn_of (if b then Thread slot else Soft) i
    go true e = refl
    go false e = grind (arith, nat_tests)

in_frame : (i c : ℕ) (fr : List ℕ) → i < 8 →
    has_position (map (λ slot. slot == i) fr) c ≡ is_turn_of (turn_in fr c) i
in_frame i c [] h = refl
in_frame i c (s ∷ ss) h =
    let none : (14 == i) ≡ false = grind (arith, nat_tests) in
    let f : ℕ → Bool = λ slot. slot == i in
    ap (λ n. get_or (map f (s ∷ ss)) (c % n) false) (length-map (s ∷ ss) f)
    ∙ ap (λ d. get_or (map f (s ∷ ss)) (c % length (s ∷ ss)) d) (sym none)
    ∙ get_or-map f (s ∷ ss) (c % length (s ∷ ss)) 14
    ∙ of_slot i (get_or (s ∷ ss) (c % length (s ∷ ss)) 14) h

pub own-positions : OwnPositions
unfolding turn
own-positions i c p h = go (mode_of p.modes i == 0)
  where
    and-true : (b : Bool) → b ≡ (b && true)
    and-true true = refl
    and-true false = refl

    and-false : (b : Bool) → false ≡ (b && false)
    and-false true = refl
    and-false false = refl

    go : (m : Bool) → has_position (if m then map (λ slot. slot == i) (frame p.slots) else []) c
        ≡ (is_turn_of (turn_in (frame p.slots) c) i && m)
    go true = in_frame i c (frame p.slots) h ∙ and-true (is_turn_of (turn_in (frame p.slots) c) i)
    go false = and-false (is_turn_of (turn_in (frame p.slots) c) i)
