-- First-order lags approach their targets.
use Rattle.std.proofs.Common.{◌≡◌, ℕ, ◌^◌, ℤ, pos, negsuc, arith, Bool, true, false, refl}
use Rattle.std.proofs.Common.{◌⊎◌, inl, inr}
use Rattle.std.specs.Prelude.{◌-ℤ◌, ◌+ℤ◌, ◌<ℤ◌, ◌≤ℤ◌}
use Rattle.std.specs.Int.{w32, int_shr, saturate_signed}
use Rattle.std.specs.Int.Signed.{shr_z, lt_z}
use Rattle.std.specs.Int.RustNames.{FitsSigned}
use Rattle.std.proofs.Math.Nat.{div-le_self}
use Rattle.std.proofs.lemmas.Int.{ints}
use Rattle.example_plants.specs.Lag.{lag_step}
use Rattle.example_plants.specs.PlantLaws.{LagsApproach, IsFrom}

-- a shift keeps the sign and doesn't go up
pub record Shrinks (x y : ℤ) : Type 0 where
  pub up : pos 0 ≤ℤ x → IsFrom (pos 0) x y
  pub down : x <ℤ pos 0 → (x ≤ℤ y) × (y <ℤ pos 0)

shrinks : (x : ℤ) (d : ℕ) → Shrinks x (shr_z x d)
shrinks (pos a) d = record {
  up = λ h. (omega (arith, ints), omega (arith, ints, div-le_self a d));
  down = λ h. absurd (omega (arith, ints, h));
}
shrinks (negsuc a) d = record {
  up = λ h. absurd (omega (arith, ints, h));
  down = λ h. (omega (arith, ints, div-le_self a d), omega (arith, ints));
}

saturates_up : (z : ℤ) → pos 0 ≤ℤ z → IsFrom (pos 0) z (saturate_signed w32 z)
saturates_up z h = grind (arith, ints, h)

saturates_down : (z : ℤ) → z <ℤ pos 0 →
    (z ≤ℤ saturate_signed w32 z) × (saturate_signed w32 z <ℤ pos 0)
saturates_down z h = grind (arith, ints, h)

saturated : (z low high : ℤ) → FitsSigned w32 low → FitsSigned w32 high → low ≤ℤ z → z ≤ℤ high →
    saturate_signed w32 z ≡ z
saturated z low high fl fh l h = grind (arith, ints, fl, fh, l, h)

pub ordered : (v t : ℤ) → (v ≤ℤ t) ⊎ (t <ℤ v)
ordered v t = go (lt_z t v) refl
  where
    go : (b : Bool) → lt_z t v ≡ b → (v ≤ℤ t) ⊎ (t <ℤ v)
    go true e = inr (grind (arith, ints, e))
    go false e = inl (grind (arith, ints, e))

between : (low high z : ℤ) → FitsSigned w32 low → FitsSigned w32 high → low ≤ℤ z → z ≤ℤ high →
    FitsSigned w32 z
between low high z fl fh l h = omega (arith, ints, fl, fh, l, h)

upward : (v t y : ℤ) → FitsSigned w32 v → FitsSigned w32 t →
    Shrinks (saturate_signed w32 (t -ℤ v)) y → v ≤ℤ t → IsFrom v t (saturate_signed w32 (v +ℤ y))
upward v t y fv ft s h =
    let d = saturates_up (t -ℤ v) (omega (arith, ints, h)) in
    let u = s.up d.0 in
    let l : v ≤ℤ (v +ℤ y) = omega (arith, ints, u.0) in
    let m : (v +ℤ y) ≤ℤ t = omega (arith, ints, u.1, d.1) in
    rw (saturated (v +ℤ y) v t fv ft l m) (l, m)

downward : (v t y : ℤ) → FitsSigned w32 v → FitsSigned w32 t →
    Shrinks (saturate_signed w32 (t -ℤ v)) y → t <ℤ v →
    (t ≤ℤ saturate_signed w32 (v +ℤ y)) × (saturate_signed w32 (v +ℤ y) <ℤ v)
downward v t y fv ft s h =
    let d = saturates_down (t -ℤ v) (omega (arith, ints, h)) in
    let u = s.down d.1 in
    let l : t ≤ℤ (v +ℤ y) = omega (arith, ints, u.0, d.0) in
    let m : (v +ℤ y) <ℤ v = omega (arith, ints, u.1) in
    let k : (v +ℤ y) ≤ℤ v = omega (arith, ints, m) in
    rw (saturated (v +ℤ y) t v ft fv l k) (l, m)

pub approaches : LagsApproach
approaches v t bits fv ft =
    let s = shrinks (saturate_signed w32 (t -ℤ v)) (2 ^ bits) in
    let y : ℤ = int_shr (saturate_signed w32 (t -ℤ v)) bits in
    (upward v t y fv ft s, downward v t y fv ft s)

-- a lag stays in a range that holds its value and its target
pub stays : (low high v t : ℤ) (bits : ℕ) → FitsSigned w32 v → FitsSigned w32 t →
    IsFrom low high v → IsFrom low high t →
    IsFrom low high (lag_step v t bits) × FitsSigned w32 (lag_step v t bits)
stays low high v t bits fv ft iv it = by (ordered v t)
  where
    by : (v ≤ℤ t) ⊎ (t <ℤ v) →
        IsFrom low high (lag_step v t bits) × FitsSigned w32 (lag_step v t bits)
    by (inl h) =
        let r = (approaches v t bits fv ft).0 h in (
          (
            omega (arith, ints, r.0, iv.0),
            omega
                (arith, ints, r.1, it.1),
          ),
          between v t _ fv ft r.0 r.1,
        )
    by (inr h) =
        let r = (approaches v t bits fv ft).1 h in
        let k : lag_step v t bits ≤ℤ v = omega (arith, ints, r.1) in
        ((omega (arith, ints, r.0, it.0), omega (arith, ints, k, iv.1)), between t v _ ft fv r.0 k)
