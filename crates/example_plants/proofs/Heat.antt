-- A heated body in its range.
use Rattle.std.proofs.Common.{◌≡◌, ℕ, ◌-◌, ◌<◌, ℤ, pos, arith, refl}
use Rattle.std.proofs.Common.{List, [], ◌∷◌, fold, Bool, true, false, cond, ◌==◌, subst, sym}
use Rattle.std.specs.Prelude.{◌-ℤ◌, ◌<ℤ◌, ◌≤ℤ◌, All}
use Rattle.std.specs.Int.{w32, saturate_signed, cast_signed}
use Rattle.std.specs.Int.RustNames.{FitsSigned}
use Rattle.std.proofs.lemmas.Bool.Decides.{nat_tests}
use Rattle.std.proofs.lemmas.Int.{ints}
use Rattle.std.proofs.lemmas.List.Elements.{All-head, All-tail}
use Rattle.example_plants.specs.Lag.{lag_step}
use Rattle.example_plants.specs.Heating.{Heated, cold, after, load}
use Rattle.example_plants.specs.PlantLaws.{IsFrom, HeatsFrom, HeatStaysInRange}
use Rattle.example_plants.specs.PlantLaws.{UnheatedCools}
use Rattle.example_plants.proofs.Lags.{approaches, stays}

-- a body and its sensor in a range
record Ranged (low high : ℤ) (h : Heated) : Type 0 where
  body_fits : FitsSigned w32 h.body
  sensor_fits : FitsSigned w32 h.sensor
  body_in : IsFrom low high h.body
  sensor_in : IsFrom low high h.sensor

load_in : (u : ℕ) → IsFrom (pos 0) (pos 0x40000) (load u)
load_in u = go (u == 0)
  where
    go : (b : Bool) → IsFrom (pos 0) (pos 0x40000) (cond b (pos 0x40000) (pos 0))
    go true = (omega (arith, ints), omega (arith, ints))
    go false = (omega (arith, ints), omega (arith, ints))

-- the heating less the load
heat_in : (low high x l : ℤ) → low ≤ℤ pos 0 → pos 0 ≤ℤ high → IsFrom low high x →
    IsFrom (pos 0) (pos 0x40000) l →
    IsFrom (low -ℤ pos 0x40000) high (saturate_signed w32 (x -ℤ l))
    × FitsSigned w32 (saturate_signed w32 (x -ℤ l))
heat_in low high x l nl nh ix il = (
  (
    grind (arith, ints, nl, nh, ix.0, ix.1, il.0, il.1),
    grind (arith, ints, nl, nh, ix.0, ix.1, il.0, il.1),
  ),
  grind (arith, ints),
)

step : (low high : ℤ) (h : Heated) (w : ℕ) → low ≤ℤ pos 0 → pos 0 ≤ℤ high → HeatsFrom low high w →
    Ranged (low -ℤ pos 0x40000) high h → Ranged (low -ℤ pos 0x40000) high (after h w)
step low high h w nl nh iw r =
    let l : ℤ = load (h.unloaded - 1) in
    let t = heat_in low high (cast_signed w32 w) l nl nh iw (load_in (h.unloaded - 1)) in
    let from : ℤ = low -ℤ pos 0x40000 in
    let heat : ℤ = saturate_signed w32 (cast_signed w32 w -ℤ l) in
    let b = stays from high h.body heat 7 r.body_fits t.1 r.body_in t.0 in
    let s = stays from high h.sensor (lag_step h.body heat 7) 3 r.sensor_fits b.1 r.sensor_in b.0 in
    record { body_fits = b.1; sensor_fits = s.1; body_in = b.0; sensor_in = s.0 }

steps : (low high : ℤ) (h : Heated) (words : List ℕ) → low ≤ℤ pos 0 → pos 0 ≤ℤ high →
    All (HeatsFrom low high) words → Ranged (low -ℤ pos 0x40000) high h →
    Ranged (low -ℤ pos 0x40000) high (fold after h words)
steps low high h [] nl nh all r = r
steps low high h (w ∷ words) nl nh all r =
    steps low high (after h w) words nl nh (All-tail (HeatsFrom low high) w words all)
    (step low high h w nl nh (All-head (HeatsFrom low high) w words all) r)

pub in_range : HeatStaysInRange
in_range low high u words nl nh all =
    let zero_in : IsFrom (low -ℤ pos 0x40000) high (pos 0) = (omega (arith, ints, nl), nh) in
    let fits : FitsSigned w32 (pos 0) = omega (arith, ints) in
    let r = steps low high (cold u) words nl nh all
    (record { body_fits = fits; sensor_fits = fits; body_in = zero_in; sensor_in = zero_in }) in
    (r.body_in, r.sensor_in)

-- no heating and no load
unheated : (u : ℕ) → 1 < u → saturate_signed w32 (cast_signed w32 0 -ℤ load (u - 1)) ≡ pos 0
unheated u lt = let e : (u - 1 == 0) ≡ false = grind (arith, nat_tests, lt) in rw e refl

cooled : (body sensor : ℤ) → FitsSigned w32 body → FitsSigned w32 sensor → pos 0 <ℤ body →
    (pos 0 ≤ℤ lag_step body (pos 0) 7) × (lag_step body (pos 0) 7 <ℤ body)
    × (body ≤ℤ sensor → lag_step sensor (lag_step body (pos 0) 7) 3 <ℤ sensor)
cooled body sensor fb fs h =
    let fits : FitsSigned w32 (pos 0) = omega (arith, ints) in
    let r = (approaches body (pos 0) 7 fb fits).1 h in
    let k = (stays (pos 0) body body (pos 0) 7 fb fits
    (omega (arith, ints, h), omega (arith, ints)) (
      omega (arith, ints),
      omega
          (arith, ints, h),
    )).1 in (
      r.0,
      r.1,
      λ le. ((approaches sensor (lag_step body (pos 0) 7) 3 fs k).1
          (omega (arith, ints, r.1, le))).1,
    )

pub cools : UnheatedCools
cools h fb fs lt warm =
    subst (λ heat. (pos 0 ≤ℤ lag_step h.body heat 7) × (lag_step h.body heat 7 <ℤ h.body)
    × (h.body ≤ℤ h.sensor → lag_step h.sensor (lag_step h.body heat 7) 3 <ℤ h.sensor))
    (sym (unheated h.unloaded lt)) (cooled h.body h.sensor fb fs warm)
