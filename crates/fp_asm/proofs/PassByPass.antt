-- The passes, line by line.
use Rattle.std.proofs.Common.{◌≡◌, ℕ, ◌<◌, ◌≤◌, ◌+◌, List, Ok, Err, refl}
use Rattle.std.proofs.Common.{map, drop, length, get_or, Bor, add-one}
use Rattle.std.proofs.Math.Seq.{drop-cons}
use Rattle.std.proofs.Math.ListN.{drop_of_length-le}
use Rattle.fp_asm.specs.Faults.{IsFaultOf, IsLineStopOf, refused_in}
use Rattle.fp_asm.specs.First.{Labels, Placed, first_line, first_pass}
use Rattle.fp_asm.specs.Second.{Written, second_line, second_pass}
use Rattle.fp_asm.specs.declared.refusal.AsmNo.{AsmNo}
use Rattle.fp_asm.specs.declared.refusal.AsmRefused.TheVariants as refused
use Rattle.fp_asm.specs.declared.refusal.LineStop.{LineStop}
use Rattle.fp_asm.specs.declared.refusal.LineStop.TheVariants as stop

module _ (n : ℕ) (p : Placed) (lines : List (Bor (List ℕ))) (i : ℕ) (d : Bor (List ℕ)) where
  pub first_here : (q : Placed) → i < length lines → first_line p (get_or lines i d).now ≡ Ok q →
      first_pass n p (map (λ l. l.now) (drop i lines))
      ≡ first_pass (n + 1) q (map (λ l. l.now) (drop (i + 1) lines))
  unfolding first_pass
  first_here q h e = rw (drop-cons lines i d h, e, add-one i) refl

  pub first_fault : (code : AsmNo) → i < length lines →
      first_line p (get_or lines i d).now ≡ Err code →
      first_pass n p (map (λ l. l.now) (drop i lines)) ≡ Err (refused.Fault n code)
  unfolding first_pass
  first_fault code h e = rw (drop-cons lines i d h, e) refl

  pub first_stop : (why : LineStop) → i < length lines →
      IsLineStopOf (first_line p (get_or lines i d).now) why →
      IsFaultOf (first_pass n p (map (λ l. l.now) (drop i lines))) (refused_in n why)
  first_stop (stop.Fault code) h e = first_fault code h e
  first_stop stop.NoMemory h e = tt

pub first_end : (n : ℕ) (p : Placed) (lines : List (Bor (List ℕ))) (i : ℕ) → length lines ≤ i →
    first_pass n p (map (λ l. l.now) (drop i lines)) ≡ Ok p
unfolding first_pass
first_end n p lines i h = rw (drop_of_length-le lines h) refl

module _ (n : ℕ) (labels : Labels) (w : Written) (lines : List (Bor (List ℕ))) (i : ℕ)
    (d : Bor (List ℕ)) where
  pub second_here : (v : Written) → i < length lines →
      second_line labels w (get_or lines i d).now ≡ Ok v →
      second_pass n labels w (map (λ l. l.now) (drop i lines))
      ≡ second_pass (n + 1) labels v (map (λ l. l.now) (drop (i + 1) lines))
  unfolding second_pass
  second_here v h e = rw (drop-cons lines i d h, e, add-one i) refl

  pub second_fault : (code : AsmNo) → i < length lines →
      second_line labels w (get_or lines i d).now ≡ Err code →
      second_pass n labels w (map (λ l. l.now) (drop i lines)) ≡ Err (refused.Fault n code)
  unfolding second_pass
  second_fault code h e = rw (drop-cons lines i d h, e) refl

  pub second_stop : (why : LineStop) → i < length lines →
      IsLineStopOf (second_line labels w (get_or lines i d).now) why →
      IsFaultOf (second_pass n labels w (map (λ l. l.now) (drop i lines))) (refused_in n why)
  second_stop (stop.Fault code) h e = second_fault code h e
  second_stop stop.NoMemory h e = tt

pub second_end : (n : ℕ) (labels : Labels) (w : Written) (lines : List (Bor (List ℕ))) (i : ℕ) →
    length lines ≤ i → second_pass n labels w (map (λ l. l.now) (drop i lines)) ≡ Ok w
unfolding second_pass
second_end n labels w lines i h = rw (drop_of_length-le lines h) refl
