-- The quotient of two words that are read with a sign.
use Rattle.std.proofs.Common.{◌≡◌, ℤ, ap, ◌∙◌}
use Rattle.std.specs.Prelude.{int_div}
use Rattle.std.specs.Int.{int_wrapping_div}
use Rattle.std.proofs.lemmas.Int.{to_z-of_z}
use mir.Syntax.{w32}
use mir.Val.{SFits, of_z, to_z}
use Rattle.rv_exec.specs.Words.{word, signed}
use Rattle.rv_exec.specs.Alu.{quotient}
use Rattle.rv_exec.proofs.Signs.{signed-is}
use Rattle.rv_exec.proofs.Quotients.{quotient_word}
use Rattle.rv_exec.proofs.muldiv.divide.Goals as goal

pub returns : goal.returns
returns c =
    let x = c.cast_signed.result in
    let y = c.cast_signed-2.result in
    let q = c.wrapping_div.result in
    let x_fits : SFits w32 x = record { sfits = c.cast_signed.type_inv } in
    let y_fits : SFits w32 y = record { sfits = c.cast_signed-2.type_inv } in
    let q_fits : SFits w32 q = record { sfits = c.wrapping_div.type_inv } in
    let divided : q ≡ to_z w32 (of_z w32 (int_div x y)) = c.wrapping_div.ensures
    ∙ ap (λ (z : ℤ). int_wrapping_div w32 z (to_z w32 (of_z w32 y))) (to_z-of_z w32 x x_fits)
    ∙ ap (λ (z : ℤ). int_wrapping_div w32 x z) (to_z-of_z w32 y y_fits) in
    let first = c.cast_signed.ensures ∙ signed-is c.args.a c.ranges.a.fits in
    let second = c.cast_signed-2.ensures ∙ signed-is c.args.b c.ranges.b.fits in
    let in_word = c.cast_unsigned.ensures ∙ ap (of_z w32) (to_z-of_z w32 q q_fits ∙ divided)
    ∙ quotient_word x y c.cast_signed.type_inv in
    in_word ∙ ap (λ (z : ℤ). word (quotient z y)) first
    ∙ ap (λ (z : ℤ). word (quotient (signed c.args.a) z)) second
