-- The words of products and quotients, each by the row of its operation.
use Rattle.std.proofs.Common.{◌^◌, ◌<◌, ℤ, ◌*ℤ◌, ◌∙◌, ap, arith}
use lib.IntN.{nat_abs}
use Rattle.rv_exec.specs.Words.{word, signed, floor_div}
use Rattle.rv_exec.specs.Alu.{mul_result}
use Rattle.rv_exec.proofs.Signs.{abs_within, product_read, widened}
use Rattle.rv_exec.proofs.muldiv.multiply.Goals as goal

pub returns-in-Mul : goal.returns-in-Mul
unfolding mul_result
returns-in-Mul c = rw c.in-Mul.is

pub returns-in-Mulh : goal.returns-in-Mulh
unfolding mul_result
returns-in-Mulh c =
    let x = c.from.result in
    let y = c.from-in-Mulh.result in
    let a = widened c.args.a c.cast_signed.result x c.ranges.a.fits
    c.cast_signed.type_inv c.cast_signed.ensures c.from.ensures in
    let b = widened c.args.b c.cast_signed-in-Mulh.result y c.ranges.b.fits
    c.cast_signed-in-Mulh.type_inv c.cast_signed-in-Mulh.ensures c.from-in-Mulh.ensures in
    let small = abs_within y (2 ^ 31) b.1 in
    let product = product_read x y a.1 (omega (arith, small)) c.from-in-Mulh.type_inv in
    let same = product ∙ ap (λ (z : ℤ). z *ℤ y) a.0 ∙ ap (λ (z : ℤ). signed c.args.a *ℤ z) b.0 in
    rw c.in-Mulh.is (c.high_word.ensures ∙ ap (λ (z : ℤ). word (floor_div z (2 ^ 32))) same)

pub returns-in-Mulhsu : goal.returns-in-Mulhsu
unfolding mul_result
returns-in-Mulhsu c =
    let x = c.from-in-Mulhsu.result in
    let y = c.from-in-Mulhsu-2.result in
    let a = widened c.args.a c.cast_signed-in-Mulhsu.result x c.ranges.a.fits
    c.cast_signed-in-Mulhsu.type_inv c.cast_signed-in-Mulhsu.ensures c.from-in-Mulhsu.ensures in
    let read = c.from-in-Mulhsu-2.ensures in
    let small : nat_abs y < 2 ^ 32 = rw read c.ranges.b.fits in
    let product = product_read x y a.1 small c.from-in-Mulhsu-2.type_inv in
    let same = product ∙ ap (λ (z : ℤ). z *ℤ y) a.0 ∙ ap (λ (z : ℤ). signed c.args.a *ℤ z) read in
    rw c.in-Mulhsu.is
    (c.high_word-in-Mulhsu.ensures ∙ ap (λ (z : ℤ). word (floor_div z (2 ^ 32))) same)

pub returns-in-Mulhu : goal.returns-in-Mulhu
unfolding mul_result
returns-in-Mulhu c = rw c.in-Mulhu.is cc

pub returns-in-Div : goal.returns-in-Div
unfolding mul_result
returns-in-Div c = rw (c.in-Div.is, c.if-b-eq0.true)

pub returns-in-Divu : goal.returns-in-Divu
unfolding mul_result
returns-in-Divu c = rw (c.in-Divu.is, c.if-b-eq0-2.true)

pub returns-in-Rem : goal.returns-in-Rem
unfolding mul_result
returns-in-Rem c = rw (c.in-Rem.is, c.if-b-eq0-3.true)

pub returns-in-Remu : goal.returns-in-Remu
unfolding mul_result
returns-in-Remu c = rw (c.in-Remu.is, c.if-b-eq0-4.true)
