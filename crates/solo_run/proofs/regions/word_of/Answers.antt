-- A word digit by digit, the highest first.
use Rattle.std.proofs.Common.{◌≡◌, ◌<◌, ◌+◌, ◌-◌, ◌*◌, ◌^◌, drop, get_or, refl, ap, ◌∙◌, arith}
use Rattle.fp_setup.specs.SetupOfTables.{word_of}
use Rattle.fp_setup.proofs.Digits.{nibbles_of_word, word_step, word_step-fits}
use Rattle.solo_run.proofs.regions.word_of.Goals as goal

pub overflow_mul-word : goal.overflow_mul-word
overflow_mul-word c =
    let fits : 16 * c.loop-i.word + get_or c.args.digits.now (c.loop-i.i - 1) 0 < 2 ^ 32 =
    word_step-fits 16 c.args.digits.now c.loop-i.i c.loop-i.word _ (omega arith)
    c.told-digits c.requires c.loop-i-test.true (omega arith) c.loop-i.invariant refl in
    omega arith

pub overflow_add-word : goal.overflow_add-word
overflow_add-word c =
    let fits : 16 * c.loop-i.word + c.from.result < 2 ^ 32 =
    word_step-fits 16 c.args.digits.now c.loop-i.i c.loop-i.word c.from.result (omega arith)
    c.told-digits c.requires c.loop-i-test.true (omega arith) c.loop-i.invariant
    c.from.ensures in
    omega arith

pub loop-i-preserved : goal.loop-i-preserved
loop-i-preserved c =
    word_step 16 c.args.digits.now c.loop-i.i c.loop-i.word c.from.result c.loop-i-test.true
    (omega arith) c.loop-i.invariant c.from.ensures

pub returns-clause-nibbles : goal.returns-clause-nibbles
returns-clause-nibbles c =
    let done : c.loop-i.i ≡ 0 = omega arith in
    let is : c.loop-i.word ≡ word_of 16 c.args.digits.now =
    c.loop-i.invariant ∙ ap (λ i. word_of 16 (drop i c.args.digits.now)) done in
    nibbles_of_word c.args.digits.now c.loop-i.word is c.requires c.told-digits
