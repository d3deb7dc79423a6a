use Rattle.std.proofs.Common.{◌≡◌, ◌<◌, ◌+◌, ◌-◌, ◌*◌, ◌^◌, drop, get_or, refl, ap, ◌∙◌, arith}
use Rattle.fp_setup.specs.SetupOfTables.{word_of}
use Rattle.fp_setup.proofs.Digits.{word_step, word_step-fits, word_of-small}
use Rattle.fp_setup.proofs.nibble_list.word_of_digits.Goals as goal

pub overflow_mul-word : goal.overflow_mul-word
overflow_mul-word c =
    let fits : c.args.base * c.loop-i.word + get_or c.args.digits.now (c.loop-i.i - 1) 0 < 2 ^ 32 =
    word_step-fits c.args.base c.args.digits.now c.loop-i.i c.loop-i.word _ c.requires.base
    c.told-digits c.requires.digits c.loop-i-test.true (omega arith) c.loop-i.invariant refl in
    omega arith

pub overflow_add-word : goal.overflow_add-word
overflow_add-word c =
    let fits : c.args.base * c.loop-i.word + c.from.result < 2 ^ 32 =
    word_step-fits c.args.base c.args.digits.now c.loop-i.i c.loop-i.word
    c.from.result c.requires.base c.told-digits c.requires.digits c.loop-i-test.true
    (omega arith) c.loop-i.invariant c.from.ensures in
    omega arith

pub loop-i-preserved : goal.loop-i-preserved
loop-i-preserved c =
    word_step c.args.base c.args.digits.now c.loop-i.i c.loop-i.word c.from.result
    c.loop-i-test.true (omega arith) c.loop-i.invariant c.from.ensures

pub returns-clause-small : goal.returns-clause-small
returns-clause-small c =
    let done : c.loop-i.i ≡ 0 = omega arith in
    let is : c.loop-i.word ≡ word_of c.args.base c.args.digits.now =
    c.loop-i.invariant ∙ ap (λ i. word_of c.args.base (drop i c.args.digits.now)) done in
    let below : word_of c.args.base c.args.digits.now < c.args.base ^ 8 =
    word_of-small c.args.base c.args.digits.now c.told-digits c.requires.digits in
    omega arith
