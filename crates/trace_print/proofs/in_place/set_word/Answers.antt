use Rattle.std.proofs.Common.{◌≡◌, ◌+◌, take, arith}
use Rattle.trace_print.proofs.InPlace.{word_behind}
use Rattle.trace_print.proofs.in_place.set_word.Goals as goal

pub returns : goal.returns
returns c =
    let at = c.args.at in
    let four : at + 2 + 2 ≡ at + 4 = omega arith in
    let six : at + 4 + 2 ≡ at + 6 = omega arith in
    let eight : at + 6 + 2 ≡ at + 8 = omega arith in
    let two = c.set_hex_pair.ensures in
    let second = rw four at c.set_hex_pair-2.ensures in
    let third = rw six at c.set_hex_pair-3.ensures in
    let fourth = rw eight at c.set_hex_pair-4.ensures in
    rw (fourth, third, second, two) (word_behind (take at c.args.text.now) c.args.word)
