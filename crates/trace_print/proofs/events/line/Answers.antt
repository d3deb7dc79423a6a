use Rattle.std.proofs.Common.{◌≡◌, ℕ, List, [], ◌++◌, append_assoc}
use Rattle.std.specs.Prelude.{codes}
use Rattle.trace_print.specs.Digits.{hex, right}
use Rattle.trace_print.specs.Text.{effect_text, line_text}
use Rattle.trace_print.proofs.events.line.Goals as goal

-- eight pieces, one after another
pieces : (a b c d e f g h : List ℕ) → (((((((([] ++ a) ++ b) ++ c) ++ d) ++ e) ++ f) ++ g) ++ h)
    ≡ a ++ (b ++ (c ++ (d ++ (e ++ (f ++ (g ++ h))))))
pieces a b c d e f g h = simp append_assoc

pub returns : goal.returns
unfolding line_text
returns c =
    let e = c.args.e.now in
    rw (
      c.push_str-4.ensures.bytes,
      c.push_effect.ensures.text,
      c.push_str-3.ensures.bytes,
      c.push_word-2.ensures.text,
      c.push_str-2.ensures.bytes,
      c.push_word.ensures.text,
      c.push_str.ensures.bytes,
      c.push_right.ensures.text,
      c.new-text.ensures,
    )
    (pieces (right 10 e.cycle) (codes " ") (hex 8 e.pc) (codes " ") (hex 8 e.word) (codes " ")
    (effect_text e.effect) (codes "\n"))
