use Rattle.std.proofs.Common.{◌≡◌, ℕ, List, [], ◌++◌, append_assoc, rules}
use Rattle.std.specs.Prelude.{codes, decimal}
use Rattle.trace_print.specs.Digits.{hex}
use Rattle.selfrun.specs.Text.{tally_line}
use Rattle.selfrun.proofs.tally.Tally.line.Goals as goal

-- seven pieces, one after another
pieces : (a b c d e f g : List ℕ) →
    ((((((([] ++ a) ++ b) ++ c) ++ d) ++ e) ++ f) ++ g) ≡ a ++ (b ++ (c ++ (d ++ (e ++ (f ++ g)))))
pieces a b c d e f g = simp append_assoc

pub returns : goal.returns
unfolding tally_line
returns c =
    rw (
      c.push_str-4.ensures.bytes,
      c.push_hex.ensures.text,
      c.push_str-3.ensures.bytes,
      c.push_decimal-2.ensures.text,
      c.push_str-2.ensures.bytes,
      c.push_decimal.ensures.text,
      c.push_str.ensures.bytes,
      c.new-text.ensures,
      c.from.ensures,
    )
    (pieces (codes "T") (decimal c.args.k) (codes " events ") (decimal c.args.self.now.events)
    (codes " fold ") (hex 8 c.args.self.now.fold) (codes "\n"))

pub push_hex-requires : goal.push_hex-requires
unfolding tally_line
push_hex-requires c = search rules
