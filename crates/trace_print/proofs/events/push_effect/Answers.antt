use Rattle.std.proofs.Common.{◌≡◌, ℕ, List, ◌++◌, append_assoc, rules}
use Rattle.std.specs.Prelude.{codes}
use Rattle.std.proofs.lemmas.Bool.{ne_eqb}
use Rattle.trace_print.specs.Text.{csr_text, effect_text, register_text}
use Rattle.trace_print.proofs.events.push_effect.Goals as goal

-- three pieces after the text so far
pieces : (before a b c : List ℕ) → ((before ++ a) ++ b) ++ c ≡ before ++ (a ++ (b ++ c))
pieces before a b c = simp append_assoc

pub returns-in-Nothing-clause-text : goal.returns-in-Nothing-clause-text
unfolding effect_text
returns-in-Nothing-clause-text c = search rules

pub returns-in-Csr-clause-text : goal.returns-in-Csr-clause-text
unfolding effect_text
returns-in-Csr-clause-text c =
    let other : c.in-Csr.rd ≡ 0 → ⊥ = (rw c.in-Csr.is at c.in-Csr.rd-test).1 in
    rw (
      c.push_csr-in-Csr.ensures.text,
      c.push_str-in-Csr.ensures.bytes,
      c.push_register-in-Csr.ensures.text,
      c.in-Csr.is,
      ne_eqb c.in-Csr.rd 0 other,
    )
    (pieces c.args.text.now.bytes (register_text c.in-Csr.rd c.in-Csr.old) (codes " ")
    (csr_text c.in-Csr.csr c.in-Csr.value))

pub returns-in-Wait-clause-text : goal.returns-in-Wait-clause-text
unfolding effect_text
returns-in-Wait-clause-text c = search rules
