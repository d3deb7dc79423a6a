use Rattle.std.proofs.Common.{◌≤◌, arith, ap, map, sym, ◌∙◌, length}
use Rattle.std.proofs.lemmas.List.{drop_all}
use Rattle.std.proofs.lemmas.Grind.{common_steps}
use Rattle.fp_asm.specs.Second.{after_labels, second_line}
use Rattle.fp_asm.specs.AbstractPasses.{abstract_second}
use Rattle.fp_asm.specs.AbstractPieces.{abstract_labels, abstract_piece}
use Rattle.fp_asm.proofs.NoStatement.{second_labels, second_nothing}
use Rattle.fp_asm.proofs.second_pass.Second.line.Goals as goal

pub returns : goal.returns
unfolding second_line
returns c = grind (arith, common_steps)

pub returns-in_err-statement : goal.returns-in_err-statement
unfolding second_line
returns-in_err-statement c = grind (arith, common_steps)

pub returns-in_err-pieces : goal.returns-in_err-pieces
unfolding second_line
returns-in_err-pieces c = grind (arith, common_steps)

pub write-requires : goal.write-requires
write-requires c = grind (arith, common_steps)

pub returns-then-is_empty-clause-ok : goal.returns-then-is_empty-clause-ok
returns-then-is_empty-clause-ok c =
    second_nothing (abstract_labels c.args.labels.now) (abstract_second c.args.self.now)
    c.args.line.now (sym c.is_empty.ensures ∙ c.if-is_empty.true)

pub returns-then-n-len-clause-ok : goal.returns-then-n-len-clause-ok
returns-then-n-len-clause-ok c =
    let n = c.skip_labels-n.result in
    let few : length c.deref.result.now ≤ n =
    omega (arith, c.if-n-len.true, c.len.ensures, c.deref.ensures.len) in
    let is = c.deref.ensures.value in
    second_labels (abstract_labels c.args.labels.now) (abstract_second c.args.self.now)
    c.args.line.now _ c.in_ok-pieces.ensures.pieces
    (ap (λ xs. after_labels (map abstract_piece xs)) (sym is)
    ∙ (c.skip_labels-n.ensures.rest
    ∙ ap (λ xs. map abstract_piece xs) (drop_all n c.deref.result.now few)))
