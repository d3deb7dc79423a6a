use Rattle.std.proofs.Common.{inl, inr, rules, arith}
use Rattle.fp_elf.proofs.FileHeader.{Begins, counted, missized}
use Rattle.fp_elf.proofs.headers.count_of.Goals.{
  else-count-ne0-via-then-count-ne0+else-from-ne-PROGRAM_HEADER_LEN,
}
use Rattle.fp_elf.proofs.headers.count_of.Goals.{else-count-ne0-via-else-count-ne0}
use Rattle.fp_elf.proofs.headers.count_of.Goals as goal

pub returns-clause-value : goal.returns-clause-value
returns-clause-value c =
    let begins : Begins c.args.file.now = record {
      short = omega arith;
      magic = search rules;
      long = omega arith;
      class = search rules;
      order = search rules;
      kind = cc;
      machine = cc;
    } in
    counted c.args.file.now _ begins c.half_at-count.ensures
    (elim c.else-count-ne0.branch [
      | else-count-ne0-via-then-count-ne0+else-from-ne-PROGRAM_HEADER_LEN w ↦ inr cc
      | else-count-ne0-via-else-count-ne0 w ↦ inl cc
    ])

pub returns-then-from-ne-PROGRAM_HEADER_LEN-clause-value :
    goal.returns-then-from-ne-PROGRAM_HEADER_LEN-clause-value
returns-then-from-ne-PROGRAM_HEADER_LEN-clause-value c =
    let begins : Begins c.args.file.now = record {
      short = omega arith;
      magic = search rules;
      long = omega arith;
      class = search rules;
      order = search rules;
      kind = cc;
      machine = cc;
    } in
    missized c.args.file.now _ begins (λ e. omega arith)
    (λ e. omega arith) c.fault-then-from-ne-PROGRAM_HEADER_LEN.ensures
