use Rattle.std.proofs.Common.{inl, inr, ◌∙◌, ap, arith}
use Rattle.fp_elf.specs.declared.refusals.ElfNo.TheVariants.{Truncated}
use Rattle.fp_elf.specs.declared.refusals.ElfRefused.TheVariants.{Fault}
use Rattle.fp_elf.proofs.FileHeader.{cut-load, no-load, whole-load}
use Rattle.fp_elf.proofs.headers.header_of.Goals.{else-header-ne0-via-then-header-ne0+else-from}
use Rattle.fp_elf.proofs.headers.header_of.Goals.{else-header-ne0-via-else-header-ne0}
use Rattle.fp_elf.proofs.headers.header_of.Goals as goal

pub returns-else-header-eq-LOAD-clause-value : goal.returns-else-header-eq-LOAD-clause-value
returns-else-header-eq-LOAD-clause-value c =
    no-load c.args.file.now c.args.offset _ c.header_at-header.ensures (omega arith)
    (λ e. omega arith) (λ e. omega arith) (λ e. omega arith)

pub returns-then-from-clause-value : goal.returns-then-from-clause-value
returns-then-from-clause-value c =
    cut-load c.args.file.now c.args.offset _ c.header_at-header.ensures (omega arith)
    (omega arith) (omega arith) (cc) _ (λ e. omega arith) (omega arith)
    (c.fault-then-from.ensures ∙ ap (λ n. Fault Truncated n) (omega arith))

pub returns-else-header-ne0-clause-value : goal.returns-else-header-ne0-clause-value
returns-else-header-ne0-clause-value c =
    whole-load c.args.file.now c.args.offset _ c.header_at-header.ensures (omega arith)
    (omega arith) (omega arith) (cc) (elim c.else-header-ne0.branch [
      | else-header-ne0-via-then-header-ne0+else-from w ↦ inr (omega arith)
      | else-header-ne0-via-else-header-ne0 w ↦ inl (omega arith)
    ])

pub returns-else-header-ne0-clause-sound : goal.returns-else-header-ne0-clause-sound
returns-else-header-ne0-clause-sound c load = record {
  small = omega arith;
  inside = cc;
  whole = elim c.else-header-ne0.branch [
    | else-header-ne0-via-then-header-ne0+else-from w ↦ inr (omega arith)
    | else-header-ne0-via-else-header-ne0 w ↦ inl (omega arith)
  ];
}
