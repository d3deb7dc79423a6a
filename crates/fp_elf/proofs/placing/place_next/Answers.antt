use Rattle.std.proofs.Common.{◌≡◌, ◌∷◌, [], ◌++◌, Ok, Err, ap, sym, ◌∙◌}
use Rattle.fp_elf.specs.Loads.{header_of}
use Rattle.fp_elf.specs.declared.refusals.ElfRefused.{ElfRefused}
use Rattle.fp_elf.proofs.Stepping.{load-is, load-isnt, map-err, map-ok}
use Rattle.fp_elf.proofs.Stepping.{step-err, step-load, step-meets, step-other}
use Rattle.fp_elf.proofs.placing.place_next.Goals as goal

pub returns-in-Ok-clause-ok : goal.returns-in-Ok-clause-ok
returns-in-Ok-clause-ok c =
    let is : header_of c.args.file.now c.args.offset ≡ Ok c.in-Ok.header =
    sym c.header_of.ensures.value ∙ c.in-Ok.is in
    map-ok c.place_load.result c.place_load.ensures.ok (λ h loads n holds. (
      loads ++ c.in-Ok.header ∷ [],
      step-load c.args.file.now loads c.args.offset n c.in-Ok.header is
          (load-is c.in-Ok.header c.if-header-eq-LOAD.true) (h loads holds).0,
      (h loads holds).1,
    ))

pub returns-in-Ok-clause-err : goal.returns-in-Ok-clause-err
returns-in-Ok-clause-err c =
    let is : header_of c.args.file.now c.args.offset ≡ Ok c.in-Ok.header =
    sym c.header_of.ensures.value ∙ c.in-Ok.is in
    map-err c.place_load.result c.place_load.ensures.err
    (λ e h loads n holds. step-meets c.args.file.now loads c.args.offset n c.in-Ok.header is
    (load-is c.in-Ok.header c.if-header-eq-LOAD.true) (h.1 loads holds)
    ∙ ap (λ (x : ElfRefused). Err x) (sym h.0))

pub returns-in-Ok-2-clause-ok : goal.returns-in-Ok-2-clause-ok
returns-in-Ok-2-clause-ok c loads n holds =
    let is : header_of c.args.file.now c.args.offset ≡ Ok c.in-Ok.header =
    sym c.header_of.ensures.value ∙ c.in-Ok.is in (
      loads,
      step-other c.args.file.now loads c.args.offset n c.in-Ok.header is
          (load-isnt c.in-Ok.header c.if-header-eq-LOAD.false),
      holds,
    )

pub returns-in-Err-clause-err : goal.returns-in-Err-clause-err
returns-in-Err-clause-err c loads n holds =
    step-err c.args.file.now loads c.args.offset n c.in-Err.refused
    (sym c.header_of.ensures.value ∙ c.in-Err.is)
