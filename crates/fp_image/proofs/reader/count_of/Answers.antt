use Rattle.std.proofs.Common.{◌≡◌, ◌∙◌, true, ap, rules, arith}
use Rattle.std.specs.Prelude.{nat_eq, codes}
use Rattle.std.specs.List.{starts_with}
use Rattle.fp_image.specs.declared.refusals.ImageNo.TheVariants.{Truncated}
use Rattle.fp_image.specs.declared.refusals.ImageRefused.TheVariants.{Fault}
use Rattle.fp_image.proofs.Checked.{number-behind}
use Rattle.fp_image.proofs.Header.{too-long, no-image, cut-number, crowded, counted}
use Rattle.fp_image.proofs.reader.count_of.Goals as goal

pub returns-then-bytes-longest-clause-value : goal.returns-then-bytes-longest-clause-value
returns-then-bytes-longest-clause-value c =
    too-long c.args.size c.args.bytes.now _ (omega arith) c.fault.ensures

pub returns-then-not-starts_with-clause-value : goal.returns-then-not-starts_with-clause-value
returns-then-not-starts_with-clause-value c =
    no-image c.args.size c.args.bytes.now (omega arith) _
    (search rules) c.fault-then-not-starts_with.ensures

pub returns-then-bytes-lt8-clause-value : goal.returns-then-bytes-lt8-clause-value
returns-then-bytes-lt8-clause-value c =
    cut-number c.args.size c.args.bytes.now (omega arith) _ (search rules) (omega arith)
    (c.fault-then-bytes-lt8.ensures ∙ ap (λ n. Fault Truncated n) (omega arith))

pub returns-then-count-gt-MOST_SEGMENTS-clause-value :
    goal.returns-then-count-gt-MOST_SEGMENTS-clause-value
returns-then-count-gt-MOST_SEGMENTS-clause-value c =
    let image : starts_with nat_eq c.args.bytes.now (codes "FPX1") ≡ true = search rules in
    crowded c.args.size c.args.bytes.now (omega arith) c.read_u32-count.result _ image
    (omega arith) (number-behind _ 4 c.args.bytes.now c.read_u32-count.ensures)
    (omega arith) c.fault-then-count-gt-MOST_SEGMENTS.ensures

pub returns-clause-value : goal.returns-clause-value
returns-clause-value c =
    let image : starts_with nat_eq c.args.bytes.now (codes "FPX1") ≡ true = search rules in
    counted c.args.size c.args.bytes.now (omega arith) c.read_u32-count.result image (omega arith)
    (number-behind _ 4 c.args.bytes.now c.read_u32-count.ensures) (omega arith)
