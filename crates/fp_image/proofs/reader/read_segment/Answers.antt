use Rattle.std.proofs.Common.{◌≡◌, inl, inr, take, drop, refl, sym, ap, ◌∙◌, arith}
use Rattle.fp_image.specs.declared.refusals.ImageNo.TheVariants.{BadSegment, Overlap}
use Rattle.fp_image.specs.declared.refusals.ImageRefused.TheVariants.{Fault}
use Rattle.fp_image.specs.Format.{number_at}
use Rattle.fp_image.proofs.Checked.{number-behind, cut-front, misplaced, overlaps}
use Rattle.fp_image.proofs.Checked.{cut-bytes, is-read, read-length, read-placed}
use Rattle.fp_image.proofs.reader.read_segment.Goals as goal

pub returns-then-rest-lt8-clause-value : goal.returns-then-rest-lt8-clause-value
returns-then-rest-lt8-clause-value c =
    inr (cut-front _ _ c.args.from _ _ (omega arith) c.fault.ensures)

pub returns-then-not-is_placed-clause-value : goal.returns-then-not-is_placed-clause-value
returns-then-not-is_placed-clause-value c =
    let at : c.read_u32-address.result ≡ number_at 0 c.args.rest.now = c.read_u32-address.ensures in
    let lasts : c.read_u32-len.result ≡ number_at 4 c.args.rest.now =
    number-behind _ 4 c.args.rest.now c.read_u32-len.ensures in
    inr (misplaced _ _ c.args.from _ _ _ at lasts (omega arith) _
    (sym c.is_placed.ensures ∙ c.if-not-is_placed.true)
    (c.fault-then-not-is_placed.ensures ∙ ap (λ n. Fault BadSegment n) (omega arith)))

pub returns-then-address-from-clause-value : goal.returns-then-address-from-clause-value
returns-then-address-from-clause-value c =
    let at : c.read_u32-address.result ≡ number_at 0 c.args.rest.now = c.read_u32-address.ensures in
    let lasts : c.read_u32-len.result ≡ number_at 4 c.args.rest.now =
    number-behind _ 4 c.args.rest.now c.read_u32-len.ensures in
    inr (overlaps _ _ c.args.from _ _ _ at lasts (omega arith) _
    (sym c.is_placed.ensures ∙ c.if-not-is_placed.false) (omega arith)
    (c.fault-then-address-from.ensures ∙ ap (λ n. Fault Overlap n) (omega arith)))

pub returns-then-rest-end-clause-value : goal.returns-then-rest-end-clause-value
returns-then-rest-end-clause-value c =
    let at : c.read_u32-address.result ≡ number_at 0 c.args.rest.now = c.read_u32-address.ensures in
    let lasts : c.read_u32-len.result ≡ number_at 4 c.args.rest.now =
    number-behind _ 4 c.args.rest.now c.read_u32-len.ensures in
    inr (cut-bytes _ _ c.args.from _ _ _ at lasts (omega arith) _ (sym c.is_placed.ensures
    ∙ c.if-not-is_placed.false) (omega arith) (omega arith) c.fault-then-rest-end.ensures)

pub returns-in-Err-clause-value : goal.returns-in-Err-clause-value
returns-in-Err-clause-value c = inl refl

pub returns-in-Ok-clause-value : goal.returns-in-Ok-clause-value
returns-in-Ok-clause-value c =
    let at : c.read_u32-address.result ≡ number_at 0 c.args.rest.now = c.read_u32-address.ensures in
    let lasts : c.read_u32-len.result ≡ number_at 4 c.args.rest.now =
    number-behind _ 4 c.args.rest.now c.read_u32-len.ensures in
    let read : c.from_vec.result ≡ take c.read_u32-len.result (drop 8 c.args.rest.now) =
    c.from_vec.ensures ∙ c.in-Ok.ensures.items
    ∙ ap (λ n. take n (drop 8 c.args.rest.now)) (omega arith) in
    inr (is-read _ c.args.total c.args.from _ _ _ at lasts (omega arith) _
    (sym c.is_placed.ensures ∙ c.if-not-is_placed.false) (omega arith) (omega arith) read)

pub returns-in-Ok-clause-placed : goal.returns-in-Ok-clause-placed
returns-in-Ok-clause-placed c =
    let read : c.from_vec.result ≡ take c.read_u32-len.result (drop 8 c.args.rest.now) =
    c.from_vec.ensures ∙ c.in-Ok.ensures.items
    ∙ ap (λ n. take n (drop 8 c.args.rest.now)) (omega arith) in
    let long = read-length _ _ c.args.rest.now (omega arith) read in
    read-placed _ _ c.read_u32-len.result _ (cc) long

pub returns-in-Ok-clause-rises : goal.returns-in-Ok-clause-rises
returns-in-Ok-clause-rises c = omega arith

pub returns-in-Ok-clause-whole : goal.returns-in-Ok-clause-whole
returns-in-Ok-clause-whole c =
    let read : c.from_vec.result ≡ take c.read_u32-len.result (drop 8 c.args.rest.now) =
    c.from_vec.ensures ∙ c.in-Ok.ensures.items
    ∙ ap (λ n. take n (drop 8 c.args.rest.now)) (omega arith) in
    let long = read-length _ _ c.args.rest.now (omega arith) read in
    omega (arith, long)
