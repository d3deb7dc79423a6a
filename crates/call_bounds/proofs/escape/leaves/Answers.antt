use Rattle.std.proofs.Common.{◌+◌, ◌*◌, arith, ap}
use Rattle.call_bounds.proofs.EscapeLaws.{leaves-first, leaves-second}
use Rattle.call_bounds.proofs.escape.leaves.Goals as goal

pub returns-then-leads_out : goal.returns-then-leads_out
returns-then-leads_out c =
    leaves-first c.args.tree.now c.args.index (c.section-section.result.from + 4 * c.args.index)
    c.word.result c.section-section.result c.edges_of-edges.result c.leads_out.result
    (ap (λ s. s.from + 4 * c.args.index) c.section-section.ensures.value)
    c.section-section.ensures.value c.word.ensures c.edges_of-edges.ensures
    (c.is_reachable.ensures.0 c.if-not-is_reachable.false) c.leads_out.ensures c.if-leads_out.true

pub returns-else-leads_out : goal.returns-else-leads_out
returns-else-leads_out c =
    leaves-second c.args.tree.now c.args.index
    (c.section-section.result.from + 4 * c.args.index) c.word.result c.section-section.result
    c.edges_of-edges.result c.leads_out.result c.leads_out-else-leads_out.result
    (ap (λ s. s.from + 4 * c.args.index) c.section-section.ensures.value)
    c.section-section.ensures.value c.word.ensures c.edges_of-edges.ensures
    (c.is_reachable.ensures.0 c.if-not-is_reachable.false) c.leads_out.ensures c.if-leads_out.false
    c.leads_out-else-leads_out.ensures

pub overflow_cast-address : goal.overflow_cast-address
overflow_cast-address c =
    let t = c.section-section.ensures.rules.draft in
    omega (arith, c.requires, t.words, t.section.end)

pub overflow_mul-address : goal.overflow_mul-address
overflow_mul-address c =
    let t = c.section-section.ensures.rules.draft in
    omega (arith, c.requires, t.words, t.section.end)

pub overflow_add-address : goal.overflow_add-address
overflow_add-address c =
    let t = c.section-section.ensures.rules.draft in omega
    (arith, c.requires, t.words, t.section.end, ap (λ s. s.from) c.section-section.ensures.value)

pub is_reachable-requires-clause-aligned : goal.is_reachable-requires-clause-aligned
is_reachable-requires-clause-aligned c =
    let t = c.section-section.ensures.rules.draft in
    omega (arith, t.section.from_aligned, ap (λ s. s.from) c.section-section.ensures.value)

pub is_reachable-requires-clause-low : goal.is_reachable-requires-clause-low
is_reachable-requires-clause-low c = omega (arith, ap (λ s. s.from) c.section-section.ensures.value)

pub is_reachable-requires-clause-high : goal.is_reachable-requires-clause-high
is_reachable-requires-clause-high c =
    let t = c.section-section.ensures.rules.draft in
    omega (arith, c.requires, t.words, ap (λ s. s.from) c.section-section.ensures.value)

pub word-requires-clause-aligned : goal.word-requires-clause-aligned
word-requires-clause-aligned c =
    let t = c.section-section.ensures.rules.draft in
    omega (arith, t.section.from_aligned, ap (λ s. s.from) c.section-section.ensures.value)

pub word-requires-clause-low : goal.word-requires-clause-low
word-requires-clause-low c = omega (arith, ap (λ s. s.from) c.section-section.ensures.value)

pub word-requires-clause-high : goal.word-requires-clause-high
word-requires-clause-high c =
    let t = c.section-section.ensures.rules.draft in
    omega (arith, c.requires, t.words, ap (λ s. s.from) c.section-section.ensures.value)
