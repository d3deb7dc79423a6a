use Rattle.std.proofs.Common.{◌≡◌, ◌+◌, [], arith, slice_index_or, subst, sym}
use Rattle.bound_calc.specs.Hops.{IsAdvanced}
use Rattle.bound_calc.proofs.AdvanceLaws.{join_advanced-more, join_advanced-start, best-advanced}
use Rattle.bound_calc.proofs.advanced.join_advanced.Goals as goal

pub loop-r-init : goal.loop-r-init
loop-r-init c =
    λ p h. join_advanced-start (slice_index_or c.args.here.now.best p []) c.args.hops.now.hops
    (slice_index_or c.args.onto.now.best p [])

pub loop-r-preserved : goal.loop-r-preserved
loop-r-preserved c =
    λ p h. subst (IsAdvanced (slice_index_or c.args.here.now.best p []) c.args.hops.now.hops
    (c.loop-r.r + 1) (slice_index_or c.args.onto.now.best p []))
    (sym (c.join_advanced_column.ensures.raised p h))
    (join_advanced-more (slice_index_or c.args.here.now.best p []) c.args.hops.now.hops c.loop-r.r
    (slice_index_or c.args.onto.now.best p []) (slice_index_or c.loop-r.onto.best p [])
    (λ p d q h. (c.requires.positions p d q h).1)
    (λ hop is. c.join_advanced_column.ensures.long hop is p h) (c.loop-r.invariant p h))

pub returns : goal.returns
returns c =
    best-advanced c.args.here.now c.args.onto.now c.loop-r.onto c.args.hops.now.hops
    c.requires.positions (λ p h. let all : c.loop-r.r ≡ 8 = omega arith in
    subst (λ n. IsAdvanced (slice_index_or c.args.here.now.best p []) c.args.hops.now.hops n
    (slice_index_or c.args.onto.now.best p []) (slice_index_or c.loop-r.onto.best p [])) all
    (c.loop-r.invariant p h))
