use Rattle.std.proofs.Common.{◌≡◌, ◌<◌, ◌+◌, ◌%◌, true, false, find, arith, ap, sym, ◌∙◌}
use Rattle.std.specs.Int.{trailing_zeros, w32}
use Rattle.std.proofs.lemmas.Bool.Decides.{nat_tests}
use Rattle.slot_scheduler.proofs.Search.{slept, threads_in, fewer, found-masked, found-none}
use Rattle.slot_scheduler.proofs.Search.{found-lowest, found-later, found-no_more}
use Rattle.slot_scheduler.proofs.picking.Sched.search.Goals as goal

pub returns-then-soft-eq0-clause-first : goal.returns-then-soft-eq0-clause-first
returns-then-soft-eq0-clause-first c =
    sym (found-none c.args.self.now c.args.now c.args.last c.requires
    (sym c.soft.ensures ∙ sym c.from-soft.ensures ∙ c.if-soft-eq0.true))

pub loop-left-init : goal.loop-left-init
loop-left-init c =
    record {
      small = omega arith;
      found =
          rw (c.from-soft.ensures, c.soft.ensures, c.from-first.ensures)
          (found-masked c.args.self.now c.args.now c.args.last c.requires);
    }

pub returns-then-self-thread-clause-first : goal.returns-then-self-thread-clause-first
returns-then-self-thread-clause-first c =
    let some : 0 < c.loop-left.left = omega arith in
    let thread = (c.args.last + 1 + trailing_zeros w32 c.loop-left.left) % 8 in
    let awake : slept c.args.self.now c.args.now thread ≡ true =
    grind (arith, nat_tests, c.if-self-thread.true, c.from-first.ensures) in
    rw c.from-first.ensures (sym (c.loop-left.invariant.found ∙ found-lowest (slept c.args.self.now
    c.args.now) c.args.last c.loop-left.left some c.loop-left.invariant.small awake))

pub loop-left-preserved : goal.loop-left-preserved
loop-left-preserved c =
    let some : 0 < c.loop-left.left = omega arith in
    let thread = (c.args.last + 1 + trailing_zeros w32 c.loop-left.left) % 8 in
    let asleep : slept c.args.self.now c.args.now thread ≡ false =
    grind (arith, nat_tests, c.if-self-thread.false, c.from-first.ensures) in
    let less = fewer c.loop-left.left some c.loop-left.invariant.small in
    record {
      small = omega (arith, less, c.loop-left.invariant.small);
      found =
          c.loop-left.invariant.found ∙ found-later (slept c.args.self.now c.args.now) c.args.last
          c.loop-left.left some c.loop-left.invariant.small asleep;
    }

pub returns-clause-first : goal.returns-clause-first
returns-clause-first c =
    let none = ap (λ left. find (slept c.args.self.now c.args.now) (threads_in c.args.last left))
    c.loop-left-test.false in
    sym (c.loop-left.invariant.found ∙ none
    ∙ found-no_more (slept c.args.self.now c.args.now) c.args.last)
