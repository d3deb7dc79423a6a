use Rattle.std.proofs.Common.{◌-◌, length, take, drop, subst, arith, rules}
use Rattle.std.specs.Io.KnownBytes.{Appends}
use Rattle.std.proofs.KnownBytes.{Appends-trans}
use Rattle.fp_io.proofs.Pieces.{take_piece}
use Rattle.fp_io.proofs.real.write_whole.Goals as goal

pub loop-at-preserved : goal.loop-at-preserved
loop-at-preserved g c =
    let held = g.W.Write.contents in
    let bytes = c.args.bytes.now in
    let at = c.loop-at.at in
    let rest = take (length bytes - at) (drop at bytes) in
    let both = Appends-trans (held c.args.to.now) (held c.loop-at.to) (held c.write.new.self)
    (take at bytes) (take c.in-Ok.count rest) c.loop-at.invariant.taken c.in-Ok.ensures.bytes in
    record {
      within = omega (arith, c.in-Ok.ensures.bound);
      taken =
          subst (Appends (held c.args.to.now) (held c.write.new.self))
          (take_piece bytes at c.in-Ok.count) both;
    }

pub returns-in_default-clause-some : goal.returns-in_default-clause-some
returns-in_default-clause-some g c = search rules

pub returns-in_default-2-clause-some : goal.returns-in_default-2-clause-some
returns-in_default-2-clause-some g c = search rules
