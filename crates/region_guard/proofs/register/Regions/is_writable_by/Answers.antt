use Rattle.std.proofs.Common.{get_or, ap}
use Rattle.region_guard.specs.Regions.{is_writable}
use Rattle.region_guard.proofs.Allowed.{masks_tell}
use Rattle.region_guard.proofs.register.Regions.is_writable_by.Goals as goal

pub returns : goal.returns
returns c =
    let told = masks_tell is_writable c.self.inside.word c.args.thread c.args.region
    (get_or c.self.inside.writable c.args.thread 0) c.requires.thread c.requires.region
    (ap (λ masks. get_or masks c.args.thread 0) c.self.invariant.2) in
    rw (← c.self.view_is) told
