use Rattle.std.proofs.Common.{get_or, ap}
use Rattle.region_guard.specs.Regions.{is_readable}
use Rattle.region_guard.proofs.Allowed.{masks_tell}
use Rattle.region_guard.proofs.register.Regions.is_readable_by.Goals as goal

pub returns : goal.returns
returns c =
    let told = masks_tell is_readable c.self.inside.word c.args.thread c.args.region
    (get_or c.self.inside.readable c.args.thread 0) c.requires.thread c.requires.region
    (ap (λ masks. get_or masks c.args.thread 0) c.self.invariant.1) in
    rw (← c.self.view_is) told
