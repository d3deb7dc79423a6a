-- A region that the thread may load from and store to is its own.
use Rattle.std.proofs.Common.{◌≡◌, true, false, sym, ◌∙◌}
use Rattle.region_guard.specs.Regions.{is_data, may_load}
use Rattle.solo_run.proofs.OwnStore.{own_store}
use Rattle.solo_run.proofs.memory.is_own.Goals as goal

pub returns-then-may_load : goal.returns-then-may_load
returns-then-may_load c =
    let g = c.args.guard.now in
    let d : is_data g.size c.args.address ≡ true = sym c.is_data.ensures ∙ c.if-not-is_data.false in
    let loads : may_load c.args.thread g.size true g.i g.d c.args.address c.args.size ≡ true =
    sym c.may_load.ensures ∙ c.if-may_load.true in
    rw d (c.may_store.ensures
    ∙ rw loads at (own_store g c.args.thread c.args.address c.args.size c.requires d))

pub returns-else-may_load : goal.returns-else-may_load
returns-else-may_load c =
    let g = c.args.guard.now in
    let d : is_data g.size c.args.address ≡ true = sym c.is_data.ensures ∙ c.if-not-is_data.false in
    let loads : may_load c.args.thread g.size true g.i g.d c.args.address c.args.size ≡ false =
    sym c.may_load.ensures ∙ c.if-may_load.false in
    rw d (c.if-may_load.false
    ∙ rw loads at (own_store g c.args.thread c.args.address c.args.size c.requires d))
