-- With and without a redirect.
use Rattle.pipeline_core.proofs.Stepping.{straight}
use Rattle.pipeline_core.proofs.stages.Stages.younger_stages.Goals as goal

pub returns-then-redirects : goal.returns-then-redirects
returns-then-redirects c =
    let done = c.decode_and_fetch.ensures in
    rw (c.if-redirects.true, ← c.redirect_to.ensures.next) (record {
      d = done.d;
      f = done.f;
      pcs = done.pcs;
      e = done.e;
      m = done.m;
    })

pub returns-else-redirects : goal.returns-else-redirects
returns-else-redirects c =
    rw (c.if-redirects.false, ← straight c.args.self.now.next)
    c.decode_and_fetch-else-redirects.ensures
