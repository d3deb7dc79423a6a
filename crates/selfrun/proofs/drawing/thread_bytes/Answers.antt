use Rattle.std.proofs.Common.{◌≡◌, [], ◌∷◌, rules}
use Rattle.selfrun.specs.Drawn.{first_ins, last_ins}
use Rattle.selfrun.proofs.DrawnLemmas.{thread_parts}
use Rattle.selfrun.proofs.drawing.thread_bytes.Goals as goal

pub returns-clause-bytes : goal.returns-clause-bytes
returns-clause-bytes c =
    let prefix : c.upper_ins.result ∷ c.lower_ins.result ∷ [] ≡ first_ins c.args.k =
    cc (c.upper_ins.ensures.ins, c.lower_ins.ensures.ins) in
    let back : c.count_ins.result ∷ c.back_ins.result ∷ [] ≡ last_ins =
    cc (c.count_ins.ensures.ins, c.back_ins.ensures.ins) in
    thread_parts c.args.first c.args.k c.upper_ins.result c.lower_ins.result
    c.count_ins.result c.back_ins.result _ _ _ _ _ _ prefix back
    c.new-bytes.ensures.items c.in_ok-push_ins.ensures c.in_ok-push_ins-2.ensures
    c.in_ok-last.ensures.bytes c.in_ok-push_ins-3.ensures c.in_ok-push_ins-4.ensures

pub upper_ins-requires : goal.upper_ins-requires
upper_ins-requires c = search rules

pub push_ins-requires : goal.push_ins-requires
push_ins-requires c = search rules
