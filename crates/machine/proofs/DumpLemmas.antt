-- The text that a dump has written, by the world.
use Rattle.std.proofs.Common.{ℕ, List, Option, Ok, Err, subst}
use Rattle.std.specs.Prelude.{Result, OnOk, OnErr}
use Rattle.std.specs.Io.KnownBytes.{Appends}
use Rattle.fp_io.specs.Content.{AppendsPrefix}
use Rattle.fp_io.specs.declared.sink.PutFailed.{PutFailed}
use Rattle.fp_ports.specs.PluggedPorts.{Row}
use Rattle.core_model.specs.World.{Start}
use Rattle.machine.specs.DumpedState.{seen}
use Rattle.machine.specs.Fields.{dump_of}
use Rattle.machine.proofs.FieldLines.{dumps}
use Rattle.pipeline_core.specs.Abstraction.{abstract_stages, abstract_state}
use Rattle.machine.specs.declared.state.Machine.{Machine}
use Rattle.machine.specs.WorldRelation.{Refines}

pub dump_ok : (r : Result (Unit {0}) PutFailed) (before after : Option (List ℕ))
    (m : Machine) (rows : List (Option Row)) → OnOk r
    (Appends before after (dump_of (abstract_stages m.pipe) (abstract_state m.units rows) m.at)) →
    OnOk r ((s : Start) (c n : ℕ) → Refines s c n m rows → Appends before after (seen s c))
dump_ok (Ok x) before after m rows put =
    λ s c n refines.
    let Put : List ℕ → Type 0 = λ text. Appends before after text in
    subst Put
    (dumps s c n (abstract_stages m.pipe) (abstract_state m.units rows) m.at m.unplugs refines) put
dump_ok (Err e) before after m rows put = put

pub dump_err : (r : Result (Unit {0}) PutFailed) (before after : Option (List ℕ))
    (m : Machine) (rows : List (Option Row)) → OnErr r (AppendsPrefix before after
    (dump_of (abstract_stages m.pipe) (abstract_state m.units rows) m.at)) →
    OnErr r ((s : Start) (c n : ℕ) → Refines s c n m rows → AppendsPrefix before after (seen s c))
dump_err (Ok x) before after m rows put = put
dump_err (Err e) before after m rows put =
    λ s c n refines.
    let Put : List ℕ → Type 0 = λ text. AppendsPrefix before after text in
    subst Put
    (dumps s c n (abstract_stages m.pipe) (abstract_state m.units rows) m.at m.unplugs refines) put
