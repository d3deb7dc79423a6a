-- An observer that takes no notice of events.
use Rattle.std.specs.Prelude.{[]}
use Rattle.machine.specs.declared.unseen.Unseen.{Unseen}
use Rattle.machine.specs.Observing.{Acts}

abbrev pub no_acts : Acts Unseen
no_acts = record { next = λ o e. o; puts = λ o e. []; ready = λ o. [] }
