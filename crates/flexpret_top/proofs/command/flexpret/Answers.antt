use Rattle.std.proofs.Common.{map}
use Rattle.std.specs.Prelude.{string_bytes}
use Rattle.command_line.specs.Commands.{ask}
use Rattle.flexpret_top.proofs.Outcomes.{memory-outcome, outcome-of, usage-outcome}
use Rattle.flexpret_top.proofs.command.flexpret.Goals as goal

pub returns-in-Err-Usage : goal.returns-in-Err-Usage
returns-in-Err-Usage g c = record {
  outcome =
      usage-outcome g.F.Files.looks_first (ask (map string_bytes c.args.words.now)) _
      c.number-in-Err-Usage.result
      (let none = rw c.in-Err-Usage.field-0-is at c.in-Err-Usage.ensures.refused in none)
      c.number-in-Err-Usage.ensures;
  eight = c.requires;
}

pub returns-in-Err-NoMemory : goal.returns-in-Err-NoMemory
returns-in-Err-NoMemory g c = record {
  outcome =
      memory-outcome g.F.Files.looks_first (ask (map string_bytes c.args.words.now)) _
      c.number-in-Err-NoMemory.result c.number-in-Err-NoMemory.ensures;
  eight = c.requires;
}

pub returns-in-Ok : goal.returns-in-Ok
returns-in-Ok g c = record {
  outcome =
      outcome-of g.F.Files.looks_first (ask (map string_bytes c.args.words.now)) c.in-Ok.ask _ _
      c.number.result _ c.in-Ok.ensures.asked c.number.ensures c.answer.ensures.outcome;
  eight = c.answer.ensures.eight;
}
