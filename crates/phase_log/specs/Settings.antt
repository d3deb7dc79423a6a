-- The settings of a run, as an observer puts them.
use Rattle.core_model.specs.Phases.{begun_by, last_phase}
use Rattle.machine.specs.Observing.{Acts}
use Rattle.phase_log.specs.declared.run.Settings.{Settings}
use Rattle.phase_log.specs.Text.{phase_text, phases_text}

-- it keeps the last setting, and puts the line of each that an event begins
abbrev pub setting_acts : Acts Settings
setting_acts = record {
  next = λ o e. record { last = last_phase o.last (begun_by e.cycle e.effect o.last) };
  puts = λ o e. phases_text (begun_by e.cycle e.effect o.last);
  ready = λ o. phase_text o.last;
}
