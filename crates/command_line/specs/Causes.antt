-- The cause of each error.
use Rattle.std.specs.Prelude.{◌≡◌, Option, None}
use Rattle.command_line.specs.declared.asked.WordsNo.{WordsNo}
use Rattle.command_line.specs.declared.asked.WordsNo.TheVariants.{Usage, NoMemory}

-- Usage implies that the arguments give no command; NoMemory implies nothing
abbrev pub IsCauseOf : {A : Type 0} → Option A → WordsNo → Type 0
IsCauseOf asked Usage = asked ≡ None
IsCauseOf asked NoMemory = Unit {0}
