-- The places that a setup has.
use Rattle.std.specs.Prelude.{ℕ, ◌≤◌, ◌==◌, length, if◌then◌else◌}
use Rattle.fp_setup.specs.declared.refusal.Place.{Place}
use Rattle.fp_setup.specs.declared.refusal.SetupRefused.{SetupRefused}
use Rattle.fp_setup.specs.declared.refusal.SetupRefused.TheVariants as refused
use Rattle.fp_setup.specs.Keys.{top_keys, thread_keys, loop_keys}

-- how many keys a table has, by the table's number
abbrev pub keys_in : ℕ → ℕ
keys_in table =
    if table == 1 then length top_keys
    else if table == 2 then length thread_keys
    else if table == 3 then length loop_keys
    else 0

-- its table and its key exist
pub record IsPlace (p : Place) : Type 0 where
  pub table : p.table ≤ 3
  pub key : p.key ≤ keys_in p.table

-- a refusal with such a place, or because memory ran out
abbrev pub HasPlace : SetupRefused → Type 0
HasPlace (refused.Fault code place) = IsPlace place
HasPlace refused.NoMemory = Unit {0}
