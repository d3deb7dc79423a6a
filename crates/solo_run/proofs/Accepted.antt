-- A word that a register takes.
use Rattle.std.proofs.Common.{◌≡◌, true, rules}
use Rattle.std.specs.Prelude.{Result, Ok, Err}
use Rattle.std.specs.Result.{IsOk, is_ok}

pub accepted : {T E : Type 0} (r : Result T E) → is_ok r ≡ true → IsOk r
accepted (Ok x) h = search rules
accepted (Err e) h = cc
