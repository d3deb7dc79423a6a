-- What is known of a result, and more that follows from it.
use Rattle.std.proofs.Common.{Result, Ok, Err, OnOk, OnErr}
use Rattle.std.proofs.Common.{arith}
use Rattle.fp_io.specs.Causes.{HasRisen}

pub map_ok : {T E : Type 0} → (r : Result T E) (P Q : Type 0) → OnOk r P → (P → Q) → OnOk r Q
map_ok (Ok x) P Q h f = f h
map_ok (Err e) P Q h f = h

pub map_err : {T E : Type 0} → (r : Result T E) (P Q : Type 0) → OnErr r P → (P → Q) → OnErr r Q
map_err (Ok x) P Q h f = h
map_err (Err e) P Q h f = f h

-- where no fault can be counted, a result is no error
pub never_fails : {T E : Type 0} → (r : Result T E) {P : Type 0} → OnErr r (HasRisen 0 0) →
    OnOk r P → P
never_fails (Ok x) failed holds = holds
never_fails (Err e) failed holds = absurd (omega (arith, failed))
