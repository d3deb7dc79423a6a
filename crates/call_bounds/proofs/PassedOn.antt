-- Facts on errors that are passed on.
use Rattle.std.proofs.Common.{◌≡◌, sym, subst, Result, Ok, Err, IfOk, IfErr, OnOk}
use Rattle.std.specs.Result.{IsErrAnd}
use Rattle.call_bounds.specs.declared.tree.CallNo.{CallNo}
use Rattle.call_bounds.specs.declared.tree.CallNo.TheVariants.{Escape, IndirectJump, Nesting}
use Rattle.call_bounds.specs.declared.tree.CallNo.TheVariants.{NoMemory, Overlap, Recursion}
use Rattle.call_bounds.specs.declared.tree.CallNo.TheVariants.{TimedWait, UnboundedBackEdge}
use Rattle.call_bounds.specs.Calls.{Calls}
use Rattle.call_bounds.specs.CallRefused.{AreCallsAllowed, IsCallRefused, IsTreeRefused}

-- no fact on a value
pub no-value : {A E : Type 0} (r : Result A E) (P : A → Type 0) (Q : E → Type 0) →
    IsErrAnd r Q → IfOk r P
no-value (Ok value) P Q h = absurd h
no-value (Err why) P Q h = tt

-- a fact that follows from a fact on a value
pub from-value : {A E : Type 0} (r : Result A E) {P Q : A → Type 0} → ((x : A) → P x → Q x) →
    IfOk r P → IfOk r Q
from-value (Ok value) f h = f value h
from-value (Err why) f h = tt

-- no fact on the presence of a value
pub no-success : {A E : Type 0} (r : Result A E) (P : Type 0) (Q : E → Type 0) →
    IsErrAnd r Q → OnOk r P
no-success (Ok value) P Q h = absurd h
no-success (Err why) P Q h = tt

-- a fact that holds anyway holds for a success
pub any-success : {A E : Type 0} (r : Result A E) (P : Type 0) → P → OnOk r P
any-success (Ok value) P p = p
any-success (Err why) P p = tt

-- an error is passed on unchanged
pub told-as : {A E : Type 0} (P : E → Type 0) (r : Result A E) (why : E) →
    IsErrAnd r (λ told. told ≡ why) → P why → IfErr r P
told-as P (Ok value) why h is = absurd h
told-as P (Err told) why h is = subst P (sym h) is

-- failed memory is passed on in any case
pub memory-refused : {A : Type 0} (x : Calls) (r : Result A CallNo) →
    IsErrAnd r (λ told. told ≡ NoMemory) → IfErr r (IsCallRefused x)
memory-refused x r h = told-as (IsCallRefused x) r NoMemory h tt

-- a refusal of a function is one of the whole, if no earlier cause holds
pub tree-refused : (x : Calls) (why : CallNo) → AreCallsAllowed x → IsTreeRefused x why →
    IsCallRefused x why
tree-refused x (Nesting a) allowed is = (allowed, is)
tree-refused x (IndirectJump a) allowed is = (allowed, is)
tree-refused x (TimedWait a) allowed is = (allowed, is)
tree-refused x (UnboundedBackEdge a) allowed is = (allowed, is)
tree-refused x NoMemory allowed is = tt
tree-refused x (Overlap a) allowed is = absurd is
tree-refused x (Recursion a) allowed is = absurd is
tree-refused x (Escape a) allowed is = absurd is
