-- An instruction without a trap has a word that isn't 0.
use Rattle.std.proofs.Common.{◌≡◌, ◌≢◌, ℕ, Option, Some, None, refl, ap, ◌∙◌}
use Rattle.std.specs.Prelude.{IfSome}
use Rattle.rv_decode.specs.Table.{ins}
use Rattle.rv_exec.specs.Result.{result_of}
use Rattle.rv_exec.specs.declared.outcome.Effect.{Effect}
use Rattle.rv_exec.specs.declared.outcome.Effect.TheVariants.{Nothing, Reg, Store, Csr, Trap, Wait}
use Rattle.core_model.specs.declared.own.Own.{Own}
use Rattle.core_model.specs.Thread.{Environment, Execution}
use Rattle.core_model.specs.Traps.{unless_trap}
use Rattle.core_model.specs.Issue.{execute_untrapped, run_at}
use Rattle.hart_exec.specs.Effects.{HasWord}
use Rattle.hart_exec.specs.Units.{RefinesExecution, Units, units_after, units_of}
use Rattle.hart_exec.specs.declared.hart.Hart.{Hart}
use Rattle.hart_exec.specs.declared.result.ExecResult.{ExecResult}
use Rattle.hart_exec.proofs.Zero.{shown}

word-shown : (e : Option Effect) (word : ℕ) → word ≢ 0 → HasWord e word
word-shown None word h = h
word-shown (Some Nothing) word h = h
word-shown (Some (Reg rd value)) word h = h
word-shown (Some (Store address size value)) word h = h
word-shown (Some (Csr csr value rd old)) word h = h
word-shown (Some (Trap cause target)) word h = tt
word-shown (Some Wait) word h = h

pub run-shown : (a : Environment) (pc : ℕ) (t : Own) (w x y : ℕ) (e : Option Effect) →
    e ≡ (run_at a pc t w x y (ins w)).effect → HasWord e w
unfolding run_at
run-shown a pc t w x y e h = go (result_of (ins w) pc x y).trap refl h
  where
    go : (trap : Option ℕ) → (result_of (ins w) pc x y).trap ≡ trap →
        e ≡ (unless_trap pc t w trap
        (execute_untrapped a pc t w x y (result_of (ins w) pc x y) (ins w))).effect → HasWord e w
    go (Some cause) is same = rw same tt
    go None is same = word-shown e w (shown w pc x y is)

-- if there is a result
pub some-shown : (a : Environment) (h g : Hart) (t : Own) (pc w x y : ℕ) (d : Execution)
    (r : Option ExecResult) → d.effect ≡ (run_at a pc t w x y (ins w)).effect →
    IfSome r (λ e. RefinesExecution h g e d) → IfSome r (λ e. e.word ≡ w) →
    IfSome r (λ e. HasWord e.effect e.word)
some-shown a h g t pc w x y d None is did same = tt
some-shown a h g t pc w x y d (Some e) is did same =
    rw same (run-shown a pc t w x y e.effect (ap (λ (k : Execution). k.effect) did.did ∙ is))

-- units that follow from equal ones
same-units : (m n : ℕ) (d e : Execution) (a b x y : Units) → n ≡ m → b ≡ a → y ≡ x → e ≡ d →
    x ≡ units_after m d a → y ≡ units_after n e b
same-units m n d e a b x y thread before after is left = rw (thread, before, after, is) left

-- a result refines the same of harts with the same thread and units
pub carried : (h g k l : Hart) (r : Option ExecResult) (d e : Execution) →
    k.thread ≡ h.thread → units_of k ≡ units_of h → units_of l ≡ units_of g → e ≡ d →
    IfSome r (λ x. RefinesExecution h g x d) → IfSome r (λ x. RefinesExecution k l x e)
carried h g k l None d e thread before after is did = tt
carried h g k l (Some x) d e thread before after is did =
    record {
      did = rw is did.did;
      units =
          same-units h.thread k.thread d e (units_of h) (units_of k) (units_of g) (units_of l)
          thread before after is did.units;
    }
