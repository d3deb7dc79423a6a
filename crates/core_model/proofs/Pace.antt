-- Lag by pc, effect and word: the facts that a pipeline relies on.
use Rattle.std.proofs.Common.{◌≡◌, ℕ, ◌/◌, ◌%◌, ◌^◌, ◌⊎◌, inl, inr}
use Rattle.std.proofs.Common.{Bool, true, false, Some, None, refl, arith}
use Rattle.std.specs.Prelude.{if◌then◌else◌, Option, ◌==◌}
use Rattle.std.proofs.lemmas.Bool.Decides.{nat_tests}
use Rattle.rv_decode.specs.Table.{ins}
use Rattle.rv_decode.specs.declared.instruction.Ins.{Ins}
use Rattle.rv_decode.specs.declared.instruction.Ins.TheVariants as i
use Rattle.rv_exec.specs.declared.outcome.Effect.{Effect}
use Rattle.rv_exec.specs.declared.outcome.Effect.TheVariants.{Nothing, Reg, Store, Csr, Trap, Wait}
use Rattle.rv_exec.specs.declared.outcome.Outcome.{Outcome}
use Rattle.rv_exec.specs.Result.{result_of}
use Rattle.rv_exec.specs.Access.{store_size}
use Rattle.core_model.specs.declared.own.CsrOp.{CsrOp}
use Rattle.core_model.specs.declared.own.Own.{Own}
use Rattle.core_model.specs.Thread.{Environment, Execution, reg_effect, with_late_value}
use Rattle.core_model.specs.Traps.{trapped, unless_trap}
use Rattle.core_model.specs.Outcomes.{plus, load, store, branch, write}
use Rattle.core_model.specs.Waiting.{delay, wait, with_high}
use Rattle.core_model.specs.Csr.{csr_access}
use Rattle.core_model.specs.Issue.{execute_untrapped, run_at, execute_in}
use Rattle.core_model.specs.Issue.{late_rd, csr_op, csr_operand, csr_writes}
use Rattle.core_model.specs.World.{Registers, registers_after}

abbrev pub is_csr : Option Effect → Bool
is_csr (Some (Csr n value rd old)) = true
is_csr _ = false

-- the lag is 3; or the pc goes on to the next word, with lag 2, or with lag 1 and no late value
abbrev pub Paced : ℕ → Option ℕ → Execution → Type 0
Paced pc o d =
    (d.lag ≡ 3)
    ⊎ ((d.pc ≡ plus pc 4) × (is_csr d.effect ≡ false) × ((d.lag ≡ 2) ⊎ ((d.lag ≡ 1) × (o ≡ None))))

reg-no_csr : (rd value : ℕ) → is_csr (Some (reg_effect rd value)) ≡ false
reg-no_csr rd value = go (rd == 0)
  where
    go : (b : Bool) → is_csr (Some (if b then Nothing else Reg rd value)) ≡ false
    go true = refl
    go false = refl

wrote-paced : (pc : ℕ) (t : Own) (w rd v : ℕ) → Paced pc None (write pc t w 1 rd v)
wrote-paced pc t w rd v = inr (refl, reg-no_csr rd v, inr (refl, refl))

load-paced : (pc : ℕ) (t : Own) (w rd address : ℕ) (b : Bool) →
    Paced pc (Some rd) (load pc t w address b)
unfolding load
load-paced pc t w rd address b = grind (arith, nat_tests)

store-paced : (pc : ℕ) (t : Own) (w address width value : ℕ) (b : Bool) →
    Paced pc None (store pc t w address width value b)
unfolding store
store-paced pc t w address width value b = grind (arith, nat_tests)

branch-paced : (pc : ℕ) (t : Own) (w : ℕ) (b : Bool) (target : ℕ) →
    Paced pc None (branch pc t w b target)
unfolding branch
branch-paced pc t w b target = grind (arith, nat_tests)

csr-paced : (thread pc : ℕ) (t : Own) (w rd n : ℕ) (op : CsrOp) (operand : ℕ) (writes : Bool)
    (shared : Option ℕ) → Paced pc None (csr_access thread pc t w rd n op operand writes shared)
unfolding csr_access
csr-paced thread pc t w rd n op operand writes shared = grind (arith, nat_tests)

delay-paced : (now pc : ℕ) (t : Own) (w m : ℕ) → Paced pc None (delay now pc t w m)
unfolding delay
delay-paced now pc t w m = grind (arith, nat_tests)

wait-paced : (now pc : ℕ) (t : Own) (w m : ℕ) → Paced pc None (wait now pc t w m)
unfolding wait
wait-paced now pc t w m = grind (arith, nat_tests)

goes-paced : (a : Environment) (pc : ℕ) (t : Own) (w x y : ℕ) (o : Outcome) (n : Ins) →
    Paced pc (late_rd n) (execute_untrapped a pc t w x y o n)
unfolding execute_untrapped
goes-paced a pc t w x y o (i.Lui rd imm) = wrote-paced pc t w rd _
goes-paced a pc t w x y o (i.Auipc rd imm) = wrote-paced pc t w rd _
goes-paced a pc t w x y o (i.Jal rd off) = inl refl
goes-paced a pc t w x y o (i.Jalr rd rs1 imm) = inl refl
goes-paced a pc t w x y o (i.Branch op rs1 rs2 off) = branch-paced pc t w o.taken o.target
goes-paced a pc t w x y o (i.Load op rd rs1 imm) = load-paced pc t w rd o.address _
goes-paced a pc t w x y o (i.Store op rs1 rs2 imm) =
    store-paced pc t w o.address (store_size op) _ _
goes-paced a pc t w x y o (i.OpImm op rd rs1 imm) = wrote-paced pc t w rd _
goes-paced a pc t w x y o (i.Shift op rd rs1 amount) = wrote-paced pc t w rd _
goes-paced a pc t w x y o (i.Op op rd rs1 rs2) = wrote-paced pc t w rd _
goes-paced a pc t w x y o (i.Muldiv op rd rs1 rs2) = inr (refl, refl, inl refl)
goes-paced a pc t w x y o (i.Fence v) = inr (refl, refl, inr (refl, refl))
goes-paced a pc t w x y o i.Ecall = inl refl
goes-paced a pc t w x y o i.Ebreak = inl refl
goes-paced a pc t w x y o i.Mret = inl refl
goes-paced a pc t w x y o (i.Csr op rd n src) =
    csr-paced a.thread pc t w rd n (csr_op op) (csr_operand op src x)
    (csr_writes op src) (a.shared n)
goes-paced a pc t w x y o (i.Gt rd) =
    wrote-paced pc (with_high t (a.now / 2 ^ 32)) w rd (a.now % 2 ^ 32)
goes-paced a pc t w x y o (i.Gth rd) = wrote-paced pc t w rd _
goes-paced a pc t w x y o (i.Du rs1 rs2) = delay-paced a.now pc t w _
goes-paced a pc t w x y o (i.Wu rs1 rs2) = wait-paced a.now pc t w _
goes-paced a pc t w x y o (i.Ee rs1 rs2) = inl refl
goes-paced a pc t w x y o i.De = inl refl
goes-paced a pc t w x y o (i.Illegal v) = inl refl

unless-paced : (pc : ℕ) (t : Own) (w : ℕ) (o : Option ℕ) (trap : Option ℕ) (d : Execution) →
    Paced pc o d → Paced pc o (unless_trap pc t w trap d)
unless-paced pc t w o (Some cause) d h = inl refl
unless-paced pc t w o None d h = h

run-paced : (a : Environment) (pc : ℕ) (t : Own) (w x y : ℕ) (n : Ins) →
    Paced pc (late_rd n) (run_at a pc t w x y n)
unfolding run_at
run-paced a pc t w x y n =
    unless-paced pc t w (late_rd n) _ _ (goes-paced a pc t w x y (result_of n pc x y) n)

-- the word of an execution is the fetched one, or 0 after an expiry or a refused fetch
goes-word : (a : Environment) (pc : ℕ) (t : Own) (w x y : ℕ) (o : Outcome) (n : Ins) →
    (execute_untrapped a pc t w x y o n).word ≡ w
unfolding execute_untrapped load store branch csr_access delay wait
goes-word a pc t w x y o (i.Branch op rs1 rs2 off) = grind (arith, nat_tests)
goes-word a pc t w x y o (i.Load op rd rs1 imm) = grind (arith, nat_tests)
goes-word a pc t w x y o (i.Store op rs1 rs2 imm) = grind (arith, nat_tests)
goes-word a pc t w x y o (i.Csr op rd n src) = grind (arith, nat_tests)
goes-word a pc t w x y o (i.Du rs1 rs2) = grind (arith, nat_tests)
goes-word a pc t w x y o (i.Wu rs1 rs2) = grind (arith, nat_tests)
goes-word a pc t w x y o _ = refl

unless-word : (pc : ℕ) (t : Own) (w : ℕ) (trap : Option ℕ) (d : Execution) → d.word ≡ w →
    (unless_trap pc t w trap d).word ≡ w
unless-word pc t w (Some cause) d h = refl
unless-word pc t w None d h = h

pub run-word : (a : Environment) (pc : ℕ) (t : Own) (w x y : ℕ) (n : Ins) →
    (run_at a pc t w x y n).word ≡ w
unfolding run_at
run-word a pc t w x y n = unless-word pc t w _ _ (goes-word a pc t w x y (result_of n pc x y) n)

pub act-word : (a : Environment) (pc : ℕ) (t : Own) (expired : Bool) (w x y : ℕ) →
    ((execute_in a pc t expired w x y).word ≡ w) ⊎ ((execute_in a pc t expired w x y).word ≡ 0)
unfolding execute_in
act-word a pc t true w x y = inr refl
act-word a pc t false w x y = go (a.fetch pc)
  where
    go : (b : Bool) → ((if b then run_at a pc t w x y (ins w) else trapped pc t 0 1).word ≡ w)
        ⊎ ((if b then run_at a pc t w x y (ins w) else trapped pc t 0 1).word ≡ 0)
    go true = inl (run-word a pc t w x y (ins w))
    go false = inr refl

-- an execution is paced, with the late register that its own word has
pub record Pace (pc : ℕ) (d : Execution) : Type 0 where
  pub paced : Paced pc (late_rd (ins d.word)) d

pub act-pace : (a : Environment) (pc : ℕ) (t : Own) (expired : Bool) (w x y : ℕ) →
    Pace pc (execute_in a pc t expired w x y)
unfolding execute_in
act-pace a pc t true w x y = record { paced = inl refl }
act-pace a pc t false w x y = go (a.fetch pc)
  where
    go : (b : Bool) → Pace pc (if b then run_at a pc t w x y (ins w) else trapped pc t 0 1)
    go true = record { paced = rw (run-word a pc t w x y (ins w)) (run-paced a pc t w x y (ins w)) }
    go false = record { paced = inl refl }

-- a late value changes only registers
pub filled-registers : (o : Option ℕ) (v : ℕ) (e : Option Effect) (r : Registers) →
    registers_after (with_late_value o v e) r ≡ registers_after e r
filled-registers None v e r = refl
filled-registers (Some rd) v None r = refl
filled-registers (Some rd) v (Some Nothing) r = go (rd == 0)
  where
    go : (b : Bool) → registers_after (Some (if b then Nothing else Reg rd v)) r ≡ r
    go true = refl
    go false = refl
filled-registers (Some rd) v (Some (Reg x y)) r = refl
filled-registers (Some rd) v (Some (Store x y z)) r = refl
filled-registers (Some rd) v (Some (Csr n x y z)) r = refl
filled-registers (Some rd) v (Some (Trap x y)) r = refl
filled-registers (Some rd) v (Some Wait) r = refl

pub filled-csr : (o : Option ℕ) (v : ℕ) (e : Option Effect) →
    is_csr (with_late_value o v e) ≡ is_csr e
filled-csr None v e = refl
filled-csr (Some rd) v None = refl
filled-csr (Some rd) v (Some Nothing) = reg-no_csr rd v
filled-csr (Some rd) v (Some (Reg x y)) = refl
filled-csr (Some rd) v (Some (Store x y z)) = refl
filled-csr (Some rd) v (Some (Csr n x y z)) = refl
filled-csr (Some rd) v (Some (Trap x y)) = refl
filled-csr (Some rd) v (Some Wait) = refl
