-- An execution's address, late value and expiry, by its effect.
use Rattle.std.proofs.Common.{◌≡◌, ℕ, ◌/◌, ◌%◌, ◌^◌, Bool, true, false, List, Some, None, refl}
use Rattle.std.specs.Prelude.{if◌then◌else◌, Option, ◌==◌, nat_le}
use Rattle.rv_decode.specs.Table.{ins}
use Rattle.rv_decode.specs.declared.instruction.Ins.{Ins}
use Rattle.rv_decode.specs.declared.instruction.Ins.TheVariants as i
use Rattle.rv_exec.specs.declared.outcome.Effect.{Effect}
use Rattle.rv_exec.specs.declared.outcome.Effect.TheVariants.{Nothing, Reg, Store, Csr, Trap, Wait}
use Rattle.rv_exec.specs.Result.{result_of, unless}
use Rattle.rv_exec.specs.Access.{store_size}
use Rattle.core_model.specs.declared.own.CsrOp.{CsrOp}
use Rattle.core_model.specs.declared.own.Own.{Own}
use Rattle.core_model.specs.Thread.{Environment, Execution, reg_in, reg_effect, with_late_value}
use Rattle.core_model.specs.Traps.{trapped, unless_trap}
use Rattle.core_model.specs.Outcomes.{load, store, branch, go_to, advance, write}
use Rattle.core_model.specs.Waiting.{delay, wait, or_armed, spin, with_high}
use Rattle.core_model.specs.Csr.{csr_access, csr_done, csr_put, csr_write}
use Rattle.core_model.specs.Csr.{csr_value, csr_update, legal_value, may_hold}
use Rattle.core_model.specs.Issue.{execute_untrapped, run_at, execute_in, late_rd}
use Rattle.core_model.specs.Issue.{source_1, csr_op, csr_operand, csr_writes}
use Rattle.core_model.proofs.Pace.{run-word}
use Rattle.pipe_model.specs.Contents.{is_expiry, before_late, address_of, unless_trapped}

-- no expiry; a register value only as a late value; the address, if there is no trap
abbrev Told : Option ℕ → ℕ → Execution → Type 0
Told o address d =
    (is_expiry d.effect ≡ false) × (before_late o d.effect ≡ d.effect)
    × (d.address ≡ unless_trapped d.effect address)

wrote-told : (pc : ℕ) (t : Own) (w lag rd v : ℕ) → Told None 0 (write pc t w lag rd v)
wrote-told pc t w lag rd v = go (rd == 0)
  where
    go : (b : Bool) → Told None 0 (advance pc t w lag (if b then Nothing else Reg rd v))
    go true = (refl, refl, refl)
    go false = (refl, refl, refl)

went-told : (t : Own) (w target rd v : ℕ) → Told None 0 (go_to t w target (reg_effect rd v))
went-told t w target rd v = go (rd == 0)
  where
    go : (b : Bool) → Told None 0 (go_to t w target (if b then Nothing else Reg rd v))
    go true = (refl, refl, refl)
    go false = (refl, refl, refl)

load-told : (pc : ℕ) (t : Own) (w rd address : ℕ) (b : Bool) →
    Told (Some rd) address (load pc t w address b)
unfolding load
load-told pc t w rd address true = (refl, refl, refl)
load-told pc t w rd address false = (refl, refl, refl)

store-told : (pc : ℕ) (t : Own) (w address width value : ℕ) (b : Bool) →
    Told None address (store pc t w address width value b)
unfolding store
store-told pc t w address width value true = (refl, refl, refl)
store-told pc t w address width value false = (refl, refl, refl)

branch-told : (pc : ℕ) (t : Own) (w : ℕ) (b : Bool) (target : ℕ) →
    Told None 0 (branch pc t w b target)
unfolding branch
branch-told pc t w true target = (refl, refl, refl)
branch-told pc t w false target = (refl, refl, refl)

put-told : (pc : ℕ) (t : Own) (w rd n new old : ℕ) → Told None 0 (csr_put pc t w rd n new old)
put-told pc t w rd n new old = go (may_hold n new)
  where
    go : (b : Bool) →
        Told None 0 (if b then csr_write pc t w rd n (legal_value n new) old else trapped pc t w 2)
    go true = (refl, refl, refl)
    go false = (refl, refl, refl)

csr-told : (pc : ℕ) (t : Own) (w rd n : ℕ) (op : CsrOp) (operand : ℕ) (writes : Bool)
    (value : Option ℕ) → Told None 0 (csr_done pc t w rd n op operand writes value)
csr-told pc t w rd n op operand writes None = (refl, refl, refl)
csr-told pc t w rd n op operand true (Some old) =
    put-told pc t w rd n (csr_update op old operand) old
csr-told pc t w rd n op operand false (Some old) = wrote-told pc t w 3 rd old

access-told : (thread pc : ℕ) (t : Own) (w rd n : ℕ) (op : CsrOp) (operand : ℕ) (writes : Bool)
    (shared : Option ℕ) → Told None 0 (csr_access thread pc t w rd n op operand writes shared)
unfolding csr_access
access-told thread pc t w rd n op operand writes shared =
    csr-told pc t w rd n op operand writes (csr_value thread t n shared)

delay-told : (now pc : ℕ) (t : Own) (w m : ℕ) → Told None 0 (delay now pc t w m)
unfolding delay
delay-told now pc t w m = go (nat_le m now)
  where
    go : (b : Bool) → Told None 0 (if b then advance pc t w 3 Nothing else spin pc t w)
    go true = (refl, refl, refl)
    go false = (refl, refl, refl)

wait-told : (now pc : ℕ) (t : Own) (w m : ℕ) → Told None 0 (wait now pc t w m)
unfolding wait
wait-told now pc t w m = go (nat_le m now)
  where
    go : (b : Bool) → Told None 0 (if b then advance pc t w 3 Nothing
        else advance pc (record t { sleep = or_armed m t.timer.armed }) w 3 Wait)
    go true = (refl, refl, refl)
    go false = (refl, refl, refl)

goes-told : (a : Environment) (pc : ℕ) (t : Own) (w x y : ℕ) (n : Ins) →
    Told (late_rd n) (address_of n x) (execute_untrapped a pc t w x y (result_of n pc x y) n)
unfolding execute_untrapped result_of
goes-told a pc t w x y (i.Lui rd imm) = wrote-told pc t w 1 rd _
goes-told a pc t w x y (i.Auipc rd imm) = wrote-told pc t w 1 rd _
goes-told a pc t w x y (i.Jal rd off) =
    let o = result_of (i.Jal rd off) pc x y in went-told t w o.target rd o.value
goes-told a pc t w x y (i.Jalr rd rs1 imm) =
    let o = result_of (i.Jalr rd rs1 imm) pc x y in went-told t w o.target rd o.value
goes-told a pc t w x y (i.Branch op rs1 rs2 off) = branch-told pc t w _ _
goes-told a pc t w x y (i.Load op rd rs1 imm) = load-told pc t w rd _ _
goes-told a pc t w x y (i.Store op rs1 rs2 imm) = store-told pc t w _ (store_size op) _ _
goes-told a pc t w x y (i.OpImm op rd rs1 imm) = wrote-told pc t w 1 rd _
goes-told a pc t w x y (i.Shift op rd rs1 amount) = wrote-told pc t w 1 rd _
goes-told a pc t w x y (i.Op op rd rs1 rs2) = wrote-told pc t w 1 rd _
goes-told a pc t w x y (i.Muldiv op rd rs1 rs2) = (refl, refl, refl)
goes-told a pc t w x y (i.Fence v) = (refl, refl, refl)
goes-told a pc t w x y i.Ecall = (refl, refl, refl)
goes-told a pc t w x y i.Ebreak = (refl, refl, refl)
goes-told a pc t w x y i.Mret = (refl, refl, refl)
goes-told a pc t w x y (i.Csr op rd n src) =
    access-told a.thread pc t w rd n (csr_op op) (csr_operand op src x)
    (csr_writes op src) (a.shared n)
goes-told a pc t w x y (i.Gt rd) =
    wrote-told pc (with_high t (a.now / 2 ^ 32)) w 1 rd (a.now % 2 ^ 32)
goes-told a pc t w x y (i.Gth rd) = wrote-told pc t w 1 rd _
goes-told a pc t w x y (i.Du rs1 rs2) = delay-told a.now pc t w _
goes-told a pc t w x y (i.Wu rs1 rs2) = wait-told a.now pc t w _
goes-told a pc t w x y (i.Ee rs1 rs2) = (refl, refl, refl)
goes-told a pc t w x y i.De = (refl, refl, refl)
goes-told a pc t w x y (i.Illegal v) = (refl, refl, refl)

-- the trap of an instruction's result is no expiry
abbrev Below : Option ℕ → Type 0
Below (Some cause) = (cause == 24) ≡ false
Below None = Unit {0}

unless-below : (b : Bool) (cause : ℕ) → (cause == 24) ≡ false → Below (unless b cause)
unless-below true cause h = tt
unless-below false cause h = h

taken-below : (taken b : Bool) → Below (if taken then unless b 0 else None)
taken-below true b = unless-below b 0 refl
taken-below false b = tt

result-below : (pc x y : ℕ) (n : Ins) → Below (result_of n pc x y).trap
unfolding result_of
result-below pc x y (i.Jal rd off) = unless-below _ 0 refl
result-below pc x y (i.Jalr rd rs1 imm) = unless-below _ 0 refl
result-below pc x y (i.Branch op rs1 rs2 off) = taken-below _ _
result-below pc x y (i.Load op rd rs1 imm) = unless-below _ 4 refl
result-below pc x y (i.Store op rs1 rs2 imm) = unless-below _ 6 refl
result-below pc x y i.Ecall = refl
result-below pc x y i.Ebreak = refl
result-below pc x y (i.Illegal v) = refl
result-below pc x y _ = tt

trap-told : (pc : ℕ) (t : Own) (w cause : ℕ) (o : Option ℕ) (address : ℕ) → (cause == 24) ≡ false →
    Told o address (trapped pc t w cause)
trap-told pc t w cause None address h = (h, refl, refl)
trap-told pc t w cause (Some rd) address h = (h, refl, refl)

unless-told : (pc : ℕ) (t : Own) (w : ℕ) (o : Option ℕ) (address : ℕ) (trap : Option ℕ)
    (d : Execution) → Below trap → Told o address d → Told o address (unless_trap pc t w trap d)
unless-told pc t w o address (Some cause) d b h = trap-told pc t w cause o address b
unless-told pc t w o address None d b h = h

run-told : (a : Environment) (pc : ℕ) (t : Own) (w x y : ℕ) (n : Ins) →
    Told (late_rd n) (address_of n x) (run_at a pc t w x y n)
unfolding run_at
run-told a pc t w x y n =
    unless-told pc t w (late_rd n) (address_of n x) _ _ (result-below pc x y n)
    (goes-told a pc t w x y n)

-- of the whole instruction, by the value of its word's first source
pub record ActTold (regs : List ℕ) (expired : Bool) (d : Execution) : Type 0 where
  pub expiry : is_expiry d.effect ≡ expired
  pub early : before_late (late_rd (ins d.word)) d.effect ≡ d.effect
  pub address : d.address
      ≡ unless_trapped d.effect (address_of (ins d.word) (reg_in regs (source_1 (ins d.word))))

early-trap : (o : Option ℕ) (cause target : ℕ) →
    before_late o (Some (Trap cause target)) ≡ Some (Trap cause target)
early-trap None cause target = refl
early-trap (Some rd) cause target = refl

pub act-told : (a : Environment) (pc : ℕ) (t : Own) (regs : List ℕ) (expired : Bool) (w y : ℕ) →
    ActTold regs expired (execute_in a pc t expired w (reg_in regs (source_1 (ins w))) y)
unfolding execute_in
act-told a pc t regs true w y = record { expiry = refl; early = early-trap _ 24 _; address = refl }
act-told a pc t regs false w y = go (a.fetch pc)
  where
    x : ℕ
    x = reg_in regs (source_1 (ins w))

    go : (b : Bool) →
        ActTold regs false (if b then run_at a pc t w x y (ins w) else trapped pc t 0 1)
    go true =
        let told : Told (late_rd (ins w)) (address_of (ins w) x) (run_at a pc t w x y (ins w)) =
        run-told a pc t w x y (ins w) in
        record {
          expiry = told.0;
          early = rw (run-word a pc t w x y (ins w)) told.1;
          address = rw (run-word a pc t w x y (ins w)) told.2;
        }
    go false = record { expiry = refl; early = early-trap _ 1 _; address = refl }

-- a late value changes none of this
pub filled-expiry : (o : Option ℕ) (v : ℕ) (e : Option Effect) →
    is_expiry (with_late_value o v e) ≡ is_expiry e
filled-expiry None v e = refl
filled-expiry (Some rd) v (Some Nothing) = go (rd == 0)
  where
    go : (b : Bool) → is_expiry (Some (if b then Nothing else Reg rd v)) ≡ false
    go true = refl
    go false = refl
filled-expiry (Some rd) v None = refl
filled-expiry (Some rd) v (Some (Reg x y)) = refl
filled-expiry (Some rd) v (Some (Store x y z)) = refl
filled-expiry (Some rd) v (Some (Csr n x y z)) = refl
filled-expiry (Some rd) v (Some (Trap x y)) = refl
filled-expiry (Some rd) v (Some Wait) = refl

pub filled-early : (o : Option ℕ) (v : ℕ) (e : Option Effect) → before_late o e ≡ e →
    before_late o (with_late_value o v e) ≡ e
filled-early None v e h = refl
filled-early (Some rd) v (Some Nothing) h = go (rd == 0)
  where
    go : (b : Bool) → before_late (Some rd) (Some (if b then Nothing else Reg rd v)) ≡ Some Nothing
    go true = refl
    go false = refl
filled-early (Some rd) v None h = refl
filled-early (Some rd) v (Some (Reg x y)) h = h
filled-early (Some rd) v (Some (Store x y z)) h = refl
filled-early (Some rd) v (Some (Csr n x y z)) h = refl
filled-early (Some rd) v (Some (Trap x y)) h = refl
filled-early (Some rd) v (Some Wait) h = refl

pub filled-trapped : (o : Option ℕ) (v address : ℕ) (e : Option Effect) →
    unless_trapped (with_late_value o v e) address ≡ unless_trapped e address
filled-trapped None v address e = refl
filled-trapped (Some rd) v address (Some Nothing) = go (rd == 0)
  where
    go : (b : Bool) → unless_trapped (Some (if b then Nothing else Reg rd v)) address ≡ address
    go true = refl
    go false = refl
filled-trapped (Some rd) v address None = refl
filled-trapped (Some rd) v address (Some (Reg x y)) = refl
filled-trapped (Some rd) v address (Some (Store x y z)) = refl
filled-trapped (Some rd) v address (Some (Csr n x y z)) = refl
filled-trapped (Some rd) v address (Some (Trap x y)) = refl
filled-trapped (Some rd) v address (Some Wait) = refl
