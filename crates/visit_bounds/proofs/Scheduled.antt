-- While no issue writes slots or modes, picking uses those of the start.
use Rattle.std.proofs.Common.{◌≡◌, ℕ, zero, suc, ◌+◌, ◌-◌, ◌<◌, Bool, true, false, List}
use Rattle.std.proofs.Common.{[], ◌∷◌, Some, None, refl, ap, sym, ◌∙◌, subst, arith}
use Rattle.std.specs.Prelude.{not, ◌||◌, ◌==◌, if◌then◌else◌, Option}
use Rattle.std.specs.List.{list_all}
use Rattle.std.proofs.lemmas.Bool.Decides.{nat_tests}
use Rattle.rv_exec.specs.declared.outcome.Effect.{Effect}
use Rattle.rv_exec.specs.declared.outcome.Effect.TheVariants.{Nothing, Reg, Store, Csr, Trap, Wait}
use Rattle.slot_scheduler.specs.ModeWord.{mode_of}
use Rattle.core_model.proofs.Turns.{Turned, nexts}
use Rattle.core_model.specs.World.{Registers, Start, Took, is_quiet, leaves_registers}
use Rattle.core_model.specs.World.{newest, recent, registers_after, world}
use Rattle.core_model.specs.World.Took.{Idle, Lost, Ran}
use Rattle.core_model.specs.Phases.{keeps_scheduling, leaves_scheduling}
use Rattle.isolation.proofs.Induction.{all_longer}
use Rattle.isolation.proofs.Picks.{both}
use Rattle.visit_bounds.specs.InSettings.{IsSet}

-- two states of the registers with the same slots and modes
pub record SameScheduling (r t : Registers) : Type 0 where
  pub slots : r.slots ≡ t.slots
  pub modes : r.modes ≡ t.modes

kept-scheduling : (k pc word : ℕ) (e : Option Effect) (r : Registers) →
    leaves_scheduling (Ran k pc word e) ≡ true → SameScheduling (registers_after e r) r
kept-scheduling k pc word None r h = record { slots = refl; modes = refl }
kept-scheduling k pc word (Some Nothing) r h = record { slots = refl; modes = refl }
kept-scheduling k pc word (Some (Reg rd value)) r h = record { slots = refl; modes = refl }
kept-scheduling k pc word (Some (Store address width value)) r h =
    record { slots = refl; modes = refl }
kept-scheduling k pc word (Some (Trap cause target)) r h = record { slots = refl; modes = refl }
kept-scheduling k pc word (Some Wait) r h = record { slots = refl; modes = refl }
kept-scheduling k pc word (Some (Csr n value rd old)) r h =
    go (n == 0x7C0) (n == 0x7C1) (n == 0x7C2) (n == 0x7C3) h
  where
    go : (x y z u : Bool) → not (x || y) ≡ true →
        SameScheduling
        (if x then record r { slots = value }
        else if y then record r { modes = value }
        else if z
        then record r { dregions = value }
        else if u then record r { iregions = value } else r) r
    go true y z u h = cc
    go false true z u h = cc
    go false false true u h = record { slots = refl; modes = refl }
    go false false false true h = record { slots = refl; modes = refl }
    go false false false false h = record { slots = refl; modes = refl }

-- a turn that writes no configuration register keeps slots and modes
quiet-scheduling : (took : Took) → leaves_registers took ≡ true → leaves_scheduling took ≡ true
quiet-scheduling Idle h = refl
quiet-scheduling (Lost k) h = refl
quiet-scheduling (Ran k pc word None) h = refl
quiet-scheduling (Ran k pc word (Some Nothing)) h = refl
quiet-scheduling (Ran k pc word (Some (Reg rd value))) h = refl
quiet-scheduling (Ran k pc word (Some (Store address width value))) h = refl
quiet-scheduling (Ran k pc word (Some (Trap cause target))) h = refl
quiet-scheduling (Ran k pc word (Some Wait)) h = refl
quiet-scheduling (Ran k pc word (Some (Csr n value rd old))) h = grind (arith, nat_tests)

all-scheduled : (turns : List Took) → list_all leaves_registers turns ≡ true →
    list_all leaves_scheduling turns ≡ true
all-scheduled [] h = refl
all-scheduled (took ∷ turns) h =
    let (here, rest) = both (leaves_registers took) (list_all leaves_registers turns) h in
    rw (quiet-scheduling took here) (all-scheduled turns rest)

pub quiet-keeps : (s : Start) (n : ℕ) → is_quiet s n ≡ true → keeps_scheduling s n ≡ true
quiet-keeps s n quiet = all-scheduled (world s n).turns quiet

-- the slots and modes of the start stay
stay : (s : Start) (n : ℕ) → keeps_scheduling s n ≡ true →
    SameScheduling (world s n).registers s.registers
unfolding world recent
stay s zero kept = record { slots = refl; modes = refl }
stay s (suc n) kept = go (newest (world s (suc n))) (nexts s n).turned functions.0 (stay s n
    functions.1)
  where
    functions : (leaves_scheduling (newest (world s (suc n))) ≡ true)
        × (list_all leaves_scheduling (world s n).turns ≡ true)
    functions =
        both (leaves_scheduling (newest (world s (suc n))))
        (list_all leaves_scheduling (world s n).turns) (subst (λ (turns : List Took).
        list_all leaves_scheduling turns ≡ true) (nexts s n).turns kept)

    go : (took : Took) → Turned s n (world s n) took (world s (suc n)) →
        leaves_scheduling took ≡ true → SameScheduling (world s n).registers s.registers →
        SameScheduling (world s (suc n)).registers s.registers
    go Idle t left same = subst (λ r. SameScheduling r s.registers) (sym t.registers) same
    go (Lost k) t left same = subst (λ r. SameScheduling r s.registers) (sym t.same.registers) same
    go (Ran k pc word e) t left same =
        let after = kept-scheduling k pc word e (world s n).registers left in
        subst (λ r. SameScheduling r s.registers) (sym t.registers)
        (record { slots = after.slots ∙ same.slots; modes = after.modes ∙ same.modes })

-- so picking uses them in each cycle of the run
pub always-set : (s : Start) (slots i n : ℕ) → s.registers.slots ≡ slots →
    mode_of s.registers.modes i ≡ 0 → keeps_scheduling s n ≡ true → (c : ℕ) → c < n →
    IsSet s slots i c
always-set s slots i n is hard kept c below =
    let e : n ≡ (c - 2) + (n - (c - 2)) = omega arith in
    let early : keeps_scheduling s (c - 2) ≡ true = all_longer leaves_scheduling s (c - 2)
    (n - (c - 2)) (subst (λ (k : ℕ). list_all leaves_scheduling (world s k).turns ≡ true) e kept) in
    let same = stay s (c - 2) early in
    record { same_slots = same.slots ∙ is; hard = ap (λ (m : ℕ). mode_of m i) same.modes ∙ hard }
