-- A load or a store traps if it isn't allowed, and a branch never does.
use Rattle.std.proofs.Common.{◌≡◌, ℕ, Bool, true, false, refl}
use Rattle.std.specs.Prelude.{not}
use Rattle.core_model.specs.declared.own.Own.{Own}
use Rattle.core_model.specs.Outcomes.{load, store, branch}
use Rattle.core_model.specs.Traps.{is_trap}

pub load_frequent : (pc : ℕ) (t : Own) (w address : ℕ) (allowed : Bool) →
    not (is_trap (load pc t w address allowed).effect) ≡ allowed
unfolding load
load_frequent pc t w address true = refl
load_frequent pc t w address false = refl

pub store_frequent : (pc : ℕ) (t : Own) (w address width value : ℕ) (allowed : Bool) →
    not (is_trap (store pc t w address width value allowed).effect) ≡ allowed
unfolding store
store_frequent pc t w address width value true = refl
store_frequent pc t w address width value false = refl

pub branch_frequent : (pc : ℕ) (t : Own) (w : ℕ) (taken : Bool) (target : ℕ) →
    not (is_trap (branch pc t w taken target).effect) ≡ true
unfolding branch
branch_frequent pc t w true target = refl
branch_frequent pc t w false target = refl
