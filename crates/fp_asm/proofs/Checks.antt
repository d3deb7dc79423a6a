-- The facts of a statement that passed its checks.
use Rattle.std.proofs.Common.{◌≡◌, ℕ, ◌<◌, ◌≤◌, ◌+◌, ◌-◌, ◌*◌, ◌%◌, ◌^◌, ◌==◌, Bool, true, false}
use Rattle.std.proofs.Common.{Result, Ok, refl, arith, pos, negsuc, ℤ, nat_abs, List, map, length}
use Rattle.std.proofs.lemmas.List.{length-map}
use Rattle.fp_asm.specs.AbstractOperands.{abstract_target}
use Rattle.fp_asm.specs.declared.operands.Target.TheVariants as target
use Rattle.std.proofs.lemmas.Bool.Decides.{nat_tests}
use Rattle.std.proofs.lemmas.Int.{ints}
use Rattle.fp_asm.specs.Statements.{Statement, aligned_to, statement_check}
use Rattle.fp_asm.specs.Statements.{checked_as, location_after, location_as, size_of}
use Rattle.fp_asm.specs.Words.{is_within}
use Rattle.fp_asm.specs.Faults.{holds}
use Rattle.fp_asm.specs.declared.mnemonics.Makes.{Makes}
use Rattle.fp_asm.specs.declared.mnemonics.Makes.TheVariants.{Plain, Branch, Jal, Li}
use Rattle.fp_asm.specs.declared.mnemonics.Makes.TheVariants.{La, Words, Org, Space}
use Rattle.fp_asm.specs.declared.refusal.AsmNo.{AsmNo}
use Rattle.fp_asm.specs.declared.refusal.AsmNo.TheVariants as no

abbrev passed : Result (Unit {0}) AsmNo
passed = Ok tt

-- a number that passed: within its limit, and a multiple of four
pub record IsAligned (most : ℕ) (n : ℤ) : Type 0 where
  pub small : nat_abs n ≤ most
  pub multiple : nat_abs n % 4 ≡ 0

abs_within : (most : ℕ) (n : ℤ) → is_within (pos 0) (pos most) n ≡ true → nat_abs n ≤ most
abs_within most (pos n) h = grind (arith, ints, nat_tests, h)
abs_within most (negsuc n) h = absurd (cc)

is_aligned : (most : ℕ) (n : ℤ) → aligned_to most n ≡ passed → IsAligned most n
unfolding aligned_to
is_aligned most n h = by_range (is_within (pos 0) (pos most) n) refl h
  where
    by_rest : (even : Bool) → (nat_abs n % 4 == 0) ≡ even → nat_abs n ≤ most →
        holds even no.Misaligned passed ≡ passed → IsAligned most n
    by_rest true e k h = record { small = k; multiple = grind (arith, nat_tests, e) }
    by_rest false e k h = absurd (cc)

    by_range : (inside : Bool) → is_within (pos 0) (pos most) n ≡ inside →
        holds inside no.OutOfRange (holds (nat_abs n % 4 == 0) no.Misaligned passed) ≡ passed →
        IsAligned most n
    by_range true e h = by_rest (nat_abs n % 4 == 0) refl (abs_within most n e) h
    by_range false e h = absurd (cc)

pub space_small : (s : Statement) → statement_check s ≡ passed → s.makes ≡ Space →
    nat_abs s.operands.given ≤ 16384
unfolding statement_check
space_small s h e = (is_aligned 16384 s.operands.given (rw e at h)).small

pub org_small : (s : Statement) → statement_check s ≡ passed → s.makes ≡ Org →
    nat_abs s.operands.given < 2 ^ 32
unfolding statement_check
org_small s h e = omega (arith, (is_aligned (2 ^ 32 - 4) s.operands.given (rw e at h)).small)

stays : (location n : ℕ) → location % 4 ≡ 0 → (location + 4 * n) % 2 ^ 32 % 4 ≡ 0
stays location n h = omega (arith, h)

-- a statement keeps the location a multiple of four
pub after_four : (location : ℕ) (s : Statement) → statement_check s ≡ passed → location % 4 ≡ 0 →
    location_after location s % 4 ≡ 0
unfolding statement_check location_after
after_four location s h k = go s.makes h
  where
    go : (m : Makes) → checked_as m s.operands.given ≡ passed → location_as m location s % 4 ≡ 0
    go Org h = (is_aligned (2 ^ 32 - 4) s.operands.given h).multiple
    go (Plain p) h = stays location (size_of s) k
    go (Branch op) h = stays location (size_of s) k
    go Jal h = stays location (size_of s) k
    go Li h = stays location (size_of s) k
    go La h = stays location (size_of s) k
    go Words h = stays location (size_of s) k
    go Space h = stays location (size_of s) k

-- the number of a statement's values is that of the code
pub values_count : (xs : List target.the_data) → length (map abstract_target xs) ≡ length xs
values_count xs = length-map xs abstract_target
