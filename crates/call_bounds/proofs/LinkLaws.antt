-- Jumps that write their return address.
use Rattle.std.proofs.Common.{◌≡◌, ◌≢◌, ℕ, ◌==◌, refl, arith, sym, subst, None, false}
use Rattle.std.proofs.lemmas.Bool.Decides.{nat_tests}
use Rattle.rv_decode.specs.Table.{ins}
use Rattle.rv_decode.specs.declared.instruction.Ins.{Ins}
use Rattle.rv_decode.specs.declared.instruction.Ins.TheVariants.{Jal}
use Rattle.region_tree.specs.Edges.{aligned_target, edges_from, edges_of, offset}
use Rattle.call_bounds.specs.Calls.{link_target}
use Rattle.std.proofs.Common.{ℤ, if◌then◌else◌}

jal-linked : (a rd : ℕ) (off : ℤ) → rd ≡ 1 →
    (edges_from a (Jal rd off)).jump ≡ link_target a (Jal rd off)
unfolding edges_from link_target
jal-linked a rd off e =
    subst (λ r. aligned_target (offset a off)
    ≡ (if r == 1 then aligned_target (offset a off) else None)) (sym e) refl

jal-other : (a rd : ℕ) (off : ℤ) → rd ≢ 1 → None ≡ link_target a (Jal rd off)
unfolding link_target
jal-other a rd off e = let z : (rd == 1) ≡ false = grind (arith, nat_tests) in rw z refl

pub link-jump : (a w rd : ℕ) (off : ℤ) → ins w ≡ Jal rd off → rd ≡ 1 →
    (edges_of w a).jump ≡ link_target a (ins w)
unfolding edges_of
link-jump a w rd off e r =
    subst (λ i. (edges_from a i).jump ≡ link_target a i) (sym e) (jal-linked a rd off r)

pub link-other : (a w rd : ℕ) (off : ℤ) → ins w ≡ Jal rd off → rd ≢ 1 → None ≡ link_target a (ins w)
link-other a w rd off e r = subst (λ i. None ≡ link_target a i) (sym e) (jal-other a rd off r)

pub link-none : (a : ℕ) (i : Ins) → ((rd : ℕ) (off : ℤ) → i ≡ Jal rd off → ⊥) →
    None ≡ link_target a i
unfolding link_target
link-none a (Jal rd off) out = absurd (out rd off refl)
link-none a i out = refl
