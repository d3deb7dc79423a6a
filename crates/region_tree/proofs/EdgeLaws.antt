-- Lags are at most 3, and edges lead to multiples of four.
use Rattle.std.proofs.Common.{◌≡◌, ℕ, ◌+◌, ◌%◌, ◌^◌, ◌≤◌, ◌⊎◌, ◌==◌, refl, arith}
use Rattle.std.proofs.Common.{inl, inr, ap, sym, subst, Option, Some, None, [], ◌∷◌}
use Rattle.std.proofs.Common.{slice_index_or, Contains, Bool, true, false, if◌then◌else◌}
use Rattle.std.proofs.lemmas.List.Elements.{Contains-append_cases}
use Rattle.std.proofs.lemmas.Bool.Decides.{nat_tests}
use Rattle.rv_decode.specs.Table.{ins}
use Rattle.rv_decode.specs.declared.instruction.Ins.{Ins}
use Rattle.rv_decode.specs.declared.instruction.Ins.TheVariants.{Jal, Jalr, Branch, Load}
use Rattle.rv_decode.specs.declared.instruction.Ins.TheVariants.{Muldiv, Ecall, Ebreak, Mret}
use Rattle.rv_decode.specs.declared.instruction.Ins.TheVariants.{Csr, Du, Wu, Ee, De, Illegal}
use Rattle.region_tree.specs.declared.edges.Edges.{Edges}
use Rattle.region_tree.specs.Edges.{aligned_target, edges_from, edges_of, offset}
use Rattle.region_tree.specs.Graph.{Edge, edge_list, edge_to}

-- the edge of an optional target
pub edge-is : (o : Option ℕ) (lag : ℕ) (e : Edge) → Contains (edge_to o lag) e →
    (o ≡ Some e.to) × (e.lag ≡ lag)
edge-is None lag e h = absurd (omega (arith, h.1))
edge-is (Some v) lag e h =
    let z : h.0 ≡ 0 = omega (arith, h.1) in
    let same : record { to = v; lag = lag } ≡ e =
    subst (λ i. slice_index_or (record { to = v; lag = lag } ∷ []) i e ≡ e) z h.2 in
    (ap (λ (y : Edge). Some y.to) same, sym (ap (λ (y : Edge). y.lag) same))

pub is-edge : (o : Option ℕ) (lag v : ℕ) → o ≡ Some v →
    Contains (edge_to o lag) (record { to = v; lag = lag })
is-edge None lag v h = cc
is-edge (Some w) lag v h =
    let same : w ≡ v = cc in (0, omega arith, λ i. record { to = same i; lag = lag })

short-from : (a : ℕ) (i : Ins) → (edges_from a i).next_lag ≤ 3
unfolding edges_from
short-from a (Load op rd rs1 imm) = omega arith
short-from a (Muldiv op rd rs1 rs2) = omega arith
short-from a (Csr op rd csr src) = omega arith
short-from a (Ee rs1 rs2) = omega arith
short-from a De = omega arith
short-from a (Branch op rs1 rs2 off) = omega arith
short-from a (Jal rd off) = omega arith
short-from a Ecall = omega arith
short-from a Ebreak = omega arith
short-from a (Illegal w) = omega arith
short-from a (Jalr rd rs1 imm) = omega arith
short-from a Mret = omega arith
short-from a (Du rs1 rs2) = omega arith
short-from a (Wu rs1 rs2) = omega arith
short-from a i = omega arith

pub next-short : (w a : ℕ) → (edges_of w a).next_lag ≤ 3
unfolding edges_of
next-short w a = short-from a (ins w)

next-from : (a v : ℕ) (i : Ins) → (edges_from a i).next ≡ Some v → v ≡ (a + 4) % 2 ^ 32
unfolding edges_from
next-from a v (Load op rd rs1 imm) e = cc
next-from a v (Muldiv op rd rs1 rs2) e = cc
next-from a v (Csr op rd csr src) e = cc
next-from a v (Ee rs1 rs2) e = cc
next-from a v De e = cc
next-from a v (Branch op rs1 rs2 off) e = cc
next-from a v (Jal rd off) e = cc
next-from a v Ecall e = cc
next-from a v Ebreak e = cc
next-from a v (Illegal w) e = cc
next-from a v (Jalr rd rs1 imm) e = cc
next-from a v Mret e = cc
next-from a v (Du rs1 rs2) e = cc
next-from a v (Wu rs1 rs2) e = cc
next-from a v i e = cc

-- the edge to the next word leads four bytes on
pub next-word : (w a v : ℕ) → (edges_of w a).next ≡ Some v → v ≡ (a + 4) % 2 ^ 32
unfolding edges_of
next-word w a v e = next-from a v (ins w) e

pub lag-short : (w a : ℕ) (e : Edge) → Contains (edge_list (edges_of w a)) e → e.lag ≤ 3
lag-short w a e h =
    go (Contains-append_cases (edge_to (edges_of w a).next (edges_of w a).next_lag)
    (edge_to (edges_of w a).jump 3) e h)
  where
    go : Contains (edge_to (edges_of w a).next (edges_of w a).next_lag) e
        ⊎ Contains (edge_to (edges_of w a).jump 3) e → e.lag ≤ 3
    go (inl n) =
        omega (arith, next-short w a, (edge-is (edges_of w a).next (edges_of w a).next_lag e n).1)
    go (inr j) = omega (arith, (edge-is (edges_of w a).jump 3 e j).1)

aligned-is : (t v : ℕ) → aligned_target t ≡ Some v → v % 4 ≡ 0
aligned-is t v e = go (t % 4 == 0) refl e
  where
    go : (b : Bool) → (t % 4 == 0) ≡ b → (if b then Some t else None) ≡ Some v → v % 4 ≡ 0
    go true h e =
        let is : t % 4 ≡ 0 = grind (arith, nat_tests) in let same : t ≡ v = cc in omega arith
    go false h e = cc

next-is : (a v : ℕ) → a % 4 ≡ 0 → Some ((a + 4) % 2 ^ 32) ≡ Some v → v % 4 ≡ 0
next-is a v h e = let same : (a + 4) % 2 ^ 32 ≡ v = cc in omega arith

abbrev LeadsTo : Edges → ℕ → Type 0
LeadsTo e v = (e.next ≡ Some v) ⊎ (e.jump ≡ Some v)

jump-alone : (t v : ℕ) → (None ≡ Some v) ⊎ (aligned_target t ≡ Some v) → v % 4 ≡ 0
jump-alone t v (inl e) = cc
jump-alone t v (inr e) = aligned-is t v e

next-alone : (a v : ℕ) → a % 4 ≡ 0 →
    (Some ((a + 4) % 2 ^ 32) ≡ Some v) ⊎ (None ≡ Some v) → v % 4 ≡ 0
next-alone a v h (inl e) = next-is a v h e
next-alone a v h (inr e) = cc

nowhere : (v : ℕ) → (None ≡ Some v) ⊎ (None ≡ Some v) → v % 4 ≡ 0
nowhere v (inl e) = cc
nowhere v (inr e) = cc

aligned-from : (a v : ℕ) (i : Ins) → a % 4 ≡ 0 → LeadsTo (edges_from a i) v → v % 4 ≡ 0
unfolding edges_from
aligned-from a v (Load op rd rs1 imm) h l = next-alone a v h l
aligned-from a v (Muldiv op rd rs1 rs2) h l = next-alone a v h l
aligned-from a v (Csr op rd csr src) h l = next-alone a v h l
aligned-from a v (Ee rs1 rs2) h l = next-alone a v h l
aligned-from a v De h l = next-alone a v h l
aligned-from a v (Branch op rs1 rs2 off) h (inl e) = next-is a v h e
aligned-from a v (Branch op rs1 rs2 off) h (inr e) = aligned-is (offset a off) v e
aligned-from a v (Jal rd off) h l = jump-alone (offset a off) v l
aligned-from a v Ecall h l = nowhere v l
aligned-from a v Ebreak h l = nowhere v l
aligned-from a v (Illegal w) h l = nowhere v l
aligned-from a v (Jalr rd rs1 imm) h l = nowhere v l
aligned-from a v Mret h l = nowhere v l
aligned-from a v (Du rs1 rs2) h l = nowhere v l
aligned-from a v (Wu rs1 rs2) h l = nowhere v l
aligned-from a v i h l = next-alone a v h l

-- an edge of an aligned word leads to an aligned word
pub edge-aligned : (w a : ℕ) (e : Edge) → a % 4 ≡ 0 →
    Contains (edge_list (edges_of w a)) e → e.to % 4 ≡ 0
unfolding edges_of
edge-aligned w a e h c =
    go (Contains-append_cases (edge_to (edges_of w a).next (edges_of w a).next_lag)
    (edge_to (edges_of w a).jump 3) e c)
  where
    go : Contains (edge_to (edges_of w a).next (edges_of w a).next_lag) e
        ⊎ Contains (edge_to (edges_of w a).jump 3) e → e.to % 4 ≡ 0
    go (inl n) =
        aligned-from a e.to (ins w) h
        (inl (edge-is (edges_of w a).next (edges_of w a).next_lag e n).0)
    go (inr j) = aligned-from a e.to (ins w) h (inr (edge-is (edges_of w a).jump 3 e j).0)
