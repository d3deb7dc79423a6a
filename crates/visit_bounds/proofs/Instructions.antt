-- An instruction that doesn't trap goes on along an edge of its word, after that edge's lag,
-- without a sleep moment.
use Rattle.std.proofs.Common.{◌≡◌, ℕ, ◌+◌, ◌/◌, ◌%◌, ◌^◌, ◌≤◌, ◌==◌, ℤ, pos}
use Rattle.std.proofs.Common.{negsuc, ◌+ℤ◌, Bool, true, false, Option, Some, None}
use Rattle.std.proofs.Common.{if◌then◌else◌, refl, arith, sym, ap, subst, ◌∙◌, Contains}
use Rattle.std.proofs.lemmas.Bool.Decides.{nat_tests}
use Rattle.rv_decode.specs.Encoding.{low_bits}
use Rattle.rv_decode.specs.Table.{ins}
use Rattle.rv_decode.specs.declared.instruction.Ins.{Ins}
use Rattle.rv_decode.specs.declared.instruction.Ins.TheVariants as i
use Rattle.rv_exec.specs.declared.outcome.Effect.{Effect}
use Rattle.rv_exec.specs.declared.outcome.Effect.TheVariants.{Nothing, Reg, Store, Csr, Trap, Wait}
use Rattle.rv_exec.specs.Access.{is_aligned}
use Rattle.rv_exec.specs.Result.{result_of, unless, offset}
use Rattle.rv_exec.specs.Words.{word}
use Rattle.core_model.specs.declared.own.CsrOp.{CsrOp}
use Rattle.core_model.specs.declared.own.Own.{Own}
use Rattle.core_model.specs.Thread.{Environment, Contents, Execution, Thread}
use Rattle.core_model.specs.Thread.{with_late_value, reg_effect, reg_in}
use Rattle.core_model.specs.Traps.{trapped, unless_trap, is_trap}
use Rattle.core_model.specs.Outcomes.{advance, load, store, go_to, branch}
use Rattle.core_model.specs.Waiting.{with_high, with_armed}
use Rattle.core_model.specs.Csr.{csr_access, csr_done, csr_value, csr_write}
use Rattle.core_model.specs.Csr.{with_csr, may_hold, csr_update, legal_value}
use Rattle.core_model.specs.Issue.{execute_in, execute_word, csr_op, csr_operand}
use Rattle.core_model.specs.Issue.{csr_writes, effect_of, execute_untrapped, issue}
use Rattle.core_model.specs.Issue.{late_rd, run_at, source_1, source_2, value_in}
use Rattle.region_tree.specs.declared.edges.Edges.{Edges}
use Rattle.region_tree.specs.declared.edges.Stop.TheVariants.{No}
use Rattle.region_tree.specs.Edges.{edges_from, edges_of, next_edge, no_edges, aligned_target}
use Rattle.region_tree.specs.Edges as e
use Rattle.region_tree.specs.Graph.{Edge, edge_list}
use Rattle.timer_unit.specs.Time.{is_due}

-- the instruction went along an edge
pub record Stepped (sleep : ℕ) (edges : Edges) (d : Execution) : Type 0 where
  pub edge : Edge
  pub known : Contains (edge_list edges) edge
  pub to : d.pc ≡ edge.to
  pub lag : d.lag ≡ edge.lag
  pub sleeps : d.own.sleep ≡ sleep
  pub later : 1 ≤ d.lag

plain-steps : (pc : ℕ) (t : Own) (w lag : ℕ) (effect : Effect) → 1 ≤ lag →
    Stepped t.sleep (next_edge pc lag) (advance pc t w lag effect)
plain-steps pc t w lag effect h = record {
  edge = record { to = (pc + 4) % 2 ^ 32; lag = lag };
  known = (0, omega arith, refl);
  to = refl;
  lag = refl;
  sleeps = refl;
  later = h;
}

load-steps : (pc : ℕ) (t : Own) (w address : ℕ) (b : Bool) →
    is_trap (load pc t w address b).effect ≡ false →
    Stepped t.sleep (next_edge pc 2) (load pc t w address b)
unfolding load
load-steps pc t w address true h = record {
  edge = record { to = (pc + 4) % 2 ^ 32; lag = 2 };
  known = (0, omega arith, refl);
  to = refl;
  lag = refl;
  sleeps = refl;
  later = omega arith;
}
load-steps pc t w address false h = cc

store-steps : (pc : ℕ) (t : Own) (w address width value : ℕ) (b : Bool) →
    is_trap (store pc t w address width value b).effect ≡ false →
    Stepped t.sleep (next_edge pc 1) (store pc t w address width value b)
unfolding store
store-steps pc t w address width value true h = record {
  edge = record { to = (pc + 4) % 2 ^ 32; lag = 1 };
  known = (0, omega arith, refl);
  to = refl;
  lag = refl;
  sleeps = refl;
  later = omega arith;
}
store-steps pc t w address width value false h = cc

-- the two reductions of a whole number to a word are equal
words-same : (z : ℤ) → word z ≡ low_bits 32 z
words-same (pos n) = refl
words-same (negsuc n) = refl

-- a target that is a multiple of four
target-aligned : (target : ℕ) → unless (is_aligned target 4) 0 ≡ None →
    aligned_target target ≡ Some target
target-aligned target h = go (is_aligned target 4) h
  where
    go : (b : Bool) → unless b 0 ≡ None → (if b then Some target else None) ≡ Some target
    go true h = refl
    go false h = cc

jump-target : (pc : ℕ) (off : ℤ) → unless (is_aligned (offset pc off) 4) 0 ≡ None →
    aligned_target (e.offset pc off) ≡ Some (offset pc off)
jump-target pc off h =
    ap aligned_target (sym (words-same (pos pc +ℤ off))) ∙ target-aligned (offset pc off) h

jal-steps : (pc : ℕ) (t : Own) (w : ℕ) (off : ℤ) (effect : Effect) →
    unless (is_aligned (offset pc off) 4) 0 ≡ None →
    Stepped t.sleep (record (no_edges No) { jump = aligned_target (e.offset pc off) })
    (go_to t w (offset pc off) effect)
jal-steps pc t w off effect h =
    subst (λ o. Stepped t.sleep (record (no_edges No) { jump = o })
    (go_to t w (offset pc off) effect)) (sym (jump-target pc off h)) (record {
      edge = record { to = offset pc off; lag = 3 };
      known = (0, omega arith, refl);
      to = refl;
      lag = refl;
      sleeps = refl;
      later = omega arith;
    })

branch-steps : (pc : ℕ) (t : Own) (w : ℕ) (taken : Bool) (off : ℤ) →
    (if taken then unless (is_aligned (offset pc off) 4) 0 else None) ≡ None →
    Stepped t.sleep (record (next_edge pc 1) { jump = aligned_target (e.offset pc off) })
    (branch pc t w taken (offset pc off))
unfolding branch
branch-steps pc t w true off h =
    subst (λ o. Stepped t.sleep (record (next_edge pc 1) { jump = o })
    (go_to t w (offset pc off) Nothing)) (sym (jump-target pc off h)) (record {
      edge = record { to = offset pc off; lag = 3 };
      known = (1, omega arith, refl);
      to = refl;
      lag = refl;
      sleeps = refl;
      later = omega arith;
    })
branch-steps pc t w false off h = record {
  edge = record { to = (pc + 4) % 2 ^ 32; lag = 1 };
  known = (0, omega arith, refl);
  to = refl;
  lag = refl;
  sleeps = refl;
  later = omega arith;
}

csr-sleep : (t : Own) (csr value : ℕ) → (with_csr t csr value).sleep ≡ t.sleep
csr-sleep t csr value = grind (arith, nat_tests)

put-steps : (pc : ℕ) (t : Own) (w rd csr new value old : ℕ) (b : Bool) →
    is_trap (if b then csr_write pc t w rd csr value old else trapped pc t w 2).effect ≡ false →
    Stepped t.sleep (next_edge pc 3)
    (if b then csr_write pc t w rd csr value old else trapped pc t w 2)
put-steps pc t w rd csr new value old true h = record {
  edge = record { to = (pc + 4) % 2 ^ 32; lag = 3 };
  known = (0, omega arith, refl);
  to = refl;
  lag = refl;
  sleeps = csr-sleep t csr value;
  later = omega arith;
}
put-steps pc t w rd csr new value old false h = cc

done-steps : (pc : ℕ) (t : Own) (w rd csr : ℕ) (op : CsrOp) (operand : ℕ) (writes : Bool)
    (value : Option ℕ) → is_trap (csr_done pc t w rd csr op operand writes value).effect ≡ false →
    Stepped t.sleep (next_edge pc 3) (csr_done pc t w rd csr op operand writes value)
done-steps pc t w rd csr op operand writes None h = cc
done-steps pc t w rd csr op operand true (Some old) h =
    put-steps pc t w rd csr (csr_update op old operand)
    (legal_value csr (csr_update op old operand)) old (may_hold csr (csr_update op old operand)) h
done-steps pc t w rd csr op operand false (Some old) h =
    plain-steps pc t w 3 (reg_effect rd old) (omega arith)

csr-steps : (thread pc : ℕ) (t : Own) (w rd csr : ℕ) (op : CsrOp)
    (operand : ℕ) (writes : Bool) (shared : Option ℕ) →
    is_trap (csr_access thread pc t w rd csr op operand writes shared).effect ≡ false →
    Stepped t.sleep (next_edge pc 3) (csr_access thread pc t w rd csr op operand writes shared)
unfolding csr_access
csr-steps thread pc t w rd csr op operand writes shared h =
    done-steps pc t w rd csr op operand writes (csr_value thread t csr shared) h

pub goes-steps : (a : Environment) (pc : ℕ) (t : Own) (w x y : ℕ) (n : Ins) →
    (result_of n pc x y).trap ≡ None → (edges_from pc n).stop ≡ No →
    is_trap (execute_untrapped a pc t w x y (result_of n pc x y) n).effect ≡ false →
    Stepped t.sleep (edges_from pc n) (execute_untrapped a pc t w x y (result_of n pc x y) n)
unfolding execute_untrapped edges_from result_of
goes-steps a pc t w x y (i.Lui rd imm) r s h = plain-steps pc t w 1 _ (omega arith)
goes-steps a pc t w x y (i.Auipc rd imm) r s h = plain-steps pc t w 1 _ (omega arith)
goes-steps a pc t w x y (i.Jal rd off) r s h = jal-steps pc t w off _ r
goes-steps a pc t w x y (i.Jalr rd rs1 imm) r s h = cc
goes-steps a pc t w x y (i.Branch op rs1 rs2 off) r s h = branch-steps pc t w _ off r
goes-steps a pc t w x y (i.Load op rd rs1 imm) r s h = load-steps pc t w _ _ h
goes-steps a pc t w x y (i.Store op rs1 rs2 imm) r s h = store-steps pc t w _ _ _ _ h
goes-steps a pc t w x y (i.OpImm op rd rs1 imm) r s h = plain-steps pc t w 1 _ (omega arith)
goes-steps a pc t w x y (i.Shift op rd rs1 amount) r s h = plain-steps pc t w 1 _ (omega arith)
goes-steps a pc t w x y (i.Op op rd rs1 rs2) r s h = plain-steps pc t w 1 _ (omega arith)
goes-steps a pc t w x y (i.Muldiv op rd rs1 rs2) r s h = plain-steps pc t w 2 _ (omega arith)
goes-steps a pc t w x y (i.Fence v) r s h = plain-steps pc t w 1 _ (omega arith)
goes-steps a pc t w x y i.Ecall r s h = cc
goes-steps a pc t w x y i.Ebreak r s h = cc
goes-steps a pc t w x y i.Mret r s h = cc
goes-steps a pc t w x y (i.Csr op rd csr src) r s h =
    csr-steps a.thread pc t w rd csr (csr_op op) (csr_operand op src x) (csr_writes op src)
    (a.shared csr) h
goes-steps a pc t w x y (i.Gt rd) r s h =
    plain-steps pc (with_high t (a.now / 2 ^ 32)) w 1 _ (omega arith)
goes-steps a pc t w x y (i.Gth rd) r s h = plain-steps pc t w 1 _ (omega arith)
goes-steps a pc t w x y (i.Du rs1 rs2) r s h = cc
goes-steps a pc t w x y (i.Wu rs1 rs2) r s h = cc
goes-steps a pc t w x y (i.Ee rs1 rs2) r s h = plain-steps pc (with_armed t _) w 3 _ (omega arith)
goes-steps a pc t w x y i.De r s h = plain-steps pc (with_armed t None) w 3 _ (omega arith)
goes-steps a pc t w x y (i.Illegal v) r s h = cc

unless-steps : (a : Environment) (pc : ℕ) (t : Own) (w x y : ℕ) (n : Ins) (trap : Option ℕ) →
    (result_of n pc x y).trap ≡ trap → (edges_from pc n).stop ≡ No →
    is_trap (unless_trap pc t w trap (execute_untrapped a pc t w x y (result_of n pc x y) n)).effect
    ≡ false → Stepped t.sleep (edges_from pc n)
    (unless_trap pc t w trap (execute_untrapped a pc t w x y (result_of n pc x y) n))
unless-steps a pc t w x y n (Some cause) r s h = cc
unless-steps a pc t w x y n None r s h = goes-steps a pc t w x y n r s h

act-steps : (a : Environment) (pc : ℕ) (t : Own) (expired : Bool) (w x y : ℕ) →
    (edges_of w pc).stop ≡ No → is_trap (execute_in a pc t expired w x y).effect ≡ false →
    Stepped t.sleep (edges_of w pc) (execute_in a pc t expired w x y)
unfolding execute_in edges_of run_at
act-steps a pc t true w x y s h = cc
act-steps a pc t false w x y s h = go (a.fetch pc) h
  where
    ran : Execution
    ran =
        unless_trap pc t w (result_of (ins w) pc x y).trap
        (execute_untrapped a pc t w x y (result_of (ins w) pc x y) (ins w))

    go : (b : Bool) → is_trap (if b then ran else trapped pc t 0 1).effect ≡ false →
        Stepped t.sleep (edges_of w pc) (if b then ran else trapped pc t 0 1)
    go true h = unless-steps a pc t w x y (ins w) (result_of (ins w) pc x y).trap refl s h
    go false h = cc

-- a late value is no trap
reg-no_trap : (rd value : ℕ) → is_trap (Some (reg_effect rd value)) ≡ false
reg-no_trap rd value = go (rd == 0)
  where
    go : (b : Bool) → is_trap (Some (if b then Nothing else Reg rd value)) ≡ false
    go true = refl
    go false = refl

pub filled-trap : (o : Option ℕ) (v : ℕ) (e : Option Effect) →
    is_trap (with_late_value o v e) ≡ is_trap e
filled-trap None v e = refl
filled-trap (Some rd) v None = refl
filled-trap (Some rd) v (Some Nothing) = reg-no_trap rd v
filled-trap (Some rd) v (Some (Reg x y)) = refl
filled-trap (Some rd) v (Some (Store x y z)) = refl
filled-trap (Some rd) v (Some (Csr n x y z)) = refl
filled-trap (Some rd) v (Some (Trap x y)) = refl
filled-trap (Some rd) v (Some Wait) = refl

-- the target of a whole issue in cycle c
pub record Gone (edge_in : Edge → Type 0) (c sleep : ℕ) (t : Thread) : Type 0 where
  pub edge : Edge
  pub known : edge_in edge
  pub to : t.pc ≡ edge.to
  pub ready : t.ready ≡ c + edge.lag
  pub sleeps : t.own.sleep ≡ sleep
  pub later : 1 ≤ edge.lag

pub issue-goes : (a : Environment) (m : Contents) (c : ℕ) (t : Thread) →
    (edges_of (m.code t.pc) t.pc).stop ≡ No → is_trap (issue a m c t).effect ≡ false →
    Gone (Contains (edge_list (edges_of (m.code t.pc) t.pc))) c t.own.sleep (issue a m c t).thread
unfolding issue effect_of execute_word
issue-goes a m c t s h =
    let w : ℕ = m.code t.pc in
    let d : Execution = execute_word a w t in
    let y : Stepped t.own.sleep (edges_of w t.pc) d =
    act-steps a t.pc t.own (is_due t.own.timer.armed a.now) w
    (reg_in t.regs (source_1 (ins w))) (reg_in t.regs (source_2 (ins w))) s
    (sym (filled-trap (late_rd (ins d.word)) (value_in m t.regs d) d.effect) ∙ h) in
    record {
      edge = y.edge;
      known = y.known;
      to = y.to;
      ready = ap (λ l. c + l) y.lag;
      sleeps = y.sleeps;
      later = subst (λ l. 1 ≤ l) y.lag y.later;
    }

-- an issue that doesn't trap fetched its word
act-fetches : (a : Environment) (pc : ℕ) (t : Own) (expired : Bool) (w x y : ℕ) →
    is_trap (execute_in a pc t expired w x y).effect ≡ false → a.fetch pc ≡ true
unfolding execute_in
act-fetches a pc t true w x y h = cc
act-fetches a pc t false w x y h = go (a.fetch pc) h
  where
    go : (b : Bool) →
        is_trap (if b then run_at a pc t w x y (ins w) else trapped pc t 0 1).effect ≡ false →
        b ≡ true
    go true h = refl
    go false h = cc

pub issue-fetches : (a : Environment) (m : Contents) (c : ℕ) (t : Thread) →
    is_trap (issue a m c t).effect ≡ false → a.fetch t.pc ≡ true
unfolding issue effect_of execute_word
issue-fetches a m c t h =
    let w : ℕ = m.code t.pc in
    let d : Execution = execute_word a w t in
    act-fetches a t.pc t.own (is_due t.own.timer.armed a.now) w
    (reg_in t.regs (source_1 (ins w))) (reg_in t.regs (source_2 (ins w)))
    (sym (filled-trap (late_rd (ins d.word)) (value_in m t.regs d) d.effect) ∙ h)
