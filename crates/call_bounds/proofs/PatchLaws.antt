-- The graph of a patched function is the function's.
use Rattle.std.proofs.Common.{◌≡◌, ℕ, ◌+◌, ◌-◌, ◌*◌, ◌/◌, ◌%◌, ◌^◌, ◌<◌, ◌≤◌, refl, arith, ap}
use Rattle.std.proofs.Common.{sym, ◌∙◌, Bool, true, false, Option, Some, None, List, [], ◌∷◌}
use Rattle.std.proofs.lemmas.List.FromFn.{get_or-map-range_with_len}
use Rattle.std.proofs.lemmas.Bool.Decides.{nat_tests}
use Rattle.fp_setup.specs.declared.loop_list.LoopSetup.{LoopSetup}
use Rattle.rv_decode.specs.Table.{ins, rows, lui_rows, auipc_rows, jal_rows, jalr_rows}
use Rattle.rv_decode.specs.Table.{branch_rows, load_rows, store_rows, imm_rows}
use Rattle.rv_decode.specs.Table.{op_rows, fence_rows, system_rows, time_rows}
use Rattle.rv_decode.specs.declared.instruction.Ins.{Ins}
use Rattle.rv_decode.specs.declared.instruction.Ins.TheVariants.{Jal}
use Rattle.region_tree.specs.Edges.{edges_from, edges_of}
use Rattle.region_tree.specs.Graph.{edge_list}
use Rattle.region_tree.specs.Tree.{IsSection, graph, tree_of, word_at, section_words}
use Rattle.region_tree.specs.declared.section.Section.{Section}
use Rattle.region_tree.specs.declared.edges.Stop.{Stop}
use Rattle.region_tree.specs.declared.edges.Stop.TheVariants.{No}
use Rattle.region_tree.proofs.EdgeLaws.{edge-aligned}
use Rattle.call_bounds.specs.declared.routines.Routine.{Routine}
use Rattle.call_bounds.specs.Calls.{Calls, Function, callee, is_back, link_target, inner_edges}
use Rattle.call_bounds.specs.Calls.{function, range, returns, routine_to, stop_unless}
use Rattle.call_bounds.specs.Patched.{function_tree, patch, patched_word}
use Rattle.call_bounds.proofs.Agree.{Agree}

section-word : (memory : ℕ → ℕ) (s : Section) (loops : List LoopSetup) (u : ℕ) → s.from % 4 ≡ 0 →
    s.to % 4 ≡ 0 → u % 4 ≡ 0 → s.from ≤ u → u < s.to → word_at (tree_of memory s loops) u ≡ memory u
unfolding section_words
section-word memory s loops u a b c low high =
    get_or-map-range_with_len (λ k. memory (s.from + 4 * k)) 0 ((s.to - s.from) / 4)
    ((u - s.from) / 4) ((u - s.from) / 4) 0 (omega arith) (omega arith)
    ∙ ap memory (let e : s.from + 4 * ((u - s.from) / 4) ≡ u = omega arith in e)

-- the words that replace calls and returns
nop-edges : (u : ℕ) →
    edge_list (edges_of 0xc0002073 u) ≡ record { to = (u + 4) % 2 ^ 32; lag = 3 } ∷ []
unfolding edges_of edges_from ins rows lui_rows auipc_rows jal_rows jalr_rows branch_rows load_rows
    store_rows imm_rows op_rows fence_rows system_rows time_rows
nop-edges u = refl

nop-stop : (u : ℕ) → (edges_of 0xc0002073 u).stop ≡ No
unfolding edges_of edges_from ins rows lui_rows auipc_rows jal_rows jalr_rows branch_rows load_rows
    store_rows imm_rows op_rows fence_rows system_rows time_rows
nop-stop u = refl

end-edges : (u : ℕ) → edge_list (edges_of 0x00000073 u) ≡ []
unfolding edges_of edges_from ins rows lui_rows auipc_rows jal_rows jalr_rows branch_rows load_rows
    store_rows imm_rows op_rows fence_rows system_rows time_rows
end-edges u = refl

end-stop : (u : ℕ) → (edges_of 0x00000073 u).stop ≡ No
unfolding edges_of edges_from ins rows lui_rows auipc_rows jal_rows jalr_rows branch_rows load_rows
    store_rows imm_rows op_rows fence_rows system_rows time_rows
end-stop u = refl

back-edges : (u : ℕ) → edge_list (edges_of 0x00008067 u) ≡ []
unfolding edges_of edges_from ins rows lui_rows auipc_rows jal_rows jalr_rows branch_rows load_rows
    store_rows imm_rows op_rows fence_rows system_rows time_rows
back-edges u = refl

back-is : (w : ℕ) → is_back w ≡ true → w ≡ 0x00008067
back-is w h = grind (arith, nat_tests)

returns-is : (x : Calls) (a : Function) (u : ℕ) → returns x a u ≡ true → x.word u ≡ 0x00008067
returns-is x None u h = cc
returns-is x (Some t) u h = back-is (x.word u) h

jal-stop : (i : Ins) (u : ℕ) (rs : List Routine) (t : Routine) →
    routine_to rs (link_target u i) ≡ Some t → (edges_from u i).stop ≡ No
unfolding link_target edges_from
jal-stop (Jal rd off) u rs t is = refl
jal-stop i u rs t is = cc

call-stop : (x : Calls) (u : ℕ) (t : Routine) → callee x u ≡ Some t →
    (edges_of (x.word u) u).stop ≡ No
unfolding edges_of
call-stop x u t is = jal-stop (ins (x.word u)) u x.routines t is

stays-no : (b : Bool) (s : Stop) → s ≡ No → stop_unless b s ≡ No
stays-no true s e = refl
stays-no false s e = e

edges-same : (x : Calls) (a : Function) (u : ℕ) → u < 65536 → (o : Option Routine) (b : Bool) →
    callee x u ≡ o → returns x a u ≡ b → edge_list (edges_of (patch o b (x.word u)) u)
    ≡ inner_edges o u (edge_list (edges_of (x.word u) u))
edges-same x a u low (Some t) b e f =
    nop-edges u ∙ ap (λ v. record { to = v; lag = 3 } ∷ [])
    (let m : (u + 4) % 2 ^ 32 ≡ u + 4 = omega arith in m)
edges-same x a u low None true e f =
    end-edges u ∙ sym (ap (λ w. edge_list (edges_of w u)) (returns-is x a u f) ∙ back-edges u)
edges-same x a u low None false e f = refl

stops-same : (x : Calls) (a : Function) (u : ℕ) (o : Option Routine) (b : Bool) →
    callee x u ≡ o → returns x a u ≡ b →
    (edges_of (patch o b (x.word u)) u).stop ≡ stop_unless b (edges_of (x.word u) u).stop
stops-same x a u (Some t) b e f =
    nop-stop u ∙ sym (stays-no b (edges_of (x.word u) u).stop (call-stop x u t e))
stops-same x a u None true e f = end-stop u
stops-same x a u None false e f = refl

pub agrees : (x : Calls) (a : Function) → IsSection (range x a) → Agree (range x a).from
    (range x a).to
    (graph (function_tree x a)).edges (function x a).edges (graph (function_tree x a)).stop
    (function x a).stop
agrees x a is = record {
  start = is.from_aligned;
  order = is.order;
  same =
      λ u align low high. ap (λ w. edge_list (edges_of w u)) (here u align low high)
      ∙ edges-same x a u (let end = is.end in omega arith) (callee x u) (returns x a u) refl refl;
  stops =
      λ u align low high. ap (λ w. (edges_of w u).stop) (here u align low high)
      ∙ stops-same x a u (callee x u) (returns x a u) refl refl;
  aligned = λ u e align h. edge-aligned (word_at (function_tree x a) u) u e align h;
}
  where
    here : (u : ℕ) → u % 4 ≡ 0 → (range x a).from ≤ u → u < (range x a).to →
        word_at (function_tree x a) u ≡ patched_word x a u
    here u align low high =
        section-word (patched_word x a)
        (range x a) x.loops u is.from_aligned is.to_aligned align low high
