-- A section of three words with two calls of a routine of two, computed: a path through it costs
-- 15.
use Rattle.std.proofs.Common.{◌≡◌, ℕ, ◌==◌, refl, arith, true, if◌then◌else◌}
use Rattle.std.proofs.Common.{Some, None, [], ◌∷◌, Contains, subst, sym}
use Rattle.fp_setup.specs.declared.loop_list.LoopSetup.{LoopSetup}
use Rattle.rv_decode.specs.Table.{ins, rows, lui_rows, auipc_rows, jal_rows, jalr_rows}
use Rattle.rv_decode.specs.Table.{branch_rows, load_rows, store_rows, imm_rows}
use Rattle.rv_decode.specs.Table.{op_rows, fence_rows, system_rows, time_rows}
use Rattle.region_tree.specs.Edges.{edges_from, edges_of}
use Rattle.region_tree.specs.Graph.{Lies}
use Rattle.region_tree.specs.Walk.{IsNextTurn, IsOwn, Positions}
use Rattle.call_bounds.specs.declared.routines.Routine.{Routine}
use Rattle.call_bounds.specs.Calls.{Calls, Function, callee, is_back, link_target}
use Rattle.call_bounds.specs.Calls.{function, plain_edges, routine_at}
use Rattle.call_bounds.specs.CallWalk.{CallWalk, CostsOf, Route, WithinBounds}

memory : ℕ → ℕ
memory a =
    if a == 0 then 0x100000ef
    else if a == 4 then 0x00100293
    else if a == 8 then 0x0f8000ef
    else if a == 0x100 then 0x00138393 else if a == 0x104 then 0x00008067 else 0

routine : Routine
routine = record { head = 0x100; last = 0x104 }

calls : Calls
calls = record {
  section = record { from = 0; to = 12 };
  routines = routine ∷ [];
  word = memory;
  loops = [];
}

alone : Positions
alone = record { frame = 0 ∷ []; thread = 0 }

row : Route
row = record { calls = calls; positions = alone }

own : IsOwn alone 0
unfolding alone
own = record { within = omega arith; own = refl }

one : IsNextTurn alone 1 0 1 0
unfolding alone
one = record {
  start = own;
  late = omega arith;
  lands = refl;
  own = own;
  first = λ e a b o. absurd (omega arith);
}

three : IsNextTurn alone 3 0 3 0
unfolding alone
three = record {
  start = own;
  late = omega arith;
  lands = refl;
  own = own;
  first = λ e a b o. absurd (omega arith);
}

first_call : callee calls 0 ≡ Some routine
unfolding calls routine memory ins rows lui_rows auipc_rows jal_rows jalr_rows branch_rows load_rows
    store_rows imm_rows op_rows fence_rows system_rows time_rows link_target routine_at
first_call = refl

last_call : callee calls 8 ≡ Some routine
unfolding calls routine memory ins rows lui_rows auipc_rows jal_rows jalr_rows branch_rows load_rows
    store_rows imm_rows op_rows fence_rows system_rows time_rows link_target routine_at
last_call = refl

back : is_back (calls.word 0x104) ≡ true
unfolding calls memory
back = refl

in_section : Contains (plain_edges calls 4) (record { to = 8; lag = 1 })
unfolding calls routine memory ins rows lui_rows auipc_rows jal_rows jalr_rows branch_rows
    load_rows store_rows imm_rows op_rows fence_rows system_rows time_rows link_target routine_at
    edges_from edges_of
in_section = (0, omega arith, refl)

in_routine : Contains (plain_edges calls 0x100) (record { to = 0x104; lag = 1 })
unfolding calls routine memory ins rows lui_rows auipc_rows jal_rows jalr_rows branch_rows
    load_rows store_rows imm_rows op_rows fence_rows system_rows time_rows link_target routine_at
    edges_from edges_of
in_routine = (0, omega arith, refl)

-- no loop counts
no_loop : (a : Function) (j : LoopSetup) → Contains (function calls a).loops j → ⊥
unfolding calls
no_loop a j h = absurd (omega (arith, h.1))

free : (k : LoopSetup → ℕ) → WithinBounds calls k
free k j h = absurd (no_loop h.within j h.known)

in_it : Lies (function calls (Some routine)) 0x104
unfolding routine
in_it = record { low = omega arith; high = omega arith }

from_first : Lies (function calls (callee calls 0)) 0x104
from_first = subst (λ a. Lies (function calls a) 0x104) (sym first_call) in_it

from_last : Lies (function calls (callee calls 8)) 0x104
from_last = subst (λ a. Lies (function calls a) 0x104) (sym last_call) in_it

lies_4 : Lies (function calls None) 4
unfolding calls
lies_4 = record { low = omega arith; high = omega arith }

lies_8 : Lies (function calls None) 8
unfolding calls
lies_8 = record { low = omega arith; high = omega arith }

out_12 : Lies (function calls None) 12 → ⊥
unfolding calls
out_12 l = omega (arith, l.high)

costs : CostsOf row 15
unfolding row calls routine alone
costs =
    let a = CallWalk.enter (CallWalk.start own) first_call three in
    let b = CallWalk.along (record { to = 0x104; lag = 1 }) a in_routine from_first one (free _) in
    let c = CallWalk.come_back b back lies_4 three (free _) in
    let d = CallWalk.along (record { to = 8; lag = 1 }) c in_section lies_8 one (free _) in
    let e = CallWalk.enter d last_call three in
    let f = CallWalk.along (record { to = 0x104; lag = 1 }) e in_routine from_last one (free _) in
    CostsOf.goes_back f back out_12 three
