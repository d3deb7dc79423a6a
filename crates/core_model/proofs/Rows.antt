-- Programs with their traces, worked out by hand: the definitions compute them.
use Rattle.std.proofs.Common.{◌≡◌, ℕ, List, [], ◌∷◌, replicate, refl, ◌==◌, map}
use Rattle.rv_decode.specs.Table.{ins, rows, lui_rows, auipc_rows, jal_rows, jalr_rows}
use Rattle.rv_decode.specs.Table.{branch_rows, load_rows, store_rows, imm_rows}
use Rattle.rv_decode.specs.Table.{op_rows, fence_rows, system_rows, time_rows}
use Rattle.rv_exec.specs.Words.{bitwise}
use Rattle.rv_exec.specs.Alu.{alu_result, alu_result_with, shift_result, mul_result}
use Rattle.rv_exec.specs.Access.{loaded_value, lanes_at, merged_word}
use Rattle.rv_exec.specs.Result.{is_taken, result_of}
use Rattle.rv_exec.specs.declared.outcome.Effect.{Effect}
use Rattle.rv_exec.specs.declared.outcome.Effect.TheVariants.{Reg, Trap}
use Rattle.rv_exec.specs.declared.outcome.Event.{Event}
use Rattle.region_guard.specs.Regions.{region_of, index_of}
use Rattle.region_guard.specs.Regions.RegionKind.{ReadOnly}
use Rattle.core_model.specs.Thread.{fresh}
use Rattle.core_model.specs.Outcomes.{load, store, branch}
use Rattle.core_model.specs.Waiting.{delay, wait}
use Rattle.core_model.specs.Csr.{csr_update, may_hold, csr_access}
use Rattle.core_model.specs.Issue.{execute_untrapped, run_at, execute_in}
use Rattle.core_model.specs.Issue.{execute_word, effect_of, issue}
use Rattle.core_model.specs.Memory.{code_at, data_at}
use Rattle.core_model.specs.View.{View, environment_by}
use Rattle.core_model.specs.Solo.{may_go, solo_turn, solo_at, solo}

-- four threads share the cycles, all regions are read only, and no port is there
bare : List ℕ → ℕ → View
bare words thread =
    record {
      setting = record {
        period = 10;
        size = 16384;
        thread = thread;
        own = map (λ k. k == thread) (0 ∷ 1 ∷ 2 ∷ 3 ∷ []);
        i_kinds = replicate 8 ReadOnly;
        d_kinds = replicate 8 ReadOnly;
        i_words = words;
      };
      first = fresh 0;
      d_words = [];
      shown = [];
    }

event : ℕ → ℕ → ℕ → ℕ → Effect → Event
event thread cycle pc word effect =
    record { cycle = cycle; thread = thread; pc = pc; word = word; effect = effect }

-- plain arithmetic, and a word past the code
plain : solo (bare (0x00100293 ∷ 0x200000b7 ∷ 0x00001117 ∷ 0x00528333 ∷ []) 1) 22 ≡
    event 1 1 0 0x00100293 (Reg 5 1) ∷ event 1 5 4 0x200000b7 (Reg 1 0x20000000)
    ∷ event 1 9 8 0x00001117 (Reg 2 0x1008)
    ∷ event 1 13 12 0x00528333 (Reg 6 2) ∷ event 1 17 16 0 (Trap 2 0) ∷ []
unfolding bare event ins rows lui_rows auipc_rows jal_rows jalr_rows branch_rows load_rows
    store_rows imm_rows op_rows fence_rows system_rows time_rows bitwise alu_result alu_result_with
    shift_result mul_result loaded_value lanes_at merged_word is_taken result_of region_of index_of
    load store branch delay wait csr_update may_hold csr_access execute_untrapped run_at execute_in
    execute_word effect_of issue code_at data_at environment_by may_go solo_turn solo_at
plain = refl

-- division and multiplication
divided :
    solo (bare (0xff900093 ∷ 0x00200113 ∷ 0x0220c1b3 ∷ 0x0220e233 ∷ 0x022092b3 ∷ 0x0200d333 ∷ []) 0)
    25 ≡ event 0 0 0 0xff900093 (Reg 1 0xfffffff9) ∷ event 0 4 4 0x00200113 (Reg 2 2)
    ∷ event 0 8 8 0x0220c1b3 (Reg 3 0xfffffffd) ∷ event 0 12 12 0x0220e233 (Reg 4 0xffffffff)
    ∷ event 0 16 16 0x022092b3 (Reg 5 0xffffffff) ∷ event 0 20 20 0x0200d333 (Reg 6 0xffffffff) ∷ []
unfolding bare event ins rows lui_rows auipc_rows jal_rows jalr_rows branch_rows load_rows
    store_rows imm_rows op_rows fence_rows system_rows time_rows bitwise alu_result alu_result_with
    shift_result mul_result loaded_value lanes_at merged_word is_taken result_of region_of index_of
    load store branch delay wait csr_update may_hold csr_access execute_untrapped run_at execute_in
    execute_word effect_of issue code_at data_at environment_by may_go solo_turn solo_at
divided = refl
