-- A controller in a loop with a plant, worked out by hand: the definitions compute the same.
use Rattle.std.proofs.Common.{◌≡◌, ℕ, ◌+◌, true, false, List, []}
use Rattle.std.proofs.Common.{◌∷◌, None, get_or, refl, replicate}
use Rattle.std.specs.Prelude.{nat_lt}
use Rattle.slot_table.specs.Nibbles.{nibbles}
use Rattle.rv_decode.specs.Table.{ins, rows, lui_rows, auipc_rows, jal_rows, jalr_rows}
use Rattle.rv_decode.specs.Table.{branch_rows, load_rows, store_rows, imm_rows}
use Rattle.rv_decode.specs.Table.{op_rows, fence_rows, system_rows, time_rows}
use Rattle.rv_exec.specs.Words.{bitwise}
use Rattle.rv_exec.specs.Alu.{alu_result, alu_result_with, shift_result, mul_result}
use Rattle.rv_exec.specs.Access.{loaded_value, lanes_at, merged_word}
use Rattle.rv_exec.specs.Result.{is_taken, result_of}
use Rattle.rv_exec.specs.declared.outcome.Effect.{Effect}
use Rattle.rv_exec.specs.declared.outcome.Effect.TheVariants.{Nothing, Reg, Store}
use Rattle.rv_exec.specs.declared.outcome.Event.{Event}
use Rattle.region_guard.specs.Regions.{region_kind, region_of, index_of}
use Rattle.region_guard.specs.Regions.{may_fetch, may_load, may_store}
use Rattle.slot_table.specs.Frame.{frame, turn}
use Rattle.slot_table.specs.Table.{is_table}
use Rattle.region_guard.specs.RegionsWord.{is_regions}
use Rattle.slot_scheduler.specs.Picking.{is_awake, after_last, donation, pick}
use Rattle.core_model.specs.Thread.{fresh}
use Rattle.core_model.specs.Outcomes.{load, store, branch}
use Rattle.core_model.specs.Waiting.{delay, wait}
use Rattle.core_model.specs.Csr.{csr_update, may_hold, csr_access}
use Rattle.core_model.specs.Issue.{execute_untrapped, run_at, execute_in}
use Rattle.core_model.specs.Issue.{execute_word, effect_of, issue}
use Rattle.core_model.specs.Memory.{code_at, data_at}
use Rattle.core_model.specs.View.{environment_by}
use Rattle.core_model.specs.Solo.{may_go, solo_turn}
use Rattle.core_model.specs.World.{Start, environment, after_turn, recent, world}
use Rattle.core_model.specs.Viewed.{setting_of, view}
use Rattle.closed_loops.specs.Loop.{Plant, PortStore, plant_behind_port, loop_at, solo_in_loop}
use Rattle.closed_loops.specs.Answered.{closed_words, loop_view, plant_at, stores_before}
use Rattle.closed_loops.specs.Sampled.{last_word, samples}

-- Thread 0 is hard, confined and has all cycles. From cycle 1 on it loads from its port, adds 1 and
-- stores the sum there in a loop: in the cycles 4, 11 and 18.
controller : Start
controller =
    record {
      period = 10;
      size = 16384;
      threads = replicate 8 (fresh 0);
      confined = replicate 8 true;
      permit = replicate 8 false;
      i_words = 0x40000137 ∷ 0x00012283 ∷ 0x00128293 ∷ 0x00512023 ∷ 0xff5ff06f ∷ [];
      d_words = [];
      registers = record {
        slots = 0xfffffff0;
        modes = 0xfffc;
        dregions = 0xcccccccc;
        iregions = 0xcccccccc;
      };
      shown = replicate 8 [];
      handed = replicate 8 true;
      unplugs = replicate 8 None;
      latches = replicate 8 0;
    }

-- a plant whose word is the last stored word plus 100
plant : Plant
plant stores c = last_word 0 stores + 100

event : ℕ → ℕ → ℕ → Effect → Event
event cycle pc word effect =
    record { cycle = cycle; thread = 0; pc = pc; word = word; effect = effect }

-- the controller loads 100, stores 101, loads 201 and stores 202
trace : List Event
trace =
    event 0 0 0x40000137 (Reg 2 0x40000000) ∷ event 1 4 0x00012283 (Reg 5 100)
    ∷ event 3 8 0x00128293 (Reg 5 101) ∷ event 4 12 0x00512023 (Store 0x40000000 4 101)
    ∷ event 5 16 0xff5ff06f Nothing ∷ event 8 4 0x00012283 (Reg 5 201)
    ∷ event 10 8 0x00128293 (Reg 5 202) ∷ event 11 12 0x00512023 (Store 0x40000000 4 202) ∷ []

alone : solo_in_loop (loop_view controller 0) plant 16 ≡ trace
unfolding controller plant event trace ins rows lui_rows auipc_rows jal_rows jalr_rows branch_rows
    load_rows store_rows imm_rows op_rows fence_rows system_rows time_rows bitwise alu_result
    alu_result_with shift_result mul_result is_taken loaded_value lanes_at merged_word result_of
    nibbles region_kind region_of index_of may_fetch may_load may_store frame turn is_table
    is_regions is_awake after_last donation pick load store branch delay wait csr_update may_hold
    csr_access execute_untrapped run_at execute_in execute_word effect_of issue code_at data_at
    environment_by may_go solo_turn environment after_turn recent world setting_of view loop_at
alone = refl

-- the words of its port in six cycles
shown : get_or (closed_words (plant_at 0 plant controller) controller 6) 0 []
    ≡ 100 ∷ 100 ∷ 100 ∷ 100 ∷ 100 ∷ 201 ∷ []
unfolding controller plant event trace ins rows lui_rows auipc_rows jal_rows jalr_rows branch_rows
    load_rows store_rows imm_rows op_rows fence_rows system_rows time_rows bitwise alu_result
    alu_result_with shift_result mul_result is_taken loaded_value lanes_at merged_word result_of
    nibbles region_kind region_of index_of may_fetch may_load may_store frame turn is_table
    is_regions is_awake after_last donation pick load store branch delay wait csr_update
    may_hold csr_access execute_untrapped run_at execute_in execute_word effect_of issue code_at
    data_at environment_by may_go solo_turn environment after_turn recent world setting_of view
    loop_at closed_words
shown = refl

-- a port that is absent from cycle 3 on: the plant doesn't receive the store of cycle 4
absent : plant_behind_port (λ c. nat_lt c 3) (λ stores c. last_word 7 stores)
    (stores_before controller 0 6) 2 ≡ 7
unfolding controller plant event trace ins rows lui_rows auipc_rows jal_rows jalr_rows branch_rows
    load_rows store_rows imm_rows op_rows fence_rows system_rows time_rows bitwise alu_result
    alu_result_with shift_result mul_result is_taken loaded_value lanes_at merged_word result_of
    nibbles region_kind region_of index_of may_fetch may_load may_store frame turn is_table
    is_regions is_awake after_last donation pick load store branch delay wait csr_update may_hold
    csr_access execute_untrapped run_at execute_in execute_word effect_of issue code_at data_at
    environment_by may_go solo_turn environment after_turn recent world setting_of view loop_at
absent = refl

-- the store of cycle 4 reaches the port in cycle 7: the samples of cycle 8 and later have its word
issued : PortStore
issued = record { cycle = 4; word = 101 }

delayed : samples 7 9 (issued ∷ []) 2 ≡ 9 ∷ 101 ∷ []
unfolding issued
delayed = refl

in-time : samples 8 9 (issued ∷ []) 2 ≡ 101 ∷ 101 ∷ []
unfolding issued
in-time = refl
