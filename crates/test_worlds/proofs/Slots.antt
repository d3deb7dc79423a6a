-- The distance of issues by the slots, and the effects that other threads can and can't have. The
-- definitions compute each trace.
use Rattle.std.proofs.Common.{◌≡◌, true, false, List, [], ◌∷◌, ◌++◌, refl, replicate}
use Rattle.slot_table.specs.Nibbles.{nibbles}
use Rattle.rv_decode.specs.Table.{ins, rows, lui_rows, auipc_rows, jal_rows, jalr_rows}
use Rattle.rv_decode.specs.Table.{branch_rows, load_rows, store_rows, imm_rows}
use Rattle.rv_decode.specs.Table.{op_rows, fence_rows, system_rows, time_rows}
use Rattle.rv_exec.specs.Words.{bitwise}
use Rattle.rv_exec.specs.Alu.{alu_result, alu_result_with, shift_result, mul_result}
use Rattle.rv_exec.specs.Access.{loaded_value, lanes_at, merged_word}
use Rattle.rv_exec.specs.Result.{is_taken, result_of}
use Rattle.rv_exec.specs.declared.outcome.Event.{Event}
use Rattle.rv_exec.specs.declared.outcome.Effect.TheVariants.{Nothing, Reg, Csr, Trap}
use Rattle.region_guard.specs.Regions.{region_kind, region_of, index_of}
use Rattle.region_guard.specs.Regions.{may_fetch, may_load, may_store}
use Rattle.slot_table.specs.Frame.{frame, turn}
use Rattle.slot_table.specs.Table.{is_table}
use Rattle.region_guard.specs.RegionsWord.{is_regions}
use Rattle.slot_scheduler.specs.Picking.{is_awake, after_last, donation, pick}
use Rattle.core_model.specs.Thread.{fresh}
use Rattle.core_model.specs.Outcomes.{load, store, branch}
use Rattle.core_model.specs.Waiting.{delay, wait}
use Rattle.core_model.specs.Csr.{csr_update, may_hold, csr_access}
use Rattle.core_model.specs.Issue.{execute_untrapped, run_at, execute_in}
use Rattle.core_model.specs.Issue.{execute_word, effect_of, issue}
use Rattle.core_model.specs.Memory.{code_at, data_at}
use Rattle.core_model.specs.View.{environment_by}
use Rattle.core_model.specs.Solo.{may_go, solo_turn, solo_at, solo}
use Rattle.core_model.specs.World.{Start, environment, after_turn, recent, world, events}
use Rattle.core_model.specs.Viewed.{setting_of, view}
use Rattle.test_worlds.specs.Base.{base, at}

-- one thread: lags show
one_slot : Start
one_slot =
    base ((0x00100293 ∷ 0x00002303 ∷ 0x00000463 ∷ 0x00000013 ∷ 0x00200393 ∷ 0x0000006f ∷ [])
    ++ replicate 10 0x0 ++ (0x200000b7 ∷ 0x0000a023 ∷ []))

one_slot-0-trace : List Event
one_slot-0-trace =
    at 0 0 0x00 0x00100293 (Reg 5 0x1)
    ∷ at 0 1 0x04 0x00002303 (Reg 6 0x100293)
    ∷ at 0 3 0x08 0x00000463 Nothing
    ∷ at 0 6 0x10 0x00200393 (Reg 7 0x2) ∷ []

one_slot-0 : (events one_slot 0 11 ≡ one_slot-0-trace)
    × (solo (view one_slot 0) 11 ≡ one_slot-0-trace)
unfolding one_slot one_slot-0-trace ins rows lui_rows auipc_rows jal_rows jalr_rows branch_rows
    load_rows store_rows imm_rows op_rows fence_rows system_rows time_rows bitwise alu_result
    alu_result_with shift_result mul_result is_taken loaded_value lanes_at merged_word result_of
    nibbles region_kind region_of index_of may_fetch may_load may_store frame turn is_table
    is_regions is_awake after_last donation pick load store branch delay wait csr_update may_hold
    csr_access execute_untrapped run_at execute_in execute_word effect_of issue code_at data_at
    environment after_turn recent world environment_by may_go solo_turn solo_at setting_of view
one_slot-0 = (refl, refl)

-- one of four threads
four_slots : Start
four_slots =
    record (base ((0x00100293 ∷ 0x00002303 ∷ 0x00000463 ∷ 0x00000013 ∷ 0x00200393 ∷ 0x0000006f ∷ [])
    ++ replicate 10 0x0 ++ (0x200000b7 ∷ 0x0000a023 ∷ []))) {
      registers = record {
        slots = 0xffff3210;
        modes = 0xfffc;
        dregions = 0xccccc810;
        iregions = 0xcccccccc;
      };
    }

four_slots-0-trace : List Event
four_slots-0-trace =
    at 0 0 0x00 0x00100293 (Reg 5 0x1)
    ∷ at 0 4 0x04 0x00002303 (Reg 6 0x100293)
    ∷ at 0 8 0x08 0x00000463 Nothing
    ∷ at 0 12 0x10 0x00200393 (Reg 7 0x2) ∷ []

four_slots-0 : (events four_slots 0 17 ≡ four_slots-0-trace)
    × (solo (view four_slots 0) 17 ≡ four_slots-0-trace)
unfolding four_slots four_slots-0-trace ins rows lui_rows auipc_rows jal_rows jalr_rows branch_rows
    load_rows store_rows imm_rows op_rows fence_rows system_rows time_rows bitwise alu_result
    alu_result_with shift_result mul_result is_taken loaded_value lanes_at merged_word result_of
    nibbles region_kind region_of index_of may_fetch may_load may_store frame turn is_table
    is_regions is_awake after_last donation pick load store branch delay wait csr_update may_hold
    csr_access execute_untrapped run_at execute_in execute_word effect_of issue code_at data_at
    environment after_turn recent world environment_by may_go solo_turn solo_at setting_of view
four_slots-0 = (refl, refl)

-- three other threads store to addresses that they have no right to
neighbours : Start
neighbours =
    record (base ((0x00100293 ∷ 0x00002303 ∷ 0x00000463 ∷ 0x00000013 ∷ 0x00200393 ∷ 0x0000006f ∷ [])
    ++ replicate 10 0x0 ++ (0x200000b7 ∷ 0x0000a023 ∷ []))) {
      threads =
          (fresh 0x0 ∷ fresh 0x40 ∷ fresh 0x40 ∷ fresh 0x40 ∷ fresh 0x0 ∷ fresh 0x0 ∷ fresh 0x0
          ∷ fresh 0x0 ∷ []);
      registers = record {
        slots = 0xffff3210;
        modes = 0xff00;
        dregions = 0xccccc810;
        iregions = 0xcccccccc;
      };
    }

neighbours-0-trace : List Event
neighbours-0-trace =
    at 0 0 0x00 0x00100293 (Reg 5 0x1)
    ∷ at 0 4 0x04 0x00002303 (Reg 6 0x100293)
    ∷ at 0 8 0x08 0x00000463 Nothing
    ∷ at 0 12 0x10 0x00200393 (Reg 7 0x2) ∷ []

neighbours-0 : (events neighbours 0 17 ≡ neighbours-0-trace)
    × (solo (view neighbours 0) 17 ≡ neighbours-0-trace)
unfolding neighbours neighbours-0-trace ins rows lui_rows auipc_rows jal_rows jalr_rows branch_rows
    load_rows store_rows imm_rows op_rows fence_rows system_rows time_rows bitwise alu_result
    alu_result_with shift_result mul_result is_taken loaded_value lanes_at merged_word result_of
    nibbles region_kind region_of index_of may_fetch may_load may_store frame turn is_table
    is_regions is_awake after_last donation pick load store branch delay wait csr_update may_hold
    csr_access execute_untrapped run_at execute_in execute_word effect_of issue code_at data_at
    environment after_turn recent world environment_by may_go solo_turn solo_at setting_of view
neighbours-0 = (refl, refl)

neighbours-1 : events neighbours 1 14 ≡
    at 1 1 0x40 0x200000b7 (Reg 1 0x20000000)
    ∷ at 1 5 0x44 0x0000a023 (Trap 7 0x0)
    ∷ at 1 9 0x00 0x00100293 (Reg 5 0x1) ∷ []
unfolding neighbours ins rows lui_rows auipc_rows jal_rows jalr_rows branch_rows load_rows
    store_rows imm_rows op_rows fence_rows system_rows time_rows bitwise alu_result alu_result_with
    shift_result mul_result is_taken loaded_value lanes_at merged_word result_of nibbles
    region_kind region_of index_of may_fetch may_load may_store frame turn is_table is_regions
    is_awake after_last donation pick load store branch delay wait csr_update may_hold csr_access
    execute_untrapped run_at execute_in execute_word effect_of issue code_at data_at environment
    after_turn recent world
neighbours-1 = refl

-- a confined thread may not load from a shared region
shared_region : Start
shared_region =
    record (base ((0x200010b7 ∷ 0x0000a103 ∷ []))) {
      registers = record {
        slots = 0xffff3210;
        modes = 0xfffc;
        dregions = 0xccccc810;
        iregions = 0xcccccccc;
      };
    }

shared_region-0-trace : List Event
shared_region-0-trace =
    at 0 0 0x00 0x200010b7 (Reg 1 0x20001000)
    ∷ at 0 4 0x04 0x0000a103 (Trap 5 0x0) ∷ []

shared_region-0 : (events shared_region 0 9 ≡ shared_region-0-trace)
    × (solo (view shared_region 0) 9 ≡ shared_region-0-trace)
unfolding shared_region shared_region-0-trace ins rows lui_rows auipc_rows jal_rows jalr_rows
    branch_rows load_rows store_rows imm_rows op_rows fence_rows system_rows time_rows bitwise
    alu_result alu_result_with shift_result mul_result is_taken loaded_value lanes_at merged_word
    result_of nibbles region_kind region_of index_of may_fetch may_load may_store frame turn
    is_table is_regions is_awake after_last donation pick load store branch delay wait csr_update
    may_hold csr_access execute_untrapped run_at execute_in execute_word effect_of issue
    code_at data_at environment after_turn recent world environment_by may_go solo_turn solo_at
    setting_of view
shared_region-0 = (refl, refl)

-- two soft threads alternate
two_soft : Start
two_soft =
    record (base (replicate 64 0x0 ++ (0x00108093 ∷ 0xffdff06f ∷ []))) {
      threads =
          (fresh 0x0 ∷ fresh 0x100 ∷ fresh 0x100 ∷ fresh 0x0 ∷ fresh 0x0 ∷ fresh 0x0 ∷ fresh 0x0
          ∷ fresh 0x0 ∷ []);
      confined = (false ∷ false ∷ false ∷ false ∷ false ∷ false ∷ false ∷ false ∷ []);
      registers = record {
        slots = 0xfffffffe;
        modes = 0xffeb;
        dregions = 0xccccc810;
        iregions = 0xcccccccc;
      };
    }

two_soft-1 : events two_soft 1 14 ≡
    at 1 0 0x100 0x00108093 (Reg 1 0x1)
    ∷ at 1 2 0x104 0xffdff06f Nothing
    ∷ at 1 6 0x100 0x00108093 (Reg 1 0x2)
    ∷ at 1 8 0x104 0xffdff06f Nothing ∷ []
unfolding two_soft ins rows lui_rows auipc_rows jal_rows jalr_rows branch_rows load_rows
    store_rows imm_rows op_rows fence_rows system_rows time_rows bitwise alu_result alu_result_with
    shift_result mul_result is_taken loaded_value lanes_at merged_word result_of nibbles
    region_kind region_of index_of may_fetch may_load may_store frame turn is_table is_regions
    is_awake after_last donation pick load store branch delay wait csr_update may_hold csr_access
    execute_untrapped run_at execute_in execute_word effect_of issue code_at data_at environment
    after_turn recent world
two_soft-1 = refl

-- a thread with a permit writes the slots; picking uses them from the third cycle after it on
new_slots : Start
new_slots =
    record (base ((0xf1000093 ∷ 0x7c009073 ∷ 0x00100113 ∷ 0x00100193 ∷ []) ++ replicate 12 0x0
    ++ (0x0000006f ∷ []))) {
      threads =
          (fresh 0x0 ∷ fresh 0x40 ∷ fresh 0x0 ∷ fresh 0x0 ∷ fresh 0x0 ∷ fresh 0x0 ∷ fresh 0x0
          ∷ fresh 0x0 ∷ []);
      confined = (false ∷ false ∷ false ∷ false ∷ false ∷ false ∷ false ∷ false ∷ []);
      permit = (true ∷ false ∷ false ∷ false ∷ false ∷ false ∷ false ∷ false ∷ []);
      registers = record {
        slots = 0xfffffff0;
        modes = 0xfff0;
        dregions = 0xccccc810;
        iregions = 0xcccccccc;
      };
    }

new_slots-0 : events new_slots 0 11 ≡
    at 0 0 0x00 0xf1000093 (Reg 1 0xffffff10)
    ∷ at 0 1 0x04 0x7c009073 (Csr 0x7c0 0xffffff10 0 0xfffffff0)
    ∷ at 0 4 0x08 0x00100113 (Reg 2 0x1)
    ∷ at 0 6 0x0c 0x00100193 (Reg 3 0x1) ∷ []
unfolding new_slots ins rows lui_rows auipc_rows jal_rows jalr_rows branch_rows load_rows
    store_rows imm_rows op_rows fence_rows system_rows time_rows bitwise alu_result alu_result_with
    shift_result mul_result is_taken loaded_value lanes_at merged_word result_of nibbles
    region_kind region_of index_of may_fetch may_load may_store frame turn is_table is_regions
    is_awake after_last donation pick load store branch delay wait csr_update may_hold csr_access
    execute_untrapped run_at execute_in execute_word effect_of issue code_at data_at environment
    after_turn recent world
new_slots-0 = refl

new_slots-1 : events new_slots 1 10 ≡
    at 1 5 0x40 0x0000006f Nothing ∷ []
unfolding new_slots ins rows lui_rows auipc_rows jal_rows jalr_rows branch_rows load_rows
    store_rows imm_rows op_rows fence_rows system_rows time_rows bitwise alu_result alu_result_with
    shift_result mul_result is_taken loaded_value lanes_at merged_word result_of nibbles
    region_kind region_of index_of may_fetch may_load may_store frame turn is_table is_regions
    is_awake after_last donation pick load store branch delay wait csr_update may_hold csr_access
    execute_untrapped run_at execute_in execute_word effect_of issue code_at data_at environment
    after_turn recent world
new_slots-1 = refl

-- an invalid word of slots is refused
bad_slot : Start
bad_slot =
    record (base ((0x7c045073 ∷ []))) {
      confined = (false ∷ false ∷ false ∷ false ∷ false ∷ false ∷ false ∷ false ∷ []);
      permit = (true ∷ false ∷ false ∷ false ∷ false ∷ false ∷ false ∷ false ∷ []);
    }

bad_slot-0 : events bad_slot 0 5 ≡
    at 0 0 0x00 0x7c045073 (Trap 2 0x0) ∷ []
unfolding bad_slot ins rows lui_rows auipc_rows jal_rows jalr_rows branch_rows load_rows
    store_rows imm_rows op_rows fence_rows system_rows time_rows bitwise alu_result alu_result_with
    shift_result mul_result is_taken loaded_value lanes_at merged_word result_of nibbles
    region_kind region_of index_of may_fetch may_load may_store frame turn is_table is_regions
    is_awake after_last donation pick load store branch delay wait csr_update may_hold csr_access
    execute_untrapped run_at execute_in execute_word effect_of issue code_at data_at environment
    after_turn recent world
bad_slot-0 = refl
