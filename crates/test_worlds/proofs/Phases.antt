-- Changes of scheduling: the settings of a run, and one thread over them. The definitions compute
-- each row.
use Rattle.std.proofs.Common.{◌≡◌, true, false, List, [], ◌∷◌, ◌++◌, refl, replicate}
use Rattle.slot_table.specs.Nibbles.{nibbles}
use Rattle.rv_decode.specs.Table.{ins, rows, lui_rows, auipc_rows, jal_rows, jalr_rows}
use Rattle.rv_decode.specs.Table.{branch_rows, load_rows, store_rows, imm_rows}
use Rattle.rv_decode.specs.Table.{op_rows, fence_rows, system_rows, time_rows}
use Rattle.rv_exec.specs.Words.{bitwise}
use Rattle.rv_exec.specs.Alu.{alu_result, alu_result_with, shift_result, mul_result}
use Rattle.rv_exec.specs.Access.{loaded_value, lanes_at, merged_word}
use Rattle.rv_exec.specs.Result.{is_taken, result_of}
use Rattle.rv_exec.specs.declared.outcome.Event.{Event}
use Rattle.rv_exec.specs.declared.outcome.Effect.TheVariants.{Nothing, Reg}
use Rattle.region_guard.specs.Regions.{region_kind, region_of, index_of}
use Rattle.region_guard.specs.Regions.{may_fetch, may_load, may_store}
use Rattle.slot_table.specs.Frame.{frame, turn}
use Rattle.slot_table.specs.Table.{is_table}
use Rattle.region_guard.specs.RegionsWord.{is_regions}
use Rattle.slot_scheduler.specs.Picking.{is_awake, after_last, donation, pick}
use Rattle.core_model.specs.Thread.{fresh}
use Rattle.core_model.specs.Outcomes.{load, store, branch}
use Rattle.core_model.specs.Waiting.{delay, wait}
use Rattle.core_model.specs.Csr.{csr_update, may_hold, csr_access}
use Rattle.core_model.specs.Issue.{execute_untrapped, run_at, execute_in}
use Rattle.core_model.specs.Issue.{execute_word, effect_of, issue}
use Rattle.core_model.specs.Memory.{code_at, data_at}
use Rattle.core_model.specs.View.{environment_by}
use Rattle.core_model.specs.Solo.{may_go, solo_turn, solo_at, solo}
use Rattle.core_model.specs.World.{Start, environment, after_turn, recent, world, events}
use Rattle.core_model.specs.Viewed.{setting_of, view}
use Rattle.core_model.specs.declared.phase.Phase.{Phase}
use Rattle.core_model.specs.Phases.{phases}
use Rattle.core_model.specs.Phased.{phased_at, phased}
use Rattle.test_worlds.specs.Base.{base, at}

-- thread 0 writes the slots in cycle 1, and gives thread 1 every other cycle; thread 1 is confined
new_slots : Start
new_slots =
    record (base ((0xf1000093 ∷ 0x7c009073 ∷ 0x00100113 ∷ 0x00100193 ∷ []) ++ replicate 12 0x0
    ++ (0x0000006f ∷ []))) {
      threads =
          (fresh 0x0 ∷ fresh 0x40 ∷ fresh 0x0 ∷ fresh 0x0 ∷ fresh 0x0 ∷ fresh 0x0 ∷ fresh 0x0
          ∷ fresh 0x0 ∷ []);
      confined = (false ∷ true ∷ false ∷ false ∷ false ∷ false ∷ false ∷ false ∷ []);
      permit = (true ∷ false ∷ false ∷ false ∷ false ∷ false ∷ false ∷ false ∷ []);
      registers = record {
        slots = 0xfffffff0;
        modes = 0xfff0;
        dregions = 0xccccc810;
        iregions = 0xcccccccc;
      };
    }

two : List Phase
two =
    record { from = 0; slots = 0xfffffff0; modes = 0xfff0 }
    ∷ record { from = 4; slots = 0xffffff10; modes = 0xfff0 } ∷ []

settings : (phases new_slots 5 ≡ record { from = 0; slots = 0xfffffff0; modes = 0xfff0 } ∷ [])
    × (phases new_slots 6 ≡ two) × (phases new_slots 11 ≡ two)
unfolding new_slots two ins rows lui_rows auipc_rows jal_rows jalr_rows branch_rows load_rows
    store_rows imm_rows op_rows fence_rows system_rows time_rows bitwise alu_result alu_result_with
    shift_result mul_result is_taken loaded_value lanes_at merged_word result_of nibbles
    region_kind region_of index_of may_fetch may_load may_store frame turn is_table is_regions
    is_awake after_last donation pick load store branch delay wait csr_update may_hold csr_access
    execute_untrapped run_at execute_in execute_word effect_of issue code_at data_at environment
    after_turn recent world
settings = (refl, refl, refl)

line : List Event
line = at 1 5 0x40 0x0000006f Nothing ∷ []

own_line : (events new_slots 1 10 ≡ line) × (phased (view new_slots 1) two 10 ≡ line)
    × (solo (view new_slots 1) 10 ≡ [])
unfolding new_slots two line ins rows lui_rows auipc_rows jal_rows jalr_rows branch_rows load_rows
    store_rows imm_rows op_rows fence_rows system_rows time_rows bitwise alu_result alu_result_with
    shift_result mul_result is_taken loaded_value lanes_at merged_word result_of nibbles
    region_kind region_of index_of may_fetch may_load may_store frame turn is_table is_regions
    is_awake after_last donation pick load store branch delay wait csr_update may_hold csr_access
    execute_untrapped run_at execute_in execute_word effect_of issue code_at data_at environment
    after_turn recent world environment_by may_go solo_turn solo_at phased_at setting_of view
own_line = (refl, refl, refl)

-- thread 0 writes the modes in cycle 4, which wakes thread 1, and in cycle 12, which puts it to
-- sleep
woken : Start
woken =
    record (base ((0x000100b7 ∷ 0xff008093 ∷ 0x7c109073 ∷ 0x00408113 ∷ 0x00000013 ∷ 0x7c111073
    ∷ 0x0000006f ∷ []) ++ replicate 9 0x0 ++ (0x00128293 ∷ 0xffdff06f ∷ []))) {
      threads =
          (fresh 0x0 ∷ fresh 0x40 ∷ fresh 0x0 ∷ fresh 0x0 ∷ fresh 0x0 ∷ fresh 0x0 ∷ fresh 0x0
          ∷ fresh 0x0 ∷ []);
      confined = (false ∷ true ∷ false ∷ false ∷ false ∷ false ∷ false ∷ false ∷ []);
      permit = (true ∷ false ∷ false ∷ false ∷ false ∷ false ∷ false ∷ false ∷ []);
      registers = record {
        slots = 0xffffff10;
        modes = 0xfff4;
        dregions = 0xccccc810;
        iregions = 0xcccccccc;
      };
    }

three : List Phase
three =
    record { from = 0; slots = 0xffffff10; modes = 0xfff4 }
    ∷ record { from = 7; slots = 0xffffff10; modes = 0xfff0 }
    ∷ record { from = 15; slots = 0xffffff10; modes = 0xfff4 } ∷ []

woken_settings : phases woken 40 ≡ three
unfolding woken three ins rows lui_rows auipc_rows jal_rows jalr_rows branch_rows load_rows
    store_rows imm_rows op_rows fence_rows system_rows time_rows bitwise alu_result alu_result_with
    shift_result mul_result is_taken loaded_value lanes_at merged_word result_of nibbles
    region_kind region_of index_of may_fetch may_load may_store frame turn is_table is_regions
    is_awake after_last donation pick load store branch delay wait csr_update may_hold csr_access
    execute_untrapped run_at execute_in execute_word effect_of issue code_at data_at environment
    after_turn recent world
woken_settings = refl

awake_lines : List Event
awake_lines =
    at 1 7 0x40 0x00128293 (Reg 5 1) ∷ at 1 9 0x44 0xffdff06f Nothing
    ∷ at 1 13 0x40 0x00128293 (Reg 5 2) ∷ []

woken_lines : (events woken 1 40 ≡ awake_lines) × (phased (view woken 1) three 40 ≡ awake_lines)
unfolding woken three awake_lines ins rows lui_rows auipc_rows jal_rows jalr_rows branch_rows
    load_rows store_rows imm_rows op_rows fence_rows system_rows time_rows bitwise alu_result
    alu_result_with shift_result mul_result is_taken loaded_value lanes_at merged_word result_of
    nibbles region_kind region_of index_of may_fetch may_load may_store frame turn is_table
    is_regions is_awake after_last donation pick load store branch delay wait csr_update may_hold
    csr_access execute_untrapped run_at execute_in execute_word effect_of issue code_at data_at
    environment after_turn recent world environment_by may_go solo_turn solo_at phased_at
    setting_of view
woken_lines = (refl, refl)

-- thread 0 takes thread 1's cycles away in cycle 4, gives them back in cycle 11, and takes them
-- away in cycle 18
taken : Start
taken =
    record (base ((0xf1000093 ∷ 0xff000113 ∷ 0x7c011073 ∷ []) ++ replicate 4 0x00000013
    ++ (0x7c009073 ∷ 0x00000013 ∷ 0x00000013 ∷ 0x7c011073 ∷ 0x0000006f ∷ []) ++ replicate 4 0x0
    ++ (0x00128293 ∷ 0xffdff06f ∷ []))) {
      threads =
          (fresh 0x0 ∷ fresh 0x40 ∷ fresh 0x0 ∷ fresh 0x0 ∷ fresh 0x0 ∷ fresh 0x0 ∷ fresh 0x0
          ∷ fresh 0x0 ∷ []);
      confined = (false ∷ true ∷ false ∷ false ∷ false ∷ false ∷ false ∷ false ∷ []);
      permit = (true ∷ false ∷ false ∷ false ∷ false ∷ false ∷ false ∷ false ∷ []);
      registers = record {
        slots = 0xffffff10;
        modes = 0xfff0;
        dregions = 0xccccc810;
        iregions = 0xcccccccc;
      };
    }

given_back : List Phase
given_back =
    record { from = 0; slots = 0xffffff10; modes = 0xfff0 }
    ∷ record { from = 7; slots = 0xfffffff0; modes = 0xfff0 }
    ∷ record { from = 14; slots = 0xffffff10; modes = 0xfff0 } ∷ []

taken_again : List Phase
taken_again = given_back ++ (record { from = 21; slots = 0xfffffff0; modes = 0xfff0 } ∷ [])

-- after 22 cycles the last write is in flight and begins no setting yet; after 23 it has retired
taken_settings : (phases taken 22 ≡ given_back) × (phases taken 23 ≡ taken_again)
    × (phases taken 30 ≡ taken_again)
unfolding taken given_back taken_again ins rows lui_rows auipc_rows jal_rows jalr_rows branch_rows
    load_rows store_rows imm_rows op_rows fence_rows system_rows time_rows bitwise alu_result
    alu_result_with shift_result mul_result is_taken loaded_value lanes_at merged_word result_of
    nibbles region_kind region_of index_of may_fetch may_load may_store frame turn is_table
    is_regions is_awake after_last donation pick load store branch delay wait csr_update may_hold
    csr_access execute_untrapped run_at execute_in execute_word effect_of issue code_at data_at
    environment after_turn recent world
taken_settings = (refl, refl, refl)

own_lines : List Event
own_lines =
    at 1 1 0x40 0x00128293 (Reg 5 1) ∷ at 1 3 0x44 0xffdff06f Nothing
    ∷ at 1 15 0x40 0x00128293 (Reg 5 2) ∷ at 1 17 0x44 0xffdff06f Nothing ∷ []

-- No retired issue sees the write in flight. Without the write the thread would have continued.
later_lines : List Event
later_lines =
    own_lines ++ (at 1 21 0x40 0x00128293 (Reg 5 3) ∷ at 1 23 0x44 0xffdff06f Nothing ∷ [])

taken_lines : (events taken 1 22 ≡ own_lines) × (phased (view taken 1) given_back 22 ≡ own_lines)
    × (phased (view taken 1) taken_again 22 ≡ own_lines) × (events taken 1 30 ≡ own_lines)
    × (phased (view taken 1) taken_again 30 ≡ own_lines)
    × (phased (view taken 1) given_back 30 ≡ later_lines)
unfolding taken given_back taken_again own_lines later_lines ins rows lui_rows auipc_rows jal_rows
    jalr_rows branch_rows load_rows store_rows imm_rows op_rows fence_rows system_rows time_rows
    bitwise alu_result alu_result_with shift_result mul_result is_taken loaded_value lanes_at
    merged_word result_of nibbles region_kind region_of index_of may_fetch may_load may_store
    frame turn is_table is_regions is_awake after_last donation pick load store branch delay wait
    csr_update may_hold csr_access execute_untrapped run_at execute_in execute_word effect_of issue
    code_at data_at environment after_turn recent world environment_by may_go solo_turn solo_at
    phased_at setting_of view
taken_lines = (refl, refl, refl, refl, refl, refl)
