-- Sleeping, waiting, and expiry. The definitions compute each trace.
use Rattle.std.proofs.Common.{◌≡◌, List, [], ◌∷◌, ◌++◌, refl, replicate}
use Rattle.slot_table.specs.Nibbles.{nibbles}
use Rattle.rv_decode.specs.Table.{ins, rows, lui_rows, auipc_rows, jal_rows, jalr_rows}
use Rattle.rv_decode.specs.Table.{branch_rows, load_rows, store_rows, imm_rows}
use Rattle.rv_decode.specs.Table.{op_rows, fence_rows, system_rows, time_rows}
use Rattle.rv_exec.specs.Words.{bitwise}
use Rattle.rv_exec.specs.Alu.{alu_result, alu_result_with, shift_result, mul_result}
use Rattle.rv_exec.specs.Access.{loaded_value, lanes_at, merged_word}
use Rattle.rv_exec.specs.Result.{is_taken, result_of}
use Rattle.rv_exec.specs.declared.outcome.Event.{Event}
use Rattle.rv_exec.specs.declared.outcome.Effect.TheVariants.{Nothing, Reg, Csr, Trap, Wait}
use Rattle.region_guard.specs.Regions.{region_kind, region_of, index_of}
use Rattle.region_guard.specs.Regions.{may_fetch, may_load, may_store}
use Rattle.slot_table.specs.Frame.{frame, turn}
use Rattle.slot_table.specs.Table.{is_table}
use Rattle.region_guard.specs.RegionsWord.{is_regions}
use Rattle.slot_scheduler.specs.Picking.{is_awake, after_last, donation, pick}
use Rattle.core_model.specs.Thread.{fresh}
use Rattle.core_model.specs.Outcomes.{load, store, branch}
use Rattle.core_model.specs.Waiting.{delay, wait}
use Rattle.core_model.specs.Csr.{csr_update, may_hold, csr_access}
use Rattle.core_model.specs.Issue.{execute_untrapped, run_at, execute_in}
use Rattle.core_model.specs.Issue.{execute_word, effect_of, issue}
use Rattle.core_model.specs.Memory.{code_at, data_at}
use Rattle.core_model.specs.View.{environment_by}
use Rattle.core_model.specs.Solo.{may_go, solo_turn, solo_at, solo}
use Rattle.core_model.specs.World.{Start, environment, after_turn, recent, world, events}
use Rattle.core_model.specs.Viewed.{setting_of, view}
use Rattle.test_worlds.specs.Base.{base, at}

-- WU until a past moment
wait_past : Start
wait_past =
    record (base ((0x00a00093 ∷ 0x0010300b ∷ 0x00100113 ∷ 0x0000006f ∷ []) ++ replicate 60 0x0
    ++ (0x00108093 ∷ 0xffdff06f ∷ []))) {
      threads =
          (fresh 0x0 ∷ fresh 0x100 ∷ fresh 0x0 ∷ fresh 0x0 ∷ fresh 0x0 ∷ fresh 0x0 ∷ fresh 0x0
          ∷ fresh 0x0 ∷ []);
      registers = record {
        slots = 0xffffffe0;
        modes = 0xfff8;
        dregions = 0xccccc810;
        iregions = 0xcccccccc;
      };
    }

wait_past-0-trace : List Event
wait_past-0-trace =
    at 0 0 0x00 0x00a00093 (Reg 1 0xa)
    ∷ at 0 2 0x04 0x0010300b Nothing
    ∷ at 0 6 0x08 0x00100113 (Reg 2 0x1)
    ∷ at 0 8 0x0c 0x0000006f Nothing
    ∷ at 0 12 0x0c 0x0000006f Nothing ∷ []

wait_past-0 : (events wait_past 0 20 ≡ wait_past-0-trace)
    × (solo (view wait_past 0) 20 ≡ wait_past-0-trace)
unfolding wait_past wait_past-0-trace ins rows lui_rows auipc_rows jal_rows jalr_rows branch_rows
    load_rows store_rows imm_rows op_rows fence_rows system_rows time_rows bitwise alu_result
    alu_result_with shift_result mul_result is_taken loaded_value lanes_at merged_word result_of
    nibbles region_kind region_of index_of may_fetch may_load may_store frame turn is_table
    is_regions is_awake after_last donation pick load store branch delay wait csr_update may_hold
    csr_access execute_untrapped run_at execute_in execute_word effect_of issue code_at data_at
    environment after_turn recent world environment_by may_go solo_turn solo_at setting_of view
wait_past-0 = (refl, refl)

-- WU until now
wait_now : Start
wait_now =
    record (base ((0x01400093 ∷ 0x0010300b ∷ 0x00100113 ∷ 0x0000006f ∷ []) ++ replicate 60 0x0
    ++ (0x00108093 ∷ 0xffdff06f ∷ []))) {
      threads =
          (fresh 0x0 ∷ fresh 0x100 ∷ fresh 0x0 ∷ fresh 0x0 ∷ fresh 0x0 ∷ fresh 0x0 ∷ fresh 0x0
          ∷ fresh 0x0 ∷ []);
      registers = record {
        slots = 0xffffffe0;
        modes = 0xfff8;
        dregions = 0xccccc810;
        iregions = 0xcccccccc;
      };
    }

wait_now-0-trace : List Event
wait_now-0-trace =
    at 0 0 0x00 0x01400093 (Reg 1 0x14)
    ∷ at 0 2 0x04 0x0010300b Nothing
    ∷ at 0 6 0x08 0x00100113 (Reg 2 0x1)
    ∷ at 0 8 0x0c 0x0000006f Nothing
    ∷ at 0 12 0x0c 0x0000006f Nothing ∷ []

wait_now-0 : (events wait_now 0 20 ≡ wait_now-0-trace)
    × (solo (view wait_now 0) 20 ≡ wait_now-0-trace)
unfolding wait_now wait_now-0-trace ins rows lui_rows auipc_rows jal_rows jalr_rows branch_rows
    load_rows store_rows imm_rows op_rows fence_rows system_rows time_rows bitwise alu_result
    alu_result_with shift_result mul_result is_taken loaded_value lanes_at merged_word result_of
    nibbles region_kind region_of index_of may_fetch may_load may_store frame turn is_table
    is_regions is_awake after_last donation pick load store branch delay wait csr_update may_hold
    csr_access execute_untrapped run_at execute_in execute_word effect_of issue code_at data_at
    environment after_turn recent world environment_by may_go solo_turn solo_at setting_of view
wait_now-0 = (refl, refl)

wait_now-1 : events wait_now 1 20 ≡
    at 1 1 0x100 0x00108093 (Reg 1 0x1)
    ∷ at 1 3 0x104 0xffdff06f Nothing
    ∷ at 1 7 0x100 0x00108093 (Reg 1 0x2)
    ∷ at 1 9 0x104 0xffdff06f Nothing
    ∷ at 1 13 0x100 0x00108093 (Reg 1 0x3)
    ∷ at 1 15 0x104 0xffdff06f Nothing ∷ []
unfolding wait_now ins rows lui_rows auipc_rows jal_rows jalr_rows branch_rows load_rows
    store_rows imm_rows op_rows fence_rows system_rows time_rows bitwise alu_result alu_result_with
    shift_result mul_result is_taken loaded_value lanes_at merged_word result_of nibbles
    region_kind region_of index_of may_fetch may_load may_store frame turn is_table is_regions
    is_awake after_last donation pick load store branch delay wait csr_update may_hold csr_access
    execute_untrapped run_at execute_in execute_word effect_of issue code_at data_at environment
    after_turn recent world
wait_now-1 = refl

-- WU until the next cycle
wait_next : Start
wait_next =
    record (base ((0x01e00093 ∷ 0x0010300b ∷ 0x00100113 ∷ 0x0000006f ∷ []) ++ replicate 60 0x0
    ++ (0x00108093 ∷ 0xffdff06f ∷ []))) {
      threads =
          (fresh 0x0 ∷ fresh 0x100 ∷ fresh 0x0 ∷ fresh 0x0 ∷ fresh 0x0 ∷ fresh 0x0 ∷ fresh 0x0
          ∷ fresh 0x0 ∷ []);
      registers = record {
        slots = 0xffffffe0;
        modes = 0xfff8;
        dregions = 0xccccc810;
        iregions = 0xcccccccc;
      };
    }

wait_next-0-trace : List Event
wait_next-0-trace =
    at 0 0 0x00 0x01e00093 (Reg 1 0x1e)
    ∷ at 0 2 0x04 0x0010300b Wait
    ∷ at 0 6 0x08 0x00100113 (Reg 2 0x1)
    ∷ at 0 8 0x0c 0x0000006f Nothing
    ∷ at 0 12 0x0c 0x0000006f Nothing ∷ []

wait_next-0 : (events wait_next 0 20 ≡ wait_next-0-trace)
    × (solo (view wait_next 0) 20 ≡ wait_next-0-trace)
unfolding wait_next wait_next-0-trace ins rows lui_rows auipc_rows jal_rows jalr_rows branch_rows
    load_rows store_rows imm_rows op_rows fence_rows system_rows time_rows bitwise alu_result
    alu_result_with shift_result mul_result is_taken loaded_value lanes_at merged_word result_of
    nibbles region_kind region_of index_of may_fetch may_load may_store frame turn is_table
    is_regions is_awake after_last donation pick load store branch delay wait csr_update may_hold
    csr_access execute_untrapped run_at execute_in execute_word effect_of issue code_at data_at
    environment after_turn recent world environment_by may_go solo_turn solo_at setting_of view
wait_next-0 = (refl, refl)

-- WU until a later moment: a slot is donated
wait_long : Start
wait_long =
    record (base ((0x04b00093 ∷ 0x0010300b ∷ 0x00100113 ∷ 0x0000006f ∷ []) ++ replicate 60 0x0
    ++ (0x00108093 ∷ 0xffdff06f ∷ []))) {
      threads =
          (fresh 0x0 ∷ fresh 0x100 ∷ fresh 0x0 ∷ fresh 0x0 ∷ fresh 0x0 ∷ fresh 0x0 ∷ fresh 0x0
          ∷ fresh 0x0 ∷ []);
      registers = record {
        slots = 0xffffffe0;
        modes = 0xfff8;
        dregions = 0xccccc810;
        iregions = 0xcccccccc;
      };
    }

wait_long-0-trace : List Event
wait_long-0-trace =
    at 0 0 0x00 0x04b00093 (Reg 1 0x4b)
    ∷ at 0 2 0x04 0x0010300b Wait
    ∷ at 0 8 0x08 0x00100113 (Reg 2 0x1)
    ∷ at 0 10 0x0c 0x0000006f Nothing
    ∷ at 0 14 0x0c 0x0000006f Nothing ∷ []

wait_long-0 : (events wait_long 0 20 ≡ wait_long-0-trace)
    × (solo (view wait_long 0) 20 ≡ wait_long-0-trace)
unfolding wait_long wait_long-0-trace ins rows lui_rows auipc_rows jal_rows jalr_rows branch_rows
    load_rows store_rows imm_rows op_rows fence_rows system_rows time_rows bitwise alu_result
    alu_result_with shift_result mul_result is_taken loaded_value lanes_at merged_word result_of
    nibbles region_kind region_of index_of may_fetch may_load may_store frame turn is_table
    is_regions is_awake after_last donation pick load store branch delay wait csr_update may_hold
    csr_access execute_untrapped run_at execute_in execute_word effect_of issue code_at data_at
    environment after_turn recent world environment_by may_go solo_turn solo_at setting_of view
wait_long-0 = (refl, refl)

wait_long-1 : events wait_long 1 12 ≡
    at 1 1 0x100 0x00108093 (Reg 1 0x1)
    ∷ at 1 3 0x104 0xffdff06f Nothing
    ∷ at 1 6 0x100 0x00108093 (Reg 1 0x2)
    ∷ at 1 7 0x104 0xffdff06f Nothing ∷ []
unfolding wait_long ins rows lui_rows auipc_rows jal_rows jalr_rows branch_rows load_rows
    store_rows imm_rows op_rows fence_rows system_rows time_rows bitwise alu_result alu_result_with
    shift_result mul_result is_taken loaded_value lanes_at merged_word result_of nibbles
    region_kind region_of index_of may_fetch may_load may_store frame turn is_table is_regions
    is_awake after_last donation pick load store branch delay wait csr_update may_hold csr_access
    execute_untrapped run_at execute_in execute_word effect_of issue code_at data_at environment
    after_turn recent world
wait_long-1 = refl

-- DU spins twice
held_twice : Start
held_twice = base ((0x03c00093 ∷ 0x0010200b ∷ 0x00100113 ∷ []))

held_twice-0-trace : List Event
held_twice-0-trace =
    at 0 0 0x00 0x03c00093 (Reg 1 0x3c)
    ∷ at 0 7 0x04 0x0010200b Nothing
    ∷ at 0 10 0x08 0x00100113 (Reg 2 0x1) ∷ []

held_twice-0 : (events held_twice 0 15 ≡ held_twice-0-trace)
    × (solo (view held_twice 0) 15 ≡ held_twice-0-trace)
unfolding held_twice held_twice-0-trace ins rows lui_rows auipc_rows jal_rows jalr_rows branch_rows
    load_rows store_rows imm_rows op_rows fence_rows system_rows time_rows bitwise alu_result
    alu_result_with shift_result mul_result is_taken loaded_value lanes_at merged_word result_of
    nibbles region_kind region_of index_of may_fetch may_load may_store frame turn is_table
    is_regions is_awake after_last donation pick load store branch delay wait csr_update may_hold
    csr_access execute_untrapped run_at execute_in execute_word effect_of issue code_at data_at
    environment after_turn recent world environment_by may_go solo_turn solo_at setting_of view
held_twice-0 = (refl, refl)

-- an armed moment ends a sleep
expiry : Start
expiry =
    base ((0x10000093 ∷ 0x30509073 ∷ 0x0c800113 ∷ 0x0020400b ∷ 0x1f400193 ∷ 0x0030300b ∷ 0x00100213
    ∷ []) ++ replicate 57 0x0 ++ (0x341022f3 ∷ 0x30200073 ∷ []))

expiry-0-trace : List Event
expiry-0-trace =
    at 0 0 0x00 0x10000093 (Reg 1 0x100)
    ∷ at 0 1 0x04 0x30509073 (Csr 0x305 0x100 0 0x0)
    ∷ at 0 4 0x08 0x0c800113 (Reg 2 0xc8)
    ∷ at 0 5 0x0c 0x0020400b Nothing
    ∷ at 0 8 0x10 0x1f400193 (Reg 3 0x1f4)
    ∷ at 0 9 0x14 0x0030300b Wait
    ∷ at 0 20 0x18 0x00000000 (Trap 24 0x100)
    ∷ at 0 23 0x100 0x341022f3 (Reg 5 0x18)
    ∷ at 0 26 0x104 0x30200073 Nothing
    ∷ at 0 29 0x18 0x00100213 (Reg 4 0x1) ∷ []

expiry-0 : (events expiry 0 34 ≡ expiry-0-trace) × (solo (view expiry 0) 34 ≡ expiry-0-trace)
unfolding expiry expiry-0-trace ins rows lui_rows auipc_rows jal_rows jalr_rows branch_rows
    load_rows store_rows imm_rows op_rows fence_rows system_rows time_rows bitwise alu_result
    alu_result_with shift_result mul_result is_taken loaded_value lanes_at merged_word result_of
    nibbles region_kind region_of index_of may_fetch may_load may_store frame turn is_table
    is_regions is_awake after_last donation pick load store branch delay wait csr_update may_hold
    csr_access execute_untrapped run_at execute_in execute_word effect_of issue code_at data_at
    environment after_turn recent world environment_by may_go solo_turn solo_at setting_of view
expiry-0 = (refl, refl)

-- an expiry while turns are lost is taken at the next ready turn
expiry_in_branch : Start
expiry_in_branch =
    base ((0x10000093 ∷ 0x30509073 ∷ 0x05f00113 ∷ 0x0020400b ∷ 0x00000013 ∷ 0x00000463 ∷ 0x00100213
    ∷ []) ++ replicate 57 0x0 ++ (0x341022f3 ∷ 0x30200073 ∷ []))

expiry_in_branch-0-trace : List Event
expiry_in_branch-0-trace =
    at 0 0 0x00 0x10000093 (Reg 1 0x100)
    ∷ at 0 1 0x04 0x30509073 (Csr 0x305 0x100 0 0x0)
    ∷ at 0 4 0x08 0x05f00113 (Reg 2 0x5f)
    ∷ at 0 5 0x0c 0x0020400b Nothing
    ∷ at 0 8 0x10 0x00000013 Nothing
    ∷ at 0 9 0x14 0x00000463 Nothing
    ∷ at 0 12 0x1c 0x00000000 (Trap 24 0x100)
    ∷ at 0 15 0x100 0x341022f3 (Reg 5 0x1c)
    ∷ at 0 18 0x104 0x30200073 Nothing
    ∷ at 0 21 0x1c 0x00000000 (Trap 2 0x100)
    ∷ at 0 24 0x100 0x341022f3 (Reg 5 0x1c)
    ∷ at 0 27 0x104 0x30200073 Nothing ∷ []

expiry_in_branch-0 : (events expiry_in_branch 0 34 ≡ expiry_in_branch-0-trace)
    × (solo (view expiry_in_branch 0) 34 ≡ expiry_in_branch-0-trace)
unfolding expiry_in_branch expiry_in_branch-0-trace ins rows lui_rows auipc_rows jal_rows
    jalr_rows branch_rows load_rows store_rows imm_rows op_rows fence_rows system_rows time_rows
    bitwise alu_result alu_result_with shift_result mul_result is_taken loaded_value lanes_at
    merged_word result_of nibbles region_kind region_of index_of may_fetch may_load may_store
    frame turn is_table is_regions is_awake after_last donation pick load store branch delay wait
    csr_update may_hold csr_access execute_untrapped run_at execute_in execute_word effect_of issue
    code_at data_at environment after_turn recent world environment_by may_go solo_turn solo_at
    setting_of view
expiry_in_branch-0 = (refl, refl)
