-- A control loop next to two hard threads and six soft ones, all with code and data of their own.
-- The definitions compute each trace.
use Rattle.std.proofs.Common.{◌≡◌, true, false, List, [], ◌∷◌, ◌++◌, refl, replicate}
use Rattle.slot_table.specs.Nibbles.{nibbles}
use Rattle.rv_decode.specs.Table.{ins, rows, lui_rows, auipc_rows, jal_rows, jalr_rows}
use Rattle.rv_decode.specs.Table.{branch_rows, load_rows, store_rows, imm_rows}
use Rattle.rv_decode.specs.Table.{op_rows, fence_rows, system_rows, time_rows}
use Rattle.rv_exec.specs.Words.{bitwise}
use Rattle.rv_exec.specs.Alu.{alu_result, alu_result_with, shift_result, mul_result}
use Rattle.rv_exec.specs.Access.{loaded_value, lanes_at, merged_word}
use Rattle.rv_exec.specs.Result.{is_taken, result_of}
use Rattle.rv_exec.specs.declared.outcome.Event.{Event}
use Rattle.rv_exec.specs.declared.outcome.Effect.TheVariants.{Nothing, Reg, Store, Wait}
use Rattle.region_guard.specs.Regions.{region_kind, region_of, index_of}
use Rattle.region_guard.specs.Regions.{may_fetch, may_load, may_store}
use Rattle.slot_table.specs.Frame.{frame, turn}
use Rattle.slot_table.specs.Table.{is_table}
use Rattle.region_guard.specs.RegionsWord.{is_regions}
use Rattle.slot_scheduler.specs.Picking.{is_awake, after_last, donation, pick}
use Rattle.core_model.specs.Thread.{fresh}
use Rattle.core_model.specs.Outcomes.{load, store, branch}
use Rattle.core_model.specs.Waiting.{delay, wait}
use Rattle.core_model.specs.Csr.{csr_update, may_hold, csr_access}
use Rattle.core_model.specs.Issue.{execute_untrapped, run_at, execute_in}
use Rattle.core_model.specs.Issue.{execute_word, effect_of, issue}
use Rattle.core_model.specs.Memory.{code_at, data_at}
use Rattle.core_model.specs.View.{environment_by}
use Rattle.core_model.specs.Solo.{may_go, solo_turn, solo_at, solo}
use Rattle.core_model.specs.World.{Start, environment, after_turn, recent, world, events}
use Rattle.core_model.specs.Viewed.{setting_of, view}
use Rattle.test_worlds.specs.Base.{base, at}

-- two threads write into a shared region; a WU of thread 0 gives its slots away
drive : Start
drive =
    record (base ((0x200000b7 ∷ 0x40000137 ∷ 0x0000050b ∷ 0x0000158b ∷ 0x00012283 ∷ 0x0050a023
    ∷ 0x0000a303 ∷ 0x200011b7 ∷ 0x0061a023 ∷ 0x19050513 ∷ 0x00a5b00b ∷ 0xfe5ff06f ∷ 0x00000000
    ∷ 0x00000000 ∷ 0x00000000 ∷ 0x00000000 ∷ 0x0000006f ∷ []) ++ replicate 47 0x0
    ++ (0x00108093 ∷ 0xffdff06f ∷ []))) {
      threads =
          (fresh 0x0 ∷ fresh 0x40 ∷ fresh 0x100 ∷ fresh 0x100 ∷ fresh 0x100 ∷ fresh 0x100
          ∷ fresh 0x100 ∷ fresh 0x100 ∷ []);
      confined = (true ∷ true ∷ false ∷ false ∷ false ∷ false ∷ false ∷ false ∷ []);
      registers = record {
        slots = 0xffffe1e0;
        modes = 0xaaa0;
        dregions = 0xccccc810;
        iregions = 0xcccccccc;
      };
      shown =
          ((replicate 50 0x2a ++ replicate 10 0x2b) ∷ replicate 60 0x0 ∷ replicate 60 0x0
          ∷ replicate 60 0x0 ∷ replicate 60 0x0 ∷ replicate 60 0x0 ∷ replicate 60 0x0
          ∷ replicate 60 0x0 ∷ []);
    }

drive-0-trace : List Event
drive-0-trace =
    at 0 0 0x00 0x200000b7 (Reg 1 0x20000000)
    ∷ at 0 4 0x04 0x40000137 (Reg 2 0x40000000)
    ∷ at 0 8 0x08 0x0000050b (Reg 10 0x50)
    ∷ at 0 12 0x0c 0x0000158b (Reg 11 0x0)
    ∷ at 0 16 0x10 0x00012283 (Reg 5 0x2a)
    ∷ at 0 20 0x14 0x0050a023 (Store 0x20000000 4 0x2a)
    ∷ at 0 24 0x18 0x0000a303 (Reg 6 0x2a)
    ∷ at 0 28 0x1c 0x200011b7 (Reg 3 0x20001000)
    ∷ at 0 32 0x20 0x0061a023 (Store 0x20001000 4 0x2a)
    ∷ at 0 36 0x24 0x19050513 (Reg 10 0x1e0)
    ∷ at 0 40 0x28 0x00a5b00b Wait
    ∷ at 0 48 0x2c 0xfe5ff06f Nothing
    ∷ at 0 52 0x10 0x00012283 (Reg 5 0x2b) ∷ []

drive-0 : (events drive 0 57 ≡ drive-0-trace) × (solo (view drive 0) 57 ≡ drive-0-trace)
unfolding drive drive-0-trace ins rows lui_rows auipc_rows jal_rows jalr_rows branch_rows load_rows
    store_rows imm_rows op_rows fence_rows system_rows time_rows bitwise alu_result alu_result_with
    shift_result mul_result is_taken loaded_value lanes_at merged_word result_of nibbles
    region_kind region_of index_of may_fetch may_load may_store frame turn is_table is_regions
    is_awake after_last donation pick load store branch delay wait csr_update may_hold csr_access
    execute_untrapped run_at execute_in execute_word effect_of issue code_at data_at environment
    after_turn recent world environment_by may_go solo_turn solo_at setting_of view
drive-0 = (refl, refl)

drive-6 : events drive 6 60 ≡
    at 6 9 0x100 0x00108093 (Reg 1 0x1)
    ∷ at 6 21 0x104 0xffdff06f Nothing
    ∷ at 6 33 0x100 0x00108093 (Reg 1 0x2)
    ∷ at 6 44 0x104 0xffdff06f Nothing
    ∷ at 6 55 0x100 0x00108093 (Reg 1 0x3) ∷ []
unfolding drive ins rows lui_rows auipc_rows jal_rows jalr_rows branch_rows load_rows store_rows
    imm_rows op_rows fence_rows system_rows time_rows bitwise alu_result alu_result_with
    shift_result mul_result is_taken loaded_value lanes_at merged_word result_of nibbles
    region_kind region_of index_of may_fetch may_load may_store frame turn is_table is_regions
    is_awake after_last donation pick load store branch delay wait csr_update may_hold csr_access
    execute_untrapped run_at execute_in execute_word effect_of issue code_at data_at environment
    after_turn recent world
drive-6 = refl
