-- The latch of a port after stores, and after it was unplugged.
use Rattle.std.proofs.Common.{◌≡◌, Bool, ℕ, true, false, [], ◌∷◌, None, Some, refl, replicate}
use Rattle.slot_table.specs.Nibbles.{nibbles}
use Rattle.rv_decode.specs.Table.{ins, rows, lui_rows, auipc_rows, jal_rows, jalr_rows}
use Rattle.rv_decode.specs.Table.{branch_rows, load_rows, store_rows, imm_rows}
use Rattle.rv_decode.specs.Table.{op_rows, fence_rows, system_rows, time_rows}
use Rattle.rv_exec.specs.Words.{bitwise}
use Rattle.rv_exec.specs.Alu.{alu_result, alu_result_with, shift_result, mul_result}
use Rattle.rv_exec.specs.Access.{loaded_value, lanes_at, merged_word}
use Rattle.rv_exec.specs.Result.{is_taken, result_of}
use Rattle.region_guard.specs.Regions.{region_kind, region_of, index_of}
use Rattle.region_guard.specs.Regions.{may_fetch, may_load, may_store}
use Rattle.slot_table.specs.Frame.{frame, turn}
use Rattle.slot_table.specs.Table.{is_table}
use Rattle.region_guard.specs.RegionsWord.{is_regions}
use Rattle.slot_scheduler.specs.Picking.{is_awake, after_last, donation, pick}
use Rattle.core_model.specs.Outcomes.{load, store, branch}
use Rattle.core_model.specs.Waiting.{delay, wait}
use Rattle.core_model.specs.Csr.{csr_update, may_hold, csr_access}
use Rattle.core_model.specs.Issue.{execute_untrapped, run_at, execute_in}
use Rattle.core_model.specs.Issue.{execute_word, effect_of, issue}
use Rattle.core_model.specs.Memory.{code_at, data_at}
use Rattle.core_model.specs.World.{Start, environment, after_turn, recent, world}
use Rattle.test_worlds.specs.Base.{base}

-- thread 0 writes 1, 2, 3 at its port in the cycles 3, 9 and 15, and after each of them into its
-- own region
writer : Bool → ℕ → Start
writer handed unplug =
    record (base (0x40000137 ∷ 0x200001b7 ∷ 0x00108093 ∷ 0x00112023 ∷ 0x0031a023
    ∷ 0xff5ff06f ∷ [])) {
      handed = handed ∷ replicate 7 true;
      unplugs = Some unplug ∷ replicate 7 None;
    }

-- the latch after a store; an unplugged port takes none
latches :
    ((world (writer true 15) 20).latches ≡ 2 ∷ replicate 7 0)
    × ((world (writer true 16) 20).latches ≡ 3 ∷ replicate 7 0)
    × ((world (writer false 16) 20).latches ≡ replicate 8 0)
    × ((world (writer true 100) 15).latches ≡ 2 ∷ replicate 7 0)
    × ((world (writer true 100) 16).latches ≡ 3 ∷ replicate 7 0)
unfolding writer ins rows lui_rows auipc_rows jal_rows jalr_rows branch_rows load_rows store_rows
    imm_rows op_rows fence_rows system_rows time_rows bitwise alu_result alu_result_with
    shift_result mul_result is_taken loaded_value lanes_at merged_word result_of nibbles
    region_kind region_of index_of may_fetch may_load may_store frame turn is_table is_regions
    is_awake after_last donation pick load store branch delay wait csr_update may_hold csr_access
    execute_untrapped run_at execute_in execute_word effect_of issue code_at data_at environment
    after_turn recent world
latches = (refl, refl, refl, refl, refl)
