-- Traps, multiplication and division, the larger scratchpads, and ports. The definitions compute
-- each trace.
use Rattle.std.proofs.Common.{◌≡◌, List, [], ◌∷◌, ◌++◌, None, Some, refl, replicate}
use Rattle.slot_table.specs.Nibbles.{nibbles}
use Rattle.rv_decode.specs.Table.{ins, rows, lui_rows, auipc_rows, jal_rows, jalr_rows}
use Rattle.rv_decode.specs.Table.{branch_rows, load_rows, store_rows, imm_rows}
use Rattle.rv_decode.specs.Table.{op_rows, fence_rows, system_rows, time_rows}
use Rattle.rv_exec.specs.Words.{bitwise}
use Rattle.rv_exec.specs.Alu.{alu_result, alu_result_with, shift_result, mul_result}
use Rattle.rv_exec.specs.Access.{loaded_value, lanes_at, merged_word}
use Rattle.rv_exec.specs.Result.{is_taken, result_of}
use Rattle.rv_exec.specs.declared.outcome.Event.{Event}
use Rattle.rv_exec.specs.declared.outcome.Effect.TheVariants.{Nothing, Reg, Trap}
use Rattle.region_guard.specs.Regions.{region_kind, region_of, index_of}
use Rattle.region_guard.specs.Regions.{may_fetch, may_load, may_store}
use Rattle.slot_table.specs.Frame.{frame, turn}
use Rattle.slot_table.specs.Table.{is_table}
use Rattle.region_guard.specs.RegionsWord.{is_regions}
use Rattle.slot_scheduler.specs.Picking.{is_awake, after_last, donation, pick}
use Rattle.core_model.specs.Thread.{fresh}
use Rattle.core_model.specs.Outcomes.{load, store, branch}
use Rattle.core_model.specs.Waiting.{delay, wait}
use Rattle.core_model.specs.Csr.{csr_update, may_hold, csr_access}
use Rattle.core_model.specs.Issue.{execute_untrapped, run_at, execute_in}
use Rattle.core_model.specs.Issue.{execute_word, effect_of, issue}
use Rattle.core_model.specs.Memory.{code_at, data_at}
use Rattle.core_model.specs.View.{environment_by}
use Rattle.core_model.specs.Solo.{may_go, solo_turn, solo_at, solo}
use Rattle.core_model.specs.World.{Start, environment, after_turn, recent, world, events}
use Rattle.core_model.specs.Viewed.{setting_of, view}
use Rattle.test_worlds.specs.Base.{words, base, at}

-- memory outside of the image
empty : Start
empty = base ([])

empty-0-trace : List Event
empty-0-trace =
    at 0 0 0x00 0x00000000 (Trap 2 0x0)
    ∷ at 0 3 0x00 0x00000000 (Trap 2 0x0) ∷ []

empty-0 : (events empty 0 8 ≡ empty-0-trace) × (solo (view empty 0) 8 ≡ empty-0-trace)
unfolding empty empty-0-trace ins rows lui_rows auipc_rows jal_rows jalr_rows branch_rows load_rows
    store_rows imm_rows op_rows fence_rows system_rows time_rows bitwise alu_result alu_result_with
    shift_result mul_result is_taken loaded_value lanes_at merged_word result_of nibbles
    region_kind region_of index_of may_fetch may_load may_store frame turn is_table is_regions
    is_awake after_last donation pick load store branch delay wait csr_update may_hold csr_access
    execute_untrapped run_at execute_in execute_word effect_of issue code_at data_at environment
    after_turn recent world environment_by may_go solo_turn solo_at setting_of view
empty-0 = (refl, refl)

-- a jump to an address that is no multiple of four
misaligned : Start
misaligned = base ((0x01000293 ∷ 0x001280e7 ∷ 0x00000000 ∷ 0x00000000 ∷ 0x002280e7 ∷ []))

misaligned-0-trace : List Event
misaligned-0-trace =
    at 0 0 0x00 0x01000293 (Reg 5 0x10)
    ∷ at 0 1 0x04 0x001280e7 (Reg 1 0x8)
    ∷ at 0 4 0x10 0x002280e7 (Trap 0 0x0) ∷ []

misaligned-0 : (events misaligned 0 9 ≡ misaligned-0-trace)
    × (solo (view misaligned 0) 9 ≡ misaligned-0-trace)
unfolding misaligned misaligned-0-trace ins rows lui_rows auipc_rows jal_rows jalr_rows branch_rows
    load_rows store_rows imm_rows op_rows fence_rows system_rows time_rows bitwise alu_result
    alu_result_with shift_result mul_result is_taken loaded_value lanes_at merged_word result_of
    nibbles region_kind region_of index_of may_fetch may_load may_store frame turn is_table
    is_regions is_awake after_last donation pick load store branch delay wait csr_update may_hold
    csr_access execute_untrapped run_at execute_in execute_word effect_of issue code_at data_at
    environment after_turn recent world environment_by may_go solo_turn solo_at setting_of view
misaligned-0 = (refl, refl)

-- multiplication and division
divided : Start
divided = base ((0xff900093 ∷ 0x00200113 ∷ 0x0220c1b3 ∷ 0x0220e233 ∷ 0x022092b3 ∷ 0x0200d333 ∷ []))

divided-0-trace : List Event
divided-0-trace =
    at 0 0 0x00 0xff900093 (Reg 1 0xfffffff9)
    ∷ at 0 1 0x04 0x00200113 (Reg 2 0x2)
    ∷ at 0 2 0x08 0x0220c1b3 (Reg 3 0xfffffffd)
    ∷ at 0 4 0x0c 0x0220e233 (Reg 4 0xffffffff)
    ∷ at 0 6 0x10 0x022092b3 (Reg 5 0xffffffff)
    ∷ at 0 8 0x14 0x0200d333 (Reg 6 0xffffffff) ∷ []

divided-0 : (events divided 0 13 ≡ divided-0-trace) × (solo (view divided 0) 13 ≡ divided-0-trace)
unfolding divided divided-0-trace ins rows lui_rows auipc_rows jal_rows jalr_rows branch_rows
    load_rows store_rows imm_rows op_rows fence_rows system_rows time_rows bitwise alu_result
    alu_result_with shift_result mul_result is_taken loaded_value lanes_at merged_word result_of
    nibbles region_kind region_of index_of may_fetch may_load may_store frame turn is_table
    is_regions is_awake after_last donation pick load store branch delay wait csr_update may_hold
    csr_access execute_untrapped run_at execute_in execute_word effect_of issue code_at data_at
    environment after_turn recent world environment_by may_go solo_turn solo_at setting_of view
divided-0 = (refl, refl)

-- a scratchpad of 65,536 bytes
large : Start
large =
    record (base ([])) {
      size = 65536;
      threads =
          (fresh 0x8000 ∷ fresh 0x0 ∷ fresh 0x0 ∷ fresh 0x0 ∷ fresh 0x0 ∷ fresh 0x0 ∷ fresh 0x0
          ∷ fresh 0x0 ∷ []);
      d_words = words 65536 [];
      i_words = words 65536 (replicate 8192 0x0 ++ (0x00100293 ∷ []));
    }

large-0-trace : List Event
large-0-trace =
    at 0 0 0x8000 0x00100293 (Reg 5 0x1) ∷ []

large-0 : (events large 0 5 ≡ large-0-trace) × (solo (view large 0) 5 ≡ large-0-trace)
unfolding large large-0-trace ins rows lui_rows auipc_rows jal_rows jalr_rows branch_rows load_rows
    store_rows imm_rows op_rows fence_rows system_rows time_rows bitwise alu_result alu_result_with
    shift_result mul_result is_taken loaded_value lanes_at merged_word result_of nibbles
    region_kind region_of index_of may_fetch may_load may_store frame turn is_table is_regions
    is_awake after_last donation pick load store branch delay wait csr_update may_hold csr_access
    execute_untrapped run_at execute_in execute_word effect_of issue code_at data_at environment
    after_turn recent world environment_by may_go solo_turn solo_at setting_of view
large-0 = (refl, refl)

-- an absent port reads as ones
unplugged : Start
unplugged =
    record (base ((0x40000137 ∷ 0x00012283 ∷ 0xffdff06f ∷ []))) {
      shown =
          ((replicate 50 0x7 ++ replicate 6 0xffffffff) ∷ replicate 56 0x0 ∷ replicate 56 0x0
          ∷ replicate 56 0x0 ∷ replicate 56 0x0 ∷ replicate 56 0x0 ∷ replicate 56 0x0
          ∷ replicate 56 0x0 ∷ []);
      unplugs = (Some 50 ∷ None ∷ None ∷ None ∷ None ∷ None ∷ None ∷ None ∷ []);
    }

unplugged-0-trace : List Event
unplugged-0-trace =
    at 0 0 0x00 0x40000137 (Reg 2 0x40000000)
    ∷ at 0 1 0x04 0x00012283 (Reg 5 0x7)
    ∷ at 0 3 0x08 0xffdff06f Nothing
    ∷ at 0 6 0x04 0x00012283 (Reg 5 0x7)
    ∷ at 0 8 0x08 0xffdff06f Nothing
    ∷ at 0 11 0x04 0x00012283 (Reg 5 0x7)
    ∷ at 0 13 0x08 0xffdff06f Nothing
    ∷ at 0 16 0x04 0x00012283 (Reg 5 0x7)
    ∷ at 0 18 0x08 0xffdff06f Nothing
    ∷ at 0 21 0x04 0x00012283 (Reg 5 0x7)
    ∷ at 0 23 0x08 0xffdff06f Nothing
    ∷ at 0 26 0x04 0x00012283 (Reg 5 0x7)
    ∷ at 0 28 0x08 0xffdff06f Nothing
    ∷ at 0 31 0x04 0x00012283 (Reg 5 0x7)
    ∷ at 0 33 0x08 0xffdff06f Nothing
    ∷ at 0 36 0x04 0x00012283 (Reg 5 0x7)
    ∷ at 0 38 0x08 0xffdff06f Nothing
    ∷ at 0 41 0x04 0x00012283 (Reg 5 0x7)
    ∷ at 0 43 0x08 0xffdff06f Nothing
    ∷ at 0 46 0x04 0x00012283 (Reg 5 0x7)
    ∷ at 0 48 0x08 0xffdff06f Nothing
    ∷ at 0 51 0x04 0x00012283 (Reg 5 0xffffffff) ∷ []

unplugged-0 : (events unplugged 0 56 ≡ unplugged-0-trace)
    × (solo (view unplugged 0) 56 ≡ unplugged-0-trace)
unfolding unplugged unplugged-0-trace ins rows lui_rows auipc_rows jal_rows jalr_rows branch_rows
    load_rows store_rows imm_rows op_rows fence_rows system_rows time_rows bitwise alu_result
    alu_result_with shift_result mul_result is_taken loaded_value lanes_at merged_word result_of
    nibbles region_kind region_of index_of may_fetch may_load may_store frame turn is_table
    is_regions is_awake after_last donation pick load store branch delay wait csr_update may_hold
    csr_access execute_untrapped run_at execute_in execute_word effect_of issue code_at data_at
    environment after_turn recent world environment_by may_go solo_turn solo_at setting_of view
unplugged-0 = (refl, refl)

-- a port's word is that of the issue's cycle
wave : Start
wave =
    record (base ((0x40000137 ∷ 0x00012283 ∷ 0xffdff06f ∷ []))) {
      shown =
          ((replicate 4 0x0 ++ replicate 4 0x1 ++ replicate 3 0x0) ∷ replicate 11 0x0
          ∷ replicate 11 0x0 ∷ replicate 11 0x0 ∷ replicate 11 0x0 ∷ replicate 11 0x0
          ∷ replicate 11 0x0 ∷ replicate 11 0x0 ∷ []);
    }

wave-0-trace : List Event
wave-0-trace =
    at 0 0 0x00 0x40000137 (Reg 2 0x40000000)
    ∷ at 0 1 0x04 0x00012283 (Reg 5 0x0)
    ∷ at 0 3 0x08 0xffdff06f Nothing
    ∷ at 0 6 0x04 0x00012283 (Reg 5 0x1) ∷ []

wave-0 : (events wave 0 11 ≡ wave-0-trace) × (solo (view wave 0) 11 ≡ wave-0-trace)
unfolding wave wave-0-trace ins rows lui_rows auipc_rows jal_rows jalr_rows branch_rows load_rows
    store_rows imm_rows op_rows fence_rows system_rows time_rows bitwise alu_result alu_result_with
    shift_result mul_result is_taken loaded_value lanes_at merged_word result_of nibbles
    region_kind region_of index_of may_fetch may_load may_store frame turn is_table is_regions
    is_awake after_last donation pick load store branch delay wait csr_update may_hold csr_access
    execute_untrapped run_at execute_in execute_word effect_of issue code_at data_at environment
    after_turn recent world environment_by may_go solo_turn solo_at setting_of view
wave-0 = (refl, refl)
