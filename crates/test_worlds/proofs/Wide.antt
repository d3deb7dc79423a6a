-- Threads that aren't confined, and the words that their loads find in regions that others may
-- write.
use Rattle.std.proofs.Common.{◌≡◌, true, false, [], ◌∷◌, ◌++◌, None, Some, refl, replicate}
use Rattle.slot_table.specs.Nibbles.{nibbles}
use Rattle.rv_decode.specs.Table.{ins, rows, lui_rows, auipc_rows, jal_rows, jalr_rows}
use Rattle.rv_decode.specs.Table.{branch_rows, load_rows, store_rows, imm_rows}
use Rattle.rv_decode.specs.Table.{op_rows, fence_rows, system_rows, time_rows}
use Rattle.rv_exec.specs.Words.{bitwise}
use Rattle.rv_exec.specs.Alu.{alu_result, alu_result_with, shift_result, mul_result}
use Rattle.rv_exec.specs.Access.{loaded_value, lanes_at, merged_word}
use Rattle.rv_exec.specs.Result.{is_taken, result_of}
use Rattle.rv_exec.specs.declared.outcome.Effect.TheVariants.{Nothing, Reg, Csr, Trap}
use Rattle.region_guard.specs.Regions.{region_kind, region_of, index_of}
use Rattle.region_guard.specs.Regions.{may_fetch, may_load, may_store}
use Rattle.slot_table.specs.Frame.{frame, turn}
use Rattle.slot_table.specs.Table.{is_table}
use Rattle.region_guard.specs.RegionsWord.{is_regions}
use Rattle.slot_scheduler.specs.Picking.{is_awake, after_last, donation, pick}
use Rattle.core_model.specs.Thread.{fresh}
use Rattle.core_model.specs.Outcomes.{load, store, branch}
use Rattle.core_model.specs.Waiting.{delay, wait}
use Rattle.core_model.specs.Csr.{csr_update, may_hold, csr_access}
use Rattle.core_model.specs.Issue.{execute_untrapped, run_at, execute_in}
use Rattle.core_model.specs.Issue.{execute_word, effect_of, issue}
use Rattle.core_model.specs.Memory.{code_at, data_at}
use Rattle.core_model.specs.View.{environment_by}
use Rattle.core_model.specs.Solo.{may_go, solo_turn, solo_at}
use Rattle.core_model.specs.World.{Start, environment, after_turn, recent, world}
use Rattle.core_model.specs.Viewed.{setting_of, view}
use Rattle.isolation.specs.Wide.{found_from, wide_view, around_wide, data_wide}
use Rattle.isolation.specs.Wide.{issue_wide, wide_turn, wide_at, wide_solo}
use Rattle.test_worlds.specs.Base.{words, base, at}

-- a thread that isn't confined loads from a shared region
loads_shared : Start
loads_shared =
    record (base ((0x200010b7 ∷ 0x0000a103 ∷ []))) {
      confined = (false ∷ false ∷ false ∷ false ∷ false ∷ false ∷ false ∷ false ∷ []);
      registers = record {
        slots = 0xffff3210;
        modes = 0xfffc;
        dregions = 0xccccc810;
        iregions = 0xcccccccc;
      };
    }

loads_shared-0-found : found_from loads_shared 0 0 9 ≡ 0x0 ∷ []
unfolding loads_shared ins rows lui_rows auipc_rows jal_rows jalr_rows branch_rows load_rows
    store_rows imm_rows op_rows fence_rows system_rows time_rows bitwise alu_result alu_result_with
    shift_result mul_result is_taken loaded_value lanes_at merged_word result_of nibbles
    region_kind region_of index_of may_fetch may_load may_store frame turn is_table is_regions
    is_awake after_last donation pick load store branch delay wait csr_update may_hold csr_access
    execute_untrapped run_at execute_in execute_word effect_of issue code_at data_at environment
    after_turn recent world found_from
loads_shared-0-found = refl

loads_shared-0 : wide_solo (wide_view loads_shared 0 9) 9 ≡
    at 0 0 0x00 0x200010b7 (Reg 1 0x20001000)
    ∷ at 0 4 0x04 0x0000a103 (Reg 2 0x0) ∷ []
unfolding loads_shared ins rows lui_rows auipc_rows jal_rows jalr_rows branch_rows load_rows
    store_rows imm_rows op_rows fence_rows system_rows time_rows bitwise alu_result alu_result_with
    shift_result mul_result is_taken loaded_value lanes_at merged_word result_of nibbles
    region_kind region_of index_of may_fetch may_load may_store frame turn is_table is_regions
    is_awake after_last donation pick load store branch delay wait csr_update may_hold csr_access
    execute_untrapped run_at execute_in execute_word effect_of issue code_at data_at environment
    after_turn recent world environment_by may_go solo_turn solo_at setting_of view found_from
    wide_view around_wide data_wide issue_wide wide_turn wide_at
loads_shared-0 = refl

-- with a permit it reads the slots and the modes
reads_modes : Start
reads_modes =
    record (base ((0x7c0020f3 ∷ 0x7c1020f3 ∷ 0x00100113 ∷ []))) {
      confined = (false ∷ false ∷ false ∷ false ∷ false ∷ false ∷ false ∷ false ∷ []);
      permit = (true ∷ false ∷ false ∷ false ∷ false ∷ false ∷ false ∷ false ∷ []);
    }

reads_modes-0-found : found_from reads_modes 0 0 12 ≡ []
unfolding reads_modes ins rows lui_rows auipc_rows jal_rows jalr_rows branch_rows load_rows
    store_rows imm_rows op_rows fence_rows system_rows time_rows bitwise alu_result alu_result_with
    shift_result mul_result is_taken loaded_value lanes_at merged_word result_of nibbles
    region_kind region_of index_of may_fetch may_load may_store frame turn is_table is_regions
    is_awake after_last donation pick load store branch delay wait csr_update may_hold csr_access
    execute_untrapped run_at execute_in execute_word effect_of issue code_at data_at environment
    after_turn recent world found_from
reads_modes-0-found = refl

reads_modes-0 : wide_solo (wide_view reads_modes 0 12) 12 ≡
    at 0 0 0x00 0x7c0020f3 (Reg 1 0xfffffff0)
    ∷ at 0 3 0x04 0x7c1020f3 (Reg 1 0xfffc)
    ∷ at 0 6 0x08 0x00100113 (Reg 2 0x1)
    ∷ at 0 7 0x0c 0x00000000 (Trap 2 0x0) ∷ []
unfolding reads_modes ins rows lui_rows auipc_rows jal_rows jalr_rows branch_rows load_rows
    store_rows imm_rows op_rows fence_rows system_rows time_rows bitwise alu_result alu_result_with
    shift_result mul_result is_taken loaded_value lanes_at merged_word result_of nibbles
    region_kind region_of index_of may_fetch may_load may_store frame turn is_table is_regions
    is_awake after_last donation pick load store branch delay wait csr_update may_hold csr_access
    execute_untrapped run_at execute_in execute_word effect_of issue code_at data_at environment
    after_turn recent world environment_by may_go solo_turn solo_at setting_of view found_from
    wide_view around_wide data_wide issue_wide wide_turn wide_at
reads_modes-0 = refl

-- seed 762, 50 cycles
random_762 : Start
random_762 =
    record (base ((0x000007b7 ∷ 0x05078793 ∷ 0x30579073 ∷ 0x20001537 ∷ 0xff050513 ∷ 0x200035b7
    ∷ 0x80058593 ∷ 0x40000637 ∷ 0x00060613 ∷ 0x000006b7 ∷ 0x02468693 ∷ 0x0000070b ∷ 0x01670713
    ∷ 0x00e0400b ∷ 0x00f70713 ∷ 0x00e0200b ∷ 0x01852083 ∷ 0x01852083 ∷ 0x00d2d393 ∷ 0x01f1d313
    ∷ 0xf1406373 ∷ 0x0025c003 ∷ 0x00019523 ∷ 0x0ff0000f ∷ 0x00054083 ∷ 0x0000008b ∷ 0x0002e063
    ∷ 0x0000070b ∷ 0xffe70713 ∷ 0x00e0300b ∷ 0x0221f1b3 ∷ 0x0051ec63 ∷ 0x01701113 ∷ 0xb9d26313
    ∷ 0x00855303 ∷ 0x0000070b ∷ 0x00770713 ∷ 0x00e0300b ∷ 0x00662023 ∷ 0x40628133 ∷ 0x004220b3
    ∷ 0xc8552223 ∷ 0x01068167 ∷ 0x42200193 ∷ 0x000683e7 ∷ 0x0000070b ∷ 0x01470713 ∷ 0x00e0300b
    ∷ 0x0000070b ∷ 0x01870713 ∷ 0x00e0200b ∷ 0x0000070b ∷ 0x08470713 ∷ 0x00e0400b ∷ 0x00351223
    ∷ 0x006581a3 ∷ 0x10528093 ∷ 0x0000c1b3 ∷ 0xc023e293 ∷ 0x8fb02213 ∷ 0x0015c303 ∷ 0xfe2194e3
    ∷ 0x34103173 ∷ 0x6b910293 ∷ 0x01852003 ∷ 0x00700033 ∷ 0x00052423 ∷ 0x00501463 ∷ 0x054ea117
    ∷ 0x00151323 ∷ 0x02106333 ∷ 0x0055a423 ∷ 0xfe721ce3 ∷ 0x01852083 ∷ 0x01452103 ∷ 0x00710333
    ∷ 0x00252223 ∷ 0x00411463 ∷ 0x97b1c393 ∷ 0xa116e173 ∷ 0xef9ff06f ∷ []) ++ replicate 431 0x0
    ++ (0x000017b7 ∷ 0x83878793 ∷ 0x30579073 ∷ 0x00004537 ∷ 0xff850513 ∷ 0x200045b7 ∷ 0xff058593
    ∷ 0x40000637 ∷ 0x00060613 ∷ 0x000016b7 ∷ 0x82c68693 ∷ 0x00052823 ∷ 0x0000070b ∷ 0x00070713
    ∷ 0x00e0400b ∷ 0x40220033 ∷ 0x00855383 ∷ 0x00530463 ∷ 0x00052083 ∷ 0x000080b3 ∷ 0x00152623
    ∷ 0x00509463 ∷ 0x80f28093 ∷ 0x0000070b ∷ 0xfc370713 ∷ 0x00e0400b ∷ 0x02a70713 ∷ 0x00e0200b
    ∷ 0x42c59103 ∷ 0x30200073 ∷ 0x4020d193 ∷ 0x01052103 ∷ 0x00410033 ∷ 0x00252c23 ∷ 0x00511463
    ∷ 0x02703133 ∷ 0x0000070b ∷ 0x09270713 ∷ 0x00e0200b ∷ 0xfe411ae3 ∷ 0xfbdff06f ∷ [])
    ++ replicate 471 0x0 ++ (0x000017b7 ∷ 0x02c78793 ∷ 0x30579073 ∷ 0x20000537 ∷ 0x7f050513
    ∷ 0x200035b7 ∷ 0x80058593 ∷ 0x40000637 ∷ 0x00060613 ∷ 0x000016b7 ∷ 0x07468693 ∷ 0xfedff2ef
    ∷ 0x79b24393 ∷ 0x00769123 ∷ 0x0020400b ∷ 0x0000070b ∷ 0x01570713 ∷ 0x00e0400b ∷ 0x0000070b
    ∷ 0x01970713 ∷ 0x00e0300b ∷ 0x34107273 ∷ 0x2b430293 ∷ 0x3420d073 ∷ 0x00c1d293 ∷ 0x340021f3
    ∷ 0x00451523 ∷ 0x0000500b ∷ 0x000371b3 ∷ 0x405202b3 ∷ 0x00852303 ∷ 0x004303b3 ∷ 0x00652223
    ∷ 0x00531463 ∷ 0x20001537 ∷ 0x80050513 ∷ 0x200035b7 ∷ 0xff058593 ∷ 0x40000637 ∷ 0x00060613
    ∷ 0x000016b7 ∷ 0x04068693 ∷ 0x41c0d293 ∷ 0x0000070b ∷ 0x0be70713 ∷ 0x00e0200b ∷ 0x00000537
    ∷ 0x00050513 ∷ 0x200005b7 ∷ 0x7f058593 ∷ 0x40000637 ∷ 0x00060613 ∷ 0x000016b7 ∷ 0x03868693
    ∷ 0x7c0060f3 ∷ 0x0010300b ∷ 0x002680a3 ∷ 0x00062183 ∷ 0x00150283 ∷ 0x0016a023 ∷ 0x010681e7
    ∷ 0x00255003 ∷ 0x0030400b ∷ 0x025253b3 ∷ 0x00252c23 ∷ 0x342012f3 ∷ 0x35532113 ∷ 0x01852083
    ∷ 0x00108033 ∷ 0x00152623 ∷ 0x00309463 ∷ 0x00658383 ∷ 0x0000070b ∷ 0x0bd70713 ∷ 0x00e0300b
    ∷ 0x00504363 ∷ 0x0000070b ∷ 0x04170713 ∷ 0x00e0200b ∷ 0x0005ac23 ∷ 0x6205a423 ∷ 0x84252a23
    ∷ 0x0025d283 ∷ 0x0066a223 ∷ 0x30200073 ∷ 0x3e23b213 ∷ 0x000083e7 ∷ 0x00c52283 ∷ 0x001282b3
    ∷ 0x00552e23 ∷ 0x00729463 ∷ 0x41d2d193 ∷ 0x00452183 ∷ 0x0000070b ∷ 0x04070713 ∷ 0x00e0300b
    ∷ 0x9d316017 ∷ 0xfa407213 ∷ 0x00451003 ∷ 0x01852003 ∷ 0x006000b3 ∷ 0x00052423 ∷ 0x00401463
    ∷ 0x0000030b ∷ 0x4133d313 ∷ 0x0000070b ∷ 0x09270713 ∷ 0x00e0200b ∷ 0x3406b373 ∷ 0xe8b03313
    ∷ 0x00b01093 ∷ 0x02619233 ∷ 0x010001ef ∷ 0x34650c23 ∷ 0x00458323 ∷ 0x00052103 ∷ 0x0000070b
    ∷ 0x01470713 ∷ 0x00e0200b ∷ 0x20001537 ∷ 0x80050513 ∷ 0x200045b7 ∷ 0x80058593 ∷ 0x40000637
    ∷ 0x00060613 ∷ 0x000026b7 ∷ 0x03068693 ∷ 0x004681e7 ∷ 0x73bb9337 ∷ 0x3410e373 ∷ 0x00c52383
    ∷ 0x00638033 ∷ 0x00752e23 ∷ 0x00539463 ∷ 0xf5f6800f ∷ 0x00455283 ∷ 0x00068023 ∷ 0x0016c383
    ∷ 0x4750e013 ∷ 0x40a2d313 ∷ 0x00605263 ∷ 0x00052003 ∷ 0x00554103 ∷ 0x00650183 ∷ 0x2623f293
    ∷ 0xfe32f4e3 ∷ 0x002160b3 ∷ 0x00a39293 ∷ 0x01c52303 ∷ 0x004301b3 ∷ 0x00652e23 ∷ 0x00031463
    ∷ 0x0000100f ∷ 0x00062383 ∷ 0x0003b333 ∷ 0x00451423 ∷ 0x00317263 ∷ 0x20000537 ∷ 0x00050513
    ∷ 0x200045b7 ∷ 0xff058593 ∷ 0x40000637 ∷ 0x00060613 ∷ 0x000036b7 ∷ 0x01468693 ∷ 0xfadff06f ∷ [])
    ++ replicate 858 0x0 ++ (0x000027b7 ∷ 0x03078793 ∷ 0x30579073 ∷ 0x20003537 ∷ 0x00050513
    ∷ 0x200035b7 ∷ 0x80058593 ∷ 0x40000637 ∷ 0x00060613 ∷ 0x000026b7 ∷ 0x00068693 ∷ 0x00769223
    ∷ 0x0000070b ∷ 0x01670713 ∷ 0x00e0400b ∷ 0x02a70713 ∷ 0x00e0300b ∷ 0x00034863 ∷ 0x0000070b
    ∷ 0x00770713 ∷ 0x00e0300b ∷ 0x004683e7 ∷ 0x00250323 ∷ 0x00658383 ∷ 0x76752ba3 ∷ 0x00c6d383
    ∷ 0xc8420113 ∷ 0x3260df9d ∷ 0x30569373 ∷ 0x00161023 ∷ 0x001271b3 ∷ 0x00259003 ∷ 0x008083e7
    ∷ 0x7c520213 ∷ 0x00e55083 ∷ 0x027240b3 ∷ 0x63a55303 ∷ 0x0001c00b ∷ 0x00064383 ∷ 0x19702193
    ∷ 0x0071c063 ∷ 0x00509263 ∷ 0x003203b3 ∷ 0x0075a023 ∷ 0x00452303 ∷ 0x00558203 ∷ 0x00064383
    ∷ 0x00255383 ∷ 0x00a55283 ∷ 0x0020c2b3 ∷ 0x4162d293 ∷ 0x00027e63 ∷ 0x025313b3 ∷ 0xcbc58103
    ∷ 0x0000128b ∷ 0x00064203 ∷ 0x8e5584a3 ∷ 0x0000070b ∷ 0x03b70713 ∷ 0x00e0400b ∷ 0x00f70713
    ∷ 0x00e0300b ∷ 0x01862203 ∷ 0x0000010b ∷ 0x0076a423 ∷ 0xc3f3c193 ∷ 0x0006a623 ∷ 0x008000ef
    ∷ 0x0041b233 ∷ 0x4a702293 ∷ 0x0000070b ∷ 0x00670713 ∷ 0x00e0400b ∷ 0x01b70713 ∷ 0x00e0200b
    ∷ 0x20003537 ∷ 0x00050513 ∷ 0x200035b7 ∷ 0x80058593 ∷ 0x40000637 ∷ 0x00060613 ∷ 0x000026b7
    ∷ 0x01468693 ∷ 0x0000070b ∷ 0x1a370713 ∷ 0x00e0300b ∷ 0x00009063 ∷ 0x00062203 ∷ 0x00064203
    ∷ 0x00052083 ∷ 0x004082b3 ∷ 0x00152623 ∷ 0x00709463 ∷ 0x0240b133 ∷ 0x305693f3 ∷ 0x00451223
    ∷ 0x007500a3 ∷ 0x00c52103 ∷ 0x00054283 ∷ 0x0000070b ∷ 0x00970713 ∷ 0x00e0200b ∷ 0xf146f273
    ∷ 0x000682e7 ∷ 0x4420e013 ∷ 0x0000070b ∷ 0x01570713 ∷ 0x00e0300b ∷ 0x3056e1f3 ∷ 0x00208367
    ∷ 0x00501c63 ∷ 0x30569073 ∷ 0x0000100b ∷ 0x0000070b ∷ 0x01270713 ∷ 0x00e0200b ∷ 0x00011663
    ∷ 0xfe7288e3 ∷ 0x0000070b ∷ 0x0bd70713 ∷ 0x00e0200b ∷ 0x00100073 ∷ 0x801ff06f ∷ 0x00652023
    ∷ 0x01f1d013 ∷ 0x0085d003 ∷ 0xbcc3c093 ∷ 0xfe3176e3 ∷ 0x0000070b ∷ 0x1a570713 ∷ 0x00e0200b
    ∷ 0x0000300b ∷ 0xfc916093 ∷ 0xfe6194e3 ∷ 0xb9920093 ∷ 0x30523373 ∷ 0x00c52103 ∷ 0x0000070b
    ∷ 0xff870713 ∷ 0x00e0200b ∷ 0x27c2b213 ∷ 0x00750083 ∷ 0x4171d313 ∷ 0xc7273337 ∷ 0x00064003
    ∷ 0xb0550a23 ∷ 0xff1ff06f ∷ 0x0000018b ∷ 0x00c6a083 ∷ 0x34b30093 ∷ 0x00468023 ∷ 0x01c52283
    ∷ 0x00628233 ∷ 0x00552223 ∷ 0x00029463 ∷ 0x004023b3 ∷ 0xfe2114e3 ∷ 0x0026c383 ∷ 0x0063c00b
    ∷ 0x20003537 ∷ 0x00050513 ∷ 0x200015b7 ∷ 0x7f058593 ∷ 0x40000637 ∷ 0x00060613 ∷ 0x000026b7
    ∷ 0x00868693 ∷ 0xec1ff06f ∷ []) ++ replicate 344 0x0 ++ (0x20004537 ∷ 0x80050513
    ∷ 0x200005b7 ∷ 0x00058593 ∷ 0x40000637 ∷ 0x00060613 ∷ 0x000036b7 ∷ 0x86c68693 ∷ 0x00c52303
    ∷ 0x000302b3 ∷ 0x00652823 ∷ 0x00131463 ∷ 0x00252623 ∷ 0x0000070b ∷ 0x0bf70713 ∷ 0x00e0300b
    ∷ 0x65926393 ∷ 0x0031e863 ∷ 0x7c0072f3 ∷ 0x0000070b ∷ 0x00e70713 ∷ 0x00e0400b ∷ 0x02a70713
    ∷ 0x00e0300b ∷ 0x00062203 ∷ 0x00001863 ∷ 0x0000070b ∷ 0x01470713 ∷ 0x00e0300b ∷ 0x00535063
    ∷ 0x00a0026f ∷ 0x00308267 ∷ 0xfe706ce3 ∷ 0x00136263 ∷ 0x01852303 ∷ 0x23923113 ∷ 0x72e55183
    ∷ 0x00151523 ∷ 0x3406d3f3 ∷ 0x001050b3 ∷ 0x01019293 ∷ 0x3426e0f3 ∷ 0xfe50dee3 ∷ 0x00468167
    ∷ 0x0000100b ∷ 0x002682e7 ∷ 0x403183b3 ∷ 0x0072f233 ∷ 0x05850383 ∷ 0x00407263 ∷ 0x15e00313
    ∷ 0xfe6218e3 ∷ 0x7c3032f3 ∷ 0x0000070b ∷ 0x00c70713 ∷ 0x00e0300b ∷ 0x0085a303 ∷ 0xaf234393
    ∷ 0x0011e233 ∷ 0x60e13093 ∷ 0x44d3c293 ∷ 0x34205073 ∷ 0xf5d00213 ∷ 0x00f35293 ∷ 0x20001537
    ∷ 0x00050513 ∷ 0x200005b7 ∷ 0x00058593 ∷ 0x40000637 ∷ 0x00060613 ∷ 0x000026b7 ∷ 0x07c68693
    ∷ 0x01205293 ∷ 0x00c52003 ∷ 0x00400033 ∷ 0x00052c23 ∷ 0x00501463 ∷ 0xb601b013 ∷ 0x00154383
    ∷ 0x00a59103 ∷ 0x00461023 ∷ 0x00062283 ∷ 0xdad0e293 ∷ 0x00051523 ∷ 0x5ff05217 ∷ 0x7c2071f3
    ∷ 0x00552223 ∷ 0x4112d193 ∷ 0x02222133 ∷ 0x94cd2b14 ∷ 0x00558283 ∷ 0x00652e23 ∷ 0x20004537
    ∷ 0xff050513 ∷ 0x200015b7 ∷ 0x7f058593 ∷ 0x40000637 ∷ 0x00060613 ∷ 0x000036b7 ∷ 0x82068693
    ∷ 0x002501a3 ∷ 0x0233e133 ∷ 0x0145a183 ∷ 0x00751223 ∷ 0x0106a203 ∷ 0x00225333 ∷ 0x0052c463
    ∷ 0x0000070b ∷ 0xfc270713 ∷ 0x00e0300b ∷ 0x40a10193 ∷ 0x00238033 ∷ 0xef512193 ∷ 0x34106073
    ∷ 0x40835193 ∷ 0x00052283 ∷ 0x00228133 ∷ 0x00552623 ∷ 0x00129463 ∷ 0x4032d213 ∷ 0x20004537
    ∷ 0xff850513 ∷ 0x200005b7 ∷ 0x00058593 ∷ 0x40000637 ∷ 0x00060613 ∷ 0x000026b7 ∷ 0x07468693
    ∷ 0xe2b2e293 ∷ 0x0000500b ∷ 0x00c5a383 ∷ 0x0242d333 ∷ 0x0065a823 ∷ 0x00c52383 ∷ 0xfe410313
    ∷ 0x41615193 ∷ 0x0075c103 ∷ 0x0000070b ∷ 0x06970713 ∷ 0x00e0200b ∷ 0x341692f3 ∷ 0x00150103
    ∷ 0x00052283 ∷ 0x00855303 ∷ 0xb5a161b7 ∷ 0x0070a2b3 ∷ 0x4116800f ∷ 0x00654203 ∷ 0x008083e7
    ∷ 0x20000537 ∷ 0x00050513 ∷ 0x200005b7 ∷ 0x7f058593 ∷ 0x40000637 ∷ 0x00060613 ∷ 0x000006b7
    ∷ 0x07c68693 ∷ 0x000083e7 ∷ 0x02739233 ∷ 0x0036a623 ∷ 0xf8dff06f ∷ []) ++ replicate 351 0x0
    ++ (0x000037b7 ∷ 0x04078793 ∷ 0x30579073 ∷ 0x20003537 ∷ 0x00050513 ∷ 0x200035b7 ∷ 0x00058593
    ∷ 0x40000637 ∷ 0x00060613 ∷ 0x000036b7 ∷ 0x07468693 ∷ 0xe1852183 ∷ 0x2f70c313 ∷ 0x00761023
    ∷ 0x0ff0000f ∷ 0x30200073 ∷ 0x0000070b ∷ 0x02370713 ∷ 0x00e0200b ∷ 0x7c207073 ∷ 0x20036093
    ∷ 0x00062383 ∷ 0x0000070b ∷ 0x00170713 ∷ 0x00e0200b ∷ 0x00852303 ∷ 0x00004a63 ∷ 0x00700a63
    ∷ 0x00152023 ∷ 0x3426a073 ∷ 0x00e59103 ∷ 0x57934313 ∷ 0x00128663 ∷ 0x0000070b ∷ 0x07a70713
    ∷ 0x00e0200b ∷ 0x6d736313 ∷ 0x00c52003 ∷ 0x005000b3 ∷ 0x00052023 ∷ 0x00701463 ∷ 0x0033b3b3
    ∷ 0x41d35193 ∷ 0x19d52203 ∷ 0x0050cc63 ∷ 0x0000120b ∷ 0x00328c63 ∷ 0x41618093 ∷ 0x014000ef
    ∷ 0x024360b3 ∷ 0x00751623 ∷ 0x63a3b2b7 ∷ 0x00554283 ∷ 0x01c52003 ∷ 0x002000b3 ∷ 0x00052e23
    ∷ 0x00501463 ∷ 0x00150303 ∷ 0x00368267 ∷ 0x0035c383 ∷ 0x01052383 ∷ 0x00338133 ∷ 0x00752223
    ∷ 0x00539463 ∷ 0x76218293 ∷ 0xfe52dae3 ∷ 0x00352023 ∷ 0x00c51383 ∷ 0x6e052083 ∷ 0x0073f263
    ∷ 0x73a0b193 ∷ 0x0075c183 ∷ 0x0033400b ∷ 0x00002537 ∷ 0x80050513 ∷ 0x200015b7 ∷ 0xff058593
    ∷ 0x40000637 ∷ 0x00060613 ∷ 0x000016b7 ∷ 0x07068693 ∷ 0x00254283 ∷ 0x00739013 ∷ 0x01c52183
    ∷ 0x00451303 ∷ 0x00154283 ∷ 0x00062383 ∷ 0x0185a283 ∷ 0x23a0b193 ∷ 0xff5ff26f ∷ 0x00568283
    ∷ 0x305693f3 ∷ 0xdaa00193 ∷ 0x4b9d83b7 ∷ 0xc30c2197 ∷ 0x0106a183 ∷ 0x0041e233 ∷ 0x00762023
    ∷ 0x0020200b ∷ 0x0021f333 ∷ 0x00431213 ∷ 0x02713033 ∷ 0x40615133 ∷ 0x010682e7 ∷ 0x00e5d103
    ∷ 0x01052183 ∷ 0x00418033 ∷ 0x00352023 ∷ 0x00419463 ∷ 0x0000038b ∷ 0x01452083 ∷ 0x00608033
    ∷ 0x00152c23 ∷ 0x00209463 ∷ 0x0010200b ∷ 0x0000070b ∷ 0x07b70713 ∷ 0x00e0400b ∷ 0x01b70713
    ∷ 0x00e0300b ∷ 0xc0d2b193 ∷ 0xfe0248e3 ∷ 0x0060d313 ∷ 0xcc530193 ∷ 0x00452003 ∷ 0x002002b3
    ∷ 0x00052c23 ∷ 0x00201463 ∷ 0x01719113 ∷ 0x00452303 ∷ 0x00330133 ∷ 0x00652823 ∷ 0x00731463
    ∷ 0x01052383 ∷ 0x00538133 ∷ 0x00752e23 ∷ 0x00439463 ∷ 0x1d816013 ∷ 0x0000070b ∷ 0x02470713
    ∷ 0x00e0200b ∷ 0x00315113 ∷ 0x7cf1e093 ∷ 0x01452183 ∷ 0x00518033 ∷ 0x00352a23 ∷ 0x00219463
    ∷ 0xfe71f6e3 ∷ 0x73513113 ∷ 0xfe1268e3 ∷ 0x006131b3 ∷ 0x90f20093 ∷ 0x0036a223 ∷ 0x024002ef
    ∷ 0x00661023 ∷ 0x0055a623 ∷ 0xfe4398e3 ∷ 0x0000100f ∷ 0xbce17013 ∷ 0x0025c303 ∷ 0xe91ff06f ∷ [])
    ++ replicate 351 0x0 ++ (0x000047b7 ∷ 0x84078793 ∷ 0x30579073 ∷ 0x20001537 ∷ 0x80050513
    ∷ 0x200015b7 ∷ 0x00058593 ∷ 0x40000637 ∷ 0x00060613 ∷ 0x000046b7 ∷ 0x80868693 ∷ 0x00859283
    ∷ 0x00115a63 ∷ 0xdac1f113 ∷ 0x0000070b ∷ 0x02570713 ∷ 0x00e0200b ∷ 0x003501a3 ∷ 0x0000070b
    ∷ 0x00370713 ∷ 0x00e0300b ∷ 0xfddff06f ∷ []))) {
      period = 3;
      threads =
          (fresh 0x0 ∷ fresh 0x1800 ∷ fresh 0x1000 ∷ fresh 0x800 ∷ fresh 0x2000 ∷ fresh 0x2800
          ∷ fresh 0x1800 ∷ fresh 0x3800 ∷ []);
      confined = (false ∷ true ∷ false ∷ true ∷ true ∷ false ∷ true ∷ true ∷ []);
      permit = (false ∷ false ∷ true ∷ false ∷ false ∷ false ∷ false ∷ false ∷ []);
      d_words =
          words 16384 ((0xbe8d28b6 ∷ 0xd4cceca1 ∷ 0x6ed1266b ∷ 0xd40e2eff ∷ []) ++ replicate 508 0x0
          ++ (0x9abb1031 ∷ 0x6a056a6c ∷ 0x814cc2a1 ∷ 0xdd303ca0 ∷ 0x5baae1e4 ∷ 0x2b6d41ad
          ∷ 0x53d5d822 ∷ 0x2cd3d1c5 ∷ 0xe6b2cdb9 ∷ 0x7c382dac ∷ 0xa29011e5 ∷ 0xced5b958 ∷ 0x53731467
          ∷ 0x631108db ∷ 0xae113516 ∷ 0x06f58b4c ∷ []) ++ replicate 496 0x0 ++ (0x24575e9e
          ∷ 0x96a348e8 ∷ 0x0d354a5c ∷ 0x515d04b0 ∷ 0xc6ef379d ∷ 0x0f8b5b14 ∷ 0x843fbeec ∷ 0x6c109947
          ∷ 0xf806c193 ∷ 0x5e681aa3 ∷ 0x0fa0feac ∷ 0x32c8d992 ∷ 0x06222b62 ∷ 0xfbefbd17
          ∷ 0x95197341 ∷ 0x6e7e32de ∷ []) ++ replicate 496 0x0 ++ (0x93d70508 ∷ 0x4370b8dd
          ∷ 0xee7f90e2 ∷ 0x430014b1 ∷ 0xc417d432 ∷ 0x0d148130 ∷ 0xd110d5ff ∷ 0x80dcca8a ∷ 0x37b631ca
          ∷ 0xf93ea024 ∷ 0x26830ae8 ∷ 0x06031bf3 ∷ 0x0e4b71e4 ∷ 0x7d6a6b24 ∷ 0x276e67b3 ∷ 0x51918267
          ∷ 0x55d07bb7 ∷ 0xcf8caef7 ∷ 0x2458e8c9 ∷ 0xcfe78d90 ∷ 0x9c07d4cf ∷ 0x13afe391 ∷ 0xb139f662
          ∷ 0xc3f9a809 ∷ 0x377c16df ∷ 0x07c08492 ∷ 0x00045979 ∷ 0x29c7b1b2 ∷ 0xe5003483 ∷ 0xa3c5cb10
          ∷ 0xa00e553c ∷ 0xf1e369a1 ∷ 0xac404c00 ∷ 0x0584cdcf ∷ 0x82b2df23 ∷ 0x52d7215d ∷ 0x83404d60
          ∷ 0x3c991b7f ∷ 0x5036b77f ∷ 0x4dd7e60b ∷ 0x9ad358af ∷ 0x31ece4fa ∷ 0x87e5c4d7 ∷ 0xe3821efa
          ∷ 0x19d4ebc6 ∷ 0x4034cb09 ∷ 0xc822ce78 ∷ 0x533e138b ∷ 0x8c94fbe2 ∷ 0x07084a19 ∷ 0x8899a165
          ∷ 0x1f103dd1 ∷ 0x56eb35c2 ∷ 0x106998e4 ∷ 0x9bb5e751 ∷ 0xcec86806 ∷ 0xa3280a28 ∷ 0xbf26ffda
          ∷ 0xd1a511e1 ∷ 0xc7b3878a ∷ 0x755b0c99 ∷ 0x950d2585 ∷ 0x4a5595a5 ∷ 0x0d8a26c0 ∷ [])
          ++ replicate 448 0x0 ++ (0x9635233e ∷ 0xe27ac05e ∷ 0x03086549 ∷ 0x889e6012 ∷ [])
          ++ replicate 508 0x0 ++ (0x7c868e10 ∷ 0x85f5ca8b ∷ 0xa683e31b ∷ 0xd89c917a ∷ 0x693a3c98
          ∷ 0xd3da4711 ∷ 0xf290eb8f ∷ 0x8fd1f462 ∷ 0xc513f1e3 ∷ 0xb5dd48c2 ∷ 0xc49f77b0 ∷ 0x18b815db
          ∷ 0xa598851e ∷ 0x6bd0d677 ∷ 0x16f2c26e ∷ 0x3af22f3d ∷ []));
      registers = record {
        slots = 0x0000ef00;
        modes = 0xcd30;
        dregions = 0x84813888;
        iregions = 0xc754cc30;
      };
      shown =
          ((replicate 5 0x0 ++ replicate 33 0x2036fa57 ++ replicate 2 0xc53e2866
          ++ replicate 10 0x1113bd50) ∷ replicate 50 0x0 ∷ replicate 50 0x0
          ∷ (replicate 20 0x0 ++ replicate 30 0x280a5d12) ∷ replicate 50 0x0
          ∷ (replicate 35 0x0 ++ replicate 15 0xe0659b6b)
          ∷ (replicate 3 0x0 ++ replicate 30 0x2eeea429 ++ replicate 17 0x37794ff1)
          ∷ replicate 50 0x0 ∷ []);
      unplugs = (Some 597 ∷ None ∷ None ∷ Some 590 ∷ Some 241 ∷ Some 169 ∷ None ∷ Some 494 ∷ []);
    }

random_762-0-found : found_from random_762 0 0 50 ≡ 0x7c868e10 ∷ 0x7c868e10 ∷ 0x7c868e10 ∷ []
unfolding random_762 ins rows lui_rows auipc_rows jal_rows jalr_rows branch_rows load_rows
    store_rows imm_rows op_rows fence_rows system_rows time_rows bitwise alu_result alu_result_with
    shift_result mul_result is_taken loaded_value lanes_at merged_word result_of nibbles
    region_kind region_of index_of may_fetch may_load may_store frame turn is_table is_regions
    is_awake after_last donation pick load store branch delay wait csr_update may_hold csr_access
    execute_untrapped run_at execute_in execute_word effect_of issue code_at data_at environment
    after_turn recent world found_from
random_762-0-found = refl

random_762-0 : wide_solo (wide_view random_762 0 50) 50 ≡
    at 0 0 0x00 0x000007b7 (Reg 15 0x0)
    ∷ at 0 1 0x04 0x05078793 (Reg 15 0x50)
    ∷ at 0 3 0x08 0x30579073 (Csr 0x305 0x50 0 0x0)
    ∷ at 0 6 0x0c 0x20001537 (Reg 10 0x20001000)
    ∷ at 0 7 0x10 0xff050513 (Reg 10 0x20000ff0)
    ∷ at 0 8 0x14 0x200035b7 (Reg 11 0x20003000)
    ∷ at 0 10 0x18 0x80058593 (Reg 11 0x20002800)
    ∷ at 0 11 0x1c 0x40000637 (Reg 12 0x40000000)
    ∷ at 0 12 0x20 0x00060613 (Reg 12 0x40000000)
    ∷ at 0 13 0x24 0x000006b7 (Reg 13 0x0)
    ∷ at 0 14 0x28 0x02468693 (Reg 13 0x24)
    ∷ at 0 15 0x2c 0x0000070b (Reg 14 0x2d)
    ∷ at 0 17 0x30 0x01670713 (Reg 14 0x43)
    ∷ at 0 18 0x34 0x00e0400b Nothing
    ∷ at 0 21 0x38 0x00f70713 (Reg 14 0x52)
    ∷ at 0 25 0x3c 0x00000000 (Trap 24 0x50)
    ∷ at 0 28 0x50 0xf1406373 (Reg 6 0x0)
    ∷ at 0 31 0x54 0x0025c003 Nothing
    ∷ at 0 33 0x58 0x00019523 (Trap 7 0x50)
    ∷ at 0 36 0x50 0xf1406373 (Reg 6 0x0)
    ∷ at 0 39 0x54 0x0025c003 Nothing
    ∷ at 0 41 0x58 0x00019523 (Trap 7 0x50)
    ∷ at 0 45 0x50 0xf1406373 (Reg 6 0x0) ∷ []
unfolding random_762 ins rows lui_rows auipc_rows jal_rows jalr_rows branch_rows load_rows
    store_rows imm_rows op_rows fence_rows system_rows time_rows bitwise alu_result alu_result_with
    shift_result mul_result is_taken loaded_value lanes_at merged_word result_of nibbles
    region_kind region_of index_of may_fetch may_load may_store frame turn is_table is_regions
    is_awake after_last donation pick load store branch delay wait csr_update may_hold csr_access
    execute_untrapped run_at execute_in execute_word effect_of issue code_at data_at environment
    after_turn recent world environment_by may_go solo_turn solo_at setting_of view found_from
    wide_view around_wide data_wide issue_wide wide_turn wide_at
random_762-0 = refl

-- seed 1331, 50 cycles
random_1331 : Start
random_1331 =
    record (base ((0x000007b7 ∷ 0x05078793 ∷ 0x30579073 ∷ 0x20003537 ∷ 0xff050513 ∷ 0x200015b7
    ∷ 0xff058593 ∷ 0x40000637 ∷ 0x00060613 ∷ 0x000006b7 ∷ 0x05868693 ∷ 0x000047b7 ∷ 0x58078793
    ∷ 0x7c179173 ∷ 0x0200026f ∷ 0x01852203 ∷ 0x92f20193 ∷ 0x000077b7 ∷ 0x89078793 ∷ 0x7c179073
    ∷ 0x0000070b ∷ 0x05070713 ∷ 0x00e0400b ∷ 0x341371f3 ∷ 0xa4450da3 ∷ 0x000047b7 ∷ 0x09078793
    ∷ 0x7c179073 ∷ 0x7c717013 ∷ 0x000057b7 ∷ 0x89078793 ∷ 0x7c179073 ∷ 0xf1406073 ∷ 0x00452823
    ∷ 0xff1007b7 ∷ 0xff078793 ∷ 0x7c079073 ∷ 0x0000070b ∷ 0x02870713 ∷ 0x00e0200b ∷ 0xff9ff06f ∷ [])
    ++ replicate 983 0x0 ++ (0x000017b7 ∷ 0x04078793 ∷ 0x30579073 ∷ 0x20002537 ∷ 0x00050513
    ∷ 0x200035b7 ∷ 0x00058593 ∷ 0x40000637 ∷ 0x00060613 ∷ 0x000016b7 ∷ 0x02068693 ∷ 0x342692f3
    ∷ 0x0040f863 ∷ 0x0221d0b3 ∷ 0x34002073 ∷ 0x8ed1a213 ∷ 0x0065d203 ∷ 0x00064183 ∷ 0x12a5d383
    ∷ 0xf30007b7 ∷ 0xf1078793 ∷ 0x7c079173 ∷ 0xffdff06f ∷ []) ++ replicate 489 0x0
    ++ (0x000027b7 ∷ 0x83878793 ∷ 0x30579073 ∷ 0x20002537 ∷ 0xff050513 ∷ 0x200025b7 ∷ 0xff058593
    ∷ 0x40000637 ∷ 0x00060613 ∷ 0x000026b7 ∷ 0x81868693 ∷ 0x00759023 ∷ 0xfff017b7 ∷ 0x21078793
    ∷ 0x7c0790f3 ∷ 0x0242b333 ∷ 0x2d824393 ∷ 0x00052283 ∷ 0x00651283 ∷ 0x001681e7 ∷ 0xfff307b7
    ∷ 0xf1078793 ∷ 0x7c0793f3 ∷ 0x001050b3 ∷ 0x0006d383 ∷ 0x1dc2a013 ∷ 0x006113b3 ∷ 0xb5f1c193
    ∷ 0x02526333 ∷ 0xa6c1c193 ∷ 0x02725133 ∷ 0x1de1e113 ∷ 0x00162a23 ∷ 0x20001537 ∷ 0x00050513
    ∷ 0x200015b7 ∷ 0x00058593 ∷ 0x40000637 ∷ 0x00060613 ∷ 0x000016b7 ∷ 0x82c68693 ∷ 0xfe9ff06f ∷ [])
    ++ replicate 470 0x0 ++ (0x000027b7 ∷ 0x03078793 ∷ 0x30579073 ∷ 0x20003537 ∷ 0xff050513
    ∷ 0x000015b7 ∷ 0x80058593 ∷ 0x40000637 ∷ 0x00060613 ∷ 0x000016b7 ∷ 0x80068693 ∷ 0x00754303
    ∷ 0x0000070b ∷ 0x03c70713 ∷ 0x00e0300b ∷ 0x00050103 ∷ 0x0000070b ∷ 0x06e70713 ∷ 0x00e0400b
    ∷ 0x03270713 ∷ 0x00e0200b ∷ 0x3409a3f3 ∷ 0x00552023 ∷ 0x00251023 ∷ 0x00359223 ∷ 0x642d000f
    ∷ 0x0075a223 ∷ 0x0055aa23 ∷ 0x49620193 ∷ 0x00052203 ∷ 0x00429213 ∷ 0x00118c63 ∷ 0x0070400b
    ∷ 0x0560f193 ∷ 0x00852183 ∷ 0x006180b3 ∷ 0x00352e23 ∷ 0x00719463 ∷ 0x78455303 ∷ 0x01b31113
    ∷ 0x11023113 ∷ 0x00550123 ∷ 0x20002537 ∷ 0x80050513 ∷ 0x200035b7 ∷ 0x7f058593 ∷ 0x40000637
    ∷ 0x00060613 ∷ 0x000026b7 ∷ 0x01068693 ∷ 0x0273c3b3 ∷ 0x002213b3 ∷ 0xf7b3c193 ∷ 0x0000400b
    ∷ 0x0073f363 ∷ 0x00452203 ∷ 0x00450183 ∷ 0x00551523 ∷ 0x023243b3 ∷ 0x00615c63 ∷ 0x01d11393
    ∷ 0x0000070b ∷ 0x05070713 ∷ 0x00e0300b ∷ 0x00151623 ∷ 0x0000070b ∷ 0x10570713 ∷ 0x00e0300b
    ∷ 0x5f70c313 ∷ 0x000007b7 ∷ 0xfe078793 ∷ 0x7c0791f3 ∷ 0x0000070b ∷ 0x02770713 ∷ 0x00e0400b
    ∷ 0x0071ae23 ∷ 0x0000070b ∷ 0x00070713 ∷ 0x00e0200b ∷ 0x00661023 ∷ 0xf91ff06f ∷ [])
    ++ replicate 943 0x0 ++ (0x000037b7 ∷ 0x03078793 ∷ 0x30579073 ∷ 0x00004537 ∷ 0xff850513
    ∷ 0x200035b7 ∷ 0x80058593 ∷ 0x40000637 ∷ 0x00060613 ∷ 0x000036b7 ∷ 0x03868693
    ∷ 0x0000070b ∷ 0x0b470713 ∷ 0x00e0200b ∷ 0x0bc51003 ∷ 0x9bb26113 ∷ 0x4e226113
    ∷ 0x1b852183 ∷ 0x00451203 ∷ 0x021082b3 ∷ 0xfedff06f ∷ []) ++ replicate 491 0x0
    ++ (0x000047b7 ∷ 0x85078793 ∷ 0x30579073 ∷ 0x20003537 ∷ 0x80050513 ∷ 0x000025b7 ∷ 0x00058593
    ∷ 0x40000637 ∷ 0x00060613 ∷ 0x000046b7 ∷ 0x85c68693 ∷ 0x00652023 ∷ 0x000057b7 ∷ 0x88278793
    ∷ 0x7c179073 ∷ 0x00352a23 ∷ 0x10f1f7b7 ∷ 0x11078793 ∷ 0x7c079073 ∷ 0x00052223 ∷ 0x000057b7
    ∷ 0x89878793 ∷ 0x7c1790f3 ∷ 0x0000070b ∷ 0x02970713 ∷ 0x00e0200b ∷ 0x01452183 ∷ 0x006182b3
    ∷ 0x00352623 ∷ 0x00019463 ∷ 0x0251d0b3 ∷ 0x008680e7 ∷ 0x00436233 ∷ 0xf0ff17b7 ∷ 0xfe078793
    ∷ 0x7c079073 ∷ 0x01452183 ∷ 0x00159223 ∷ 0x00e51283 ∷ 0x00100073 ∷ 0xf75ff06f ∷ []))) {
      threads =
          (fresh 0x1000 ∷ fresh 0x0 ∷ fresh 0x1000 ∷ fresh 0x3000 ∷ fresh 0x1000 ∷ fresh 0x2800
          ∷ fresh 0x3000 ∷ fresh 0x1000 ∷ []);
      confined = (false ∷ true ∷ false ∷ true ∷ true ∷ true ∷ false ∷ false ∷ []);
      permit = (true ∷ false ∷ false ∷ false ∷ false ∷ false ∷ true ∷ false ∷ []);
      d_words =
          words 16384 ((0x828f0b7f ∷ 0xe159695b ∷ 0xe88e2978 ∷ 0x3ab08315 ∷ 0x3456a8af ∷ 0xe285dc1f
          ∷ 0xa1431b03 ∷ 0x4eb1d319 ∷ 0xa20b40e7 ∷ 0xa731e352 ∷ 0x5ea57f8b ∷ 0xd1be2fa0 ∷ 0xc0eee7fd
          ∷ 0xfb9ad011 ∷ 0x303d96cd ∷ 0x16ae4f1a ∷ 0x0ca454eb ∷ 0x006268a0 ∷ 0x7dcee804 ∷ 0xe62cc99e
          ∷ 0x2e3e69bc ∷ 0xddc2823f ∷ 0x472ff716 ∷ 0xc359b389 ∷ 0x5cd943cc ∷ 0x0b9ab576 ∷ 0x8aa34cd7
          ∷ 0xea294cb5 ∷ 0x6cafb4d7 ∷ 0x03071e91 ∷ 0xeccd871f ∷ 0xf09958c1 ∷ 0xabd8dcd9 ∷ 0xad1885bc
          ∷ 0xd1085e49 ∷ 0x58174b0c ∷ 0x30e3d47c ∷ 0xafd9a5fb ∷ 0x54305dea ∷ 0xcaedec0a
          ∷ 0x74661170 ∷ 0x178c98c9 ∷ 0x87e78126 ∷ 0xd046a428 ∷ 0x1853e913 ∷ 0x96a44d96 ∷ 0x015ef0b6
          ∷ 0x111a6841 ∷ 0x4c585d46 ∷ 0xed9e84b6 ∷ 0xb1ac5ee9 ∷ 0xd362a9bd ∷ 0xcd57f586 ∷ 0x15f18f79
          ∷ 0x8eeb2e86 ∷ 0x1caec45c ∷ 0xddf36505 ∷ 0x33bc3aeb ∷ 0xc53b71b5 ∷ 0xa9372089
          ∷ 0x93b98869 ∷ 0xb6a85665 ∷ 0x12a543e5 ∷ 0x75393069 ∷ []) ++ replicate 1472 0x0
          ++ (0xd89822fe ∷ 0x3311b6e7 ∷ 0x6db0f892 ∷ 0xa49fdb15 ∷ []) ++ replicate 508 0x0
          ++ (0xdcdf9861 ∷ 0xe2e34070 ∷ 0xa1e53466 ∷ 0x6786c7de ∷ []) ++ replicate 1020 0x0
          ++ (0x288d9a08 ∷ 0x7a40671f ∷ 0xabbaf72e ∷ 0xe3336d74 ∷ []));
      registers = record {
        slots = 0xffffff10;
        modes = 0x4890;
        dregions = 0x78c03280;
        iregions = 0xccc00c0c;
      };
      shown =
          ((replicate 19 0x0 ++ replicate 17 0x2deec40f ++ replicate 14 0xd90632d7)
          ∷ (replicate 32 0x0 ++ replicate 18 0xb376b4e5) ∷ replicate 50 0x0 ∷ replicate 50 0x0
          ∷ replicate 50 0x0 ∷ replicate 50 0x0 ∷ replicate 50 0x0 ∷ replicate 50 0x0 ∷ []);
      unplugs = (Some 261 ∷ None ∷ Some 296 ∷ Some 213 ∷ None ∷ None ∷ None ∷ Some 252 ∷ []);
    }

random_1331-0-found : found_from random_1331 0 0 50 ≡ 0x7a40671f ∷ 0x7a40671f ∷ 0x7a40671f ∷ []
unfolding random_1331 ins rows lui_rows auipc_rows jal_rows jalr_rows branch_rows load_rows
    store_rows imm_rows op_rows fence_rows system_rows time_rows bitwise alu_result alu_result_with
    shift_result mul_result is_taken loaded_value lanes_at merged_word result_of nibbles
    region_kind region_of index_of may_fetch may_load may_store frame turn is_table is_regions
    is_awake after_last donation pick load store branch delay wait csr_update may_hold csr_access
    execute_untrapped run_at execute_in execute_word effect_of issue code_at data_at environment
    after_turn recent world found_from
random_1331-0-found = refl

random_1331-0 : wide_solo (wide_view random_1331 0 50) 50 ≡
    at 0 0 0x1000 0x000017b7 (Reg 15 0x1000)
    ∷ at 0 2 0x1004 0x04078793 (Reg 15 0x1040)
    ∷ at 0 4 0x1008 0x30579073 (Csr 0x305 0x1040 0 0x0)
    ∷ at 0 8 0x100c 0x20002537 (Reg 10 0x20002000)
    ∷ at 0 10 0x1010 0x00050513 (Reg 10 0x20002000)
    ∷ at 0 12 0x1014 0x200035b7 (Reg 11 0x20003000)
    ∷ at 0 14 0x1018 0x00058593 (Reg 11 0x20003000)
    ∷ at 0 16 0x101c 0x40000637 (Reg 12 0x40000000)
    ∷ at 0 18 0x1020 0x00060613 (Reg 12 0x40000000)
    ∷ at 0 20 0x1024 0x000016b7 (Reg 13 0x1000)
    ∷ at 0 22 0x1028 0x02068693 (Reg 13 0x1020)
    ∷ at 0 24 0x102c 0x342692f3 (Csr 0x342 0x1020 5 0x0)
    ∷ at 0 28 0x1030 0x0040f863 Nothing
    ∷ at 0 32 0x1040 0x0065d203 (Reg 4 0x7a40)
    ∷ at 0 34 0x1044 0x00064183 (Trap 5 0x1040)
    ∷ at 0 38 0x1040 0x0065d203 (Reg 4 0x7a40)
    ∷ at 0 40 0x1044 0x00064183 (Trap 5 0x1040)
    ∷ at 0 44 0x1040 0x0065d203 (Reg 4 0x7a40) ∷ []
unfolding random_1331 ins rows lui_rows auipc_rows jal_rows jalr_rows branch_rows load_rows
    store_rows imm_rows op_rows fence_rows system_rows time_rows bitwise alu_result alu_result_with
    shift_result mul_result is_taken loaded_value lanes_at merged_word result_of nibbles
    region_kind region_of index_of may_fetch may_load may_store frame turn is_table is_regions
    is_awake after_last donation pick load store branch delay wait csr_update may_hold csr_access
    execute_untrapped run_at execute_in execute_word effect_of issue code_at data_at environment
    after_turn recent world environment_by may_go solo_turn solo_at setting_of view found_from
    wide_view around_wide data_wide issue_wide wide_turn wide_at
random_1331-0 = refl
