-- Two machines that differ in everything that one thread can't see.
use Rattle.std.proofs.Common.{◌≡◌, ℕ, true, false, List, [], ◌∷◌, ◌++◌, None, Some, refl, replicate}
use Rattle.slot_table.specs.Nibbles.{nibbles}
use Rattle.rv_decode.specs.Table.{ins, rows, lui_rows, auipc_rows, jal_rows, jalr_rows}
use Rattle.rv_decode.specs.Table.{branch_rows, load_rows, store_rows, imm_rows}
use Rattle.rv_decode.specs.Table.{op_rows, fence_rows, system_rows, time_rows}
use Rattle.rv_exec.specs.Words.{bitwise}
use Rattle.rv_exec.specs.Alu.{alu_result, alu_result_with, shift_result, mul_result}
use Rattle.rv_exec.specs.Access.{loaded_value, lanes_at, merged_word}
use Rattle.rv_exec.specs.Result.{is_taken, result_of}
use Rattle.region_guard.specs.Regions.{region_kind, region_of, index_of}
use Rattle.region_guard.specs.Regions.{may_fetch, may_load, may_store}
use Rattle.slot_table.specs.Frame.{frame, turn}
use Rattle.slot_table.specs.Table.{is_table}
use Rattle.region_guard.specs.RegionsWord.{is_regions}
use Rattle.slot_scheduler.specs.Picking.{is_awake, after_last, donation, pick}
use Rattle.core_model.specs.Thread.{fresh}
use Rattle.core_model.specs.Outcomes.{load, store, branch}
use Rattle.core_model.specs.Waiting.{delay, wait}
use Rattle.core_model.specs.Csr.{csr_update, may_hold, csr_access}
use Rattle.core_model.specs.Issue.{execute_untrapped, run_at, execute_in}
use Rattle.core_model.specs.Issue.{execute_word, effect_of, issue}
use Rattle.core_model.specs.Memory.{code_at, data_at}
use Rattle.core_model.specs.World.{Start, environment, after_turn, recent, world, events}
use Rattle.core_model.specs.Viewed.{setting_of, view}
use Rattle.test_worlds.specs.Base.{words, base}

code : List ℕ
code =
    0x00100293 ∷ 0x00002303 ∷ 0x200000b7 ∷ 0x0060a023 ∷ 0x0000a383 ∷ 0x40000137 ∷ 0x00012403
    ∷ 0xfe5ff06f ∷ []

-- thread 0 next to thread 1, which has a region of code and one of data
one : Start
one =
    record (base code) {
      registers = record {
        slots = 0xfffffe10;
        modes = 0xfffc;
        dregions = 0xccccc810;
        iregions = 0xcccccc1c;
      };
    }

-- The others have other slots, modes, entries, permits and ports. Their regions have other owners,
-- and these and the shared region have words.
other : Start
other =
    record (base code) {
      threads = fresh 0 ∷ replicate 7 (fresh 0x800);
      confined = true ∷ true ∷ replicate 6 false;
      permit = false ∷ false ∷ replicate 6 true;
      i_words = words 16384 (code ++ replicate 504 0 ++ 0x200010b7 ∷ 0x00112023 ∷ 0xffdff06f ∷ []);
      d_words = words 16384 (replicate 512 0 ++ 1 ∷ 2 ∷ 3 ∷ replicate 509 0 ++ 4 ∷ 5 ∷ []);
      registers = record {
        slots = 0xfffff740;
        modes = 0x0028;
        dregions = 0xccccc850;
        iregions = 0xcccccc3c;
      };
      shown = replicate 60 0 ∷ replicate 7 (replicate 60 9);
      handed = true ∷ replicate 7 false;
      unplugs = None ∷ replicate 7 (Some 3);
      latches = 0 ∷ replicate 7 8;
    }

alike : view one 0 ≡ view other 0
unfolding one other code view setting_of nibbles region_kind frame
alike = refl

equal : events one 0 40 ≡ events other 0 40
unfolding one other code ins rows lui_rows auipc_rows jal_rows jalr_rows branch_rows load_rows
    store_rows imm_rows op_rows fence_rows system_rows time_rows bitwise alu_result alu_result_with
    shift_result mul_result is_taken loaded_value lanes_at merged_word result_of nibbles
    region_kind region_of index_of may_fetch may_load may_store frame turn is_table is_regions
    is_awake after_last donation pick load store branch delay wait csr_update may_hold csr_access
    execute_untrapped run_at execute_in execute_word effect_of issue code_at data_at environment
    after_turn recent world
equal = refl
