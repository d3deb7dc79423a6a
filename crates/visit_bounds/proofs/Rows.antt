-- A visit of three rounds, computed: it takes as long as its section's bound.
use Rattle.std.proofs.Common.{◌≡◌, ℕ, ◌-◌, false, List, [], ◌∷◌, ◌++◌, refl, arith, inl, replicate}
use Rattle.slot_table.specs.Nibbles.{nibbles}
use Rattle.rv_decode.specs.Table.{ins, rows, lui_rows, auipc_rows, jal_rows, jalr_rows}
use Rattle.rv_decode.specs.Table.{branch_rows, load_rows, store_rows, imm_rows}
use Rattle.rv_decode.specs.Table.{op_rows, fence_rows, system_rows, time_rows}
use Rattle.rv_exec.specs.Words.{bitwise}
use Rattle.rv_exec.specs.Alu.{alu_result, alu_result_with, shift_result, mul_result}
use Rattle.rv_exec.specs.Result.{is_taken, result_of}
use Rattle.region_guard.specs.Regions.{region_kind, region_of, index_of}
use Rattle.region_guard.specs.Regions.{may_fetch, may_load, may_store}
use Rattle.slot_table.specs.Frame.{frame, turn}
use Rattle.slot_scheduler.specs.Picking.{is_awake, after_last, donation, pick}
use Rattle.core_model.specs.Thread.{fresh}
use Rattle.core_model.specs.Outcomes.{load, store, branch}
use Rattle.core_model.specs.Issue.{execute_untrapped, run_at, execute_in}
use Rattle.core_model.specs.Issue.{execute_word, effect_of, issue}
use Rattle.core_model.specs.Memory.{code_at, data_at}
use Rattle.region_tree.specs.Graph.{Graph}
use Rattle.region_tree.specs.declared.edges.Stop.TheVariants.{No}
use Rattle.core_model.specs.World.{Start, environment, after_turn, recent, world}
use Rattle.visit_bounds.specs.Visits.{IsVisit, Issued, first_of, issues_of}

-- addi x5, x0, 3; then the section: addi x5, x5, -1; bne x5, x0, -4; and nop after it
three : Start
three =
    record {
      period = 10;
      size = 16384;
      threads = replicate 8 (fresh 0);
      confined = replicate 8 false;
      permit = replicate 8 false;
      i_words = 0x00300293 ∷ 0xfff28293 ∷ 0xfe029ee3 ∷ 0x00000013 ∷ [];
      d_words = [];
      registers = record {
        slots = 0xfffffff0;
        modes = 0xfffc;
        dregions = 0xcccccccc;
        iregions = 0xcccccccc;
      };
      shown = [];
      handed = [];
      unplugs = [];
      latches = [];
    }

at : ℕ → ℕ → Issued
at cycle pc = record { cycle = cycle; pc = pc; traps = false }

before : List Issued
before = at 10 8 ∷ at 9 4 ∷ at 6 8 ∷ at 5 4 ∷ at 2 8 ∷ at 1 4 ∷ []

issued : issues_of 0 (world three 12).turns ≡ at 11 12 ∷ (before ++ at 0 0 ∷ [])
unfolding three at before ins rows lui_rows auipc_rows jal_rows jalr_rows branch_rows load_rows
    store_rows imm_rows op_rows fence_rows system_rows time_rows bitwise alu_result alu_result_with
    shift_result mul_result is_taken result_of nibbles region_kind region_of index_of may_fetch
    may_load may_store frame turn is_awake after_last donation pick load store branch
    execute_untrapped run_at execute_in execute_word effect_of issue code_at data_at environment
    after_turn recent world
issued = refl

section : Graph
section = record { from = 4; to = 12; edges = λ u. []; stop = λ u. No; loops = [] }

visit : IsVisit section (issues_of 0 (world three 12).turns) (at 11 12) before
unfolding section at before
visit = record {
  earlier = at 0 0 ∷ [];
  later = [];
  among = issued;
  starts = refl;
  goes_on = (
    (
      (
        (
          (
            (tt, record { low = omega arith; high = omega arith }, refl),
            record { low = omega arith; high = omega arith },
            refl,
          ),
          record { low = omega arith; high = omega arith },
          refl,
        ),
        record { low = omega arith; high = omega arith },
        refl,
      ),
      record { low = omega arith; high = omega arith },
      refl,
    ),
    record { low = omega arith; high = omega arith },
    refl,
  );
  ends = inl refl;
}

-- three rounds of a word and a branch: 3 + 2 * 3 + 1
length-is : (at 11 12).cycle - (first_of (at 11 12) before).cycle ≡ 10
unfolding at before
length-is = refl
