-- The address 0 is aligned for every load and store, and the word 0 is no instruction.
use Rattle.std.proofs.Common.{◌≡◌, ◌≢◌, ℕ, ◌%◌, None, refl}
use Rattle.rv_decode.specs.Table.{ins, rows, lui_rows, auipc_rows, jal_rows, jalr_rows}
use Rattle.rv_decode.specs.Table.{branch_rows, load_rows, store_rows, imm_rows}
use Rattle.rv_decode.specs.Table.{op_rows, fence_rows, system_rows, time_rows}
use Rattle.rv_exec.specs.Result.{result_of}
use Rattle.rv_decode.specs.declared.instruction.Ins.{Ins}
use Rattle.rv_decode.specs.declared.instruction.Ins.TheVariants.{Load, Store}
use Rattle.rv_decode.specs.declared.instruction.LoadOp.{LoadOp}
use Rattle.rv_decode.specs.declared.instruction.LoadOp.TheVariants.{Lb, Lh, Lw, Lbu, Lhu}
use Rattle.rv_decode.specs.declared.instruction.StoreOp.{StoreOp}
use Rattle.rv_decode.specs.declared.instruction.StoreOp.TheVariants.{Sb, Sh, Sw}
use Rattle.rv_exec.specs.Access.{IsAligned, load_size, store_size}

pub load_zero : (op : LoadOp) → 0 % load_size op ≡ 0
load_zero Lb = refl
load_zero Lh = refl
load_zero Lw = refl
load_zero Lbu = refl
load_zero Lhu = refl

pub store_zero : (op : StoreOp) → 0 % store_size op ≡ 0
store_zero Sb = refl
store_zero Sh = refl
store_zero Sw = refl

pub aligned_zero : (i : Ins) (address : ℕ) → address ≡ 0 → IsAligned i address
aligned_zero (Load op rd rs1 imm) address e = rw e (load_zero op)
aligned_zero (Store op rs1 rs2 imm) address e = rw e (store_zero op)
aligned_zero _ address e = tt

pub shown : (w pc x y : ℕ) → (result_of (ins w) pc x y).trap ≡ None → w ≢ 0
unfolding result_of ins rows lui_rows auipc_rows jal_rows jalr_rows branch_rows load_rows store_rows
    imm_rows op_rows fence_rows system_rows time_rows
shown w pc x y h e = let k = rw e at h in cc
