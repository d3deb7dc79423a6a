-- Decoding the word of an instruction gives the instruction back.
use Rattle.std.proofs.Common.{◌≡◌, ◌≢◌, ◌<◌, ℕ, zero, suc, ◌==◌, ◌+◌, ◌-◌}
use Rattle.std.proofs.Common.{◌*◌, ◌%◌, ◌^◌, ℤ, pos, negsuc, ◌-ℤ◌, true, false}
use Rattle.std.proofs.Common.{nat_lt, if◌then◌else◌, refl, ◌∙◌, ap, arith}
use Rattle.std.proofs.lemmas.Bool.Decides.{nat_tests}
use Rattle.std.proofs.lemmas.Int.{ints}
use Rattle.rv_decode.specs.Fields.{field, sign_extended, imm_i, imm_s, imm_b, imm_j}
use Rattle.rv_decode.specs.Encoding.{encoding_of, low_bits, r_word, i_word, s_word}
use Rattle.rv_decode.specs.Encoding.{b_word, u_word, j_word, branch_funct3, load_funct3}
use Rattle.rv_decode.specs.Encoding.{store_funct3, imm_funct3, shift_funct3, shift_funct7}
use Rattle.rv_decode.specs.Encoding.{alu_funct3, alu_funct7, mul_funct3, csr_funct3}
use Rattle.rv_decode.specs.Range.{InRange, IsSigned, IsEven}
use Rattle.rv_decode.specs.Table.{ins, read_by, rows, lui_rows, auipc_rows, jal_rows}
use Rattle.rv_decode.specs.Table.{jalr_rows, branch_rows, load_rows, store_rows}
use Rattle.rv_decode.specs.Table.{imm_rows, op_rows, fence_rows, system_rows, time_rows}
use Rattle.rv_decode.specs.declared.instruction.Ins.{Ins}
use Rattle.rv_decode.specs.declared.instruction.Ins.TheVariants.{Lui, Auipc, Jal, Jalr, Branch}
use Rattle.rv_decode.specs.declared.instruction.Ins.TheVariants.{Load, Store, OpImm, Shift}
use Rattle.rv_decode.specs.declared.instruction.Ins.TheVariants.{Op, Muldiv, Fence, Ecall}
use Rattle.rv_decode.specs.declared.instruction.Ins.TheVariants.{Ebreak, Mret, Csr, Gt, Gth}
use Rattle.rv_decode.specs.declared.instruction.Ins.TheVariants.{Du, Wu, Ee, De, Illegal}
use Rattle.rv_decode.specs.declared.instruction.BranchOp.{BranchOp}
use Rattle.rv_decode.specs.declared.instruction.BranchOp.TheVariants.{Beq, Bne, Blt}
use Rattle.rv_decode.specs.declared.instruction.BranchOp.TheVariants.{Bge, Bltu, Bgeu}
use Rattle.rv_decode.specs.declared.instruction.LoadOp.{LoadOp}
use Rattle.rv_decode.specs.declared.instruction.LoadOp.TheVariants.{Lb, Lh, Lw, Lbu, Lhu}
use Rattle.rv_decode.specs.declared.instruction.StoreOp.{StoreOp}
use Rattle.rv_decode.specs.declared.instruction.StoreOp.TheVariants.{Sb, Sh, Sw}
use Rattle.rv_decode.specs.declared.instruction.ImmOp.{ImmOp}
use Rattle.rv_decode.specs.declared.instruction.ImmOp.TheVariants.{Addi, Slti, Sltiu}
use Rattle.rv_decode.specs.declared.instruction.ImmOp.TheVariants.{Xori, Ori, Andi}
use Rattle.rv_decode.specs.declared.instruction.ShiftOp.{ShiftOp}
use Rattle.rv_decode.specs.declared.instruction.ShiftOp.TheVariants.{Slli, Srli, Srai}
use Rattle.rv_decode.specs.declared.instruction.AluOp.{AluOp}
use Rattle.rv_decode.specs.declared.instruction.AluOp.TheVariants.{Add, Sub, Sll, Slt, Sltu}
use Rattle.rv_decode.specs.declared.instruction.AluOp.TheVariants.{Xor, Srl, Sra, Or, And}
use Rattle.rv_decode.specs.declared.instruction.MulOp.{MulOp}
use Rattle.rv_decode.specs.declared.instruction.MulOp.TheVariants.{Mul, Mulh, Mulhsu, Mulhu}
use Rattle.rv_decode.specs.declared.instruction.MulOp.TheVariants.{Div, Divu, Rem, Remu}
use Rattle.rv_decode.specs.declared.instruction.CsrKind.{CsrKind}
use Rattle.rv_decode.specs.declared.instruction.CsrKind.TheVariants.{Rw, Rs, Rc, Rwi, Rsi, Rci}
use Rattle.rv_decode.proofs.ByOpcode.{ins-lui, ins-auipc, ins-jal, ins-jalr, ins-branch, ins-load}
use Rattle.rv_decode.proofs.ByOpcode.{ins-store, ins-imm, ins-op, ins-fence, ins-system, ins-time}

-- A number read with its sign equals the whole number that has its lowest bits.
from_pos : (half n m : ℕ) → n < half → m ≡ n →
    (if nat_lt m half then pos m else pos m -ℤ pos (half + half)) ≡ pos n
from_pos half n m small e =
    let test : nat_lt m half ≡ true = grind (arith, nat_tests) in rw test (ap pos e)

from_negsuc : (half n m : ℕ) → n < half → m + n + 1 ≡ half + half →
    (if nat_lt m half then pos m else pos m -ℤ pos (half + half)) ≡ negsuc n
from_negsuc half n m small e =
    let test : nat_lt m half ≡ false = grind (arith, nat_tests) in
    let back : (pos m -ℤ pos (half + half)) ≡ negsuc n = omega (arith, ints) in
    rw test back

sign_12 : (z : ℤ) → IsSigned 12 z → sign_extended 12 (low_bits 12 z) ≡ z
sign_12 (pos n) h =
    let small : n < 2048 = omega (arith, ints) in from_pos 2048 n (n % 4096) small (omega arith)
sign_12 (negsuc n) h =
    let small : n < 2048 = omega (arith, ints) in
    from_negsuc 2048 n (4095 - n % 4096) small (omega arith)

sign_13 : (z : ℤ) → IsSigned 13 z → sign_extended 13 (low_bits 13 z) ≡ z
sign_13 (pos n) h =
    let small : n < 4096 = omega (arith, ints) in from_pos 4096 n (n % 8192) small (omega arith)
sign_13 (negsuc n) h =
    let small : n < 4096 = omega (arith, ints) in
    from_negsuc 4096 n (8191 - n % 8192) small (omega arith)

sign_21 : (z : ℤ) → IsSigned 21 z → sign_extended 21 (low_bits 21 z) ≡ z
sign_21 (pos n) h =
    let small : n < 1048576 = omega (arith, ints) in
    from_pos 1048576 n (n % 2097152) small (omega arith)
sign_21 (negsuc n) h =
    let small : n < 1048576 = omega (arith, ints) in
    from_negsuc 1048576 n (2097151 - n % 2097152) small (omega arith)

small_12 : (z : ℤ) → low_bits 12 z < 4096
small_12 (pos n) = omega arith
small_12 (negsuc n) = omega arith

small_13 : (z : ℤ) → low_bits 13 z < 8192
small_13 (pos n) = omega arith
small_13 (negsuc n) = omega arith

small_21 : (z : ℤ) → low_bits 21 z < 2097152
small_21 (pos n) = omega arith
small_21 (negsuc n) = omega arith

even_13 : (z : ℤ) → IsEven z → low_bits 13 z % 2 ≡ 0
even_13 (pos n) (k, e) = omega (arith, ints)
even_13 (negsuc n) (k, e) = omega (arith, ints)

even_21 : (z : ℤ) → IsEven z → low_bits 21 z % 2 ≡ 0
even_21 (pos n) (k, e) = omega (arith, ints)
even_21 (negsuc n) (k, e) = omega (arith, ints)

-- The fields of a word that was composed of them.
record IsMade (w code rd f3 a b f7 : ℕ) : Type 0 where
  code_is : field w 0 7 ≡ code
  rd_is : field w 7 5 ≡ rd
  f3_is : field w 12 3 ≡ f3
  rs1_is : field w 15 5 ≡ a
  rs2_is : field w 20 5 ≡ b
  f7_is : field w 25 7 ≡ f7

made : (code rd f3 a b f7 : ℕ) → code < 128 → rd < 32 → f3 < 8 → a < 32 → b < 32 → f7 < 128 →
    IsMade (r_word code rd f3 a b f7) code rd f3 a b f7
made code rd f3 a b f7 h0 h1 h2 h3 h4 h5 = record {
  code_is = omega arith;
  rd_is = omega arith;
  f3_is = omega arith;
  rs1_is = omega arith;
  rs2_is = omega arith;
  f7_is = omega arith;
}

record IsMadeI (w code rd f3 a imm : ℕ) : Type 0 where
  code_is : field w 0 7 ≡ code
  rd_is : field w 7 5 ≡ rd
  f3_is : field w 12 3 ≡ f3
  rs1_is : field w 15 5 ≡ a
  imm_is : field w 20 12 ≡ imm

made_i : (code rd f3 a imm : ℕ) → code < 128 → rd < 32 → f3 < 8 → a < 32 → imm < 4096 →
    IsMadeI (i_word code rd f3 a imm) code rd f3 a imm
made_i code rd f3 a imm h0 h1 h2 h3 h4 = record {
  code_is = omega arith;
  rd_is = omega arith;
  f3_is = omega arith;
  rs1_is = omega arith;
  imm_is = omega arith;
}

record IsMadeU (w code rd imm : ℕ) : Type 0 where
  code_is : field w 0 7 ≡ code
  rd_is : field w 7 5 ≡ rd
  imm_is : field w 12 20 ≡ imm

made_u : (code rd imm : ℕ) → code < 128 → rd < 32 → imm < 1048576 →
    IsMadeU (u_word code rd imm) code rd imm
made_u code rd imm h0 h1 h2 =
    record { code_is = omega arith; rd_is = omega arith; imm_is = omega arith }

-- The immediates of the formats whose bits are scattered.
whole_s : (w n : ℕ) → n < 4096 → field w 7 5 ≡ field n 0 5 → field w 25 7 ≡ field n 5 7 →
    field w 25 7 * 2 ^ 5 + field w 7 5 ≡ n
whole_s w n h low high = omega arith

whole_b : (w n : ℕ) → n < 8192 → n % 2 ≡ 0 → field w 7 5 ≡ field n 1 4 * 2 + field n 11 1 →
    field w 25 7 ≡ field n 12 1 * 2 ^ 6 + field n 5 6 →
    field w 31 1 * 2 ^ 12 + field w 7 1 * 2 ^ 11 + field w 25 6 * 2 ^ 5 + field w 8 4 * 2 ≡ n
whole_b w n h even low high =
    let top : field w 31 1 ≡ field n 12 1 = omega arith in
    let next : field w 7 1 ≡ field n 11 1 = omega arith in
    let middle : field w 25 6 ≡ field n 5 6 = omega arith in
    let bottom : field w 8 4 ≡ field n 1 4 = omega arith in
    rw (top, next, middle, bottom) (omega arith)

whole_j : (w n : ℕ) → n < 2097152 → n % 2 ≡ 0 → field w 12 20
    ≡ field n 20 1 * 2 ^ 19 + field n 1 10 * 2 ^ 9 + field n 11 1 * 2 ^ 8 + field n 12 8 →
    field w 31 1 * 2 ^ 20 + field w 12 8 * 2 ^ 12 + field w 20 1 * 2 ^ 11 + field w 21 10 * 2 ≡ n
whole_j w n h even imm =
    let top : field w 31 1 ≡ field n 20 1 = omega arith in
    let middle : field w 12 8 ≡ field n 12 8 = omega arith in
    let next : field w 20 1 ≡ field n 11 1 = omega arith in
    let bottom : field w 21 10 ≡ field n 1 10 = omega arith in
    rw (top, middle, next, bottom) (omega arith)

-- A word with an operation's numbers is read as that operation.
branch_back : (op : BranchOp) (w : ℕ) (a b : ℕ) (off : ℤ) → field w 0 7 ≡ 0x63 →
    field w 12 3 ≡ branch_funct3 op → field w 15 5 ≡ a → field w 20 5 ≡ b → imm_b w ≡ off →
    read_by branch_rows w ≡ Branch op a b off
unfolding branch_rows
branch_back Beq w a b off e0 e1 e2 e3 e4 = simp (e0, e1, e2, e3, e4)
branch_back Bne w a b off e0 e1 e2 e3 e4 = simp (e0, e1, e2, e3, e4)
branch_back Blt w a b off e0 e1 e2 e3 e4 = simp (e0, e1, e2, e3, e4)
branch_back Bge w a b off e0 e1 e2 e3 e4 = simp (e0, e1, e2, e3, e4)
branch_back Bltu w a b off e0 e1 e2 e3 e4 = simp (e0, e1, e2, e3, e4)
branch_back Bgeu w a b off e0 e1 e2 e3 e4 = simp (e0, e1, e2, e3, e4)

load_back : (op : LoadOp) (w : ℕ) (d a : ℕ) (imm : ℤ) → field w 0 7 ≡ 0x03 →
    field w 12 3 ≡ load_funct3 op → field w 7 5 ≡ d → field w 15 5 ≡ a → imm_i w ≡ imm →
    read_by load_rows w ≡ Load op d a imm
unfolding load_rows
load_back Lb w d a imm e0 e1 e2 e3 e4 = simp (e0, e1, e2, e3, e4)
load_back Lh w d a imm e0 e1 e2 e3 e4 = simp (e0, e1, e2, e3, e4)
load_back Lw w d a imm e0 e1 e2 e3 e4 = simp (e0, e1, e2, e3, e4)
load_back Lbu w d a imm e0 e1 e2 e3 e4 = simp (e0, e1, e2, e3, e4)
load_back Lhu w d a imm e0 e1 e2 e3 e4 = simp (e0, e1, e2, e3, e4)

store_back : (op : StoreOp) (w : ℕ) (a b : ℕ) (imm : ℤ) → field w 0 7 ≡ 0x23 →
    field w 12 3 ≡ store_funct3 op → field w 15 5 ≡ a → field w 20 5 ≡ b → imm_s w ≡ imm →
    read_by store_rows w ≡ Store op a b imm
unfolding store_rows
store_back Sb w a b imm e0 e1 e2 e3 e4 = simp (e0, e1, e2, e3, e4)
store_back Sh w a b imm e0 e1 e2 e3 e4 = simp (e0, e1, e2, e3, e4)
store_back Sw w a b imm e0 e1 e2 e3 e4 = simp (e0, e1, e2, e3, e4)

imm_back : (op : ImmOp) (w : ℕ) (d a : ℕ) (imm : ℤ) → field w 0 7 ≡ 0x13 →
    field w 12 3 ≡ imm_funct3 op → field w 7 5 ≡ d → field w 15 5 ≡ a → imm_i w ≡ imm →
    read_by imm_rows w ≡ OpImm op d a imm
unfolding imm_rows
imm_back Addi w d a imm e0 e1 e2 e3 e4 = simp (e0, e1, e2, e3, e4)
imm_back Slti w d a imm e0 e1 e2 e3 e4 = simp (e0, e1, e2, e3, e4)
imm_back Sltiu w d a imm e0 e1 e2 e3 e4 = simp (e0, e1, e2, e3, e4)
imm_back Xori w d a imm e0 e1 e2 e3 e4 = simp (e0, e1, e2, e3, e4)
imm_back Ori w d a imm e0 e1 e2 e3 e4 = simp (e0, e1, e2, e3, e4)
imm_back Andi w d a imm e0 e1 e2 e3 e4 = simp (e0, e1, e2, e3, e4)

shift_back : (op : ShiftOp) (w : ℕ) (d a b : ℕ) → field w 0 7 ≡ 0x13 →
    field w 12 3 ≡ shift_funct3 op → field w 25 7 ≡ shift_funct7 op → field w 7 5 ≡ d →
    field w 15 5 ≡ a → field w 20 5 ≡ b → read_by imm_rows w ≡ Shift op d a b
unfolding imm_rows
shift_back Slli w d a b e0 e1 e2 e3 e4 e5 = simp (e0, e1, e2, e3, e4, e5)
shift_back Srli w d a b e0 e1 e2 e3 e4 e5 = simp (e0, e1, e2, e3, e4, e5)
shift_back Srai w d a b e0 e1 e2 e3 e4 e5 = simp (e0, e1, e2, e3, e4, e5)

op_back : (op : AluOp) (w : ℕ) (d a b : ℕ) → field w 0 7 ≡ 0x33 → field w 12 3 ≡ alu_funct3 op →
    field w 25 7 ≡ alu_funct7 op → field w 7 5 ≡ d → field w 15 5 ≡ a → field w 20 5 ≡ b →
    read_by op_rows w ≡ Op op d a b
unfolding op_rows
op_back Add w d a b e0 e1 e2 e3 e4 e5 = simp (e0, e1, e2, e3, e4, e5)
op_back Sub w d a b e0 e1 e2 e3 e4 e5 = simp (e0, e1, e2, e3, e4, e5)
op_back Sll w d a b e0 e1 e2 e3 e4 e5 = simp (e0, e1, e2, e3, e4, e5)
op_back Slt w d a b e0 e1 e2 e3 e4 e5 = simp (e0, e1, e2, e3, e4, e5)
op_back Sltu w d a b e0 e1 e2 e3 e4 e5 = simp (e0, e1, e2, e3, e4, e5)
op_back Xor w d a b e0 e1 e2 e3 e4 e5 = simp (e0, e1, e2, e3, e4, e5)
op_back Srl w d a b e0 e1 e2 e3 e4 e5 = simp (e0, e1, e2, e3, e4, e5)
op_back Sra w d a b e0 e1 e2 e3 e4 e5 = simp (e0, e1, e2, e3, e4, e5)
op_back Or w d a b e0 e1 e2 e3 e4 e5 = simp (e0, e1, e2, e3, e4, e5)
op_back And w d a b e0 e1 e2 e3 e4 e5 = simp (e0, e1, e2, e3, e4, e5)

mul_back : (op : MulOp) (w : ℕ) (d a b : ℕ) → field w 0 7 ≡ 0x33 → field w 12 3 ≡ mul_funct3 op →
    field w 25 7 ≡ 1 → field w 7 5 ≡ d → field w 15 5 ≡ a → field w 20 5 ≡ b →
    read_by op_rows w ≡ Muldiv op d a b
unfolding op_rows
mul_back Mul w d a b e0 e1 e2 e3 e4 e5 = simp (e0, e1, e2, e3, e4, e5)
mul_back Mulh w d a b e0 e1 e2 e3 e4 e5 = simp (e0, e1, e2, e3, e4, e5)
mul_back Mulhsu w d a b e0 e1 e2 e3 e4 e5 = simp (e0, e1, e2, e3, e4, e5)
mul_back Mulhu w d a b e0 e1 e2 e3 e4 e5 = simp (e0, e1, e2, e3, e4, e5)
mul_back Div w d a b e0 e1 e2 e3 e4 e5 = simp (e0, e1, e2, e3, e4, e5)
mul_back Divu w d a b e0 e1 e2 e3 e4 e5 = simp (e0, e1, e2, e3, e4, e5)
mul_back Rem w d a b e0 e1 e2 e3 e4 e5 = simp (e0, e1, e2, e3, e4, e5)
mul_back Remu w d a b e0 e1 e2 e3 e4 e5 = simp (e0, e1, e2, e3, e4, e5)

-- a word with such a field isn't ECALL, EBREAK or MRET
no_word : (w k : ℕ) → k < 2 ^ 32 → field k 12 3 ≡ 0 → 0 < field w 12 3 → (field w 0 32 == k) ≡ false
no_word w k small none h = let no : field w 0 32 ≢ k = omega arith in grind (arith, nat_tests)

csr_back : (op : CsrKind) (w d n a : ℕ) → field w 0 7 ≡ 0x73 → field w 12 3 ≡ csr_funct3 op →
    field w 7 5 ≡ d → field w 20 12 ≡ n → field w 15 5 ≡ a → read_by system_rows w ≡ Csr op d n a
unfolding system_rows
csr_back Rw w d n a e0 e1 e2 e3 e4 =
    let some : 0 < field w 12 3 = omega arith in
    simp (
      no_word w 0x00000073 (omega arith) (omega arith) some,
      no_word w 0x00100073 (omega arith) (omega arith) some,
      no_word w 0x30200073 (omega arith) (omega arith) some,
      e0,
      e1,
      e2,
      e3,
      e4,
    )
csr_back Rs w d n a e0 e1 e2 e3 e4 =
    let some : 0 < field w 12 3 = omega arith in
    simp (
      no_word w 0x00000073 (omega arith) (omega arith) some,
      no_word w 0x00100073 (omega arith) (omega arith) some,
      no_word w 0x30200073 (omega arith) (omega arith) some,
      e0,
      e1,
      e2,
      e3,
      e4,
    )
csr_back Rc w d n a e0 e1 e2 e3 e4 =
    let some : 0 < field w 12 3 = omega arith in
    simp (
      no_word w 0x00000073 (omega arith) (omega arith) some,
      no_word w 0x00100073 (omega arith) (omega arith) some,
      no_word w 0x30200073 (omega arith) (omega arith) some,
      e0,
      e1,
      e2,
      e3,
      e4,
    )
csr_back Rwi w d n a e0 e1 e2 e3 e4 =
    let some : 0 < field w 12 3 = omega arith in
    simp (
      no_word w 0x00000073 (omega arith) (omega arith) some,
      no_word w 0x00100073 (omega arith) (omega arith) some,
      no_word w 0x30200073 (omega arith) (omega arith) some,
      e0,
      e1,
      e2,
      e3,
      e4,
    )
csr_back Rsi w d n a e0 e1 e2 e3 e4 =
    let some : 0 < field w 12 3 = omega arith in
    simp (
      no_word w 0x00000073 (omega arith) (omega arith) some,
      no_word w 0x00100073 (omega arith) (omega arith) some,
      no_word w 0x30200073 (omega arith) (omega arith) some,
      e0,
      e1,
      e2,
      e3,
      e4,
    )
csr_back Rci w d n a e0 e1 e2 e3 e4 =
    let some : 0 < field w 12 3 = omega arith in
    simp (
      no_word w 0x00000073 (omega arith) (omega arith) some,
      no_word w 0x00100073 (omega arith) (omega arith) some,
      no_word w 0x30200073 (omega arith) (omega arith) some,
      e0,
      e1,
      e2,
      e3,
      e4,
    )

ecall_back : ins 0x00000073 ≡ Ecall
unfolding ins rows lui_rows auipc_rows jal_rows jalr_rows branch_rows load_rows store_rows imm_rows
    op_rows fence_rows system_rows time_rows
ecall_back = refl

ebreak_back : ins 0x00100073 ≡ Ebreak
unfolding ins rows lui_rows auipc_rows jal_rows jalr_rows branch_rows load_rows store_rows imm_rows
    op_rows fence_rows system_rows time_rows
ebreak_back = refl

mret_back : ins 0x30200073 ≡ Mret
unfolding ins rows lui_rows auipc_rows jal_rows jalr_rows branch_rows load_rows store_rows imm_rows
    op_rows fence_rows system_rows time_rows
mret_back = refl

de_back : ins 0x0000500b ≡ De
unfolding ins rows lui_rows auipc_rows jal_rows jalr_rows branch_rows load_rows store_rows imm_rows
    op_rows fence_rows system_rows time_rows
de_back = refl

gt_back : (w d : ℕ) → IsMade w 0x0b d 0 0 0 0 → read_by time_rows w ≡ Gt d
unfolding time_rows
gt_back w d m = simp (m.code_is, m.rd_is, m.f3_is, m.rs1_is, m.rs2_is, m.f7_is)

gth_back : (w d : ℕ) → IsMade w 0x0b d 1 0 0 0 → read_by time_rows w ≡ Gth d
unfolding time_rows
gth_back w d m = simp (m.code_is, m.rd_is, m.f3_is, m.rs1_is, m.rs2_is, m.f7_is)

du_back : (w a b : ℕ) → IsMade w 0x0b 0 2 a b 0 → read_by time_rows w ≡ Du a b
unfolding time_rows
du_back w a b m = simp (m.code_is, m.rd_is, m.f3_is, m.rs1_is, m.rs2_is, m.f7_is)

wu_back : (w a b : ℕ) → IsMade w 0x0b 0 3 a b 0 → read_by time_rows w ≡ Wu a b
unfolding time_rows
wu_back w a b m = simp (m.code_is, m.rd_is, m.f3_is, m.rs1_is, m.rs2_is, m.f7_is)

ee_back : (w a b : ℕ) → IsMade w 0x0b 0 4 a b 0 → read_by time_rows w ≡ Ee a b
unfolding time_rows
ee_back w a b m = simp (m.code_is, m.rd_is, m.f3_is, m.rs1_is, m.rs2_is, m.f7_is)

lui_back : (w d imm : ℕ) → IsMadeU w 0x37 d imm → read_by lui_rows w ≡ Lui d imm
unfolding lui_rows
lui_back w d imm m = simp (m.code_is, m.rd_is, m.imm_is)

auipc_back : (w d imm : ℕ) → IsMadeU w 0x17 d imm → read_by auipc_rows w ≡ Auipc d imm
unfolding auipc_rows
auipc_back w d imm m = simp (m.code_is, m.rd_is, m.imm_is)

jal_back : (w d : ℕ) (off : ℤ) → field w 0 7 ≡ 0x6f → field w 7 5 ≡ d → imm_j w ≡ off →
    read_by jal_rows w ≡ Jal d off
unfolding jal_rows
jal_back w d off e0 e1 e2 = simp (e0, e1, e2)

jalr_back : (w d a : ℕ) (imm : ℤ) → field w 0 7 ≡ 0x67 → field w 12 3 ≡ 0 → field w 7 5 ≡ d →
    field w 15 5 ≡ a → imm_i w ≡ imm → read_by jalr_rows w ≡ Jalr d a imm
unfolding jalr_rows
jalr_back w d a imm e0 e1 e2 e3 e4 = simp (e0, e1, e2, e3, e4)

fence_back : (w : ℕ) → field w 0 7 ≡ 0x0f → (f3 : ℕ) → field w 12 3 ≡ f3 → f3 < 2 →
    read_by fence_rows w ≡ Fence w
unfolding fence_rows
fence_back w code zero e small = simp (code, e)
fence_back w code (suc zero) e small = simp (code, e)
fence_back w code (suc (suc n)) e small = absurd (omega arith)

-- The numbers of the operations fit their fields.
branch_funct3-small : (op : BranchOp) → branch_funct3 op < 8
branch_funct3-small Beq = omega arith
branch_funct3-small Bne = omega arith
branch_funct3-small Blt = omega arith
branch_funct3-small Bge = omega arith
branch_funct3-small Bltu = omega arith
branch_funct3-small Bgeu = omega arith

load_funct3-small : (op : LoadOp) → load_funct3 op < 8
load_funct3-small Lb = omega arith
load_funct3-small Lh = omega arith
load_funct3-small Lw = omega arith
load_funct3-small Lbu = omega arith
load_funct3-small Lhu = omega arith

store_funct3-small : (op : StoreOp) → store_funct3 op < 8
store_funct3-small Sb = omega arith
store_funct3-small Sh = omega arith
store_funct3-small Sw = omega arith

imm_funct3-small : (op : ImmOp) → imm_funct3 op < 8
imm_funct3-small Addi = omega arith
imm_funct3-small Slti = omega arith
imm_funct3-small Sltiu = omega arith
imm_funct3-small Xori = omega arith
imm_funct3-small Ori = omega arith
imm_funct3-small Andi = omega arith

shift_funct3-small : (op : ShiftOp) → shift_funct3 op < 8
shift_funct3-small Slli = omega arith
shift_funct3-small Srli = omega arith
shift_funct3-small Srai = omega arith

shift_funct7-small : (op : ShiftOp) → shift_funct7 op < 128
shift_funct7-small Slli = omega arith
shift_funct7-small Srli = omega arith
shift_funct7-small Srai = omega arith

alu_funct3-small : (op : AluOp) → alu_funct3 op < 8
alu_funct3-small Add = omega arith
alu_funct3-small Sub = omega arith
alu_funct3-small Sll = omega arith
alu_funct3-small Slt = omega arith
alu_funct3-small Sltu = omega arith
alu_funct3-small Xor = omega arith
alu_funct3-small Srl = omega arith
alu_funct3-small Sra = omega arith
alu_funct3-small Or = omega arith
alu_funct3-small And = omega arith

alu_funct7-small : (op : AluOp) → alu_funct7 op < 128
alu_funct7-small Add = omega arith
alu_funct7-small Sub = omega arith
alu_funct7-small Sll = omega arith
alu_funct7-small Slt = omega arith
alu_funct7-small Sltu = omega arith
alu_funct7-small Xor = omega arith
alu_funct7-small Srl = omega arith
alu_funct7-small Sra = omega arith
alu_funct7-small Or = omega arith
alu_funct7-small And = omega arith

mul_funct3-small : (op : MulOp) → mul_funct3 op < 8
mul_funct3-small Mul = omega arith
mul_funct3-small Mulh = omega arith
mul_funct3-small Mulhsu = omega arith
mul_funct3-small Mulhu = omega arith
mul_funct3-small Div = omega arith
mul_funct3-small Divu = omega arith
mul_funct3-small Rem = omega arith
mul_funct3-small Remu = omega arith

csr_funct3-small : (op : CsrKind) → csr_funct3 op < 8
csr_funct3-small Rw = omega arith
csr_funct3-small Rs = omega arith
csr_funct3-small Rc = omega arith
csr_funct3-small Rwi = omega arith
csr_funct3-small Rsi = omega arith
csr_funct3-small Rci = omega arith

-- an immediate of format I
at_i : (w : ℕ) (imm : ℤ) → IsSigned 12 imm → field w 20 12 ≡ low_bits 12 imm → imm_i w ≡ imm
at_i w imm h e = ap (sign_extended 12) e ∙ sign_12 imm h

made_signed : (code d f3 a : ℕ) (imm : ℤ) → code < 128 → d < 32 → f3 < 8 → a < 32 →
    IsMadeI (i_word code d f3 a (low_bits 12 imm)) code d f3 a (low_bits 12 imm)
made_signed code d f3 a imm h0 h1 h2 h3 =
    made_i code d f3 a (low_bits 12 imm) h0 h1 h2 h3 (small_12 imm)

made_s : (code f3 a b n : ℕ) → code < 128 → f3 < 8 → a < 32 → b < 32 → n < 4096 →
    IsMade (s_word code f3 a b n) code (field n 0 5) f3 a b (field n 5 7)
made_s code f3 a b n h0 h1 h2 h3 h4 =
    made code (field n 0 5) f3 a b (field n 5 7) h0 (omega arith) h1 h2 h3 (omega arith)

made_b : (code f3 a b n : ℕ) → code < 128 → f3 < 8 → a < 32 → b < 32 → n < 8192 →
    IsMade (b_word code f3 a b n) code (field n 1 4 * 2 + field n 11 1) f3 a b
    (field n 12 1 * 2 ^ 6 + field n 5 6)
made_b code f3 a b n h0 h1 h2 h3 h4 =
    made code (field n 1 4 * 2 + field n 11 1) f3 a b (field n 12 1 * 2 ^ 6 + field n 5 6) h0
    (omega arith) h1 h2 h3 (omega arith)

made_j : (code d n : ℕ) → code < 128 → d < 32 → n < 2097152 → IsMadeU (j_word code d n) code d
    (field n 20 1 * 2 ^ 19 + field n 1 10 * 2 ^ 9 + field n 11 1 * 2 ^ 8 + field n 12 8)
made_j code d n h0 h1 h2 =
    made_u code d (field n 20 1 * 2 ^ 19 + field n 1 10 * 2 ^ 9 + field n 11 1 * 2 ^ 8
    + field n 12 8) h0 h1 (omega arith)

-- Decoding the word of an instruction whose fields are in range gives the instruction.
pub ins-encoded : (i : Ins) → InRange i → ins (encoding_of i) ≡ i
unfolding encoding_of
ins-encoded (Lui rd imm) h =
    let m = made_u 0x37 rd imm (omega arith) h.0 h.1 in
    ins-lui _ m.code_is ∙ lui_back _ rd imm m
ins-encoded (Auipc rd imm) h =
    let m = made_u 0x17 rd imm (omega arith) h.0 h.1 in
    ins-auipc _ m.code_is ∙ auipc_back _ rd imm m
ins-encoded (Jal rd off) h =
    let n : ℕ = low_bits 21 off in
    let w : ℕ = j_word 0x6f rd n in
    let m = made_j 0x6f rd n (omega arith) h.0 (small_21 off) in
    let whole = whole_j w n (small_21 off) (even_21 off h.2) m.imm_is in
    ins-jal w m.code_is
    ∙ jal_back w rd off m.code_is m.rd_is (ap (sign_extended 21) whole ∙ sign_21 off h.1)
ins-encoded (Jalr rd rs1 imm) h =
    let m = made_signed 0x67 rd 0 rs1 imm (omega arith) h.0 (omega arith) h.1 in
    ins-jalr _ m.code_is
    ∙ jalr_back _ rd rs1 imm m.code_is m.f3_is m.rd_is m.rs1_is (at_i _ imm h.2 m.imm_is)
ins-encoded (Branch op rs1 rs2 off) h =
    let n : ℕ = low_bits 13 off in
    let w : ℕ = b_word 0x63 (branch_funct3 op) rs1 rs2 n in
    let m = made_b 0x63 (branch_funct3 op) rs1 rs2 n (omega arith)
    (branch_funct3-small op) h.0 h.1 (small_13 off) in
    let whole = whole_b w n (small_13 off) (even_13 off h.3) m.rd_is m.f7_is in
    ins-branch w m.code_is ∙ branch_back op w rs1 rs2 off m.code_is m.f3_is m.rs1_is m.rs2_is
    (ap (sign_extended 13) whole ∙ sign_13 off h.2)
ins-encoded (Load op rd rs1 imm) h =
    let m =
    made_signed 0x03 rd (load_funct3 op) rs1 imm (omega arith) h.0 (load_funct3-small op) h.1 in
    ins-load _ m.code_is
    ∙ load_back op _ rd rs1 imm m.code_is m.f3_is m.rd_is m.rs1_is (at_i _ imm h.2 m.imm_is)
ins-encoded (Store op rs1 rs2 imm) h =
    let n : ℕ = low_bits 12 imm in
    let w : ℕ = s_word 0x23 (store_funct3 op) rs1 rs2 n in
    let m = made_s 0x23 (store_funct3 op) rs1 rs2 n (omega arith)
    (store_funct3-small op) h.0 h.1 (small_12 imm) in
    let whole = whole_s w n (small_12 imm) m.rd_is m.f7_is in
    ins-store w m.code_is ∙ store_back op w rs1 rs2 imm m.code_is m.f3_is m.rs1_is m.rs2_is
    (ap (sign_extended 12) whole ∙ sign_12 imm h.2)
ins-encoded (OpImm op rd rs1 imm) h =
    let m =
    made_signed 0x13 rd (imm_funct3 op) rs1 imm (omega arith) h.0 (imm_funct3-small op) h.1 in
    ins-imm _ m.code_is
    ∙ imm_back op _ rd rs1 imm m.code_is m.f3_is m.rd_is m.rs1_is (at_i _ imm h.2 m.imm_is)
ins-encoded (Shift op rd rs1 amount) h =
    let m = made 0x13 rd (shift_funct3 op) rs1 amount (shift_funct7 op)
    (omega arith) h.0 (shift_funct3-small op) h.1 h.2 (shift_funct7-small op) in
    ins-imm _ m.code_is
    ∙ shift_back op _ rd rs1 amount m.code_is m.f3_is m.f7_is m.rd_is m.rs1_is m.rs2_is
ins-encoded (Op op rd rs1 rs2) h =
    let m = made 0x33 rd (alu_funct3 op) rs1 rs2 (alu_funct7 op)
    (omega arith) h.0 (alu_funct3-small op) h.1 h.2 (alu_funct7-small op) in
    ins-op _ m.code_is ∙ op_back op _ rd rs1 rs2 m.code_is m.f3_is m.f7_is m.rd_is m.rs1_is m.rs2_is
ins-encoded (Muldiv op rd rs1 rs2) h =
    let m = made 0x33 rd (mul_funct3 op) rs1 rs2 1 (omega arith) h.0
    (mul_funct3-small op) h.1 h.2 (omega arith) in
    ins-op _ m.code_is
    ∙ mul_back op _ rd rs1 rs2 m.code_is m.f3_is m.f7_is m.rd_is m.rs1_is m.rs2_is
ins-encoded (Fence w) h = ins-fence w h.0 ∙ fence_back w h.0 (field w 12 3) refl h.1
ins-encoded Ecall h = ecall_back
ins-encoded Ebreak h = ebreak_back
ins-encoded Mret h = mret_back
ins-encoded (Csr op rd csr src) h =
    let m =
    made_i 0x73 rd (csr_funct3 op) src csr (omega arith) h.0 (csr_funct3-small op) h.2 h.1 in
    ins-system _ m.code_is ∙ csr_back op _ rd csr src m.code_is m.f3_is m.rd_is m.imm_is m.rs1_is
ins-encoded (Gt rd) h =
    let m =
    made 0x0b rd 0 0 0 0 (omega arith) h (omega arith) (omega arith) (omega arith) (omega arith) in
    ins-time _ m.code_is ∙ gt_back _ rd m
ins-encoded (Gth rd) h =
    let m =
    made 0x0b rd 1 0 0 0 (omega arith) h (omega arith) (omega arith) (omega arith) (omega arith) in
    ins-time _ m.code_is ∙ gth_back _ rd m
ins-encoded (Du rs1 rs2) h =
    let m =
    made 0x0b 0 2 rs1 rs2 0 (omega arith) (omega arith) (omega arith) h.0 h.1 (omega arith) in
    ins-time _ m.code_is ∙ du_back _ rs1 rs2 m
ins-encoded (Wu rs1 rs2) h =
    let m =
    made 0x0b 0 3 rs1 rs2 0 (omega arith) (omega arith) (omega arith) h.0 h.1 (omega arith) in
    ins-time _ m.code_is ∙ wu_back _ rs1 rs2 m
ins-encoded (Ee rs1 rs2) h =
    let m =
    made 0x0b 0 4 rs1 rs2 0 (omega arith) (omega arith) (omega arith) h.0 h.1 (omega arith) in
    ins-time _ m.code_is ∙ ee_back _ rs1 rs2 m
ins-encoded De h = de_back
ins-encoded (Illegal w) h = h
