-- Every instruction that the table reads out of a word has its fields in range.
use Rattle.std.proofs.Common.{◌≡◌, ◌<◌, ◌≤◌, ◌⊎◌, ℕ, ◌+◌, ◌*◌, ◌^◌, pos, ◌-ℤ◌, ◌+ℤ◌}
use Rattle.std.proofs.Common.{◌≤ℤ◌, ◌<ℤ◌, List, [], ◌∷◌, ◌++◌, Bool, true, false}
use Rattle.std.proofs.Common.{nat_lt, if◌then◌else◌, refl, sym, subst, inl, inr, arith}
use Rattle.std.proofs.lemmas.Bool.Decides.{nat_tests}
use Rattle.std.proofs.lemmas.Int.{ints}
use Rattle.rv_decode.specs.Fields.{field, sign_extended, imm_i, imm_j}
use Rattle.rv_decode.specs.Range.{InRange, HasRegisters, IsSigned, IsEven}
use Rattle.rv_decode.specs.Table.{Row, row, fits, read_by, rows, ins, branch_row, load_row}
use Rattle.rv_decode.specs.Table.{store_row, imm_row, shift_row, op_row, mul_row, fence_row}
use Rattle.rv_decode.specs.Table.{csr_row, moment_row, funct3, lui_rows, auipc_rows}
use Rattle.rv_decode.specs.Table.{jal_rows, jalr_rows, branch_rows, load_rows, store_rows}
use Rattle.rv_decode.specs.Table.{imm_rows, op_rows, fence_rows, system_rows, time_rows}
use Rattle.rv_decode.specs.declared.instruction.Ins.{Ins}
use Rattle.rv_decode.specs.declared.instruction.Ins.TheVariants.{Lui, Auipc, Jal, Jalr, Branch}
use Rattle.rv_decode.specs.declared.instruction.Ins.TheVariants.{Load, Store, OpImm, Shift}
use Rattle.rv_decode.specs.declared.instruction.Ins.TheVariants.{Op, Muldiv, Fence, Ecall}
use Rattle.rv_decode.specs.declared.instruction.Ins.TheVariants.{Ebreak, Mret, Csr, Gt, Gth}
use Rattle.rv_decode.specs.declared.instruction.Ins.TheVariants.{Du, Wu, Ee, De, Illegal}
use Rattle.rv_decode.specs.declared.instruction.BranchOp.{BranchOp}
use Rattle.rv_decode.specs.declared.instruction.BranchOp.TheVariants.{Beq, Bne, Blt}
use Rattle.rv_decode.specs.declared.instruction.BranchOp.TheVariants.{Bge, Bltu, Bgeu}
use Rattle.rv_decode.specs.declared.instruction.LoadOp.{LoadOp}
use Rattle.rv_decode.specs.declared.instruction.LoadOp.TheVariants.{Lb, Lh, Lw, Lbu, Lhu}
use Rattle.rv_decode.specs.declared.instruction.StoreOp.{StoreOp}
use Rattle.rv_decode.specs.declared.instruction.StoreOp.TheVariants.{Sb, Sh, Sw}
use Rattle.rv_decode.specs.declared.instruction.ImmOp.{ImmOp}
use Rattle.rv_decode.specs.declared.instruction.ImmOp.TheVariants.{Addi, Slti, Sltiu}
use Rattle.rv_decode.specs.declared.instruction.ImmOp.TheVariants.{Xori, Ori, Andi}
use Rattle.rv_decode.specs.declared.instruction.ShiftOp.{ShiftOp}
use Rattle.rv_decode.specs.declared.instruction.ShiftOp.TheVariants.{Slli, Srli, Srai}
use Rattle.rv_decode.specs.declared.instruction.AluOp.{AluOp}
use Rattle.rv_decode.specs.declared.instruction.AluOp.TheVariants.{Add, Sub, Sll, Slt, Sltu}
use Rattle.rv_decode.specs.declared.instruction.AluOp.TheVariants.{Xor, Srl, Sra, Or, And}
use Rattle.rv_decode.specs.declared.instruction.MulOp.{MulOp}
use Rattle.rv_decode.specs.declared.instruction.MulOp.TheVariants.{Mul, Mulh, Mulhsu, Mulhu}
use Rattle.rv_decode.specs.declared.instruction.MulOp.TheVariants.{Div, Divu, Rem, Remu}
use Rattle.rv_decode.specs.declared.instruction.CsrKind.{CsrKind}
use Rattle.rv_decode.specs.declared.instruction.CsrKind.TheVariants.{Rw, Rs, Rc, Rwi, Rsi, Rci}

-- a number below twice half, read with its sign, lies from -half to below half
signed_if : (half n : ℕ) → n < half + half → (b : Bool) → nat_lt n half ≡ b
    → (pos 0 ≤ℤ ((if b then pos n else pos n -ℤ pos (half + half)) +ℤ pos half))
    × ((if b then pos n else pos n -ℤ pos (half + half)) <ℤ pos half)
signed_if half n h true e =
    let below : n < half = grind (arith, nat_tests) in (omega (arith, ints), omega (arith, ints))
signed_if half n h false e =
    let above : half ≤ n = grind (arith, nat_tests) in (omega (arith, ints), omega (arith, ints))

signed_12 : (n : ℕ) → n < 2 ^ 12 → IsSigned 12 (sign_extended 12 n)
signed_12 n h = signed_if 2048 n h (nat_lt n 2048) refl

signed_13 : (n : ℕ) → n < 2 ^ 13 → IsSigned 13 (sign_extended 13 n)
signed_13 n h = signed_if 4096 n h (nat_lt n 4096) refl

signed_21 : (n : ℕ) → n < 2 ^ 21 → IsSigned 21 (sign_extended 21 n)
signed_21 n h = signed_if 1048576 n h (nat_lt n 1048576) refl

-- an even number, read with its sign, is even
even_if : (half m n : ℕ) → n ≡ m + m → (b : Bool) →
    IsEven (if b then pos n else pos n -ℤ pos (half + half))
even_if half m n e true = (pos m, omega (arith, ints))
even_if half m n e false = (pos m -ℤ pos half, omega (arith, ints))

-- the instruction that the row reads is in range
abbrev IsSound : Row → Type 0
IsSound r = (w : ℕ) → fits r w ≡ true → InRange (r.reads w)

abbrev AllSound : List Row → Type 0
AllSound [] = Unit {0}
AllSound (r ∷ rs) = IsSound r × AllSound rs

sound-append : (xs ys : List Row) → AllSound xs → AllSound ys → AllSound (xs ++ ys)
sound-append [] ys g h = h
sound-append (x ∷ xs) ys g h = (g.0, sound-append xs ys g.1 h)

branch_sound : (f3 : ℕ) (op : BranchOp) → IsSound (branch_row f3 op)
branch_sound f3 op w fit = (
  omega arith,
  omega arith,
  signed_13 (field w 31 1 * 2 ^ 12 + field w 7 1 * 2 ^ 11 + field w 25 6 * 2 ^ 5 + field w 8 4 * 2)
      (omega arith),
  even_if 4096 (field w 31 1 * 2 ^ 11 + field w 7 1 * 2 ^ 10 + field w 25 6 * 2 ^ 4 + field w 8 4)
      (field w 31 1 * 2 ^ 12 + field w 7 1 * 2 ^ 11 + field w 25 6 * 2 ^ 5 + field w 8 4 * 2)
      (omega arith) (nat_lt
      (field w 31 1 * 2 ^ 12 + field w 7 1 * 2 ^ 11 + field w 25 6 * 2 ^ 5 + field w 8 4 * 2) 4096),
)

jal_sound : IsSound (row 0x6f [] (λ w. Jal (field w 7 5) (imm_j w)))
jal_sound w fit = (
  omega arith,
  signed_21 (field w 31 1 * 2 ^ 20 + field w 12 8 * 2 ^ 12 + field w 20 1 * 2 ^ 11
      + field w 21 10 * 2) (omega arith),
  even_if 1048576
      (field w 31 1 * 2 ^ 19 + field w 12 8 * 2 ^ 11 + field w 20 1 * 2 ^ 10 + field w 21 10)
      (field w 31 1 * 2 ^ 20 + field w 12 8 * 2 ^ 12 + field w 20 1 * 2 ^ 11 + field w 21 10 * 2)
      (omega arith) (nat_lt (field w 31 1 * 2 ^ 20 + field w 12 8 * 2 ^ 12 + field w 20 1 * 2 ^ 11
      + field w 21 10 * 2) 1048576),
)

jalr_sound : IsSound (row 0x67 (funct3 0 ∷ []) (λ w. Jalr (field w 7 5) (field w 15 5) (imm_i w)))
jalr_sound w fit = (omega arith, omega arith, signed_12 (field w 20 12) (omega arith))

load_sound : (f3 : ℕ) (op : LoadOp) → IsSound (load_row f3 op)
load_sound f3 op w fit = (omega arith, omega arith, signed_12 (field w 20 12) (omega arith))

store_sound : (f3 : ℕ) (op : StoreOp) → IsSound (store_row f3 op)
store_sound f3 op w fit =
    (omega arith, omega arith, signed_12 (field w 25 7 * 2 ^ 5 + field w 7 5) (omega arith))

imm_sound : (f3 : ℕ) (op : ImmOp) → IsSound (imm_row f3 op)
imm_sound f3 op w fit = (omega arith, omega arith, signed_12 (field w 20 12) (omega arith))

shift_sound : (f3 f7 : ℕ) (op : ShiftOp) → IsSound (shift_row f3 f7 op)
shift_sound f3 f7 op w fit = (omega arith, omega arith, omega arith)

op_sound : (f3 f7 : ℕ) (op : AluOp) → IsSound (op_row f3 f7 op)
op_sound f3 f7 op w fit = (omega arith, omega arith, omega arith)

mul_sound : (f3 : ℕ) (op : MulOp) → IsSound (mul_row f3 op)
mul_sound f3 op w fit = (omega arith, omega arith, omega arith)

fence_sound : (f3 : ℕ) → f3 < 2 → IsSound (fence_row f3)
fence_sound f3 small w fit = (grind (arith, nat_tests), grind (arith, nat_tests))

csr_sound : (f3 : ℕ) (op : CsrKind) → IsSound (csr_row f3 op)
csr_sound f3 op w fit = (omega arith, omega arith, omega arith)

moment_sound : (f3 : ℕ) (make : ℕ → ℕ → Ins) → ((a b : ℕ) → a < 32 → b < 32 → InRange (make a b)) →
    IsSound (moment_row f3 (λ w. make (field w 15 5) (field w 20 5)))
moment_sound f3 make small w fit = small (field w 15 5) (field w 20 5) (omega arith) (omega arith)

lui_all : AllSound lui_rows
unfolding lui_rows
lui_all = ((λ w fit. (omega arith, omega arith)), tt)

auipc_all : AllSound auipc_rows
unfolding auipc_rows
auipc_all = ((λ w fit. (omega arith, omega arith)), tt)

jal_all : AllSound jal_rows
unfolding jal_rows
jal_all = (jal_sound, tt)

jalr_all : AllSound jalr_rows
unfolding jalr_rows
jalr_all = (jalr_sound, tt)

branch_all : AllSound branch_rows
unfolding branch_rows
branch_all = (
  branch_sound 0 Beq,
  (
    branch_sound 1 Bne,
    (branch_sound 4 Blt, (branch_sound 5 Bge, (branch_sound 6 Bltu, (branch_sound 7 Bgeu, tt)))),
  ),
)

load_all : AllSound load_rows
unfolding load_rows
load_all = (
  load_sound 0 Lb,
  (load_sound 1 Lh, (load_sound 2 Lw, (load_sound 4 Lbu, (load_sound 5 Lhu, tt)))),
)

store_all : AllSound store_rows
unfolding store_rows
store_all = (store_sound 0 Sb, (store_sound 1 Sh, (store_sound 2 Sw, tt)))

imm_all : AllSound imm_rows
unfolding imm_rows
imm_all = (
  imm_sound 0 Addi,
  (
    imm_sound 2 Slti,
    (
      imm_sound 3 Sltiu,
      (
        imm_sound 4 Xori,
        (
          imm_sound 6 Ori,
          (
            imm_sound 7 Andi,
            (shift_sound 1 0 Slli, (shift_sound 5 0 Srli, (shift_sound 5 0x20 Srai, tt))),
          ),
        ),
      ),
    ),
  ),
)

op_all : AllSound op_rows
unfolding op_rows
op_all = (
  op_sound 0 0 Add,
  (
    op_sound 0 0x20 Sub,
    (
      op_sound 1 0 Sll,
      (
        op_sound 2 0 Slt,
        (
          op_sound 3 0 Sltu,
          (
            op_sound 4 0 Xor,
            (
              op_sound 5 0 Srl,
              (
                op_sound 5 0x20 Sra,
                (
                  op_sound 6 0 Or,
                  (
                    op_sound 7 0 And,
                    (
                      mul_sound 0 Mul,
                      (
                        mul_sound 1 Mulh,
                        (
                          mul_sound 2 Mulhsu,
                          (
                            mul_sound 3 Mulhu,
                            (
                              mul_sound 4 Div,
                              (mul_sound 5 Divu, (mul_sound 6 Rem, (mul_sound 7 Remu, tt))),
                            ),
                          ),
                        ),
                      ),
                    ),
                  ),
                ),
              ),
            ),
          ),
        ),
      ),
    ),
  ),
)

fence_all : AllSound fence_rows
unfolding fence_rows
fence_all = (fence_sound 0 (omega arith), (fence_sound 1 (omega arith), tt))

system_all : AllSound system_rows
unfolding system_rows
system_all = (
  (λ w fit. tt),
  (
    (λ w fit. tt),
    (
      (λ w fit. tt),
      (
        csr_sound 1 Rw,
        (
          csr_sound 2 Rs,
          (csr_sound 3 Rc, (csr_sound 5 Rwi, (csr_sound 6 Rsi, (csr_sound 7 Rci, tt)))),
        ),
      ),
    ),
  ),
)

time_all : AllSound time_rows
unfolding time_rows
time_all = (
  (λ w fit. omega arith),
  (
    (λ w fit. omega arith),
    (
      moment_sound 2 Du (λ a b x y. (x, y)),
      (
        moment_sound 3 Wu (λ a b x y. (x, y)),
        (moment_sound 4 Ee (λ a b x y. (x, y)), ((λ w fit. tt), tt)),
      ),
    ),
  ),
)

all : AllSound rows
unfolding rows
all =
    sound-append lui_rows _ lui_all (sound-append auipc_rows _ auipc_all
    (sound-append jal_rows _ jal_all (sound-append jalr_rows _ jalr_all
    (sound-append branch_rows _ branch_all (sound-append load_rows _ load_all
    (sound-append store_rows _ store_all (sound-append imm_rows _ imm_all
    (sound-append op_rows _ op_all
    (sound-append fence_rows _ fence_all (sound-append system_rows _ system_all time_all))))))))))

read_step : (r : Row) (rs : List Row) (w : ℕ) → (fits r w ≡ true → InRange (r.reads w)) →
    (read_by rs w ≡ Illegal w) ⊎ InRange (read_by rs w) → (b : Bool) → fits r w ≡ b →
    (read_by (r ∷ rs) w ≡ Illegal w) ⊎ InRange (read_by (r ∷ rs) w)
read_step r rs w own rest true e = rw e (inr (own e))
read_step r rs w own rest false e = rw e rest

read_range : (rs : List Row) → AllSound rs → (w : ℕ) →
    (read_by rs w ≡ Illegal w) ⊎ InRange (read_by rs w)
read_range [] h w = inl refl
read_range (r ∷ rs) h w = read_step r rs w (h.0 w) (read_range rs h.1 w) (fits r w) refl

from_read : (w : ℕ) → (ins w ≡ Illegal w) ⊎ InRange (ins w) → InRange (ins w)
from_read w (inl e) = let P : Ins → Type 0 = λ i. InRange i in subst P (sym e) e
from_read w (inr h) = h

-- The instruction of a word is in range.
pub ins-range : (w : ℕ) → InRange (ins w)
unfolding ins
ins-range w = from_read w (read_range rows all w)

-- Registers are in range if all fields are.
pub range-registers : (i : Ins) → InRange i → HasRegisters i
range-registers (Lui rd imm) h = h.0
range-registers (Auipc rd imm) h = h.0
range-registers (Jal rd off) h = h.0
range-registers (Jalr rd rs1 imm) h = (h.0, h.1)
range-registers (Branch op rs1 rs2 off) h = (h.0, h.1)
range-registers (Load op rd rs1 imm) h = (h.0, h.1)
range-registers (Store op rs1 rs2 imm) h = (h.0, h.1)
range-registers (OpImm op rd rs1 imm) h = (h.0, h.1)
range-registers (Shift op rd rs1 amount) h = (h.0, h.1)
range-registers (Op op rd rs1 rs2) h = h
range-registers (Muldiv op rd rs1 rs2) h = h
range-registers (Fence w) h = tt
range-registers Ecall h = tt
range-registers Ebreak h = tt
range-registers Mret h = tt
range-registers (Csr op rd csr src) h = (h.0, h.2)
range-registers (Gt rd) h = h
range-registers (Gth rd) h = h
range-registers (Du rs1 rs2) h = h
range-registers (Wu rs1 rs2) h = h
range-registers (Ee rs1 rs2) h = h
range-registers De h = tt
range-registers (Illegal w) h = tt
