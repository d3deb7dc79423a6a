-- The encoding of a word's instruction is the word.
use Rattle.std.proofs.Common.{◌≡◌, ◌<◌, ◌≤◌, ℕ, ◌+◌, ◌-◌, ◌*◌, ◌%◌, ◌^◌, ◌==◌}
use Rattle.std.proofs.Common.{◌&&◌, pos, negsuc, ◌-ℤ◌, List, [], ◌∷◌, ◌++◌, Bool}
use Rattle.std.proofs.Common.{true, false, nat_lt, if◌then◌else◌, refl, ◌∙◌, arith}
use Rattle.std.proofs.lemmas.Bool.Decides.{nat_tests}
use Rattle.std.proofs.lemmas.Int.{ints}
use Rattle.std.proofs.Math.Nat.{mod-eq_of_lt}
use Rattle.rv_decode.specs.Fields.{field, sign_extended, imm_i, imm_s, imm_b, imm_j}
use Rattle.rv_decode.specs.Encoding.{encoding_of, low_bits, r_word, i_word, s_word}
use Rattle.rv_decode.specs.Encoding.{b_word, u_word, j_word, branch_funct3, load_funct3}
use Rattle.rv_decode.specs.Encoding.{store_funct3, imm_funct3, shift_funct3, shift_funct7}
use Rattle.rv_decode.specs.Encoding.{alu_funct3, alu_funct7, mul_funct3, csr_funct3}
use Rattle.rv_decode.specs.Table.{Row, row, fits, read_by, rows, ins, branch_row, load_row}
use Rattle.rv_decode.specs.Table.{store_row, imm_row, shift_row, op_row, mul_row, fence_row}
use Rattle.rv_decode.specs.Table.{system_row, csr_row, get_row, moment_row, funct3}
use Rattle.rv_decode.specs.Table.{funct7, rd_is, rs1_is, rs2_is, lui_rows, auipc_rows}
use Rattle.rv_decode.specs.Table.{jal_rows, jalr_rows, branch_rows, load_rows, store_rows}
use Rattle.rv_decode.specs.Table.{imm_rows, op_rows, fence_rows, system_rows, time_rows}
use Rattle.rv_decode.specs.declared.instruction.Ins.{Ins}
use Rattle.rv_decode.specs.declared.instruction.Ins.TheVariants.{Lui, Auipc, Jal, Jalr}
use Rattle.rv_decode.specs.declared.instruction.Ins.TheVariants.{Ecall, Ebreak, Mret}
use Rattle.rv_decode.specs.declared.instruction.Ins.TheVariants.{Gt, Gth, Du, Wu, Ee, De}
use Rattle.rv_decode.specs.declared.instruction.BranchOp.{BranchOp}
use Rattle.rv_decode.specs.declared.instruction.BranchOp.TheVariants.{Beq, Bne, Blt}
use Rattle.rv_decode.specs.declared.instruction.BranchOp.TheVariants.{Bge, Bltu, Bgeu}
use Rattle.rv_decode.specs.declared.instruction.LoadOp.{LoadOp}
use Rattle.rv_decode.specs.declared.instruction.LoadOp.TheVariants.{Lb, Lh, Lw, Lbu, Lhu}
use Rattle.rv_decode.specs.declared.instruction.StoreOp.{StoreOp}
use Rattle.rv_decode.specs.declared.instruction.StoreOp.TheVariants.{Sb, Sh, Sw}
use Rattle.rv_decode.specs.declared.instruction.ImmOp.{ImmOp}
use Rattle.rv_decode.specs.declared.instruction.ImmOp.TheVariants.{Addi, Slti, Sltiu}
use Rattle.rv_decode.specs.declared.instruction.ImmOp.TheVariants.{Xori, Ori, Andi}
use Rattle.rv_decode.specs.declared.instruction.ShiftOp.{ShiftOp}
use Rattle.rv_decode.specs.declared.instruction.ShiftOp.TheVariants.{Slli, Srli, Srai}
use Rattle.rv_decode.specs.declared.instruction.AluOp.{AluOp}
use Rattle.rv_decode.specs.declared.instruction.AluOp.TheVariants.{Add, Sub, Sll, Slt, Sltu}
use Rattle.rv_decode.specs.declared.instruction.AluOp.TheVariants.{Xor, Srl, Sra, Or, And}
use Rattle.rv_decode.specs.declared.instruction.MulOp.{MulOp}
use Rattle.rv_decode.specs.declared.instruction.MulOp.TheVariants.{Mul, Mulh, Mulhsu, Mulhu}
use Rattle.rv_decode.specs.declared.instruction.MulOp.TheVariants.{Div, Divu, Rem, Remu}
use Rattle.rv_decode.specs.declared.instruction.CsrKind.{CsrKind}
use Rattle.rv_decode.specs.declared.instruction.CsrKind.TheVariants.{Rw, Rs, Rc, Rwi, Rsi, Rci}

-- the lowest bits of a number read with its sign are the number
back_if : (half n : ℕ) → n < half + half → (b : Bool) → nat_lt n half ≡ b → (count : ℕ) →
    2 ^ count ≡ half + half → low_bits count (if b then pos n else pos n -ℤ pos (half + half)) ≡ n
back_if half n h true e count size =
    let whole : n % (half + half) ≡ n = mod-eq_of_lt h in
    rw size whole
back_if half n h false e count size =
    let above : half ≤ n = grind (arith, nat_tests) in
    let negative : (pos n -ℤ pos (half + half)) ≡ negsuc (half + half - 1 - n) =
    omega (arith, ints) in
    let small : half + half - 1 - n < half + half = omega arith in
    let whole : (half + half - 1 - n) % (half + half) ≡ half + half - 1 - n = mod-eq_of_lt small in
    rw (negative, size, whole) (omega arith)

back_12 : (n : ℕ) → n < 2 ^ 12 → low_bits 12 (sign_extended 12 n) ≡ n
back_12 n h = back_if 2048 n h (nat_lt n 2048) refl 12 refl

back_13 : (n : ℕ) → n < 2 ^ 13 → low_bits 13 (sign_extended 13 n) ≡ n
back_13 n h = back_if 4096 n h (nat_lt n 4096) refl 13 refl

back_21 : (n : ℕ) → n < 2 ^ 21 → low_bits 21 (sign_extended 21 n) ≡ n
back_21 n h = back_if 1048576 n h (nat_lt n 1048576) refl 21 refl

eq_true : (a b : ℕ) → (a == b) ≡ true → a ≡ b
eq_true a b h = grind (arith, nat_tests)

and_true : (a b : Bool) → (a && b) ≡ true → (a ≡ true) × (b ≡ true)
and_true true b h = (refl, h)
and_true false b h = absurd (let never : false ≡ true = h in cc)

-- The formats: the fields of a word give the word.
r_whole : (w code f3 f7 : ℕ) → w < 2 ^ 32 → field w 0 7 ≡ code → field w 12 3 ≡ f3 →
    field w 25 7 ≡ f7 → r_word code (field w 7 5) f3 (field w 15 5) (field w 20 5) f7 ≡ w
r_whole w code f3 f7 h a b c = omega arith

i_whole : (w code f3 : ℕ) → w < 2 ^ 32 → field w 0 7 ≡ code → field w 12 3 ≡ f3 →
    i_word code (field w 7 5) f3 (field w 15 5) (field w 20 12) ≡ w
i_whole w code f3 h a b = omega arith

u_whole : (w code : ℕ) → w < 2 ^ 32 → field w 0 7 ≡ code →
    u_word code (field w 7 5) (field w 12 20) ≡ w
u_whole w code h a = omega arith

s_whole : (w code f3 n : ℕ) → w < 2 ^ 32 → field w 0 7 ≡ code → field w 12 3 ≡ f3 →
    n ≡ field w 25 7 * 2 ^ 5 + field w 7 5 → s_word code f3 (field w 15 5) (field w 20 5) n ≡ w
s_whole w code f3 n h a b e =
    let low : field n 0 5 ≡ field w 7 5 = omega arith in
    let high : field n 5 7 ≡ field w 25 7 = omega arith in
    rw (low, high) (r_whole w code f3 (field w 25 7) h a b refl)

b_whole : (w code f3 n : ℕ) → w < 2 ^ 32 → field w 0 7 ≡ code → field w 12 3 ≡ f3 →
    n ≡ field w 31 1 * 2 ^ 12 + field w 7 1 * 2 ^ 11 + field w 25 6 * 2 ^ 5 + field w 8 4 * 2 →
    b_word code f3 (field w 15 5) (field w 20 5) n ≡ w
b_whole w code f3 n h a b e =
    let one : field n 1 4 ≡ field w 8 4 = omega arith in
    let two : field n 11 1 ≡ field w 7 1 = omega arith in
    let three : field n 12 1 ≡ field w 31 1 = omega arith in
    let four : field n 5 6 ≡ field w 25 6 = omega arith in
    let low : field w 8 4 * 2 + field w 7 1 ≡ field w 7 5 = omega arith in
    let high : field w 31 1 * 2 ^ 6 + field w 25 6 ≡ field w 25 7 = omega arith in
    rw (one, two, three, four, low, high) (r_whole w code f3 (field w 25 7) h a b refl)

j_whole : (w code n : ℕ) → w < 2 ^ 32 → field w 0 7 ≡ code →
    n ≡ field w 31 1 * 2 ^ 20 + field w 12 8 * 2 ^ 12 + field w 20 1 * 2 ^ 11 + field w 21 10 * 2 →
    j_word code (field w 7 5) n ≡ w
j_whole w code n h a e =
    let one : field n 20 1 ≡ field w 31 1 = omega arith in
    let two : field n 1 10 ≡ field w 21 10 = omega arith in
    let three : field n 11 1 ≡ field w 20 1 = omega arith in
    let four : field n 12 8 ≡ field w 12 8 = omega arith in
    let all : field w 31 1 * 2 ^ 19 + field w 21 10 * 2 ^ 9 + field w 20 1 * 2 ^ 8 + field w 12 8
    ≡ field w 12 20 = omega arith in
    rw (one, two, three, four, all) (u_whole w code h a)

-- the encoding of the instruction that the row reads is the word
abbrev IsBack : Row → Type 0
IsBack r = (w : ℕ) → w < 2 ^ 32 → fits r w ≡ true → encoding_of (r.reads w) ≡ w

abbrev AllBack : List Row → Type 0
AllBack [] = Unit {0}
AllBack (r ∷ rs) = IsBack r × AllBack rs

back_append : (xs ys : List Row) → AllBack xs → AllBack ys → AllBack (xs ++ ys)
back_append [] ys g h = h
back_append (x ∷ xs) ys g h = (g.0, back_append xs ys g.1 h)

-- the fields that a row fixes
one_fits : (a k : ℕ) (more : Bool) → ((a == k) && more) ≡ true → (a ≡ k) × (more ≡ true)
one_fits a k more h = let both = and_true (a == k) more h in (eq_true a k both.0, both.1)

lui_back : IsBack (row 0x37 [] (λ w. Lui (field w 7 5) (field w 12 20)))
unfolding encoding_of
lui_back w h fit = u_whole w 0x37 h (one_fits _ _ _ fit).0

auipc_back : IsBack (row 0x17 [] (λ w. Auipc (field w 7 5) (field w 12 20)))
unfolding encoding_of
auipc_back w h fit = u_whole w 0x17 h (one_fits _ _ _ fit).0

jal_back : IsBack (row 0x6f [] (λ w. Jal (field w 7 5) (imm_j w)))
unfolding encoding_of
jal_back w h fit =
    let n : ℕ =
    field w 31 1 * 2 ^ 20 + field w 12 8 * 2 ^ 12 + field w 20 1 * 2 ^ 11 + field w 21 10 * 2 in
    let bits : low_bits 21 (imm_j w) ≡ n = back_21 n (omega arith) in
    rw bits (j_whole w 0x6f n h (one_fits _ _ _ fit).0 refl)

jalr_back : IsBack (row 0x67 (funct3 0 ∷ []) (λ w. Jalr (field w 7 5) (field w 15 5) (imm_i w)))
unfolding encoding_of
jalr_back w h fit =
    let a = one_fits _ _ _ fit in
    let bits : low_bits 12 (imm_i w) ≡ field w 20 12 = back_12 (field w 20 12) (omega arith) in
    rw bits (i_whole w 0x67 0 h a.0 (one_fits _ _ _ a.1).0)

branch_back : (op : BranchOp) → IsBack (branch_row (branch_funct3 op) op)
unfolding encoding_of
branch_back op w h fit =
    let a = one_fits _ _ _ fit in
    let n : ℕ =
    field w 31 1 * 2 ^ 12 + field w 7 1 * 2 ^ 11 + field w 25 6 * 2 ^ 5 + field w 8 4 * 2 in
    let bits : low_bits 13 (imm_b w) ≡ n = back_13 n (omega arith) in
    rw bits (b_whole w 0x63 (branch_funct3 op) n h a.0 (one_fits _ _ _ a.1).0 refl)

load_back : (op : LoadOp) → IsBack (load_row (load_funct3 op) op)
unfolding encoding_of
load_back op w h fit =
    let a = one_fits _ _ _ fit in
    let bits : low_bits 12 (imm_i w) ≡ field w 20 12 = back_12 (field w 20 12) (omega arith) in
    rw bits (i_whole w 0x03 (load_funct3 op) h a.0 (one_fits _ _ _ a.1).0)

store_back : (op : StoreOp) → IsBack (store_row (store_funct3 op) op)
unfolding encoding_of
store_back op w h fit =
    let a = one_fits _ _ _ fit in
    let n : ℕ = field w 25 7 * 2 ^ 5 + field w 7 5 in
    let bits : low_bits 12 (imm_s w) ≡ n = back_12 n (omega arith) in
    rw bits (s_whole w 0x23 (store_funct3 op) n h a.0 (one_fits _ _ _ a.1).0 refl)

imm_back : (op : ImmOp) → IsBack (imm_row (imm_funct3 op) op)
unfolding encoding_of
imm_back op w h fit =
    let a = one_fits _ _ _ fit in
    let bits : low_bits 12 (imm_i w) ≡ field w 20 12 = back_12 (field w 20 12) (omega arith) in
    rw bits (i_whole w 0x13 (imm_funct3 op) h a.0 (one_fits _ _ _ a.1).0)

shift_back : (op : ShiftOp) → IsBack (shift_row (shift_funct3 op) (shift_funct7 op) op)
unfolding encoding_of
shift_back op w h fit =
    let a = one_fits _ _ _ fit in
    let b = one_fits _ _ _ a.1 in
    r_whole w 0x13 (shift_funct3 op) (shift_funct7 op) h a.0 b.0 (one_fits _ _ _ b.1).0

op_back : (op : AluOp) → IsBack (op_row (alu_funct3 op) (alu_funct7 op) op)
unfolding encoding_of
op_back op w h fit =
    let a = one_fits _ _ _ fit in
    let b = one_fits _ _ _ a.1 in
    r_whole w 0x33 (alu_funct3 op) (alu_funct7 op) h a.0 b.0 (one_fits _ _ _ b.1).0

mul_back : (op : MulOp) → IsBack (mul_row (mul_funct3 op) op)
unfolding encoding_of
mul_back op w h fit =
    let a = one_fits _ _ _ fit in
    let b = one_fits _ _ _ a.1 in
    r_whole w 0x33 (mul_funct3 op) 1 h a.0 b.0 (one_fits _ _ _ b.1).0

fence_back : (f3 : ℕ) → IsBack (fence_row f3)
unfolding encoding_of
fence_back f3 w h fit = refl

csr_back : (op : CsrKind) → IsBack (csr_row (csr_funct3 op) op)
unfolding encoding_of
csr_back op w h fit =
    let a = one_fits _ _ _ fit in
    i_whole w 0x73 (csr_funct3 op) h a.0 (one_fits _ _ _ a.1).0

system_back : (k : ℕ) (i : Ins) → encoding_of i ≡ k → IsBack (system_row k i)
system_back k i e w h fit =
    let whole : field w 0 32 ≡ k = (one_fits _ _ _ (one_fits _ _ _ fit).1).0 in
    let same : k ≡ w = omega arith in
    e ∙ same

get_back : (f3 : ℕ) (make : ℕ → Ins) → ((d : ℕ) → encoding_of (make d) ≡ r_word 0x0b d f3 0 0 0) →
    IsBack (get_row f3 (λ w. make (field w 7 5)))
get_back f3 make e w h fit =
    let a = one_fits _ _ _ fit in
    let b = one_fits _ _ _ a.1 in
    let c = one_fits _ _ _ b.1 in
    let d = one_fits _ _ _ c.1 in
    let f = one_fits _ _ _ d.1 in
    let first : field w 15 5 ≡ 0 = c.0 in
    let second : field w 20 5 ≡ 0 = d.0 in
    let whole : r_word 0x0b (field w 7 5) f3 (field w 15 5) (field w 20 5) 0 ≡ w =
    r_whole w 0x0b f3 0 h a.0 b.0 f.0 in
    e (field w 7 5) ∙ rw (first, second) at whole

moment_back : (f3 : ℕ) (make : ℕ → ℕ → Ins) →
    ((a b : ℕ) → encoding_of (make a b) ≡ r_word 0x0b 0 f3 a b 0) →
    IsBack (moment_row f3 (λ w. make (field w 15 5) (field w 20 5)))
moment_back f3 make e w h fit =
    let a = one_fits _ _ _ fit in
    let b = one_fits _ _ _ a.1 in
    let c = one_fits _ _ _ b.1 in
    let d = one_fits _ _ _ c.1 in
    let none : field w 7 5 ≡ 0 = c.0 in
    let whole : r_word 0x0b (field w 7 5) f3 (field w 15 5) (field w 20 5) 0 ≡ w =
    r_whole w 0x0b f3 0 h a.0 b.0 d.0 in
    e (field w 15 5) (field w 20 5) ∙ rw none at whole

de_back : IsBack (row 0x0b (funct3 5 ∷ rd_is 0 ∷ rs1_is 0 ∷ rs2_is 0 ∷ funct7 0 ∷ []) (λ w. De))
unfolding encoding_of
de_back w h fit =
    let a = one_fits _ _ _ fit in
    let b = one_fits _ _ _ a.1 in
    let c = one_fits _ _ _ b.1 in
    let d = one_fits _ _ _ c.1 in
    let f = one_fits _ _ _ d.1 in
    let g = one_fits _ _ _ f.1 in
    let none : field w 7 5 ≡ 0 = c.0 in
    let first : field w 15 5 ≡ 0 = d.0 in
    let second : field w 20 5 ≡ 0 = f.0 in
    let whole : r_word 0x0b (field w 7 5) 5 (field w 15 5) (field w 20 5) 0 ≡ w =
    r_whole w 0x0b 5 0 h a.0 b.0 g.0 in
    rw (none, first, second) at whole

lui_all : AllBack lui_rows
unfolding lui_rows
lui_all = (lui_back, tt)

auipc_all : AllBack auipc_rows
unfolding auipc_rows
auipc_all = (auipc_back, tt)

jal_all : AllBack jal_rows
unfolding jal_rows
jal_all = (jal_back, tt)

jalr_all : AllBack jalr_rows
unfolding jalr_rows
jalr_all = (jalr_back, tt)

branch_all : AllBack branch_rows
unfolding branch_rows
branch_all = (
  branch_back Beq,
  (
    branch_back Bne,
    (branch_back Blt, (branch_back Bge, (branch_back Bltu, (branch_back Bgeu, tt)))),
  ),
)

load_all : AllBack load_rows
unfolding load_rows
load_all = (load_back Lb, (load_back Lh, (load_back Lw, (load_back Lbu, (load_back Lhu, tt)))))

store_all : AllBack store_rows
unfolding store_rows
store_all = (store_back Sb, (store_back Sh, (store_back Sw, tt)))

imm_all : AllBack imm_rows
unfolding imm_rows
imm_all = (
  imm_back Addi,
  (
    imm_back Slti,
    (
      imm_back Sltiu,
      (
        imm_back Xori,
        (
          imm_back Ori,
          (imm_back Andi, (shift_back Slli, (shift_back Srli, (shift_back Srai, tt)))),
        ),
      ),
    ),
  ),
)

op_all : AllBack op_rows
unfolding op_rows
op_all = (
  op_back Add,
  (
    op_back Sub,
    (
      op_back Sll,
      (
        op_back Slt,
        (
          op_back Sltu,
          (
            op_back Xor,
            (
              op_back Srl,
              (
                op_back Sra,
                (
                  op_back Or,
                  (
                    op_back And,
                    (
                      mul_back Mul,
                      (
                        mul_back Mulh,
                        (
                          mul_back Mulhsu,
                          (
                            mul_back Mulhu,
                            (mul_back Div, (mul_back Divu, (mul_back Rem, (mul_back Remu, tt)))),
                          ),
                        ),
                      ),
                    ),
                  ),
                ),
              ),
            ),
          ),
        ),
      ),
    ),
  ),
)

fence_all : AllBack fence_rows
unfolding fence_rows
fence_all = (fence_back 0, (fence_back 1, tt))

system_all : AllBack system_rows
unfolding system_rows encoding_of
system_all = (
  system_back 0x00000073 Ecall refl,
  (
    system_back 0x00100073 Ebreak refl,
    (
      system_back 0x30200073 Mret refl,
      (
        csr_back Rw,
        (csr_back Rs, (csr_back Rc, (csr_back Rwi, (csr_back Rsi, (csr_back Rci, tt))))),
      ),
    ),
  ),
)

time_all : AllBack time_rows
unfolding time_rows encoding_of
time_all = (
  get_back 0 Gt (λ d. refl),
  (
    get_back 1 Gth (λ d. refl),
    (
      moment_back 2 Du (λ a b. refl),
      (moment_back 3 Wu (λ a b. refl), (moment_back 4 Ee (λ a b. refl), (de_back, tt))),
    ),
  ),
)

all : AllBack rows
unfolding rows
all =
    back_append lui_rows _ lui_all
    (back_append auipc_rows _ auipc_all (back_append jal_rows _ jal_all (back_append jalr_rows _
    jalr_all (back_append branch_rows _ branch_all (back_append load_rows _ load_all (back_append
    store_rows _ store_all (back_append imm_rows _ imm_all (back_append op_rows _ op_all
    (back_append fence_rows _ fence_all (back_append system_rows _ system_all (time_all)))))))))))

read_back : (rs : List Row) → AllBack rs → (w : ℕ) → w < 2 ^ 32 → encoding_of (read_by rs w) ≡ w
unfolding encoding_of
read_back [] h w small = refl
read_back (r ∷ rs) h w small =
    step r rs w (h.0 w small) (read_back rs h.1 w small) (fits r w) refl
  where
    step : (r : Row) (rs : List Row) (w : ℕ) → (fits r w ≡ true → encoding_of (r.reads w) ≡ w) →
        encoding_of (read_by rs w) ≡ w → (b : Bool) → fits r w ≡ b →
        encoding_of (read_by (r ∷ rs) w) ≡ w
    step r rs w own rest true e = rw e (own e)
    step r rs w own rest false e = rw e rest

-- The encoding of a word's instruction is the word.
pub encoded-ins : (w : ℕ) → w < 2 ^ 32 → encoding_of (ins w) ≡ w
unfolding ins
encoded-ins w h = read_back rows all w h
