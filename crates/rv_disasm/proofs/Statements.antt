-- The rows of the assembler's tables for the texts.
use Rattle.std.proofs.Common.{◌≡◌, ◌≢◌, Result, Ok, ℕ, zero, suc, ◌<◌, ◌≤◌, ◌+◌, ◌-◌, ◌%◌, ◌^◌}
use Rattle.std.proofs.Common.{◌==◌, ◌&&◌, nat_lt, Bool, true, false, List, [], ◌∷◌, ◌++◌, map}
use Rattle.std.proofs.Common.{length, Option, Some, None, refl, ap, ◌∙◌, arith, ℤ, pos, negsuc}
use Rattle.std.specs.Prelude.{codes, decimal, neg_ℤ, ◌-ℤ◌, if◌then◌else◌}
use Rattle.std.specs.Fmt.{digits as fmt_digits}
use Rattle.std.proofs.lemmas.Bool.Decides.{nat_tests}
use Rattle.rv_decode.specs.declared.instruction.BranchOp.{BranchOp}
use Rattle.rv_decode.specs.declared.instruction.BranchOp.TheVariants.{Beq, Bne, Blt}
use Rattle.rv_decode.specs.declared.instruction.BranchOp.TheVariants.{Bge, Bltu, Bgeu}
use Rattle.rv_decode.specs.declared.instruction.LoadOp.{LoadOp}
use Rattle.rv_decode.specs.declared.instruction.LoadOp.TheVariants.{Lb, Lh, Lw, Lbu, Lhu}
use Rattle.rv_decode.specs.declared.instruction.StoreOp.{StoreOp}
use Rattle.rv_decode.specs.declared.instruction.StoreOp.TheVariants.{Sb, Sh, Sw}
use Rattle.rv_decode.specs.declared.instruction.ImmOp.{ImmOp}
use Rattle.rv_decode.specs.declared.instruction.ImmOp.TheVariants.{Addi, Slti, Sltiu}
use Rattle.rv_decode.specs.declared.instruction.ImmOp.TheVariants.{Xori, Ori, Andi}
use Rattle.rv_decode.specs.declared.instruction.ShiftOp.{ShiftOp}
use Rattle.rv_decode.specs.declared.instruction.ShiftOp.TheVariants.{Slli, Srli, Srai}
use Rattle.rv_decode.specs.declared.instruction.AluOp.{AluOp}
use Rattle.rv_decode.specs.declared.instruction.AluOp.TheVariants.{Add, Sub, Sll, Slt, Sltu}
use Rattle.rv_decode.specs.declared.instruction.AluOp.TheVariants.{Xor, Srl, Sra, Or, And}
use Rattle.rv_decode.specs.declared.instruction.MulOp.{MulOp}
use Rattle.rv_decode.specs.declared.instruction.MulOp.TheVariants.{Mul, Mulh, Mulhsu, Mulhu}
use Rattle.rv_decode.specs.declared.instruction.MulOp.TheVariants.{Div, Divu, Rem, Remu}
use Rattle.rv_decode.specs.declared.instruction.CsrKind.{CsrKind}
use Rattle.rv_decode.specs.declared.instruction.CsrKind.TheVariants.{Rw, Rs, Rc, Rwi, Rsi, Rci}
use Rattle.fp_asm.specs.Pieces.{Text, Piece, commas, operands_of}
use Rattle.fp_asm.specs.Between.{between_from}
use Rattle.fp_asm.specs.Names.{registers, register_number as register_of, csrs, csr}
use Rattle.fp_asm.specs.Mnemonics.{mnemonics, mnemonic, rd_rs1_rs2}
use Rattle.fp_asm.specs.Mnemonics.{rd_rs1_number, rd_memory, rs2_memory}
use Rattle.fp_asm.specs.Operands.{Operands, nothing_given, register_in, number_in, target_in}
use Rattle.fp_asm.specs.Operands.{csr_in, memory_in, with_operand, all_filled, all_targets}
use Rattle.std.proofs.lemmas.Int.{ints}
use Rattle.std.proofs.Math.Nat.{mod-eq_of_lt}
use Rattle.std.specs.Int.Signed.{le_z}
use Rattle.rv_decode.specs.Range.{InRange, IsSigned, IsEven}
use Rattle.rv_decode.specs.Fields.{sign_extended}
use Rattle.rv_disasm.specs.Text.{target, leading, word_line, fence_line, csr_source, line_of}
use Rattle.rv_disasm.specs.Names.{branch_name, load_name, store_name, imm_name}
use Rattle.rv_disasm.specs.Names.{shift_name, alu_name, mul_name, csr_name}
use Rattle.rv_disasm.specs.TextTokens.{Line, line, TextToken, named, digits, comma, opening}
use Rattle.rv_disasm.specs.TextTokens.{closing, register_token, signed, csr_token, two_registers}
use Rattle.rv_disasm.specs.TextTokens.{three_registers, with_number, with_memory, with_csr}
use Rattle.rv_disasm.proofs.Lexing.{part_piece, is_name, and_true, IsSound, IsApart, AreSound}
use Rattle.fp_asm.specs.Words.{signed_12, up_to, instruction}
use Rattle.fp_asm.specs.Statements.{some_targets, statement_in, statement_check}
use Rattle.fp_asm.specs.Statements.{statement_named, size_of, location_after}
use Rattle.fp_asm.specs.First.{Labels}
use Rattle.fp_asm.specs.Second.{offset_to, target_word, all_resolved, jump, plain_word}
use Rattle.fp_asm.specs.Second.{branch_word, jal_word, value_words, statement_words}
use Rattle.fp_asm.specs.Faults.{next}
use Rattle.fp_asm.specs.declared.refusal.AsmNo.{AsmNo}
use Rattle.rv_decode.specs.Encoding.{encoding_of, low_bits}
use Rattle.rv_decode.specs.declared.instruction.Ins.{Ins}
use Rattle.rv_decode.specs.declared.instruction.Ins.TheVariants.{Lui, Auipc, Jal, Jalr, Branch}
use Rattle.rv_decode.specs.declared.instruction.Ins.TheVariants.{Load, Store, OpImm, Shift, Op}
use Rattle.rv_decode.specs.declared.instruction.Ins.TheVariants.{Muldiv, Fence, Ecall, Ebreak}
use Rattle.rv_decode.specs.declared.instruction.Ins.TheVariants.{Mret, Csr as CsrIns, Gt}
use Rattle.rv_decode.specs.declared.instruction.Ins.TheVariants.{Gth, Du, Wu, Ee, De, Illegal}

-- The registers: their texts are names that the assembler reads as they are numbered.
is_read : Option ℕ → ℕ → Bool
is_read None r = false
is_read (Some k) r = k == r

reads_back : ℕ → Bool
unfolding is_read
reads_back r = is_read (register_of (codes "x" ++ decimal r)) r && is_name (codes "x" ++ decimal r)

all_below : ℕ → Bool
all_below zero = true
all_below (suc n) = reads_back n && all_below n

thirty_two : all_below 32 ≡ true
unfolding all_below reads_back is_read register_of registers fmt_digits
thirty_two = refl

in_table : (n r : ℕ) → r < n → all_below n ≡ true → reads_back r ≡ true
unfolding all_below
in_table zero r h e = absurd (omega arith)
in_table (suc n) r h e =
    by_test (r == n) refl (and_true (reads_back n) (all_below n) e) (in_table n r)
  where
    by_test : (b : Bool) → (r == n) ≡ b → (reads_back n ≡ true) × (all_below n ≡ true) →
        (r < n → all_below n ≡ true → reads_back r ≡ true) → reads_back r ≡ true
    by_test true q both rest = let same : r ≡ n = grind (arith, nat_tests) in rw same both.0
    by_test false q both rest =
        let other : r ≢ n = grind (arith, nat_tests) in rest (omega arith) both.1

is_read_back : (o : Option ℕ) (r : ℕ) → is_read o r ≡ true → o ≡ Some r
unfolding is_read
is_read_back None r h = absurd (cc)
is_read_back (Some k) r h = let same : k ≡ r = grind (arith, nat_tests) in ap Some same

pub read : (r : ℕ) → r < 32 → register_of (codes "x" ++ decimal r) ≡ Some r
unfolding reads_back
read r h = is_read_back _ r (and_true _ _ (in_table 32 r h thirty_two)).0

pub register_name : (r : ℕ) → r < 32 → is_name (codes "x" ++ decimal r) ≡ true
unfolding reads_back
register_name r h = (and_true _ _ (in_table 32 r h thirty_two)).1

-- The assembler's result for a mnemonic with its operands: the number of words, the location after
-- them, and the words at an address.
abbrev pub made : ℕ → Labels → ℕ → Text → List Piece → Result (ℕ × ℕ × Result (List ℕ) AsmNo) AsmNo
made pc labels location m ps =
    next (statement_named m ps)
    (λ s. Ok (size_of s, location_after location s, statement_words labels pc s))

abbrev pub Gives : ℕ → ℕ → Text → List TextToken → Type 0
Gives pc w m parts =
    (labels : Labels) (location : ℕ) →
    made pc labels location m (map part_piece parts) ≡ Ok (1, (location + 4) % 2 ^ 32, Ok (w ∷ []))

-- A line that is read as a statement of this one word.
pub record IsAssembled (pc w : ℕ) (l : Line) : Type 0 where
  pub named : is_name l.mnemonic ≡ true
  pub sound : AreSound l.operands
  pub few : length l.operands < 64
  pub gives : Gives pc w l.mnemonic l.operands

-- numbers that the assembler takes
small_12 : (z : ℤ) → IsSigned 12 z → signed_12 z ≡ Some z
unfolding signed_12
small_12 z h =
    let low : le_z (neg_ℤ (pos 2048)) z ≡ true = grind (arith, ints) in
    let high : le_z z (pos 2047) ≡ true = grind (arith, ints) in
    rw (low, high) refl

up_small : (most n : ℕ) → n ≤ most → up_to most (pos n) ≡ Some n
unfolding up_to
up_small most n h =
    let low : le_z (pos 0) (pos n) ≡ true = grind (arith, ints) in
    let high : le_z (pos n) (pos most) ≡ true = grind (arith, ints) in
    rw (low, high) refl

-- the offset to the target of an offset is that offset
from_negsuc : (half n m : ℕ) → n < half → m + n + 1 ≡ half + half →
    (if nat_lt m half then pos m else pos m -ℤ pos (half + half)) ≡ negsuc n
from_negsuc half n m small e =
    let test : nat_lt m half ≡ false = grind (arith, nat_tests) in
    let back : (pos m -ℤ pos (half + half)) ≡ negsuc n = omega (arith, ints) in
    rw test back

signed_32 : (z : ℤ) → IsSigned 21 z → sign_extended 32 (low_bits 32 z) ≡ z
signed_32 (pos n) h =
    let size : n < 1048576 = omega (arith, ints) in
    let whole : n % 2 ^ 32 ≡ n = omega arith in
    let low : nat_lt n (2 ^ 31) ≡ true = grind (arith, nat_tests) in
    rw (whole, low) refl
signed_32 (negsuc n) h =
    let size : n < 1048576 = omega (arith, ints) in
    from_negsuc (2 ^ 31) n (2 ^ 32 - 1 - n % 2 ^ 32) (omega arith) (omega arith)

low_32 : (z : ℤ) → low_bits 32 z < 2 ^ 32
low_32 (pos n) = omega arith
low_32 (negsuc n) = omega arith

offset_back : (pc : ℕ) (off : ℤ) → pc < 2 ^ 32 → IsSigned 21 off → offset_to pc (target
    pc off) ≡ off
offset_back pc off h g = turned (low_bits 32 off) (low_32 off) ∙ signed_32 off g
  where
    turned : (b : ℕ) → b < 2 ^ 32 → offset_to pc ((pc + b) % 2 ^ 32) ≡ sign_extended 32 b
    turned b small =
        let same : ((pc + b) % 2 ^ 32 + (2 ^ 32 - pc)) % 2 ^ 32 ≡ b = omega arith in
        ap (sign_extended 32) same

jump_back : (low high : ℤ) (pc : ℕ) (off : ℤ) → pc < 2 ^ 32 → IsSigned 21 off →
    le_z low off ≡ true → le_z off high ≡ true → (target pc off % 4 == 0) ≡ true →
    jump low high pc (target pc off) ≡ Ok off
unfolding jump
jump_back low high pc off h g below above four = rw (
  offset_back pc off h g,
  below,
  above,
  four,
) refl

-- The operands of a form, as the assembler fills them.
three_filled : (d a b : ℕ) → d < 32 → a < 32 → b < 32 →
    all_filled rd_rs1_rs2 (operands_of (map part_piece (three_registers d a b))) nothing_given
    ≡ Some (record nothing_given { rd = d; rs1 = a; rs2 = b })
unfolding operands_of commas between_from all_filled with_operand register_in number_in memory_in
three_filled d a b h0 h1 h2 = rw (read d h0, read a h1, read b h2) refl

number_filled : (d a : ℕ) (z : ℤ) → d < 32 → a < 32 →
    all_filled rd_rs1_number (operands_of (map part_piece (with_number d a z))) nothing_given
    ≡ Some (record nothing_given { rd = d; rs1 = a; given = z })
unfolding operands_of commas between_from all_filled with_operand register_in number_in memory_in
number_filled d a (pos n) h0 h1 = rw (read d h0, read a h1) refl
number_filled d a (negsuc n) h0 h1 = rw (read d h0, read a h1) refl

load_filled : (d a : ℕ) (z : ℤ) → d < 32 → a < 32 →
    all_filled rd_memory (operands_of (map part_piece (with_memory d z a))) nothing_given
    ≡ Some (record nothing_given { rd = d; rs1 = a; given = z })
unfolding operands_of commas between_from all_filled with_operand register_in number_in memory_in
load_filled d a (pos n) h0 h1 = rw (read d h0, read a h1) refl
load_filled d a (negsuc n) h0 h1 = rw (read d h0, read a h1) refl

store_filled : (b a : ℕ) (z : ℤ) → b < 32 → a < 32 →
    all_filled rs2_memory (operands_of (map part_piece (with_memory b z a))) nothing_given
    ≡ Some (record nothing_given { rs1 = a; rs2 = b; given = z })
unfolding operands_of commas between_from all_filled with_operand register_in number_in memory_in
store_filled b a (pos n) h0 h1 = rw (read b h0, read a h1) refl
store_filled b a (negsuc n) h0 h1 = rw (read b h0, read a h1) refl

-- The assembler's result for a mnemonic whose operands are filled.
alu_made : (op : AluOp) (pc w : ℕ) (ps : List Piece) (o : Operands) →
    all_filled rd_rs1_rs2 (operands_of ps) nothing_given ≡ Some o →
    encoding_of (Op op o.rd o.rs1 o.rs2) ≡ w → (labels : Labels) (location : ℕ) →
    made pc labels location (alu_name op) ps ≡ Ok (1, (location + 4) % 2 ^ 32, Ok (w ∷ []))
unfolding statement_named mnemonic mnemonics statement_in statement_check size_of location_after
    statement_words plain_word instruction
alu_made Add pc w ps o h e labels location = rw (h, e) refl
alu_made Sub pc w ps o h e labels location = rw (h, e) refl
alu_made Sll pc w ps o h e labels location = rw (h, e) refl
alu_made Slt pc w ps o h e labels location = rw (h, e) refl
alu_made Sltu pc w ps o h e labels location = rw (h, e) refl
alu_made Xor pc w ps o h e labels location = rw (h, e) refl
alu_made Srl pc w ps o h e labels location = rw (h, e) refl
alu_made Sra pc w ps o h e labels location = rw (h, e) refl
alu_made Or pc w ps o h e labels location = rw (h, e) refl
alu_made And pc w ps o h e labels location = rw (h, e) refl

alu : (op : AluOp) (pc w d a b : ℕ) → d < 32 → a < 32 → b < 32 → encoding_of (Op op d a b) ≡ w →
    Gives pc w (alu_name op) (three_registers d a b)
alu op pc w d a b h0 h1 h2 e =
    alu_made op pc w (map part_piece (three_registers d a b))
    (record nothing_given { rd = d; rs1 = a; rs2 = b }) (three_filled d a b h0 h1 h2) e

mul_made : (op : MulOp) (pc w : ℕ) (ps : List Piece) (o : Operands) →
    all_filled rd_rs1_rs2 (operands_of ps) nothing_given ≡ Some o →
    encoding_of (Muldiv op o.rd o.rs1 o.rs2) ≡ w → (labels : Labels) (location : ℕ) →
    made pc labels location (mul_name op) ps ≡ Ok (1, (location + 4) % 2 ^ 32, Ok (w ∷ []))
unfolding statement_named mnemonic mnemonics statement_in statement_check size_of location_after
    statement_words plain_word instruction
mul_made Mul pc w ps o h e labels location = rw (h, e) refl
mul_made Mulh pc w ps o h e labels location = rw (h, e) refl
mul_made Mulhsu pc w ps o h e labels location = rw (h, e) refl
mul_made Mulhu pc w ps o h e labels location = rw (h, e) refl
mul_made Div pc w ps o h e labels location = rw (h, e) refl
mul_made Divu pc w ps o h e labels location = rw (h, e) refl
mul_made Rem pc w ps o h e labels location = rw (h, e) refl
mul_made Remu pc w ps o h e labels location = rw (h, e) refl

mul : (op : MulOp) (pc w d a b : ℕ) → d < 32 → a < 32 → b < 32 → encoding_of (Muldiv op d a b) ≡ w →
    Gives pc w (mul_name op) (three_registers d a b)
mul op pc w d a b h0 h1 h2 e =
    mul_made op pc w (map part_piece (three_registers d a b))
    (record nothing_given { rd = d; rs1 = a; rs2 = b }) (three_filled d a b h0 h1 h2) e

imm_made : (op : ImmOp) (pc w : ℕ) (ps : List Piece) (o : Operands) →
    signed_12 o.given ≡ Some o.given →
    all_filled rd_rs1_number (operands_of ps) nothing_given ≡ Some o →
    encoding_of (OpImm op o.rd o.rs1 o.given) ≡ w → (labels : Labels) (location : ℕ) →
    made pc labels location (imm_name op) ps ≡ Ok (1, (location + 4) % 2 ^ 32, Ok (w ∷ []))
unfolding statement_named mnemonic mnemonics statement_in statement_check size_of location_after
    statement_words plain_word instruction
imm_made Addi pc w ps o g h e labels location = rw (h, g, e) refl
imm_made Slti pc w ps o g h e labels location = rw (h, g, e) refl
imm_made Sltiu pc w ps o g h e labels location = rw (h, g, e) refl
imm_made Xori pc w ps o g h e labels location = rw (h, g, e) refl
imm_made Ori pc w ps o g h e labels location = rw (h, g, e) refl
imm_made Andi pc w ps o g h e labels location = rw (h, g, e) refl

imm : (op : ImmOp) (pc w d a : ℕ) (z : ℤ) → d < 32 → a < 32 → IsSigned 12 z →
    encoding_of (OpImm op d a z) ≡ w → Gives pc w (imm_name op) (with_number d a z)
imm op pc w d a z h0 h1 h2 e =
    imm_made op pc w (map part_piece (with_number d a z))
    (record nothing_given { rd = d; rs1 = a; given = z }) (small_12 z h2)
    (number_filled d a z h0 h1) e

load_made : (op : LoadOp) (pc w : ℕ) (ps : List Piece) (o : Operands) →
    signed_12 o.given ≡ Some o.given →
    all_filled rd_memory (operands_of ps) nothing_given ≡ Some o →
    encoding_of (Load op o.rd o.rs1 o.given) ≡ w → (labels : Labels) (location : ℕ) →
    made pc labels location (load_name op) ps ≡ Ok (1, (location + 4) % 2 ^ 32, Ok (w ∷ []))
unfolding statement_named mnemonic mnemonics statement_in statement_check size_of location_after
    statement_words plain_word instruction
load_made Lb pc w ps o g h e labels location = rw (h, g, e) refl
load_made Lh pc w ps o g h e labels location = rw (h, g, e) refl
load_made Lw pc w ps o g h e labels location = rw (h, g, e) refl
load_made Lbu pc w ps o g h e labels location = rw (h, g, e) refl
load_made Lhu pc w ps o g h e labels location = rw (h, g, e) refl

load : (op : LoadOp) (pc w d a : ℕ) (z : ℤ) → d < 32 → a < 32 → IsSigned 12 z →
    encoding_of (Load op d a z) ≡ w → Gives pc w (load_name op) (with_memory d z a)
load op pc w d a z h0 h1 h2 e =
    load_made op pc w (map part_piece (with_memory d z a))
    (record nothing_given { rd = d; rs1 = a; given = z }) (small_12 z h2)
    (load_filled d a z h0 h1) e

store_made : (op : StoreOp) (pc w : ℕ) (ps : List Piece) (o : Operands) →
    signed_12 o.given ≡ Some o.given →
    all_filled rs2_memory (operands_of ps) nothing_given ≡ Some o →
    encoding_of (Store op o.rs1 o.rs2 o.given) ≡ w → (labels : Labels) (location : ℕ) →
    made pc labels location (store_name op) ps ≡ Ok (1, (location + 4) % 2 ^ 32, Ok (w ∷ []))
unfolding statement_named mnemonic mnemonics statement_in statement_check size_of location_after
    statement_words plain_word instruction
store_made Sb pc w ps o g h e labels location = rw (h, g, e) refl
store_made Sh pc w ps o g h e labels location = rw (h, g, e) refl
store_made Sw pc w ps o g h e labels location = rw (h, g, e) refl

store : (op : StoreOp) (pc w a b : ℕ) (z : ℤ) → a < 32 → b < 32 → IsSigned 12 z →
    encoding_of (Store op a b z) ≡ w → Gives pc w (store_name op) (with_memory b z a)
store op pc w a b z h0 h1 h2 e =
    store_made op pc w (map part_piece (with_memory b z a))
    (record nothing_given { rs1 = a; rs2 = b; given = z }) (small_12 z h2)
    (store_filled b a z h1 h0) e

jalr : (pc w d a : ℕ) (z : ℤ) → d < 32 → a < 32 → IsSigned 12 z → encoding_of (Jalr d a z) ≡ w →
    Gives pc w (codes "jalr") (with_memory d z a)
unfolding statement_named mnemonic mnemonics statement_in operands_of commas between_from
    all_filled with_operand register_in number_in memory_in csr_in target_in statement_check
    size_of location_after statement_words plain_word instruction branch_word jal_word target_word
    all_targets some_targets all_resolved value_words
jalr pc w d a (pos n) h0 h1 h2 e labels location =
    rw (read d h0, read a h1, small_12 (pos n) h2, e) refl
jalr pc w d a (negsuc n) h0 h1 h2 e labels location =
    rw (read d h0, read a h1, small_12 (negsuc n) h2, e) refl

shift : (op : ShiftOp) (pc w d a n : ℕ) → d < 32 → a < 32 → n ≤ 31 →
    encoding_of (Shift op d a n) ≡ w → Gives pc w (shift_name op) (with_number d a (pos n))
unfolding statement_named mnemonic mnemonics statement_in operands_of commas between_from
    all_filled with_operand register_in number_in memory_in csr_in target_in statement_check
    size_of location_after statement_words plain_word instruction branch_word jal_word target_word
    all_targets some_targets all_resolved value_words
shift Slli pc w d a n h0 h1 h2 e labels location =
    rw (read d h0, read a h1, up_small 31 n h2, e) refl
shift Srli pc w d a n h0 h1 h2 e labels location =
    rw (read d h0, read a h1, up_small 31 n h2, e) refl
shift Srai pc w d a n h0 h1 h2 e labels location =
    rw (read d h0, read a h1, up_small 31 n h2, e) refl

lui : (pc w d n : ℕ) → d < 32 → n ≤ 1048575 → encoding_of (Lui d n) ≡ w →
    Gives pc w (codes "lui") (register_token d ∷ comma ∷ digits 5 n ∷ [])
unfolding statement_named mnemonic mnemonics statement_in operands_of commas between_from
    all_filled with_operand register_in number_in memory_in csr_in target_in statement_check
    size_of location_after statement_words plain_word instruction branch_word jal_word target_word
    all_targets some_targets all_resolved value_words
lui pc w d n h0 h1 e labels location = rw (read d h0, up_small 1048575 n h1, e) refl

auipc : (pc w d n : ℕ) → d < 32 → n ≤ 1048575 → encoding_of (Auipc d n) ≡ w →
    Gives pc w (codes "auipc") (register_token d ∷ comma ∷ digits 5 n ∷ [])
unfolding statement_named mnemonic mnemonics statement_in operands_of commas between_from
    all_filled with_operand register_in number_in memory_in csr_in target_in statement_check
    size_of location_after statement_words plain_word instruction branch_word jal_word target_word
    all_targets some_targets all_resolved value_words
auipc pc w d n h0 h1 e labels location = rw (read d h0, up_small 1048575 n h1, e) refl

gt : (pc w d : ℕ) → d < 32 → encoding_of (Gt d) ≡ w →
    Gives pc w (codes "gt") (register_token d ∷ [])
unfolding statement_named mnemonic mnemonics statement_in operands_of commas between_from
    all_filled with_operand register_in number_in memory_in csr_in target_in statement_check
    size_of location_after statement_words plain_word instruction branch_word jal_word target_word
    all_targets some_targets all_resolved value_words
gt pc w d h0 e labels location = rw (read d h0, e) refl

gth : (pc w d : ℕ) → d < 32 → encoding_of (Gth d) ≡ w →
    Gives pc w (codes "gth") (register_token d ∷ [])
unfolding statement_named mnemonic mnemonics statement_in operands_of commas between_from
    all_filled with_operand register_in number_in memory_in csr_in target_in statement_check
    size_of location_after statement_words plain_word instruction branch_word jal_word target_word
    all_targets some_targets all_resolved value_words
gth pc w d h0 e labels location = rw (read d h0, e) refl

du : (pc w a b : ℕ) → a < 32 → b < 32 → encoding_of (Du a b) ≡ w →
    Gives pc w (codes "du") (two_registers a b)
unfolding statement_named mnemonic mnemonics statement_in operands_of commas between_from
    all_filled with_operand register_in number_in memory_in csr_in target_in statement_check
    size_of location_after statement_words plain_word instruction branch_word jal_word target_word
    all_targets some_targets all_resolved value_words
du pc w a b h0 h1 e labels location = rw (read a h0, read b h1, e) refl

wu : (pc w a b : ℕ) → a < 32 → b < 32 → encoding_of (Wu a b) ≡ w →
    Gives pc w (codes "wu") (two_registers a b)
unfolding statement_named mnemonic mnemonics statement_in operands_of commas between_from
    all_filled with_operand register_in number_in memory_in csr_in target_in statement_check
    size_of location_after statement_words plain_word instruction branch_word jal_word target_word
    all_targets some_targets all_resolved value_words
wu pc w a b h0 h1 e labels location = rw (read a h0, read b h1, e) refl

ee : (pc w a b : ℕ) → a < 32 → b < 32 → encoding_of (Ee a b) ≡ w →
    Gives pc w (codes "ee") (two_registers a b)
unfolding statement_named mnemonic mnemonics statement_in operands_of commas between_from
    all_filled with_operand register_in number_in memory_in csr_in target_in statement_check
    size_of location_after statement_words plain_word instruction branch_word jal_word target_word
    all_targets some_targets all_resolved value_words
ee pc w a b h0 h1 e labels location = rw (read a h0, read b h1, e) refl

de : (pc w : ℕ) → encoding_of (De) ≡ w → Gives pc w (codes "de") []
unfolding statement_named mnemonic mnemonics statement_in operands_of commas between_from
    all_filled with_operand register_in number_in memory_in csr_in target_in statement_check
    size_of location_after statement_words plain_word instruction branch_word jal_word target_word
    all_targets some_targets all_resolved value_words
de pc w e labels location = rw (e) refl

ecall : (pc w : ℕ) → encoding_of (Ecall) ≡ w → Gives pc w (codes "ecall") []
unfolding statement_named mnemonic mnemonics statement_in operands_of commas between_from
    all_filled with_operand register_in number_in memory_in csr_in target_in statement_check
    size_of location_after statement_words plain_word instruction branch_word jal_word target_word
    all_targets some_targets all_resolved value_words
ecall pc w e labels location = rw (e) refl

ebreak : (pc w : ℕ) → encoding_of (Ebreak) ≡ w → Gives pc w (codes "ebreak") []
unfolding statement_named mnemonic mnemonics statement_in operands_of commas between_from
    all_filled with_operand register_in number_in memory_in csr_in target_in statement_check
    size_of location_after statement_words plain_word instruction branch_word jal_word target_word
    all_targets some_targets all_resolved value_words
ebreak pc w e labels location = rw (e) refl

mret : (pc w : ℕ) → encoding_of (Mret) ≡ w → Gives pc w (codes "mret") []
unfolding statement_named mnemonic mnemonics statement_in operands_of commas between_from
    all_filled with_operand register_in number_in memory_in csr_in target_in statement_check
    size_of location_after statement_words plain_word instruction branch_word jal_word target_word
    all_targets some_targets all_resolved value_words
mret pc w e labels location = rw (e) refl

fence : (pc : ℕ) → Gives pc 0x0ff0000f (codes "fence") []
unfolding statement_named mnemonic mnemonics statement_in operands_of commas between_from
    all_filled with_operand register_in number_in memory_in csr_in target_in statement_check
    size_of location_after statement_words plain_word instruction branch_word jal_word target_word
    all_targets some_targets all_resolved value_words encoding_of
fence pc labels location = refl

fence_i : (pc : ℕ) → Gives pc 0x0000100f (codes "fence.i") []
unfolding statement_named mnemonic mnemonics statement_in operands_of commas between_from
    all_filled with_operand register_in number_in memory_in csr_in target_in statement_check
    size_of location_after statement_words plain_word instruction branch_word jal_word target_word
    all_targets some_targets all_resolved value_words encoding_of
fence_i pc labels location = refl

csr_by_name : (op : CsrKind) (pc w d a n : ℕ) (x : Text) → d < 32 →
    csr x ≡ Some n → n ≤ 4095 → a < 32 → encoding_of (CsrIns op d n a) ≡ w →
    Gives pc w (csr_name op) (register_token d ∷ comma ∷ named x ∷ comma ∷ csr_source op a ∷ [])
unfolding statement_named mnemonic mnemonics statement_in operands_of commas between_from
    all_filled with_operand register_in number_in memory_in csr_in target_in statement_check
    size_of location_after statement_words plain_word instruction branch_word jal_word target_word
    all_targets some_targets all_resolved value_words
csr_by_name Rw pc w d a n x h0 h1 h2 h3 e labels location =
    rw (read d h0, h1, read a h3, up_small 4095 n h2, e) refl
csr_by_name Rs pc w d a n x h0 h1 h2 h3 e labels location =
    rw (read d h0, h1, read a h3, up_small 4095 n h2, e) refl
csr_by_name Rc pc w d a n x h0 h1 h2 h3 e labels location =
    rw (read d h0, h1, read a h3, up_small 4095 n h2, e) refl
csr_by_name Rwi pc w d a n x h0 h1 h2 h3 e labels location =
    let h4 : a ≤ 31 = omega arith in
    rw (read d h0, h1, up_small 4095 n h2, up_small 31 a h4, e) refl
csr_by_name Rsi pc w d a n x h0 h1 h2 h3 e labels location =
    let h4 : a ≤ 31 = omega arith in
    rw (read d h0, h1, up_small 4095 n h2, up_small 31 a h4, e) refl
csr_by_name Rci pc w d a n x h0 h1 h2 h3 e labels location =
    let h4 : a ≤ 31 = omega arith in
    rw (read d h0, h1, up_small 4095 n h2, up_small 31 a h4, e) refl

csr_by_number : (op : CsrKind) (pc w d a n : ℕ) → d < 32 →
    n ≤ 4095 → a < 32 → encoding_of (CsrIns op d n a) ≡ w →
    Gives pc w (csr_name op) (register_token d ∷ comma ∷ digits 3 n ∷ comma ∷ csr_source op a ∷ [])
unfolding statement_named mnemonic mnemonics statement_in operands_of commas between_from
    all_filled with_operand register_in number_in memory_in csr_in target_in statement_check
    size_of location_after statement_words plain_word instruction branch_word jal_word target_word
    all_targets some_targets all_resolved value_words
csr_by_number Rw pc w d a n h0 h2 h3 e labels location =
    rw (read d h0, read a h3, up_small 4095 n h2, e) refl
csr_by_number Rs pc w d a n h0 h2 h3 e labels location =
    rw (read d h0, read a h3, up_small 4095 n h2, e) refl
csr_by_number Rc pc w d a n h0 h2 h3 e labels location =
    rw (read d h0, read a h3, up_small 4095 n h2, e) refl
csr_by_number Rwi pc w d a n h0 h2 h3 e labels location =
    let h4 : a ≤ 31 = omega arith in rw (read d h0, up_small 4095 n h2, up_small 31 a h4, e) refl
csr_by_number Rsi pc w d a n h0 h2 h3 e labels location =
    let h4 : a ≤ 31 = omega arith in rw (read d h0, up_small 4095 n h2, up_small 31 a h4, e) refl
csr_by_number Rci pc w d a n h0 h2 h3 e labels location =
    let h4 : a ≤ 31 = omega arith in rw (read d h0, up_small 4095 n h2, up_small 31 a h4, e) refl

target_small : (pc : ℕ) (off : ℤ) → target pc off < 2 ^ 32
target_small pc off = omega arith

branch : (op : BranchOp) (pc w a b to : ℕ) (off : ℤ) → a < 32 → b < 32 → to < 2 ^ 32 →
    jump (neg_ℤ (pos 4096)) (pos 4094) pc to ≡ Ok off → encoding_of (Branch op a b off) ≡ w →
    Gives pc w (branch_name op)
    (register_token a ∷ comma ∷ register_token b ∷ comma ∷ digits 8 to ∷ [])
unfolding statement_named mnemonic mnemonics statement_in operands_of commas between_from
    all_filled with_operand register_in number_in memory_in csr_in target_in statement_check
    size_of location_after statement_words plain_word instruction branch_word jal_word target_word
    all_targets some_targets all_resolved value_words
branch Beq pc w a b to off h0 h1 h2 h3 e labels location =
    let whole : to % 2 ^ 32 ≡ to = mod-eq_of_lt h2 in rw (read a h0, read b h1, whole, h3, e) refl
branch Bne pc w a b to off h0 h1 h2 h3 e labels location =
    let whole : to % 2 ^ 32 ≡ to = mod-eq_of_lt h2 in rw (read a h0, read b h1, whole, h3, e) refl
branch Blt pc w a b to off h0 h1 h2 h3 e labels location =
    let whole : to % 2 ^ 32 ≡ to = mod-eq_of_lt h2 in rw (read a h0, read b h1, whole, h3, e) refl
branch Bge pc w a b to off h0 h1 h2 h3 e labels location =
    let whole : to % 2 ^ 32 ≡ to = mod-eq_of_lt h2 in rw (read a h0, read b h1, whole, h3, e) refl
branch Bltu pc w a b to off h0 h1 h2 h3 e labels location =
    let whole : to % 2 ^ 32 ≡ to = mod-eq_of_lt h2 in rw (read a h0, read b h1, whole, h3, e) refl
branch Bgeu pc w a b to off h0 h1 h2 h3 e labels location =
    let whole : to % 2 ^ 32 ≡ to = mod-eq_of_lt h2 in rw (read a h0, read b h1, whole, h3, e) refl

jal : (pc w d to : ℕ) (off : ℤ) → d < 32 → to < 2 ^ 32 →
    jump (neg_ℤ (pos 1048576)) (pos 1048574) pc to ≡ Ok off → encoding_of (Jal d off) ≡ w →
    Gives pc w (codes "jal") (register_token d ∷ comma ∷ digits 8 to ∷ [])
unfolding statement_named mnemonic mnemonics statement_in operands_of commas between_from
    all_filled with_operand register_in number_in memory_in csr_in target_in statement_check
    size_of location_after statement_words plain_word instruction branch_word jal_word target_word
    all_targets some_targets all_resolved value_words
jal pc w d to off h0 h2 h3 e labels location =
    let whole : to % 2 ^ 32 ≡ to = mod-eq_of_lt h2 in rw (read d h0, whole, h3, e) refl

word : (pc w : ℕ) → w < 2 ^ 32 → Gives pc w (codes ".word") (digits 8 w ∷ [])
unfolding statement_named mnemonic mnemonics statement_in operands_of commas between_from
    all_filled with_operand register_in number_in memory_in csr_in target_in statement_check
    size_of location_after statement_words plain_word instruction branch_word jal_word target_word
    all_targets some_targets all_resolved value_words
word pc w h labels location =
    let whole : w % 2 ^ 32 ≡ w = mod-eq_of_lt h in
    let low : le_z (neg_ℤ (pos (2 ^ 31))) (pos w) ≡ true = grind (arith, ints) in
    let high : le_z (pos w) (pos (2 ^ 32 - 1)) ≡ true = grind (arith, ints) in
    rw (whole, low, high) refl

-- The lines of the forms.
signed_sound : (z : ℤ) → IsSigned 12 z → AreSound (signed z)
signed_sound (pos n) h = let size : n < 2 ^ 32 = omega (arith, ints) in (size, refl, tt)
signed_sound (negsuc n) h =
    let size : suc n < 2 ^ 32 = omega (arith, ints) in (tt, tt, (size, refl, tt))

based_sound : (z : ℤ) (a : ℕ) → IsSigned 12 z → a < 32 →
    AreSound (signed z ++ (opening ∷ register_token a ∷ closing ∷ []))
based_sound (pos n) a h k =
    let size : n < 2 ^ 32 = omega (arith, ints) in
    (size, refl, (tt, tt, (register_name a k, refl, (tt, tt, tt))))
based_sound (negsuc n) a h k =
    let size : suc n < 2 ^ 32 = omega (arith, ints) in
    (tt, tt, (size, refl, (tt, tt, (register_name a k, refl, (tt, tt, tt)))))

signed_few : (z : ℤ) → length (signed z) ≤ 2
signed_few (pos n) = omega arith
signed_few (negsuc n) = omega arith

three : (pc w d a b : ℕ) (m : Text) → is_name m ≡ true → d < 32 → a < 32 → b < 32 →
    Gives pc w m (three_registers d a b) → IsAssembled pc w (line m (three_registers d a b))
three pc w d a b m n hd ha hb g = record {
  named = n;
  sound = (
    register_name d hd,
    refl,
    (tt, tt, (register_name a ha, refl, (tt, tt, (register_name b hb, refl, tt)))),
  );
  few = omega arith;
  gives = g;
}

two : (pc w a b : ℕ) (m : Text) → is_name m ≡ true → a < 32 → b < 32 →
    Gives pc w m (two_registers a b) → IsAssembled pc w (line m (two_registers a b))
two pc w a b m n ha hb g = record {
  named = n;
  sound = (register_name a ha, refl, (tt, tt, (register_name b hb, refl, tt)));
  few = omega arith;
  gives = g;
}

one : (pc w d : ℕ) (m : Text) → is_name m ≡ true → d < 32 → Gives pc w m (register_token d ∷ []) →
    IsAssembled pc w (line m (register_token d ∷ []))
one pc w d m n hd g =
    record { named = n; sound = (register_name d hd, refl, tt); few = omega arith; gives = g }

alone : (pc w : ℕ) (m : Text) → is_name m ≡ true → Gives pc w m [] → IsAssembled pc w (line m [])
alone pc w m n g = record { named = n; sound = tt; few = omega arith; gives = g }

numbered : (pc w d a : ℕ) (z : ℤ) (m : Text) → is_name m ≡ true → d < 32 → a < 32 → IsSigned 12 z →
    Gives pc w m (with_number d a z) → IsAssembled pc w (line m (with_number d a z))
numbered pc w d a z m n hd ha hz g = record {
  named = n;
  sound =
      (register_name d hd, refl, (tt, tt, (register_name a ha, refl, (tt, tt, signed_sound z hz))));
  few = omega (arith, signed_few z);
  gives = g;
}

based_few : (z : ℤ) (a : ℕ) → length (signed z ++ (opening ∷ register_token a ∷ closing ∷ [])) ≤ 5
based_few (pos n) a = omega arith
based_few (negsuc n) a = omega arith

based : (pc w r a : ℕ) (z : ℤ) (m : Text) → is_name m ≡ true → r < 32 → a < 32 → IsSigned 12 z →
    Gives pc w m (with_memory r z a) → IsAssembled pc w (line m (with_memory r z a))
based pc w r a z m n hr ha hz g = record {
  named = n;
  sound = (register_name r hr, refl, (tt, tt, based_sound z a hz ha));
  few = omega (arith, based_few z a);
  gives = g;
}

upper : (pc w d k : ℕ) (m : Text) → is_name m ≡ true → d < 32 → k < 2 ^ 20 →
    Gives pc w m (register_token d ∷ comma ∷ digits 5 k ∷ []) →
    IsAssembled pc w (line m (register_token d ∷ comma ∷ digits 5 k ∷ []))
upper pc w d k m n hd hk g = record {
  named = n;
  sound = (register_name d hd, refl, (tt, tt, ((omega arith, hk, omega arith), refl, tt)));
  few = omega arith;
  gives = g;
}

as_word : (pc w : ℕ) → w < 2 ^ 32 → IsAssembled pc w (word_line w)
as_word pc w h = record {
  named = refl;
  sound = ((omega arith, h, h), refl, tt);
  few = omega arith;
  gives = word pc w h;
}

leads : (w to pc : ℕ) (m : Text) (parts : List TextToken) → w < 2 ^ 32 →
    ((to % 4 == 0) ≡ true → IsAssembled pc w (line m parts)) →
    IsAssembled pc w (leading w to m parts)
leads w to pc m parts h told = by_test (to % 4 == 0) refl
  where
    by_test : (b : Bool) → (to % 4 == 0) ≡ b →
        IsAssembled pc w (if b then line m parts else word_line w)
    by_test true e = told e
    by_test false e = as_word pc w h

-- a control and status register is a name of its number, or the number
csr_cases : (P : TextToken → Type 0) (n : ℕ) →
    ((x : Text) → is_name x ≡ true → csr x ≡ Some n → P (named x)) → P (digits 3 n) →
    P (csr_token n)
unfolding csr csrs
csr_cases P n by_name by_number =
    step 0x305 (codes "mtvec") refl refl (
    step 0x340 (codes "mscratch") refl refl (
    step 0x341 (codes "mepc") refl refl (
    step 0x342 (codes "mcause") refl refl (
    step 0xf14 (codes "mhartid") refl refl (
    step 0x7c0 (codes "slots") refl refl (
    step 0x7c1 (codes "modes") refl refl (
    step 0x7c2 (codes "dregions") refl refl (
    step 0x7c3 (codes "iregions") refl refl by_number))))))))
  where
    step : {rest : TextToken} (k : ℕ) (x : Text) → is_name x ≡ true → csr x ≡ Some k → P rest →
        P (if n == k then named x else rest)
    step {rest} k x is_one is_k more = by_test (n == k) refl
      where
        by_test : (b : Bool) → (n == k) ≡ b → P (if b then named x else rest)
        by_test true e =
            let same : k ≡ n = grind (arith, nat_tests) in by_name x is_one (is_k ∙ ap Some same)
        by_test false e = more

source_sound : (op : CsrKind) (a : ℕ) → a < 32 →
    IsSound (csr_source op a) × IsApart (csr_source op a) []
source_sound Rw a h = (register_name a h, refl)
source_sound Rs a h = (register_name a h, refl)
source_sound Rc a h = (register_name a h, refl)
source_sound Rwi a h = (omega arith, refl)
source_sound Rsi a h = (omega arith, refl)
source_sound Rci a h = (omega arith, refl)

csr_is_name : (op : CsrKind) → is_name (csr_name op) ≡ true
csr_is_name Rw = refl
csr_is_name Rs = refl
csr_is_name Rc = refl
csr_is_name Rwi = refl
csr_is_name Rsi = refl
csr_is_name Rci = refl

csr_line : (op : CsrKind) (pc w d a n : ℕ) → d < 32 →
    n < 4096 → a < 32 → encoding_of (CsrIns op d n a) ≡ w →
    IsAssembled pc w (line (csr_name op) (with_csr d n (csr_source op a)))
csr_line op pc w d a n hd hn ha e =
    csr_cases (λ p. IsAssembled pc w (line (csr_name op)
    (register_token d ∷ comma ∷ p ∷ comma ∷ csr_source op a ∷ []))) n by_name by_number
  where
    source : IsSound (csr_source op a) × IsApart (csr_source op a) []
    source = source_sound op a ha

    by_name : (x : Text) → is_name x ≡ true → csr x ≡ Some n → IsAssembled pc w
        (line (csr_name op) (register_token d ∷ comma ∷ named x ∷ comma ∷ csr_source op a ∷ []))
    by_name x is_one is_n = record {
      named = csr_is_name op;
      sound =
          (register_name d hd, refl, (tt, tt, (is_one, refl, (tt, tt, (source.0, source.1, tt)))));
      few = omega arith;
      gives = csr_by_name op pc w d a n x hd is_n (omega arith) ha e;
    }

    by_number : IsAssembled pc w
        (line (csr_name op) (register_token d ∷ comma ∷ digits 3 n ∷ comma ∷ csr_source op a ∷ []))
    by_number = record {
      named = csr_is_name op;
      sound = (
        register_name d hd,
        refl,
        (tt, tt, ((omega arith, hn, omega arith), refl, (tt, tt, (source.0, source.1, tt)))),
      );
      few = omega arith;
      gives = csr_by_number op pc w d a n hd (omega arith) ha e;
    }

fence_case : (pc w : ℕ) → w < 2 ^ 32 → IsAssembled pc w (fence_line w)
fence_case pc w h = first (w == 0x0ff0000f) refl
  where
    second : (b : Bool) → (w == 0x0000100f) ≡ b →
        IsAssembled pc w (if b then line (codes "fence.i") [] else word_line w)
    second true e =
        let same : w ≡ 0x0000100f = grind (arith, nat_tests) in
        rw same (alone pc 0x0000100f (codes "fence.i") refl (fence_i pc))
    second false e = as_word pc w h

    first : (b : Bool) → (w == 0x0ff0000f) ≡ b → IsAssembled pc w (if b then line (codes "fence") []
        else if w == 0x0000100f then line (codes "fence.i") [] else word_line w)
    first true e =
        let same : w ≡ 0x0ff0000f = grind (arith, nat_tests) in
        rw same (alone pc 0x0ff0000f (codes "fence") refl (fence pc))
    first false e = second (w == 0x0000100f) refl

branch_is_name : (op : BranchOp) → is_name (branch_name op) ≡ true
branch_is_name Beq = refl
branch_is_name Bne = refl
branch_is_name Blt = refl
branch_is_name Bge = refl
branch_is_name Bltu = refl
branch_is_name Bgeu = refl

branch_line : (op : BranchOp) (pc w a b : ℕ) (off : ℤ) → a < 32 → b < 32 →
    IsSigned 13 off → IsEven off → pc < 2 ^ 32 → encoding_of (Branch op a b off) ≡ w →
    (target pc off % 4 == 0) ≡ true → IsAssembled pc w (line (branch_name op)
    (register_token a ∷ comma ∷ register_token b ∷ comma ∷ digits 8 (target pc off) ∷ []))
branch_line op pc w a b off ha hb h even hp e four =
    let wide : IsSigned 21 off = (omega (arith, ints), omega (arith, ints)) in
    let low : le_z (neg_ℤ (pos 4096)) off ≡ true = grind (arith, ints) in
    let high : le_z off (pos 4094) ≡ true = let k = even.1 in grind (arith, ints) in
    let offset_to = jump_back (neg_ℤ (pos 4096)) (pos 4094) pc off hp wide low high four in
    record {
      named = branch_is_name op;
      sound = (
        register_name a ha,
        refl,
        (
          tt,
          tt,
          (
            register_name b hb,
            refl,
            (tt, tt, ((omega arith, target_small pc off, target_small pc off), refl, tt)),
          ),
        ),
      );
      few = omega arith;
      gives = branch op pc w a b (target pc off) off ha hb (target_small pc off) offset_to e;
    }

jal_line : (pc w d : ℕ) (off : ℤ) → d < 32 → IsSigned 21 off → IsEven off →
    pc < 2 ^ 32 → encoding_of (Jal d off) ≡ w → (target pc off % 4 == 0) ≡ true →
    IsAssembled pc w (line (codes "jal") (register_token d ∷ comma ∷ digits 8 (target pc off) ∷ []))
jal_line pc w d off hd h even hp e four =
    let low : le_z (neg_ℤ (pos 1048576)) off ≡ true = grind (arith, ints) in
    let high : le_z off (pos 1048574) ≡ true = let k = even.1 in grind (arith, ints) in
    let offset_to = jump_back (neg_ℤ (pos 1048576)) (pos 1048574) pc off hp h low high four in
    record {
      named = refl;
      sound = (
        register_name d hd,
        refl,
        (tt, tt, ((omega arith, target_small pc off, target_small pc off), refl, tt)),
      );
      few = omega arith;
      gives = jal pc w d (target pc off) off hd (target_small pc off) offset_to e;
    }

alu_is_name : (op : AluOp) → is_name (alu_name op) ≡ true
alu_is_name Add = refl
alu_is_name Sub = refl
alu_is_name Sll = refl
alu_is_name Slt = refl
alu_is_name Sltu = refl
alu_is_name Xor = refl
alu_is_name Srl = refl
alu_is_name Sra = refl
alu_is_name Or = refl
alu_is_name And = refl

mul_is_name : (op : MulOp) → is_name (mul_name op) ≡ true
mul_is_name Mul = refl
mul_is_name Mulh = refl
mul_is_name Mulhsu = refl
mul_is_name Mulhu = refl
mul_is_name Div = refl
mul_is_name Divu = refl
mul_is_name Rem = refl
mul_is_name Remu = refl

imm_is_name : (op : ImmOp) → is_name (imm_name op) ≡ true
imm_is_name Addi = refl
imm_is_name Slti = refl
imm_is_name Sltiu = refl
imm_is_name Xori = refl
imm_is_name Ori = refl
imm_is_name Andi = refl

shift_is_name : (op : ShiftOp) → is_name (shift_name op) ≡ true
shift_is_name Slli = refl
shift_is_name Srli = refl
shift_is_name Srai = refl

load_is_name : (op : LoadOp) → is_name (load_name op) ≡ true
load_is_name Lb = refl
load_is_name Lh = refl
load_is_name Lw = refl
load_is_name Lbu = refl
load_is_name Lhu = refl

store_is_name : (op : StoreOp) → is_name (store_name op) ≡ true
store_is_name Sb = refl
store_is_name Sh = refl
store_is_name Sw = refl

shift_sound : (n : ℕ) → n < 32 → IsSigned 12 (pos n)
shift_sound n h = (omega (arith, ints), omega (arith, ints))

-- The line of an instruction whose fields are in range is read as its word.
pub assembled : (i : Ins) (pc w : ℕ) → InRange i → pc < 2 ^ 32 → w < 2 ^ 32 → encoding_of i ≡ w →
    IsAssembled pc w (line_of pc w i)
unfolding line_of
assembled (Lui d k) pc w h hp hw e =
    upper pc w d k (codes "lui") refl h.0 h.1 (lui pc w d k h.0 (omega arith) e)
assembled (Auipc d k) pc w h hp hw e =
    upper pc w d k (codes "auipc") refl h.0 h.1 (auipc pc w d k h.0 (omega arith) e)
assembled (Jal d off) pc w h hp hw e =
    leads w (target pc off) pc (codes "jal") _ hw (jal_line pc w d off h.0 h.1 h.2 hp e)
assembled (Jalr d a z) pc w h hp hw e =
    based pc w d a z (codes "jalr") refl h.0 h.1 h.2 (jalr pc w d a z h.0 h.1 h.2 e)
assembled (Branch op a b off) pc w h hp hw e =
    leads w (target pc off) pc (branch_name op) _ hw
    (branch_line op pc w a b off h.0 h.1 h.2 h.3 hp e)
assembled (Load op d a z) pc w h hp hw e =
    based pc w d a z (load_name op) (load_is_name op) h.0 h.1 h.2 (load op pc w d a z h.0 h.1 h.2 e)
assembled (Store op a b z) pc w h hp hw e =
    based pc w b a z (store_name op) (store_is_name op) h.1 h.0 h.2
    (store op pc w a b z h.0 h.1 h.2 e)
assembled (OpImm op d a z) pc w h hp hw e =
    numbered pc w d a z (imm_name op) (imm_is_name op) h.0 h.1 h.2 (imm op pc w d a z h.0 h.1 h.2 e)
assembled (Shift op d a n) pc w h hp hw e =
    numbered pc w d a (pos n) (shift_name op) (shift_is_name op) h.0 h.1 (shift_sound n h.2)
    (shift op pc w d a n h.0 h.1 (omega arith) e)
assembled (Op op d a b) pc w h hp hw e =
    three pc w d a b (alu_name op) (alu_is_name op) h.0 h.1 h.2 (alu op pc w d a b h.0 h.1 h.2 e)
assembled (Muldiv op d a b) pc w h hp hw e =
    three pc w d a b (mul_name op) (mul_is_name op) h.0 h.1 h.2 (mul op pc w d a b h.0 h.1 h.2 e)
assembled (Fence x) pc w h hp hw e = fence_case pc w hw
assembled Ecall pc w h hp hw e = alone pc w (codes "ecall") refl (ecall pc w e)
assembled Ebreak pc w h hp hw e = alone pc w (codes "ebreak") refl (ebreak pc w e)
assembled Mret pc w h hp hw e = alone pc w (codes "mret") refl (mret pc w e)
assembled (CsrIns op d n a) pc w h hp hw e = csr_line op pc w d a n h.0 h.1 h.2 e
assembled (Gt d) pc w h hp hw e = one pc w d (codes "gt") refl h (gt pc w d h e)
assembled (Gth d) pc w h hp hw e = one pc w d (codes "gth") refl h (gth pc w d h e)
assembled (Du a b) pc w h hp hw e = two pc w a b (codes "du") refl h.0 h.1 (du pc w a b h.0 h.1 e)
assembled (Wu a b) pc w h hp hw e = two pc w a b (codes "wu") refl h.0 h.1 (wu pc w a b h.0 h.1 e)
assembled (Ee a b) pc w h hp hw e = two pc w a b (codes "ee") refl h.0 h.1 (ee pc w a b h.0 h.1 e)
assembled De pc w h hp hw e = alone pc w (codes "de") refl (de pc w e)
assembled (Illegal x) pc w h hp hw e = as_word pc w hw
