-- The instructions that mnemonics make.
use Rattle.std.specs.Prelude.{ℕ, ◌==◌, ◌+◌, ◌^◌, ◌/◌, ◌%◌, ◌&&◌, ℤ, pos, negsuc, neg_ℤ}
use Rattle.std.specs.Prelude.{nat_abs, Bool, List, [], ◌∷◌, Option, Some, None, if◌then◌else◌}
use Rattle.std.specs.Int.Signed.{le_z}
use Rattle.rv_decode.specs.Fields.{sign_extended}
use Rattle.rv_decode.specs.declared.instruction.Ins.{Ins}
use Rattle.rv_decode.specs.declared.instruction.Ins.TheVariants.{Lui, Auipc, Jalr, Load, Store}
use Rattle.rv_decode.specs.declared.instruction.Ins.TheVariants.{OpImm, Shift, Op, Muldiv}
use Rattle.rv_decode.specs.declared.instruction.Ins.TheVariants.{Fence, Ecall, Ebreak, Mret}
use Rattle.rv_decode.specs.declared.instruction.Ins.TheVariants.{Csr, Gt, Gth, Du, Wu, Ee, De}
use Rattle.rv_decode.specs.declared.instruction.ImmOp.TheVariants.{Addi, Xori}
use Rattle.fp_asm.specs.Operands.{Operands}
use Rattle.fp_asm.specs.declared.mnemonics.Plain.{Plain}
use Rattle.fp_asm.specs.declared.mnemonics.Plain.TheVariants as plain

-- from one number to another
abbrev pub is_within : ℤ → ℤ → ℤ → Bool
is_within low high n = le_z low n && le_z n high

-- a value if a test holds
abbrev pub where_true : {A : Type 0} → Bool → A → Option A
where_true test x = if test then Some x else None

-- a number of twelve bits with a sign
unfoldable pub signed_12 : ℤ → Option ℤ
signed_12 n = where_true (is_within (neg_ℤ (pos 2048)) (pos 2047) n) n

-- a number from 0 to a limit
unfoldable pub up_to : ℕ → ℤ → Option ℕ
up_to most n = where_true (is_within (pos 0) (pos most) n) (nat_abs n)

-- a value computed from a number, if there is one
abbrev pub with_number : {A B : Type 0} → Option A → (A → B) → Option B
with_number None f = None
with_number (Some n) f = Some (f n)

-- a value computed from two others, if both are there
abbrev pub with_both : {A B C : Type 0} → Option A → Option B → (A → B → C) → Option C
with_both (Some a) (Some b) f = Some (f a b)
with_both _ _ f = None

-- The instruction of a row without an address. None if a number is out of range.
unfoldable pub instruction : Plain → Operands → Option Ins
instruction (plain.Op op) o = Some (Op op o.rd o.rs1 o.rs2)
instruction (plain.Muldiv op) o = Some (Muldiv op o.rd o.rs1 o.rs2)
instruction (plain.OpImm op) o = with_number (signed_12 o.given) (λ imm. OpImm op o.rd o.rs1 imm)
instruction (plain.Shift op) o =
    with_number (up_to 31 o.given) (λ amount. Shift op o.rd o.rs1 amount)
instruction (plain.Load op) o = with_number (signed_12 o.given) (λ imm. Load op o.rd o.rs1 imm)
instruction (plain.Store op) o = with_number (signed_12 o.given) (λ imm. Store op o.rs1 o.rs2 imm)
instruction plain.Jalr o = with_number (signed_12 o.given) (λ imm. Jalr o.rd o.rs1 imm)
instruction plain.Lui o = with_number (up_to 1048575 o.given) (λ imm. Lui o.rd imm)
instruction plain.Auipc o = with_number (up_to 1048575 o.given) (λ imm. Auipc o.rd imm)
instruction (plain.Csr op) o =
    with_number (up_to 4095 (pos o.csr_number)) (λ csr. Csr op o.rd csr o.rs1)
instruction (plain.CsrImm op) o =
    with_both (up_to 4095 (pos o.csr_number)) (up_to 31 o.given) (λ csr src. Csr op o.rd csr src)
instruction plain.Gt o = Some (Gt o.rd)
instruction plain.Gth o = Some (Gth o.rd)
instruction plain.Du o = Some (Du o.rs1 o.rs2)
instruction plain.Wu o = Some (Wu o.rs1 o.rs2)
instruction plain.Ee o = Some (Ee o.rs1 o.rs2)
instruction plain.De o = Some De
instruction plain.Ecall o = Some Ecall
instruction plain.Ebreak o = Some Ebreak
instruction plain.Mret o = Some Mret
instruction plain.Fence o = Some (Fence 0x0ff0000f)
instruction plain.FenceI o = Some (Fence 0x0000100f)
instruction plain.Not o = Some (OpImm Xori o.rd o.rs1 (negsuc 0))
instruction plain.Ret o = Some (Jalr 0 1 (pos 0))

-- a word in two parts: the upper twenty bits, chosen so that the signed rest is added to them
abbrev pub upper : ℕ → ℕ
upper v = (v + 2048) / 4096 % 2 ^ 20

-- its low twelve bits, read with sign
abbrev pub rest : ℕ → ℤ
rest v = sign_extended 12 (v % 4096)

-- the two instructions that load the word v into a register
unfoldable pub halves : ℕ → ℕ → List Ins
halves rd v = Lui rd (upper v) ∷ OpImm Addi rd rd (rest v) ∷ []

-- the same with as few instructions as possible: one if the signed word has twelve bits, or if its
-- low twelve bits are 0
unfoldable pub load_instructions : ℕ → ℕ → List Ins
load_instructions rd v =
    if is_within (neg_ℤ (pos 2048)) (pos 2047) (sign_extended 32 v)
    then OpImm Addi rd 0 (sign_extended 32 v) ∷ []
    else if v % 4096 == 0 then Lui rd (upper v) ∷ []
    else halves rd v
