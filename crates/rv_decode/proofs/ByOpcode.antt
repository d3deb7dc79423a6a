-- For a word of an opcode only the rows of that opcode matter.
use Rattle.std.proofs.Common.{◌≡◌, ◌≢◌, ℕ, List, [], ◌∷◌, ◌==◌, Bool, true}
use Rattle.std.proofs.Common.{false, refl, ◌∙◌, ap, arith, filter, if◌then◌else◌}
use Rattle.std.proofs.lemmas.Bool.Decides.{nat_tests}
use Rattle.rv_decode.specs.Fields.{field}
use Rattle.rv_decode.specs.Table.{Row, fits, read_by, rows, ins, lui_rows, auipc_rows}
use Rattle.rv_decode.specs.Table.{jal_rows, jalr_rows, branch_rows, load_rows, store_rows}
use Rattle.rv_decode.specs.Table.{imm_rows, op_rows, fence_rows, system_rows, time_rows}
use Rattle.rv_decode.specs.declared.instruction.Ins.TheVariants.{Illegal}

abbrev has_code : ℕ → Row → Bool
has_code k row = row.code == k

-- a row of another opcode doesn't fit
row_step : (k : ℕ) (r : Row) (rs : List Row) (w : ℕ) → field w 0 7 ≡ k → (b : Bool) →
    (r.code == k) ≡ b → read_by rs w ≡ read_by (filter (has_code k) rs) w →
    read_by (r ∷ rs) w ≡ read_by (filter (has_code k) (r ∷ rs)) w
row_step k r rs w e true h more = rw h (ap (λ x. if fits r w then r.reads w else x) more)
row_step k r rs w e false h more =
    let no : (field w 0 7 == r.code) ≡ false = grind (arith, nat_tests) in
    rw (h, no) more

only_code : (k : ℕ) (rs : List Row) (w : ℕ) → field w 0 7 ≡ k →
    read_by rs w ≡ read_by (filter (has_code k) rs) w
only_code k [] w e = refl
only_code k (r ∷ rs) w e = row_step k r rs w e (r.code == k) refl (only_code k rs w e)

ins_by_code : (k w : ℕ) → field w 0 7 ≡ k → ins w ≡ read_by (filter (has_code k) rows) w
unfolding ins
ins_by_code k w e = only_code k rows w e

differs : (a b : ℕ) → b ≢ a → (a == b) ≡ false
differs a b h = grind (arith, nat_tests)

-- no row has the opcode
no_row : (rs : List Row) (w : ℕ) → filter (has_code (field w 0 7)) rs ≡ [] →
    read_by rs w ≡ Illegal w
no_row rs w none = only_code (field w 0 7) rs w refl ∙ ap (λ x. read_by x w) none

pub ins-lui : (w : ℕ) → field w 0 7 ≡ 0x37 → ins w ≡ read_by lui_rows w
unfolding rows lui_rows auipc_rows jal_rows jalr_rows branch_rows load_rows store_rows imm_rows
    op_rows fence_rows system_rows time_rows
ins-lui w e = ins_by_code 0x37 w e

pub ins-auipc : (w : ℕ) → field w 0 7 ≡ 0x17 → ins w ≡ read_by auipc_rows w
unfolding rows lui_rows auipc_rows jal_rows jalr_rows branch_rows load_rows store_rows imm_rows
    op_rows fence_rows system_rows time_rows
ins-auipc w e = ins_by_code 0x17 w e

pub ins-jal : (w : ℕ) → field w 0 7 ≡ 0x6f → ins w ≡ read_by jal_rows w
unfolding rows lui_rows auipc_rows jal_rows jalr_rows branch_rows load_rows store_rows imm_rows
    op_rows fence_rows system_rows time_rows
ins-jal w e = ins_by_code 0x6f w e

pub ins-jalr : (w : ℕ) → field w 0 7 ≡ 0x67 → ins w ≡ read_by jalr_rows w
unfolding rows lui_rows auipc_rows jal_rows jalr_rows branch_rows load_rows store_rows imm_rows
    op_rows fence_rows system_rows time_rows
ins-jalr w e = ins_by_code 0x67 w e

pub ins-branch : (w : ℕ) → field w 0 7 ≡ 0x63 → ins w ≡ read_by branch_rows w
unfolding rows lui_rows auipc_rows jal_rows jalr_rows branch_rows load_rows store_rows imm_rows
    op_rows fence_rows system_rows time_rows
ins-branch w e = ins_by_code 0x63 w e

pub ins-load : (w : ℕ) → field w 0 7 ≡ 0x03 → ins w ≡ read_by load_rows w
unfolding rows lui_rows auipc_rows jal_rows jalr_rows branch_rows load_rows store_rows imm_rows
    op_rows fence_rows system_rows time_rows
ins-load w e = ins_by_code 0x03 w e

pub ins-store : (w : ℕ) → field w 0 7 ≡ 0x23 → ins w ≡ read_by store_rows w
unfolding rows lui_rows auipc_rows jal_rows jalr_rows branch_rows load_rows store_rows imm_rows
    op_rows fence_rows system_rows time_rows
ins-store w e = ins_by_code 0x23 w e

pub ins-imm : (w : ℕ) → field w 0 7 ≡ 0x13 → ins w ≡ read_by imm_rows w
unfolding rows lui_rows auipc_rows jal_rows jalr_rows branch_rows load_rows store_rows imm_rows
    op_rows fence_rows system_rows time_rows
ins-imm w e = ins_by_code 0x13 w e

pub ins-op : (w : ℕ) → field w 0 7 ≡ 0x33 → ins w ≡ read_by op_rows w
unfolding rows lui_rows auipc_rows jal_rows jalr_rows branch_rows load_rows store_rows imm_rows
    op_rows fence_rows system_rows time_rows
ins-op w e = ins_by_code 0x33 w e

pub ins-fence : (w : ℕ) → field w 0 7 ≡ 0x0f → ins w ≡ read_by fence_rows w
unfolding rows lui_rows auipc_rows jal_rows jalr_rows branch_rows load_rows store_rows imm_rows
    op_rows fence_rows system_rows time_rows
ins-fence w e = ins_by_code 0x0f w e

pub ins-system : (w : ℕ) → field w 0 7 ≡ 0x73 → ins w ≡ read_by system_rows w
unfolding rows lui_rows auipc_rows jal_rows jalr_rows branch_rows load_rows store_rows imm_rows
    op_rows fence_rows system_rows time_rows
ins-system w e = ins_by_code 0x73 w e

pub ins-time : (w : ℕ) → field w 0 7 ≡ 0x0b → ins w ≡ read_by time_rows w
unfolding rows lui_rows auipc_rows jal_rows jalr_rows branch_rows load_rows store_rows imm_rows
    op_rows fence_rows system_rows time_rows
ins-time w e = ins_by_code 0x0b w e

-- the word has none of the opcodes
pub ins-none : (w : ℕ)
    → field w 0 7 ≢ 0x37
    → field w 0 7 ≢ 0x17
    → field w 0 7 ≢ 0x6f
    → field w 0 7 ≢ 0x67
    → field w 0 7 ≢ 0x63
    → field w 0 7 ≢ 0x03
    → field w 0 7 ≢ 0x23
    → field w 0 7 ≢ 0x13
    → field w 0 7 ≢ 0x33
    → field w 0 7 ≢ 0x0f
    → field w 0 7 ≢ 0x73
    → field w 0 7 ≢ 0x0b
    → ins w ≡ Illegal w
unfolding ins rows lui_rows auipc_rows jal_rows jalr_rows branch_rows load_rows store_rows imm_rows
    op_rows fence_rows system_rows time_rows
ins-none w n0 n1 n2 n3 n4 n5 n6 n7 n8 n9 n10 n11 = no_row rows w (simp (
  differs 0x37 (field w 0 7) n0,
  differs 0x17 (field w 0 7) n1,
  differs 0x6f (field w 0 7) n2,
  differs 0x67 (field w 0 7) n3,
  differs 0x63 (field w 0 7) n4,
  differs 0x03 (field w 0 7) n5,
  differs 0x23 (field w 0 7) n6,
  differs 0x13 (field w 0 7) n7,
  differs 0x33 (field w 0 7) n8,
  differs 0x0f (field w 0 7) n9,
  differs 0x73 (field w 0 7) n10,
  differs 0x0b (field w 0 7) n11,
))

-- The word 0 is no instruction.
pub ins-zero : ins 0 ≡ Illegal 0
unfolding ins rows lui_rows auipc_rows jal_rows jalr_rows branch_rows load_rows store_rows imm_rows
    op_rows fence_rows system_rows time_rows
ins-zero = refl
