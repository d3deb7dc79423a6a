-- The second pass: words.
use Rattle.std.specs.Prelude.{ℕ, ◌==◌, ◌+◌, ◌^◌, ◌%◌, ◌-◌, ℤ, pos, neg_ℤ, Bool, true, List}
use Rattle.std.specs.Prelude.{[], ◌∷◌, Option, Some, None, Result, Ok, map, replicate}
use Rattle.std.specs.List.{list_all}
use Rattle.std.specs.Ordering.{nat_cmp}
use Rattle.std.specs.BTreeMap.{insert_entry}
use Rattle.rv_decode.specs.Fields.{sign_extended}
use Rattle.rv_decode.specs.Encoding.{low_bits, encoding_of}
use Rattle.rv_decode.specs.declared.instruction.Ins.TheVariants.{Branch, Jal}
use Rattle.fp_asm.specs.Pieces.{Text, Piece, name, colon, pieces_of}
use Rattle.fp_asm.specs.Operands.{Target, plain, label, Operands}
use Rattle.fp_asm.specs.Statements.{Statement, statement_of, size_of, location_after}
use Rattle.fp_asm.specs.Words.{is_within, instruction, halves, load_instructions}
use Rattle.fp_asm.specs.First.{Labels, location_of}
use Rattle.fp_asm.specs.Faults.{next, holds, present, in_line}
use Rattle.rv_decode.specs.declared.instruction.BranchOp.{BranchOp}
use Rattle.fp_asm.specs.declared.mnemonics.Plain.{Plain}
use Rattle.fp_asm.specs.declared.mnemonics.Makes.{Makes}
use Rattle.fp_asm.specs.declared.mnemonics.Makes.TheVariants as makes
use Rattle.fp_asm.specs.declared.refusal.AsmNo.{AsmNo}
use Rattle.fp_asm.specs.declared.refusal.AsmNo.TheVariants as no
use Rattle.fp_asm.specs.declared.refusal.AsmRefused.{AsmRefused}

-- the pieces after the labels at their head
unfoldable pub after_labels : List Piece → List Piece
after_labels (name x ∷ colon ∷ ps) = after_labels ps
after_labels ps = ps

-- a target as a word, modulo 2^32
unfoldable pub target_word : Labels → Target → Result ℕ AsmNo
target_word labels (plain n) = Ok (low_bits 32 n)
target_word labels (label x n) =
    next (present no.NoLabel (location_of labels x)) (λ a. Ok ((a + low_bits 32 n) % 2 ^ 32))

-- each target as a word
unfoldable pub all_resolved : Labels → List Target → Result (List ℕ) AsmNo
all_resolved labels [] = Ok []
all_resolved labels (v ∷ vs) =
    next (target_word labels v) (λ a. next (all_resolved labels vs) (λ others. Ok (a ∷ others)))

-- whether a word can hold the number, with or without sign; a label always fits
abbrev pub fits_word : Target → Bool
fits_word (plain n) = is_within (neg_ℤ (pos (2 ^ 31))) (pos (2 ^ 32 - 1)) n
fits_word (label x n) = true

-- the offset from a location to an address, modulo 2^32, as a signed number
abbrev pub offset_to : ℕ → ℕ → ℤ
offset_to location to = sign_extended 32 ((to + (2 ^ 32 - location)) % 2 ^ 32)

-- the offset of a branch or a jump, which must be in a range; its target must be a multiple of four
unfoldable pub jump : ℤ → ℤ → ℕ → ℕ → Result ℤ AsmNo
jump low high location to =
    holds (is_within low high (offset_to location to)) no.OutOfRange
    (holds (to % 4 == 0) no.Misaligned (Ok (offset_to location to)))

-- the word of an instruction that names no address
unfoldable pub plain_word : Plain → Operands → Result ℕ AsmNo
plain_word p o = next (present no.OutOfRange (instruction p o)) (λ i. Ok (encoding_of i))

-- a branch, to addresses from 4,096 bytes before to 4,094 after
unfoldable pub branch_word : BranchOp → Labels → ℕ → Operands → Result ℕ AsmNo
branch_word op labels location o =
    next (target_word labels o.target) (λ to. next (jump (neg_ℤ (pos 4096)) (pos 4094) location to)
    (λ off. Ok (encoding_of (Branch op o.rs1 o.rs2 off))))

-- a jump, to addresses from 1,048,576 bytes before to 1,048,574 after
unfoldable pub jal_word : Labels → ℕ → Operands → Result ℕ AsmNo
jal_word labels location o =
    next (target_word labels o.target) (λ to. next
    (jump (neg_ℤ (pos 1048576)) (pos 1048574) location to) (λ off. Ok (encoding_of (Jal o.rd off))))

-- the words that load an address into a register
unfoldable pub address_words : Labels → Operands → Result (List ℕ) AsmNo
address_words labels o =
    next (target_word labels o.target)
    (λ a. holds (fits_word o.target) no.OutOfRange (Ok (map encoding_of (halves o.rd a))))

-- the words of `.word`
unfoldable pub value_words : Labels → List Target → Result (List ℕ) AsmNo
value_words labels values =
    next (all_resolved labels values)
    (λ words. holds (list_all fits_word values) no.OutOfRange (Ok words))

-- a word as a list
abbrev pub one_word : Result ℕ AsmNo → Result (List ℕ) AsmNo
one_word r = next r (λ w. Ok (w ∷ []))

-- the words of a statement, from its kind of output
abbrev pub words_as : Makes → Labels → ℕ → Statement → Result (List ℕ) AsmNo
words_as (makes.Plain p) labels location s = one_word (plain_word p s.operands)
words_as (makes.Branch op) labels location s = one_word (branch_word op labels location s.operands)
words_as makes.Jal labels location s = one_word (jal_word labels location s.operands)
words_as makes.Li labels location s =
    Ok (map encoding_of (load_instructions s.operands.rd (low_bits 32 s.operands.given)))
words_as makes.La labels location s = address_words labels s.operands
words_as makes.Words labels location s = value_words labels s.values
words_as makes.Org labels location s = Ok []
words_as makes.Space labels location s = Ok (replicate (size_of s) 0)

-- the words of a statement at a location
unfoldable pub statement_words : Labels → ℕ → Statement → Result (List ℕ) AsmNo
statement_words labels location s = words_as s.makes labels location s

-- the words in memory, by rising address
abbrev pub Memory : Type 0
Memory = List (ℕ × ℕ)

-- with words from a location on
unfoldable pub with_words : Memory → ℕ → List ℕ → Memory
with_words memory location [] = memory
with_words memory location (w ∷ ws) =
    with_words (insert_entry nat_cmp memory location w) ((location + 4) % 2 ^ 32) ws

-- The state of the second pass: the location, and the words so far.
pub record Written : Type 0 where
  pub location : ℕ
  pub memory : Memory

-- before the first line
abbrev pub nothing_written : Written
nothing_written = record { location = 0; memory = [] }

-- with the words of a statement, if there is one
unfoldable pub written_by : Labels → Written → Option Statement → Result Written AsmNo
written_by labels w None = Ok w
written_by labels w (Some s) =
    next (statement_words labels w.location s) (λ ws. Ok
    (record { location = location_after w.location s; memory = with_words w.memory w.location ws }))

-- the second pass over a line
unfoldable pub second_line : Labels → Written → Text → Result Written AsmNo
second_line labels w line =
    next (pieces_of line) (λ ps. next (statement_of (after_labels ps)) (written_by labels w))

-- the second pass from line number n on
unfoldable pub second_pass : ℕ → Labels → Written → List Text → Result Written AsmRefused
second_pass n labels w [] = Ok w
second_pass n labels w (line ∷ lines) =
    next (in_line n (second_line labels w line)) (λ w. second_pass (n + 1) labels w lines)
