-- Sources with their images or faults, worked out by hand: the definition computes them.
use Rattle.std.proofs.Common.{◌≡◌, ℕ, ◌/◌, ◌%◌, List, [], ◌∷◌, Result, Ok, Err, map, refl}
use Rattle.std.specs.Prelude.{codes}
use Rattle.fp_lex.specs.Bytes.{run, number_from, number_of}
use Rattle.fp_lex.specs.Tokens.{digits_at, number_at, token_at, tokens_from, tokens_of}
use Rattle.rv_decode.specs.Encoding.{encoding_of}
use Rattle.fp_image.specs.declared.parts.Segment.{Segment}
use Rattle.fp_asm.specs.Between.{between_from}
use Rattle.fp_asm.specs.Lines.{without_return, lines_of}
use Rattle.fp_asm.specs.Pieces.{Text, piece, pieces_of, commas, operands_of}
use Rattle.fp_asm.specs.Mnemonics.{mnemonics, mnemonic}
use Rattle.fp_asm.specs.Names.{registers, register_number, csrs, csr}
use Rattle.fp_asm.specs.Operands.{register_in, number_in, target_in, csr_in}
use Rattle.fp_asm.specs.Operands.{memory_in, with_operand, all_filled, all_targets}
use Rattle.fp_asm.specs.Words.{signed_12, up_to, instruction, halves, load_instructions}
use Rattle.fp_asm.specs.Statements.{some_targets, statement_in, aligned_to, statement_check}
use Rattle.fp_asm.specs.Statements.{statement_named, statement_of, size_of, location_after}
use Rattle.fp_asm.specs.First.{with_label, with_labels, addresses, take_addresses}
use Rattle.fp_asm.specs.First.{placed_size, placed_by, first_line, first_pass}
use Rattle.fp_asm.specs.Second.{after_labels, target_word, all_resolved, jump, plain_word}
use Rattle.fp_asm.specs.Second.{branch_word, jal_word, address_words, value_words}
use Rattle.fp_asm.specs.Second.{statement_words, with_words, written_by, second_line, second_pass}
use Rattle.fp_asm.specs.Runs.{runs_from, runs_of, bytes_from}
use Rattle.fp_asm.specs.Source.{segments_at, assembled_lines, assembly_of}
use Rattle.fp_asm.specs.declared.refusal.AsmNo.TheVariants as no
use Rattle.fp_asm.specs.declared.refusal.AsmRefused.{AsmRefused}
use Rattle.fp_asm.specs.declared.refusal.AsmRefused.TheVariants as refused

-- the four bytes of each word, the lowest first
bytes : List ℕ → List ℕ
bytes [] = []
bytes (w ∷ ws) = w % 256 ∷ w / 256 % 256 ∷ w / 65536 % 256 ∷ w / 16777216 ∷ bytes ws

words : ℕ → List ℕ → Segment
words address ws = record { address = address; bytes = bytes ws }

-- sources with their images, or their first faults
rows : List (Text × Result (List Segment) AsmRefused)
rows =
    -- a label before its instruction, and a branch back to it
    (codes "start: li x5, 1\nbeq x5, x0, start", Ok (words 0 (0x00100293 ∷ 0xfe028ee3 ∷ []) ∷ []))
    -- words at a location in the data scratchpad
    ∷ (codes ".org 0x20000000\n.word 42", Ok (words 0x20000000 (0x0000002a ∷ []) ∷ []))
    -- nothing is an image without segments
    ∷ (codes "", Ok [])
    -- `li` in one word and in two, at the edges of twelve bits and of a word
    ∷ (
      codes "li x5, -2048\nli x5, 2047\nli x5, 2048\nli x5, -2147483648",
      Ok (words 0 (0x80000293 ∷ 0x7ff00293 ∷ 0x000012b7 ∷ 0x80028293 ∷ 0x800002b7 ∷ []) ∷ []),
    )
    -- `la` in two words always, with the carry of the lower part into the upper one
    ∷ (
      codes "la x5, 0\nla x5, 2048\nla x6, here\nhere: nop",
      Ok (words 0 (0x000002b7 ∷ 0x00028293 ∷ 0x000012b7 ∷ 0x80028293 ∷ 0x00000337 ∷ 0x01830313
          ∷ 0x00000013 ∷ []) ∷ []),
    )
    -- words of some mnemonics whose rows differ from those of the plain instructions
    ∷ (
      codes "nop\nneg x5, x6\nret\ncsrw mtvec, x11\nfence\nfence.i",
      Ok (words 0 (0x00000013 ∷ 0x406002b3 ∷ 0x00008067 ∷ 0x30559073 ∷ 0x0ff0000f ∷ 0x0000100f ∷ [])
          ∷ []),
    )
    -- locations in any order: maximal runs, rising
    ∷ (
      codes ".org 8\nnop\n.org 0\nnop\nnop\n.org 0x10\nnop",
      Ok (words 0 (0x00000013 ∷ 0x00000013 ∷ 0x00000013 ∷ []) ∷ words 16 (0x00000013 ∷ []) ∷ []),
    )
    -- a label twice
    ∷ (codes "a:\na:", Err (refused.Fault 2 no.DoubleLabel))
    -- a repeated label is reported before an unknown name
    ∷ (codes "a: a: bogus", Err (refused.Fault 1 no.DoubleLabel))
    -- an undefined label
    ∷ (codes "j far", Err (refused.Fault 1 no.NoLabel))
    -- too few operands
    ∷ (codes "x: add x1, x2", Err (refused.Fault 1 no.Operands))
    -- a number of thirteen bits
    ∷ (codes "nop\naddi x1, x0, 2048", Err (refused.Fault 2 no.OutOfRange))
    -- a fault of the first pass comes before one of the second in an earlier line
    ∷ (codes "beq x0, x0, far\n.org 2", Err (refused.Fault 2 no.Misaligned))
    -- a word outside the scratchpads comes before an overlap
    ∷ (codes ".org 16380\nnop\n.org 16380\n.word 1, 2", Err (refused.Fault 4 no.OutsideMemory))
    -- a word where one was placed
    ∷ (codes ".org 16380\nnop\n.org 16376\n.word 1, 2", Err (refused.Fault 4 no.Overlap))
    -- a branch over more than 4,094 bytes
    ∷ (codes "beq x0, x0, 4096", Err (refused.Fault 1 no.OutOfRange))
    -- the same, to no multiple of four: the range is checked first
    ∷ (codes "beq x0, x0, 4095", Err (refused.Fault 1 no.OutOfRange))
    -- a branch to an address that is no multiple of four
    ∷ (codes "beq x0, x0, 4093", Err (refused.Fault 1 no.Misaligned))
    ∷ []

worked : map (λ row. assembly_of row.0) rows ≡ map (λ row. row.1) rows
unfolding rows words bytes run number_from number_of digits_at number_at token_at tokens_from
    tokens_of encoding_of between_from without_return lines_of piece pieces_of commas operands_of
    mnemonics mnemonic registers register_number csrs csr register_in number_in target_in
    csr_in memory_in with_operand all_filled all_targets signed_12 up_to instruction halves
    load_instructions some_targets statement_in aligned_to statement_check statement_named
    statement_of size_of location_after with_label with_labels addresses take_addresses placed_size
    placed_by first_line first_pass after_labels target_word all_resolved jump plain_word
    branch_word jal_word address_words value_words statement_words with_words written_by second_line
    second_pass runs_from runs_of bytes_from segments_at assembled_lines assembly_of
worked = refl

-- pseudo-instructions, and the instructions that they are
pseudo : List (Text × Text)
pseudo =
    -- pseudo-instructions with only registers
    (
      codes "nop\nmv x1, x2\nnot x3, x4\nneg x5, x6\njr x7\nret",
      codes "addi x0, x0, 0\naddi x1, x2, 0\nxori x3, x4, -1\nsub x5, x0, x6\njalr x0, 0(x7)\njalr x0, 0(x1)",
    )
    -- to an address
    ∷ (codes "a: j a\nbeqz x8, a\nbnez x9, a", codes "a: jal x0, a\nbeq x8, x0, a\nbne x9, x0, a")
    -- on control registers
    ∷ (codes "csrr x10, mepc\ncsrw mtvec, x11", codes "csrrs x10, mepc, x0\ncsrrw x0, mtvec, x11")
    ∷ []

same : map (λ row. assembly_of row.0) pseudo ≡ map (λ row. assembly_of row.1) pseudo
unfolding pseudo run number_from number_of digits_at number_at token_at tokens_from tokens_of
    encoding_of between_from without_return lines_of piece pieces_of commas operands_of mnemonics
    mnemonic registers register_number csrs csr register_in number_in target_in csr_in memory_in
    with_operand all_filled all_targets signed_12 up_to instruction halves load_instructions
    some_targets statement_in aligned_to statement_check statement_named statement_of size_of
    location_after with_label with_labels addresses take_addresses placed_size placed_by first_line
    first_pass after_labels target_word all_resolved jump plain_word branch_word jal_word
    address_words value_words statement_words with_words written_by second_line second_pass
    runs_from runs_of bytes_from segments_at assembled_lines assembly_of
same = refl
