-- The texts of words assemble to the words.
use Rattle.std.specs.Prelude.{◌≡◌, ℕ, ◌+◌, ◌%◌, ◌^◌, ◌<◌, [], ◌∷◌, Some, Ok}
use Rattle.fp_asm.specs.First.{Labels, Placed, first_line, placed_by}
use Rattle.fp_asm.specs.Second.{Memory, second_line, with_words}
use Rattle.rv_disasm.specs.Text.{text_at}

-- The first pass parses the text as a statement of one word, without a label.
abbrev pub TakesOneWord : Type 0
TakesOneWord =
    (p : Placed) (pc w : ℕ) → pc < 2 ^ 32 → w < 2 ^ 32 →
    first_line p (text_at pc w) ≡ placed_by p (Some (1, (p.location + 4) % 2 ^ 32))

-- The second pass over the text at the address makes the word, for any labels and other words.
abbrev pub AssemblesBack : Type 0
AssemblesBack =
    (labels : Labels) (memory : Memory) (pc w : ℕ) → pc < 2 ^ 32 → w < 2 ^ 32
    → second_line labels (record { location = pc; memory = memory }) (text_at pc w)
    ≡ Ok (record { location = (pc + 4) % 2 ^ 32; memory = with_words memory pc (w ∷ []) })
