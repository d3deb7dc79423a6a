-- Both passes of the assembler over the text of a word.
use Rattle.std.proofs.Common.{◌≡◌, ℕ, ◌+◌, ◌%◌, ◌^◌, List, [], ◌∷◌}
use Rattle.std.proofs.Common.{map, Some, Result, Ok, Err, refl, ap}
use Rattle.std.specs.Prelude.{option_map}
use Rattle.rv_decode.specs.Table.{ins}
use Rattle.rv_decode.proofs.Ranges.{ins-range}
use Rattle.fp_asm.specs.Pieces.{Text, name}
use Rattle.fp_asm.specs.Statements.{Statement, statement_named}
use Rattle.fp_asm.specs.Statements.{statement_of, size_of, location_after}
use Rattle.fp_asm.specs.First.{Labels, Placed, with_labels, placed_size, placed_by, first_line}
use Rattle.fp_asm.specs.Second.{Memory, after_labels, statement_words}
use Rattle.fp_asm.specs.Second.{with_words, written_by, second_line}
use Rattle.fp_asm.specs.Faults.{next}
use Rattle.fp_asm.specs.declared.refusal.AsmNo.{AsmNo}
use Rattle.rv_disasm.specs.TextTokens.{TextToken, named, counted, digits, comma}
use Rattle.rv_disasm.specs.TextTokens.{opening, closing, minus, Line, line_text}
use Rattle.rv_disasm.specs.Text.{line_of, text_at}
use Rattle.rv_disasm.specs.RoundTrip.{TakesOneWord, AssemblesBack}
use Rattle.rv_disasm.proofs.Lexing.{part_piece, line_pieces}
use Rattle.rv_disasm.proofs.Words.{encoded-ins}
use Rattle.rv_disasm.proofs.Statements.{IsAssembled, assembled}

-- no token is a colon
no_labels : (m : Text) (parts : List TextToken) →
    after_labels (name m ∷ map part_piece parts) ≡ name m ∷ map part_piece parts
unfolding after_labels
no_labels m [] = refl
no_labels m (named x ∷ parts) = refl
no_labels m (counted n ∷ parts) = refl
no_labels m (digits width n ∷ parts) = refl
no_labels m (comma ∷ parts) = refl
no_labels m (opening ∷ parts) = refl
no_labels m (closing ∷ parts) = refl
no_labels m (minus ∷ parts) = refl

none_labelled : (location : ℕ) (labels : Labels) (m : Text) (parts : List TextToken) →
    with_labels location labels (name m ∷ map part_piece parts)
    ≡ Ok (labels, name m ∷ map part_piece parts)
unfolding with_labels
none_labelled location labels m [] = refl
none_labelled location labels m (named x ∷ parts) = refl
none_labelled location labels m (counted n ∷ parts) = refl
none_labelled location labels m (digits width n ∷ parts) = refl
none_labelled location labels m (comma ∷ parts) = refl
none_labelled location labels m (opening ∷ parts) = refl
none_labelled location labels m (closing ∷ parts) = refl
none_labelled location labels m (minus ∷ parts) = refl

abbrev Told : Type 0
Told = ℕ × ℕ × Result (List ℕ) AsmNo

written : (labels : Labels) (memory : Memory) (pc w : ℕ) (r : Result Statement AsmNo) →
    next {B = Told} r (λ s. Ok (size_of s, location_after pc s, statement_words labels pc s))
    ≡ Ok (1, (pc + 4) % 2 ^ 32, Ok (w ∷ [])) →
    next (next r (λ s. Ok (Some s))) (written_by labels (record { location = pc; memory = memory }))
    ≡ Ok (record { location = (pc + 4) % 2 ^ 32; memory = with_words memory pc (w ∷ []) })
unfolding written_by
written labels memory pc w (Err fault) h = absurd (cc)
written labels memory pc w (Ok s) h =
    let left : Told = (size_of s, location_after pc s, statement_words labels pc s) in
    let right : Told = (1, (pc + 4) % 2 ^ 32, Ok (w ∷ [])) in
    let same : left ≡ right = cc in
    let location : location_after pc s ≡ (pc + 4) % 2 ^ 32 = ap (λ (t : Told). t.1) same in
    let words : statement_words labels pc s ≡ Ok (w ∷ []) = ap (λ (t : Told). t.2) same in
    rw (location, words) refl

counted_once : (p : Placed) (labels : Labels) (pc w : ℕ) (r : Result Statement AsmNo) →
    next {B = Told} r
    (λ s. Ok (size_of s, location_after p.location s, statement_words labels pc s))
    ≡ Ok (1, (p.location + 4) % 2 ^ 32, Ok (w ∷ [])) → next (next (next r (λ s. Ok (Some s)))
    (λ s. Ok (option_map (λ s. (size_of s, location_after p.location s)) s))) (placed_by p)
    ≡ placed_by p (Some (1, (p.location + 4) % 2 ^ 32))
counted_once p labels pc w (Err fault) h = absurd (cc)
counted_once p labels pc w (Ok s) h =
    let left : Told = (size_of s, location_after p.location s, statement_words labels pc s) in
    let right : Told = (1, (p.location + 4) % 2 ^ 32, Ok (w ∷ [])) in
    let same : left ≡ right = cc in
    let size : size_of s ≡ 1 = ap (λ (t : Told). t.0) same in
    let location : location_after p.location s ≡ (p.location + 4) % 2 ^ 32 =
    ap (λ (t : Told). t.1) same in
    rw (size, location) refl

line_back : (labels : Labels) (memory : Memory) (pc w : ℕ) (l : Line) → IsAssembled pc w l
    → second_line labels (record { location = pc; memory = memory }) (line_text l)
    ≡ Ok (record { location = (pc + 4) % 2 ^ 32; memory = with_words memory pc (w ∷ []) })
unfolding second_line statement_of
line_back labels memory pc w l a =
    let h = a.gives labels pc in
    rw (line_pieces l.mnemonic l.operands a.named a.sound a.few, no_labels l.mnemonic l.operands)
    (written labels memory pc w (statement_named l.mnemonic (map part_piece l.operands)) h)

line_once : (p : Placed) (pc w : ℕ) (l : Line) → IsAssembled pc w l →
    first_line p (line_text l) ≡ placed_by p (Some (1, (p.location + 4) % 2 ^ 32))
unfolding first_line placed_size statement_of
line_once p pc w l a =
    let h = a.gives [] p.location in
    rw (
      line_pieces l.mnemonic l.operands a.named a.sound a.few,
      none_labelled p.location p.labels l.mnemonic l.operands,
    ) (counted_once p [] pc w (statement_named l.mnemonic (map part_piece l.operands)) h)

pub takes_one_word : TakesOneWord
unfolding text_at
takes_one_word p pc w hp hw =
    line_once p pc w (line_of pc w (ins w))
    (assembled (ins w) pc w (ins-range w) hp hw (encoded-ins w hw))

pub assembles_back : AssemblesBack
unfolding text_at
assembles_back labels memory pc w hp hw =
    line_back labels memory pc w (line_of pc w (ins w))
    (assembled (ins w) pc w (ins-range w) hp hw (encoded-ins w hw))
