-- Words written over others, one by one.
use Rattle.std.proofs.Common.{◌≡◌, ℕ, ◌+◌, ◌-◌, ◌<◌, ◌≤◌, List, [], ◌∷◌, ◌++◌, length}
use Rattle.std.proofs.Common.{take, drop, get_or, set, arith, ap, ap₂, sym, ◌∙◌}
use Rattle.std.proofs.lemmas.List.{set-append_right, drop_more, length-take-le, append_assoc}
use Rattle.std.proofs.lemmas.List.FromFn.{map-range_with_len_more, length-map-range_with_len}
use Rattle.std.proofs.Math.Seq.{set-append_seam}
use Rattle.scratchpad.specs.Words.{word_in, first_words}

-- the first words and one more
pub first_words_more : (bytes : List ℕ) (count : ℕ) →
    first_words bytes (count + 1) ≡ first_words bytes count ++ word_in bytes count ∷ []
first_words_more bytes count = map-range_with_len_more (word_in bytes) 0 count count (omega arith)

-- a word written at the end of the words so far
pub put_next : (before written : List ℕ) (x : ℕ) (rest : List ℕ) (index offset word : ℕ) →
    length before ≡ index → length written ≡ offset →
    set (before ++ (written ++ x ∷ rest)) (index + offset) word
    ≡ before ++ ((written ++ word ∷ []) ++ rest)
put_next before written x rest index offset word at_index at_offset =
    let next : index + offset - index ≡ length written = omega (arith, at_offset) in
    let low : index ≤ index + offset = omega arith in
    set-append_right before (written ++ x ∷ rest) index (index + offset) word at_index low
    ∙ ap (λ ws. before ++ ws) (ap (λ k. set (written ++ x ∷ rest) k word) next
    ∙ set-append_seam written x rest word ∙ sym (append_assoc written (word ∷ []) rest))

pub written_more : (old bytes : List ℕ) (index offset : ℕ) → index + offset < length old →
    set (take index old ++ (first_words bytes offset ++ drop (index + offset) old))
    (index + offset) (word_in bytes offset)
    ≡ take index old ++ (first_words bytes (offset + 1) ++ drop (index + (offset + 1)) old)
written_more old bytes index offset inside =
    let low : index ≤ length old = omega (arith, inside) in
    let same : index + offset + 1 ≡ index + (offset + 1) = omega arith in
    ap (λ ws. set (take index old ++ (first_words bytes offset ++ ws))
    (index + offset) (word_in bytes offset)) (drop_more old (index + offset) 0 inside)
    ∙ put_next (take index old) (first_words bytes offset) (get_or old (index + offset) 0)
    (drop (index + offset + 1) old) index offset (word_in bytes offset)
    (length-take-le index old low) (length-map-range_with_len (word_in bytes) 0 offset)
    ∙ ap₂ (λ ws k. take index old ++ (ws ++ drop k old)) (sym (first_words_more bytes offset)) same
