-- A word put before a list of runs in reverse order.
use Rattle.std.proofs.Common.{◌≡◌, ℕ, ◌+◌, true, false, List, [], ◌∷◌}
use Rattle.std.proofs.Common.{◌++◌, reverse, refl, ap, sym, ◌∙◌, arith}
use Rattle.std.specs.Prelude.{◌==◌}
use Rattle.std.proofs.lemmas.Bool.Decides.{nat_tests}
use Rattle.std.proofs.lemmas.List.{reverse-append}
use Rattle.fp_elf.specs.declared.runs.Run.{Run}
use Rattle.fp_elf.specs.Elf.{before_runs}

-- the word is joined with the first run
pub put-joined : (a : ℕ) (new left old rest : List Run) (first run : Run) → new ≡ left ++ run ∷ [] →
    left ≡ rest → old ≡ rest ++ first ∷ [] → run ≡ record { from = a; end = first.end } →
    first.from ≡ a + 4 → reverse new ≡ before_runs a (reverse old)
put-joined a new left old rest first run is same was joined at =
    let test : (first.from == a + 4) ≡ true = grind (arith, nat_tests) in
    ap reverse is ∙ reverse-append left (run ∷ []) ∙ ap (λ (r : Run). r ∷ reverse left) joined ∙ ap
    (λ (rs : List Run). let r : Run = record { from = a; end = first.end } in r ∷ reverse rs) same
    ∙ sym (ap (before_runs a) (ap reverse was ∙ reverse-append rest (first ∷ [])) ∙ rw test refl)

-- a gap between the word and the first run
pub put-apart : (a : ℕ) (new left old rest : List Run) (first run : Run) → new ≡ left ++ run ∷ [] →
    left ≡ old → old ≡ rest ++ first ∷ [] → run ≡ record { from = a; end = a + 4 } →
    (first.from ≡ a + 4 → ⊥) → reverse new ≡ before_runs a (reverse old)
put-apart a new left old rest first run is same was alone at =
    let test : (first.from == a + 4) ≡ false = grind (arith, nat_tests) in
    let turned : reverse old ≡ first ∷ reverse rest =
    ap reverse was ∙ reverse-append rest (first ∷ []) in
    ap reverse is ∙ reverse-append left (run ∷ []) ∙ ap (λ (r : Run). r ∷ reverse left) alone
    ∙ ap (λ (rs : List Run). let r : Run = record { from = a; end = a + 4 } in r ∷ rs)
    (ap reverse same ∙ turned) ∙ sym (ap (before_runs a) turned ∙ rw test refl)
