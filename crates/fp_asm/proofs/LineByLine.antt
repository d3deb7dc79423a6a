-- Lines, line by line.
use Rattle.std.proofs.Common.{◌≡◌, ◌≢◌, ℕ, ◌<◌, ◌≤◌, ◌+◌, ◌-◌, ◌==◌, ◌∙◌, List}
use Rattle.std.proofs.Common.{[], ◌∷◌, ◌++◌, length, take, drop, get_or, refl, sym}
use Rattle.std.proofs.Common.{arith, append_assoc, map, Bor, true, length-drop}
use Rattle.std.proofs.lemmas.List.{map-append, take_all}
use Rattle.std.proofs.lemmas.Bool.{ne_eqb}
use Rattle.fp_asm.specs.Lines.{without_return, lines_of}
use Rattle.fp_asm.proofs.Between.{cut, cut_start, cut_ends, cut_on, cut_last}

-- the lines from byte i on, where the first begins at `start`
pub lines_from : List ℕ → ℕ → ℕ → List (List ℕ)
lines_from source start i = cut (λ b. b == 10) without_return (λ line. line) source start i

pub lines_start : (source : List ℕ) → lines_of source ≡ lines_from source 0 0
unfolding lines_of lines_from
lines_start source = cut_start (λ b. b == 10) without_return (λ line. line) source

module _ (source : List ℕ) (start i : ℕ) where
  pub lines_on : i < length source → start ≤ i → get_or source i 0 ≢ 10 →
      lines_from source start i ≡ lines_from source start (i + 1)
  unfolding lines_from
  lines_on h k e =
      cut_on (λ b. b == 10) without_return (λ line. line) source start i 0 h k
      (ne_eqb (get_or source i 0) 10 e)

  pub lines_push : (xs : List (Bor (List ℕ))) (x : Bor (List ℕ)) →
      lines_of source ≡ map (λ l. l.now) xs ++ lines_from source start i → i < length source →
      get_or source i 0 ≡ 10 → x.now ≡ without_return (take (i - start) (drop start source)) →
      lines_of source ≡ map (λ l. l.now) (xs ++ x ∷ []) ++ lines_from source (i + 1) (i + 1)
  unfolding lines_from
  lines_push xs x so h t same =
      let feed : (get_or source i 0 == 10) ≡ true = rw t refl in
      so ∙ rw (
        cut_ends (λ b. b == 10) without_return (λ line. line) source start i 0 h feed,
        map-append,
        same,
      ) (sym (append_assoc (map (λ l. l.now) xs) (without_return
      (take (i - start) (drop start source)) ∷ []) (lines_from source (i + 1) (i + 1))))

  pub lines_last : (xs : List (Bor (List ℕ))) (x : Bor (List ℕ)) →
      lines_of source ≡ map (λ l. l.now) xs ++ lines_from source start i → length source ≤ i →
      start ≤ i → x.now ≡ take (length source - start) (drop start source) →
      map (λ l. l.now) (xs ++ x ∷ []) ≡ lines_of source
  unfolding lines_from
  lines_last xs x so h k same = sym (so ∙ rw (
    cut_last (λ b. b == 10) without_return (λ line. line) source start i h k,
    map-append,
    same,
    take_all (length source - start) (drop start source) (rw length-drop (omega arith)),
  ) refl)
