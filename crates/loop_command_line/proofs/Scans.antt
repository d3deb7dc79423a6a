-- Lines and words, byte by byte.
use Rattle.std.proofs.Common.{◌≡◌, ◌≢◌, ℕ, suc, ◌<◌, ◌≤◌, ◌+◌, ◌-◌, ◌==◌, ◌∙◌, true, false, List}
use Rattle.std.proofs.Common.{[], ◌∷◌, ◌++◌, length, map, take, drop, get_or, refl, sym, ap, arith}
use Rattle.std.proofs.Common.{Bor, add-one, append_assoc, append-nil, length-drop, length-take, min}
use Rattle.std.proofs.Math.Seq.{drop-cons, take-suc}
use Rattle.std.proofs.Math.ListN.{drop_of_length-le}
use Rattle.std.proofs.lemmas.Bool.{ne_eqb}
use Rattle.std.proofs.lemmas.List.{get_or-drop, map-append, take_all}
use Rattle.loop_command_line.specs.Lines.{is_blank, lines_after, lines_of}
use Rattle.loop_command_line.specs.Lines.{with_word, words_after, words_of}

-- the bytes from `start` to before i
pub part : List ℕ → ℕ → ℕ → List ℕ
part bytes start i = take (i - start) (drop start bytes)

-- the lines, and the words, from byte i on, where the first begins at `start`
pub lines_from : List ℕ → ℕ → ℕ → List (List ℕ)
lines_from bytes start i = lines_after (part bytes start i) (drop i bytes)

pub words_from : List ℕ → ℕ → ℕ → List (List ℕ)
words_from bytes start i = words_after (part bytes start i) (drop i bytes)

pub lines_start : (bytes : List ℕ) → lines_of bytes ≡ lines_from bytes 0 0
unfolding lines_of lines_from part
lines_start bytes = refl

pub words_start : (bytes : List ℕ) → words_of bytes ≡ words_from bytes 0 0
unfolding words_of words_from part
words_start bytes = refl

pub with_some : (word : List ℕ) (words : List (List ℕ)) → 0 < length word →
    with_word word words ≡ word ∷ words
with_some [] words h = absurd (omega (arith, h))
with_some (byte ∷ bytes) words h = refl

module _ (bytes : List ℕ) (start i : ℕ) where
  here : i < length bytes → drop i bytes ≡ get_or bytes i 0 ∷ drop (i + 1) bytes
  here h = rw (add-one i) (drop-cons bytes i 0 h)

  grown : i < length bytes → start ≤ i → part bytes start i ++ get_or bytes i 0 ∷ []
      ≡ part bytes start (i + 1)
  unfolding part
  grown h k =
      let same : start + (i - start) ≡ i = omega (arith, k) in
      let more : suc (i - start) ≡ (i + 1) - start = omega (arith, k) in
      let inside : i - start < length (drop start bytes) = rw length-drop (omega (arith, h, k)) in
      sym (rw (get_or-drop, same, more) at (take-suc (drop start bytes) (i - start) 0 inside))

  -- nothing is between a place and itself
  fresh : part bytes (i + 1) (i + 1) ≡ []
  unfolding part
  fresh = let none : (i + 1) - (i + 1) ≡ 0 = omega arith in rw none refl

  pub lines_on : i < length bytes → start ≤ i → get_or bytes i 0 ≢ 10 →
      lines_from bytes start i ≡ lines_from bytes start (i + 1)
  unfolding lines_from lines_after
  lines_on h k e =
      rw (here h, ne_eqb (get_or bytes i 0) 10 e)
      (ap (λ l. lines_after l (drop (i + 1) bytes)) (grown h k))

  lines_end : i < length bytes → get_or bytes i 0 ≡ 10 →
      lines_from bytes start i ≡ part bytes start i ∷ lines_from bytes (i + 1) (i + 1)
  unfolding lines_from lines_after
  lines_end h e =
      let feed : (get_or bytes i 0 == 10) ≡ true = rw e refl in
      rw (here h, feed)
      (ap (λ l. part bytes start i ∷ lines_after l (drop (i + 1) bytes)) (sym fresh))

  pub lines_push : (xs : List (Bor (List ℕ))) (x : Bor (List ℕ)) →
      lines_of bytes ≡ map (λ l. l.now) xs ++ lines_from bytes start i → i < length bytes →
      get_or bytes i 0 ≡ 10 → x.now ≡ take (i - start) (drop start bytes) →
      lines_of bytes ≡ map (λ l. l.now) (xs ++ x ∷ []) ++ lines_from bytes (i + 1) (i + 1)
  unfolding part
  lines_push xs x so h e same =
      so ∙ rw (lines_end h e, map-append, same) (sym (append_assoc (map (λ l. l.now) xs)
      (take (i - start) (drop start bytes) ∷ []) (lines_from bytes (i + 1) (i + 1))))

  pub lines_last : (xs : List (Bor (List ℕ))) (x : Bor (List ℕ)) →
      lines_of bytes ≡ map (λ l. l.now) xs ++ lines_from bytes start i → length bytes ≤ i →
      start ≤ i → x.now ≡ take (length bytes - start) (drop start bytes) →
      map (λ l. l.now) (xs ++ x ∷ []) ≡ lines_of bytes
  unfolding lines_from lines_after part
  lines_last xs x so h k same = sym (so ∙ rw (
    drop_of_length-le bytes h,
    map-append,
    same,
    take_all (length bytes - start) (drop start bytes) (rw length-drop (omega arith)),
    take_all (i - start) (drop start bytes) (rw length-drop (omega (arith, h))),
  ) refl)

  pub words_on : i < length bytes → start ≤ i → is_blank (get_or bytes i 0) ≡ false →
      words_from bytes start i ≡ words_from bytes start (i + 1)
  unfolding words_from words_after
  words_on h k e =
      rw (here h, e) (ap (λ l. words_after l (drop (i + 1) bytes)) (grown h k))

  words_end : i < length bytes → is_blank (get_or bytes i 0) ≡ true →
      words_from bytes start i ≡ with_word (part bytes start i) (words_from bytes (i + 1) (i + 1))
  unfolding words_from words_after
  words_end h e =
      rw (here h, e)
      (ap (λ l. with_word (part bytes start i) (words_after l (drop (i + 1) bytes))) (sym fresh))

  pub words_skip : i < length bytes → is_blank (get_or bytes i 0) ≡ true → i ≤ start →
      words_from bytes start i ≡ words_from bytes (i + 1) (i + 1)
  unfolding part
  words_skip h e k =
      let none : i - start ≡ 0 = omega (arith, k) in
      words_end h e
      ∙ ap (λ n. with_word (take n (drop start bytes)) (words_from bytes (i + 1) (i + 1))) none

  pub words_push : (xs : List (Bor (List ℕ))) (x : Bor (List ℕ)) →
      words_of bytes ≡ map (λ l. l.now) xs ++ words_from bytes start i → i < length bytes →
      is_blank (get_or bytes i 0) ≡ true → start < i →
      x.now ≡ take (i - start) (drop start bytes) →
      words_of bytes ≡ map (λ l. l.now) (xs ++ x ∷ []) ++ words_from bytes (i + 1) (i + 1)
  unfolding part
  words_push xs x so h e k same =
      let inside : 0 < length (take (i - start) (drop start bytes)) =
      rw (length-take, length-drop) (omega (arith, h, k)) in
      so ∙ rw (
        words_end h e,
        with_some (take (i - start) (drop start bytes)) (words_from bytes (i + 1) (i + 1)) inside,
        map-append,
        same,
      ) (sym (append_assoc (map (λ l. l.now) xs)
      (take (i - start) (drop start bytes) ∷ []) (words_from bytes (i + 1) (i + 1))))

  pub words_last : (xs : List (Bor (List ℕ))) (x : Bor (List ℕ)) →
      words_of bytes ≡ map (λ l. l.now) xs ++ words_from bytes start i → length bytes ≤ i →
      start < length bytes → x.now ≡ take (length bytes - start) (drop start bytes) →
      map (λ l. l.now) (xs ++ x ∷ []) ≡ words_of bytes
  unfolding words_from words_after part
  words_last xs x so h k same =
      let inside : 0 < length (drop start bytes) = rw length-drop (omega (arith, k)) in
      sym (so ∙ rw (
        drop_of_length-le bytes h,
        map-append,
        same,
        take_all (length bytes - start) (drop start bytes) (rw length-drop (omega arith)),
        take_all (i - start) (drop start bytes) (rw length-drop (omega (arith, h))),
        with_some (drop start bytes) [] inside,
      ) refl)

  pub words_done : (xs : List (Bor (List ℕ))) →
      words_of bytes ≡ map (λ l. l.now) xs ++ words_from bytes start i → length bytes ≤ i →
      length bytes ≤ start → map (λ l. l.now) xs ≡ words_of bytes
  unfolding words_from words_after part
  words_done xs so h k =
      let none : take (i - start) (drop start bytes) ≡ [] =
      rw (drop_of_length-le bytes k) (take_all (i - start) [] (omega arith)) in
      sym (so ∙ rw (drop_of_length-le bytes h, none) (append-nil (map (λ l. l.now) xs)))
