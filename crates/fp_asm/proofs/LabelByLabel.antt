-- Labels, label by label.
use Rattle.std.proofs.Common.{◌≡◌, ℕ, List, [], ◌∷◌, Result, Ok, Err, Bor, Ordering}
use Rattle.std.proofs.Common.{true, false, refl, ap, ◌∙◌, map, is_some, take, drop}
use Rattle.std.proofs.Common.{length, length-drop, drop-drop, ◌-◌, ◌+◌, arith, true≢false}
use Rattle.std.specs.declared.cmp.Ordering.TheVariants.{Less, Equal, Greater}
use Rattle.std.specs.Ordering.{nat_cmp, match_ordering}
use Rattle.std.specs.Cmp.Lexicographic.{slice_cmp}
use Rattle.std.specs.BTreeMap.{insert_entry, is_at}
use Rattle.std.specs.Map.{lookup}
use Rattle.std.proofs.lemmas.List.{take_all}
use Rattle.fp_asm.specs.Pieces.{Piece, name, number, comma, colon, opening, closing, plus, minus}
use Rattle.fp_asm.specs.First.{Labels, location_of, with_label, with_labels, has_label}
use Rattle.fp_asm.specs.Second.{after_labels}
use Rattle.fp_asm.specs.Faults.{IsLineStopOf}
use Rattle.fp_asm.specs.declared.refusal.AsmNo.{AsmNo}
use Rattle.fp_asm.specs.declared.refusal.AsmNo.TheVariants as no
use Rattle.fp_asm.specs.declared.refusal.LineStop.{LineStop}
use Rattle.fp_asm.specs.declared.refusal.LineStop.TheVariants as stop

-- the entries of a map as labels
abbrev pub seen : List (Bor (List ℕ) × ℕ) → Labels
seen es = map (λ e. (e.0.now, e.1)) es

pub location_seen : (es : List (Bor (List ℕ) × ℕ)) (x : List ℕ) →
    location_of (seen es) x ≡ lookup (λ k. is_at (slice_cmp nat_cmp x) k.now) es
location_seen [] x = refl
location_seen (e ∷ es) x = rw (location_seen es x) refl

insert_seen : (es : List (Bor (List ℕ) × ℕ)) (x : Bor (List ℕ)) (p : ℕ) →
    seen (insert_entry (λ a b. slice_cmp nat_cmp a.now b.now) es x p)
    ≡ insert_entry (slice_cmp nat_cmp) (seen es) x.now p
insert_seen [] x p = refl
insert_seen (e ∷ es) x p = go (insert_seen es x p) (slice_cmp nat_cmp x.now e.0.now)
  where
    go : seen (insert_entry (λ a b. slice_cmp nat_cmp a.now b.now) es x p)
        ≡ insert_entry (slice_cmp nat_cmp) (seen es) x.now p → (o : Ordering) →
        seen (match_ordering o ((x, p) ∷ e ∷ es) ((e.0, p) ∷ es)
        (e ∷ insert_entry (λ a b. slice_cmp nat_cmp a.now b.now) es x p))
        ≡ match_ordering o ((x.now, p) ∷ seen (e ∷ es)) ((e.0.now, p) ∷ seen es)
        ((e.0.now, e.1) ∷ insert_entry (slice_cmp nat_cmp) (seen es) x.now p)
    go h Less = refl
    go h Equal = refl
    go h Greater = ap (λ rest. (e.0.now, e.1) ∷ rest) h

pub label_there : (es : List (Bor (List ℕ) × ℕ)) (x : List ℕ) (p : ℕ) →
    is_some (lookup (λ k. is_at (slice_cmp nat_cmp x) k.now) es) ≡ true →
    with_label p (seen es) x ≡ Err no.DoubleLabel
unfolding with_label
label_there es x p h = rw (location_seen es x, h) refl

pub label_new : (es : List (Bor (List ℕ) × ℕ)) (x : Bor (List ℕ)) (p : ℕ) →
    is_some (lookup (λ k. is_at (slice_cmp nat_cmp x.now) k.now) es) ≡ false →
    with_label p (seen es) x.now
    ≡ Ok (seen (insert_entry (λ a b. slice_cmp nat_cmp a.now b.now) es x p))
unfolding with_label
label_new es x p h = rw (location_seen es x.now, h, insert_seen es x p) refl

pub labelled_step : (location : ℕ) (labels more : Labels) (x : List ℕ) (ps rest : List Piece) →
    ps ≡ name x ∷ (colon ∷ rest) → with_label location labels x ≡ Ok more →
    with_labels location labels ps ≡ with_labels location more rest
unfolding with_labels
labelled_step location labels more x ps rest e h = rw (e, h) refl

labelled_fault : (location : ℕ) (labels : Labels) (x : List ℕ) (ps rest : List Piece) (c : AsmNo) →
    ps ≡ name x ∷ (colon ∷ rest) → with_label location labels x ≡ Err c →
    with_labels location labels ps ≡ Err c
unfolding with_labels
labelled_fault location labels x ps rest c e h = rw (e, h) refl

pub stop_step : (whole : Result (Labels × List Piece) AsmNo) (location : ℕ) (labels : Labels)
    (x : List ℕ) (ps rest : List Piece) (s : LineStop) → whole ≡ with_labels location labels ps →
    ps ≡ name x ∷ (colon ∷ rest) → IsLineStopOf (with_label location labels x) s →
    IsLineStopOf whole s
stop_step whole location labels x ps rest (stop.Fault code) so e h =
    so ∙ labelled_fault location labels x ps rest code e h
stop_step whole location labels x ps rest stop.NoMemory so e h = tt

pub rest_all : {A : Type 0} (xs : List A) (n : ℕ) → take (length xs - n) (drop n xs) ≡ drop n xs
rest_all xs n = take_all (length xs - n) (drop n xs) (rw length-drop (omega arith))

pub two_more : {A : Type 0} (xs : List A) (n : ℕ) → drop 2 (drop n xs) ≡ drop (n + 2) xs
two_more xs n = drop-drop 2 n xs

-- tokens that don't begin with a label
pub labelled_none : (location : ℕ) (labels : Labels) (ps : List Piece) → has_label ps ≡ false →
    with_labels location labels ps ≡ Ok (labels, ps)
unfolding with_labels has_label
labelled_none location labels [] h = refl
labelled_none location labels (name x ∷ []) h = refl
labelled_none location labels (name x ∷ name y ∷ ps) h = refl
labelled_none location labels (name x ∷ number y ∷ ps) h = refl
labelled_none location labels (name x ∷ comma ∷ ps) h = refl
labelled_none location labels (name x ∷ colon ∷ ps) h = absurd (true≢false h)
labelled_none location labels (name x ∷ opening ∷ ps) h = refl
labelled_none location labels (name x ∷ closing ∷ ps) h = refl
labelled_none location labels (name x ∷ plus ∷ ps) h = refl
labelled_none location labels (name x ∷ minus ∷ ps) h = refl
labelled_none location labels (number x ∷ ps) h = refl
labelled_none location labels (comma ∷ ps) h = refl
labelled_none location labels (colon ∷ ps) h = refl
labelled_none location labels (opening ∷ ps) h = refl
labelled_none location labels (closing ∷ ps) h = refl
labelled_none location labels (plus ∷ ps) h = refl
labelled_none location labels (minus ∷ ps) h = refl

pub after_step : (x : List ℕ) (ps rest : List Piece) → ps ≡ name x ∷ (colon ∷ rest) →
    after_labels ps ≡ after_labels rest
unfolding after_labels
after_step x ps rest e = rw e refl

pub after_none : (ps : List Piece) → has_label ps ≡ false → after_labels ps ≡ ps
unfolding after_labels has_label
after_none [] h = refl
after_none (name x ∷ []) h = refl
after_none (name x ∷ name y ∷ ps) h = refl
after_none (name x ∷ number y ∷ ps) h = refl
after_none (name x ∷ comma ∷ ps) h = refl
after_none (name x ∷ colon ∷ ps) h = absurd (true≢false h)
after_none (name x ∷ opening ∷ ps) h = refl
after_none (name x ∷ closing ∷ ps) h = refl
after_none (name x ∷ plus ∷ ps) h = refl
after_none (name x ∷ minus ∷ ps) h = refl
after_none (number x ∷ ps) h = refl
after_none (comma ∷ ps) h = refl
after_none (colon ∷ ps) h = refl
after_none (opening ∷ ps) h = refl
after_none (closing ∷ ps) h = refl
after_none (plus ∷ ps) h = refl
after_none (minus ∷ ps) h = refl

-- a label that is added
pub ruleset added = (label_there, label_new)

-- one more label, or none
pub ruleset labelling = (labelled_step, stop_step, labelled_none)

-- one more skipped label, or none
pub ruleset skipping = (after_step, after_none)
