-- A run in which each plant answers its thread.
use Rattle.std.proofs.Common.{◌≡◌, ℕ, zero, suc, ◌+◌, ◌-◌, ◌<◌, ◌≤◌, inl, inr, List, []}
use Rattle.std.proofs.Common.{◌∷◌, ◌++◌, get_or, length, add-zero, add-suc, zero-add}
use Rattle.std.proofs.Common.{refl, ap, sym, ◌∙◌, subst, arith, get_or-set_same}
use Rattle.std.proofs.Math.ListN.{get_or-append, get_or-eq_default}
use Rattle.std.proofs.Math.Seq.{get_or-append_seam}
use Rattle.std.proofs.lemmas.Bool.{cases_lt}
use Rattle.std.proofs.lemmas.List.{length-append, length-map}
use Rattle.std.proofs.lemmas.List.FromFn.{get_or-map-range_with_len, length-range_with_len}
use Rattle.std.specs.List.{range_with_len}
use Rattle.core_model.specs.World.{Start, World, events_of, port_word, world}
use Rattle.core_model.specs.Viewed.{setting_of, view}
use Rattle.isolation.specs.Isolation.{QuietUnpermitted}
use Rattle.closed_loops.specs.Loop.{Plant, port_stores}
use Rattle.closed_loops.specs.Answered.{closed_start, closed_words, stores_before, with_shown}
use Rattle.closed_loops.specs.LoopLaws.{LoopIsolation, LoopsExist, LoopsWithoutPermits}
use Rattle.closed_loops.proofs.Causal.{past-words}

-- the words of thread i's port in the first c cycles
abbrev shown_by : (ℕ → Plant) → Start → ℕ → ℕ → List ℕ
shown_by plants s i c = get_or (closed_words plants s c) i []

-- the plant's word of the next cycle
abbrev next_word : (ℕ → Plant) → Start → ℕ → ℕ → ℕ
next_word plants s i c = plants i (stores_before (closed_start plants s c) i c) c

-- a cycle adds one word
next-words : (plants : ℕ → Plant) (s : Start) (i c : ℕ) → i < 8 →
    shown_by plants s i (suc c) ≡ shown_by plants s i c ++ next_word plants s i c ∷ []
unfolding closed_words
next-words plants s i c below =
    get_or-map-range_with_len (λ (k : ℕ). shown_by plants s k c ++ next_word plants s k c ∷ []) 0 8
    i i [] below (zero-add i)

-- there are eight ports at most
length-ports : (plants : ℕ → Plant) (s : Start) (c : ℕ) → length (closed_words plants s c) ≤ 8
unfolding closed_words
length-ports plants s zero = omega arith
length-ports plants s (suc c) =
    let e : length (closed_words plants s (suc c)) ≡ length (range_with_len 0 8) =
    length-map (range_with_len 0 8)
    (λ (k : ℕ). shown_by plants s k c ++ next_word plants s k c ∷ []) in
    omega (arith, e)

length-words : (plants : ℕ → Plant) (s : Start) (i c : ℕ) → i < 8 →
    length (shown_by plants s i c) ≡ c
unfolding closed_words
length-words plants s i zero below = refl
length-words plants s i (suc c) below =
    let e : length (shown_by plants s i c ++ next_word plants s i c ∷ [])
    ≡ length (shown_by plants s i c) + 1 =
    length-append (shown_by plants s i c) (next_word plants s i c ∷ []) in
    ap (λ (ws : List ℕ). length ws) (next-words plants s i c below)
    ∙ omega (arith, e, length-words plants s i c below)

-- the words of the first cycles stay as the run grows longer
words-longer : (plants : ℕ → Plant) (s : Start) (i c m at : ℕ) → i < 8 → at < c →
    get_or (shown_by plants s i (c + m)) at 0xFFFFFFFF
    ≡ get_or (shown_by plants s i c) at 0xFFFFFFFF
words-longer plants s i c zero at below h = rw add-zero refl
words-longer plants s i c (suc m) at below h =
    rw add-suc
    (ap (λ (ws : List ℕ). get_or ws at 0xFFFFFFFF) (next-words plants s i (c + m) below)
    ∙ get_or-append (shown_by plants s i (c + m)) (next_word plants s i (c + m) ∷ []) 0xFFFFFFFF at
    (omega (arith, length-words plants s i (c + m) below)) ∙ words-longer plants s i c m at below h)

words-same : (plants : ℕ → Plant) (s : Start) (i c n at : ℕ) → i < 8 → at < c → c ≤ n →
    get_or (shown_by plants s i n) at 0xFFFFFFFF ≡ get_or (shown_by plants s i c) at 0xFFFFFFFF
words-same plants s i c n at below h l =
    let e : c + (n - c) ≡ n = omega arith in
    subst (λ (m : ℕ). get_or (shown_by plants s i m) at 0xFFFFFFFF
    ≡ get_or (shown_by plants s i c) at 0xFFFFFFFF) e (words-longer plants s i c (n - c) at below h)

newest-word : (plants : ℕ → Plant) (s : Start) (i c : ℕ) → i < 8 →
    get_or (shown_by plants s i (suc c)) c 0xFFFFFFFF ≡ next_word plants s i c
newest-word plants s i c below =
    let words = shown_by plants s i c in
    let word = next_word plants s i c in
    let Goal : ℕ → Type 0 = λ k. get_or (words ++ word ∷ []) k 0xFFFFFFFF ≡ word in
    ap (λ (ws : List ℕ). get_or ws c 0xFFFFFFFF) (next-words plants s i c below)
    ∙ subst Goal (length-words plants s i c below) (get_or-append_seam words word [] 0xFFFFFFFF)

no-words : (plants : ℕ → Plant) (s : Start) (k c : ℕ) → 8 ≤ k → shown_by plants s k c ≡ []
no-words plants s k c past =
    get_or-eq_default (closed_words plants s c) [] (omega (arith, length-ports plants s c))

-- a ninth port would read as ones
pub closed-past : (plants : ℕ → Plant) (s : Start) (n at k : ℕ) → 8 ≤ k →
    port_word (closed_start plants s n) at k ≡ 0xFFFFFFFF
closed-past plants s n at k past =
    ap (λ (ws : List ℕ). get_or ws at 0xFFFFFFFF) (no-words plants s k n past)

-- runs of different length show the same words in the cycles of both
pub closed-agree : (plants : ℕ → Plant) (s : Start) (c n at k : ℕ) → at < c → c ≤ n →
    port_word (closed_start plants s n) at k ≡ port_word (closed_start plants s c) at k
closed-agree plants s c n at k h l =
    elim (cases_lt k 8) [
      | inl below ↦ words-same plants s k c n at below h l
      | inr past ↦
          ap (λ (ws : List ℕ). get_or ws at 0xFFFFFFFF)
          (no-words plants s k n past ∙ sym (no-words plants s k c past))
    ]

-- so they have the same worlds
pub closed-worlds : (plants : ℕ → Plant) (s : Start) (c n : ℕ) → c ≤ n →
    world (closed_start plants s c) c ≡ world (closed_start plants s n) c
closed-worlds plants s c n l =
    past-words (closed_start plants s n) (closed_words plants s c) c
    (λ at k h. sym (closed-agree plants s c n at k h l))

pub loops-exist : LoopsExist
loops-exist plants s i n below c l =
    words-same plants s i (suc c) n c below (omega arith) (omega arith)
    ∙ newest-word plants s i c below
    ∙ ap (λ (w : World). plants i (port_stores (events_of i w.turns)) c)
    (closed-worlds plants s c n (omega arith))

pub loops-without-permits : LoopIsolation → LoopsExist → QuietUnpermitted → LoopsWithoutPermits
unfolding view setting_of
loops-without-permits alone exist quiet plants s i n p free =
    alone (plants i) (closed_start plants s n) i n (record {
      size = p.size;
      thread = p.thread;
      eight = p.eight;
      confined = p.confined;
      permit = p.permit;
      hard = p.hard;
    })
    (quiet (closed_start plants s n) free n) (exist plants s i n p.thread)

-- the words of a port after they are replaced
pub shown-same : (s : Start) (i : ℕ) (words : List ℕ) (at : ℕ) → i < length s.shown →
    port_word (with_shown s i words) at i ≡ get_or words at 0xFFFFFFFF
shown-same s i words at inside =
    ap (λ (ws : List ℕ). get_or ws at 0xFFFFFFFF) (get_or-set_same s.shown i words [] inside)
