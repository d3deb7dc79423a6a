-- The first pass places words at addresses of scratchpads, multiples of four, in rising order.
use Rattle.std.proofs.Common.{◌≡◌, ℕ, zero, suc, ◌<◌, ◌≤◌, ◌+◌, ◌%◌, ◌^◌, ◌&&◌, Bool}
use Rattle.std.proofs.Common.{true, false, List, [], ◌∷◌, Option, Some, None, option_map}
use Rattle.std.proofs.Common.{Result, Ok, Err, refl, subst, arith, not, Ordering}
use Rattle.std.specs.declared.cmp.Ordering.TheVariants.{Less, Equal, Greater}
use Rattle.std.specs.List.{list_all}
use Rattle.std.specs.Ordering.{nat_cmp, match_ordering, MatchOrdering}
use Rattle.std.specs.BTreeSet.{insert_key}
use Rattle.std.proofs.lemmas.Cmp.{ranked}
use Rattle.fp_asm.specs.Pieces.{Text, Piece, name, number, comma, colon, opening}
use Rattle.fp_asm.specs.Pieces.{closing, plus, minus, pieces_of, operands_of}
use Rattle.fp_asm.specs.Statements.{Statement, statement_check, statement_named}
use Rattle.fp_asm.specs.Statements.{statement_of, statement_in, size_of, location_after}
use Rattle.fp_asm.specs.Mnemonics.{Mnemonic, mnemonic}
use Rattle.fp_asm.specs.First.{Labels, Placed, start, is_inside, is_taken}
use Rattle.fp_asm.specs.First.{addresses, with_taken, take_addresses, with_labels}
use Rattle.fp_asm.specs.First.{placed_size, placed_by, first_line, first_pass}
use Rattle.fp_asm.specs.Runs.{ArePlaced}
use Rattle.fp_asm.specs.Faults.{next, holds, present, in_line}
use Rattle.fp_asm.specs.declared.refusal.AsmNo.{AsmNo}
use Rattle.fp_asm.specs.declared.refusal.AsmNo.TheVariants as no
use Rattle.fp_asm.proofs.Checks.{after_four}

sooner : (from to : ℕ) (xs : List ℕ) → from ≤ to → ArePlaced to xs → ArePlaced from xs
sooner from to [] h ps = tt
sooner from to (x ∷ xs) h ps = (omega (arith, h, ps.0), ps.1, ps.2, ps.3)

-- one more address
insert_placed : (from a : ℕ) (xs : List ℕ) → from ≤ a → is_inside a ≡ true → a % 4 ≡ 0 →
    ArePlaced from xs → ArePlaced from (insert_key nat_cmp xs a)
insert_placed from a [] low h k ps = (low, h, k, tt)
insert_placed from a (x ∷ xs) low h k ps =
    go (nat_cmp a x) (ranked a x (nat_cmp a x) refl)
    (λ later. insert_placed (x + 4) a xs later h k ps.3)
  where
    go : (o : Ordering) → MatchOrdering o (a < x) (a ≡ x) (x < a) →
        (x + 4 ≤ a → ArePlaced (x + 4) (insert_key nat_cmp xs a)) →
        ArePlaced from (match_ordering o (a ∷ x ∷ xs) (x ∷ xs) (x ∷ insert_key nat_cmp xs a))
    go Less lt more = (low, h, k, (omega (arith, lt, k, ps.2), ps.1, ps.2, ps.3))
    go Equal e more = ps
    go Greater lt more = (ps.0, ps.1, ps.2, more (omega (arith, lt, k, ps.2)))

-- the addresses of n words from a multiple of four on, if they are inside a scratchpad
all_placed : (xs : List ℕ) (a n : ℕ) → a % 4 ≡ 0 → list_all is_inside (addresses a n) ≡ true →
    ArePlaced 0 xs → ArePlaced 0 (with_taken xs (addresses a n))
unfolding addresses
all_placed xs a zero k h ps = ps
all_placed xs a (suc n) k h ps =
    go (is_inside a) refl h (λ here rest. all_placed (insert_key nat_cmp xs a) ((a + 4) % 2 ^ 32) n
    (omega (arith, k)) rest (insert_placed 0 a xs (omega arith) here k ps))
  where
    go : (b : Bool) → is_inside a ≡ b →
        (b && list_all is_inside (addresses ((a + 4) % 2 ^ 32) n)) ≡ true →
        (is_inside a ≡ true → list_all is_inside (addresses ((a + 4) % 2 ^ 32) n) ≡ true →
        ArePlaced 0 (with_taken (insert_key nat_cmp xs a) (addresses ((a + 4) % 2 ^ 32) n))) →
        ArePlaced 0 (with_taken (insert_key nat_cmp xs a) (addresses ((a + 4) % 2 ^ 32) n))
    go true e h more = more e h
    go false e h more = absurd (cc)

-- The state of the first pass is sound: the location is a multiple of four, and each address so far
-- is one that may be placed.
pub record IsSound (p : Placed) : Type 0 where
  pub aligned : p.location % 4 ≡ 0
  pub placed : ArePlaced 0 p.taken

take_sound : (xs ys : List ℕ) (a n : ℕ) → a % 4 ≡ 0 → ArePlaced 0 xs →
    take_addresses xs (addresses a n) ≡ Ok ys → ArePlaced 0 ys
unfolding take_addresses
take_sound xs ys a n k ps h = by_inside (list_all is_inside (addresses a n)) refl h
  where
    by_free : (free : Bool) → list_all is_inside (addresses a n) ≡ true →
        holds free no.Overlap (Ok (with_taken xs (addresses a n))) ≡ Ok ys → ArePlaced 0 ys
    by_free true i h =
        let same : with_taken xs (addresses a n) ≡ ys = cc in
        subst (ArePlaced 0) same (all_placed xs a n k i ps)
    by_free false i h = absurd (cc)

    by_inside : (b : Bool) → list_all is_inside (addresses a n) ≡ b →
        holds b no.OutsideMemory (holds (list_all (λ a. not (is_taken xs a)) (addresses a n))
        no.Overlap (Ok (with_taken xs (addresses a n)))) ≡ Ok ys → ArePlaced 0 ys
    by_inside true e h = by_free (list_all (λ a. not (is_taken xs a)) (addresses a n)) e h
    by_inside false e h = absurd (cc)

abbrev Checked : Statement → Type 0
Checked s = let passed : Result (Unit {0}) AsmNo = Ok tt in statement_check s ≡ passed

-- a decoded statement passed its checks
named_checked : (x : Text) (ps : List Piece) (s : Statement) →
    statement_named x ps ≡ Ok s → Checked s
unfolding statement_named
named_checked x ps s h = by_row (mnemonic x) h
  where
    by_check : (t : Statement) (r : Result (Unit {0}) AsmNo) → statement_check t ≡ r →
        next r (λ _. Ok t) ≡ Ok s → Checked s
    by_check t (Ok u) e h = let same : t ≡ s = cc in subst Checked same e
    by_check t (Err c) e h = absurd (cc)

    by_operands : (o : Option Statement) →
        next (present no.Operands o) (λ t. next (statement_check t) (λ _. Ok t)) ≡ Ok s → Checked s
    by_operands None h = absurd (cc)
    by_operands (Some t) h = by_check t (statement_check t) refl h

    by_row : (m : Option Mnemonic) → next (present no.UnknownName m)
        (λ m. next (present no.Operands (statement_in m (operands_of ps)))
        (λ t. next (statement_check t) (λ _. Ok t))) ≡ Ok s → Checked s
    by_row None h = absurd (cc)
    by_row (Some m) h = by_operands (statement_in m (operands_of ps)) h

found_checked : (ps : List Piece) (s : Statement) → statement_of ps ≡ Ok (Some s) → Checked s
unfolding statement_of
found_checked [] s h = absurd (cc)
found_checked (name x ∷ ps) s h = go (statement_named x ps) refl h
  where
    go : (r : Result Statement AsmNo) → statement_named x ps ≡ r →
        next r (λ s. Ok (Some s)) ≡ Ok (Some s) → Checked s
    go (Ok t) e h = let same : t ≡ s = cc in subst Checked same (named_checked x ps t e)
    go (Err c) e h = absurd (cc)
found_checked (number n ∷ ps) s h = absurd (cc)
found_checked (comma ∷ ps) s h = absurd (cc)
found_checked (colon ∷ ps) s h = absurd (cc)
found_checked (opening ∷ ps) s h = absurd (cc)
found_checked (closing ∷ ps) s h = absurd (cc)
found_checked (plus ∷ ps) s h = absurd (cc)
found_checked (minus ∷ ps) s h = absurd (cc)

-- the location after a line is a multiple of four
sized_aligned : (location : ℕ) (ps : List Piece) (t : ℕ × ℕ) → location % 4 ≡ 0 →
    placed_size location ps ≡ Ok (Some t) → t.1 % 4 ≡ 0
unfolding placed_size
sized_aligned location ps t k h = go (statement_of ps) refl h
  where
    go : (r : Result (Option Statement) AsmNo) → statement_of ps ≡ r →
        next r (λ s. Ok (option_map (λ s. (size_of s, location_after location s)) s))
        ≡ Ok (Some t) → t.1 % 4 ≡ 0
    go (Ok None) e h = absurd (cc)
    go (Ok (Some s)) e h =
        let same : location_after location s ≡ t.1 = cc in
        subst (λ x. x % 4 ≡ 0) same (after_four location s (found_checked ps s e) k)
    go (Err c) e h = absurd (cc)

placed_sound : (p q : Placed) (t : ℕ × ℕ) → IsSound p → t.1 % 4 ≡ 0 →
    placed_by p (Some t) ≡ Ok q → IsSound q
unfolding placed_by
placed_sound p q t s k h = go (take_addresses p.taken (addresses p.location t.0)) refl h
  where
    go : (r : Result (List ℕ) AsmNo) → take_addresses p.taken (addresses p.location t.0) ≡ r →
        next r (λ taken. Ok (record { location = t.1; labels = p.labels; taken = taken })) ≡ Ok q →
        IsSound q
    go (Ok taken) e h =
        let after : Placed = record { location = t.1; labels = p.labels; taken = taken } in
        let same : after ≡ q = cc in
        subst IsSound same (record {
          aligned = k;
          placed = take_sound p.taken taken p.location t.0 s.aligned s.placed e;
        })
    go (Err c) e h = absurd (cc)

sized_sound : (p q : Placed) (ps : List Piece) → IsSound p →
    next (placed_size p.location ps) (placed_by p) ≡ Ok q → IsSound q
unfolding placed_by
sized_sound p q ps s h = go (placed_size p.location ps) refl h
  where
    go : (r : Result (Option (ℕ × ℕ)) AsmNo) → placed_size p.location ps ≡ r →
        next r (placed_by p) ≡ Ok q → IsSound q
    go (Ok None) e h = let same : p ≡ q = cc in subst IsSound same s
    go (Ok (Some t)) e h = placed_sound p q t s (sized_aligned p.location ps t s.aligned e) h
    go (Err c) e h = absurd (cc)

line_sound : (p q : Placed) (line : Text) → IsSound p → first_line p line ≡ Ok q → IsSound q
unfolding first_line
line_sound p q line s h = by_pieces (pieces_of line) h
  where
    by_labels : (r : Result (Labels × List Piece) AsmNo) →
        next r (λ l. next (placed_size p.location l.1) (placed_by (record p { labels = l.0 })))
        ≡ Ok q → IsSound q
    by_labels (Ok l) h =
        sized_sound (record p { labels = l.0 }) q l.1
        (record { aligned = s.aligned; placed = s.placed }) h
    by_labels (Err c) h = absurd (cc)

    by_pieces : (r : Result (List Piece) AsmNo) →
        next r (λ ps. next (with_labels p.location p.labels ps)
        (λ l. next (placed_size p.location l.1) (placed_by (record p { labels = l.0 })))) ≡ Ok q →
        IsSound q
    by_pieces (Ok ps) h = by_labels (with_labels p.location p.labels ps) h
    by_pieces (Err c) h = absurd (cc)

pass_sound : (n : ℕ) (p q : Placed) (lines : List Text) → IsSound p →
    first_pass n p lines ≡ Ok q → IsSound q
unfolding first_pass
pass_sound n p q [] s h = let same : p ≡ q = cc in subst IsSound same s
pass_sound n p q (line ∷ lines) s h =
    go (first_line p line) refl (λ m sound. pass_sound (n + 1) m q lines sound) h
  where
    go : (r : Result Placed AsmNo) → first_line p line ≡ r →
        ((m : Placed) → IsSound m → first_pass (n + 1) m lines ≡ Ok q → IsSound q) →
        next (in_line n r) (λ p. first_pass (n + 1) p lines) ≡ Ok q → IsSound q
    go (Ok m) e more h = more m (line_sound p m line s e) h
    go (Err c) e more h = absurd (cc)

-- all addresses of the first pass may be placed
pub first_placed : (lines : List Text) (p : Placed) → first_pass 1 start lines ≡ Ok p →
    ArePlaced 0 p.taken
first_placed lines p h =
    (pass_sound 1 start p lines (record { aligned = refl; placed = tt }) h).placed
