-- The first pass: labels and locations.
use Rattle.std.specs.Prelude.{ℕ, zero, suc, ◌+◌, ◌^◌, ◌%◌, ◌&&◌, ◌||◌, not, Bool, true}
use Rattle.std.specs.Prelude.{false, List, [], ◌∷◌, Option, Some, None, is_some, Result}
use Rattle.std.specs.Prelude.{Ok, Err, if◌then◌else◌, nat_lt, nat_le, option_map}
use Rattle.std.specs.List.{list_any, list_all}
use Rattle.std.specs.Ordering.{nat_cmp}
use Rattle.std.specs.Cmp.Lexicographic.{slice_cmp}
use Rattle.std.specs.BTreeMap.{insert_entry, is_at}
use Rattle.std.specs.BTreeSet.{insert_key}
use Rattle.std.specs.Map.{lookup}
use Rattle.region_guard.specs.MemoryMap.{small_size, data_start}
use Rattle.fp_asm.specs.Pieces.{Text, Piece, name, colon, pieces_of}
use Rattle.fp_asm.specs.Statements.{statement_of, size_of, location_after}
use Rattle.fp_asm.specs.Faults.{next, holds, in_line}
use Rattle.fp_asm.specs.declared.refusal.AsmNo.{AsmNo}
use Rattle.fp_asm.specs.declared.refusal.AsmNo.TheVariants as no
use Rattle.fp_asm.specs.declared.refusal.AsmRefused.{AsmRefused}

-- a finite map from labels to locations: its entries in the order of their names
abbrev pub Labels : Type 0
Labels = List (Text × ℕ)

-- the location of a label, if there is one
abbrev pub location_of : Labels → Text → Option ℕ
location_of labels x = lookup (is_at (slice_cmp nat_cmp x)) labels

-- the labels with a new label at a location; a label that exists is a fault
unfoldable pub with_label : ℕ → Labels → Text → Result Labels AsmNo
with_label location labels x =
    if is_some (location_of labels x) then Err no.DoubleLabel
    else Ok (insert_entry (slice_cmp nat_cmp) labels x location)

-- the pieces begin with a label
unfoldable pub has_label : List Piece → Bool
has_label (name x ∷ colon ∷ ps) = true
has_label _ = false

-- with the labels at the head of the pieces, and the pieces after them
unfoldable pub with_labels : ℕ → Labels → List Piece → Result (Labels × List Piece) AsmNo
with_labels location labels (name x ∷ colon ∷ ps) =
    next (with_label location labels x) (λ more. with_labels location more ps)
with_labels location labels ps = Ok (labels, ps)

-- a scratchpad of the small size has the address
abbrev pub is_inside : ℕ → Bool
is_inside a = nat_lt a small_size || (nat_le data_start a && nat_lt a (data_start + small_size))

-- the addresses of n words from a location on
unfoldable pub addresses : ℕ → ℕ → List ℕ
addresses a zero = []
addresses a (suc n) = a ∷ addresses ((a + 4) % 2 ^ 32) n

-- one of the addresses that were placed, which rise
abbrev pub is_taken : List ℕ → ℕ → Bool
is_taken taken a = list_any (is_at (nat_cmp a)) taken

-- with these addresses
abbrev pub with_taken : List ℕ → List ℕ → List ℕ
with_taken taken [] = taken
with_taken taken (a ∷ more) = with_taken (insert_key nat_cmp taken a) more

-- with these addresses, which must be in scratchpads and new
unfoldable pub take_addresses : List ℕ → List ℕ → Result (List ℕ) AsmNo
take_addresses taken more =
    holds (list_all is_inside more) no.OutsideMemory
    (holds (list_all (λ a. not (is_taken taken a)) more) no.Overlap (Ok (with_taken taken more)))

-- The state of the first pass: the location, the labels, and the addresses of placed words.
pub record Placed : Type 0 where
  pub location : ℕ
  pub labels : Labels
  pub taken : List ℕ

-- before the first line
abbrev pub start : Placed
start = record { location = 0; labels = []; taken = [] }

-- the number of words that the statement after the labels places, and the location after it
unfoldable pub placed_size : ℕ → List Piece → Result (Option (ℕ × ℕ)) AsmNo
placed_size location ps =
    next (statement_of ps) (λ s. Ok (option_map (λ s. (size_of s, location_after location s)) s))

-- with the words of a statement, if there is one
unfoldable pub placed_by : Placed → Option (ℕ × ℕ) → Result Placed AsmNo
placed_by p None = Ok p
placed_by p (Some s) =
    next (take_addresses p.taken (addresses p.location s.0))
    (λ taken. Ok (record { location = s.1; labels = p.labels; taken = taken }))

-- the first pass over a line
unfoldable pub first_line : Placed → Text → Result Placed AsmNo
first_line p line =
    next (pieces_of line) (λ ps.
    next (with_labels p.location p.labels ps) (λ l.
    next (placed_size p.location l.1) (placed_by (record p { labels = l.0 }))))

-- the first pass from line number n on
unfoldable pub first_pass : ℕ → Placed → List Text → Result Placed AsmRefused
first_pass n p [] = Ok p
first_pass n p (line ∷ lines) =
    next (in_line n (first_line p line)) (λ p. first_pass (n + 1) p lines)
