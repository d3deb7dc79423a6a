-- A register in its row of 32 words.
use Rattle.std.proofs.Common.{◌≡◌, ℕ, zero, suc, ◌-◌, ◌<◌, List, [], All, map, drop}
use Rattle.std.proofs.Common.{length, get_or, set, refl, ap, arith, length-drop, length-set}
use Rattle.std.proofs.lemmas.Bool.{ne_eqb}
use Rattle.std.proofs.lemmas.List.{map-set, get_or-set_same, set-get_or}
use Rattle.std.proofs.Math.ListN.{get_or-map}
use Rattle.regfile_bank.specs.Registers.{register, with_register, registers_of}
use Rattle.regfile_bank.specs.Kept.{IsRow, with_x0}

-- the registers of a thread are its row but for the first word
pub registers_at : (rows : List (List ℕ)) (thread : ℕ) →
    registers_of (map (drop 1) rows) thread ≡ drop 1 (get_or rows thread [])
registers_at rows thread = get_or-map (drop 1) rows thread []

pub length-registers : (row : List ℕ) → IsRow row → length (drop 1 row) ≡ 31
length-registers row is = rw (length-drop, is.1) refl

pub read_row : (row : List ℕ) (x : ℕ) → IsRow row → get_or row x 0 ≡ register (drop 1 row) x
read_row row zero is = ap (λ words. get_or words 0 0) is.0
read_row row (suc x) is =
    let other : suc x ≡ 0 → ⊥ = omega arith in
    let before : suc x - 1 ≡ x = omega arith in
    rw (ne_eqb (suc x) 0 other, before) (ap (λ words. get_or words (suc x) 0) is.0)

write_words : (row : List ℕ) (x value : ℕ) → row ≡ with_x0 (drop 1 row) → (x ≡ 0 → ⊥) →
    set row x value ≡ with_x0 (with_register (drop 1 row) x value)
write_words row zero value begins other = absurd (other refl)
write_words row (suc x) value begins other =
    let before : suc x - 1 ≡ x = omega arith in
    rw (ne_eqb (suc x) 0 other, before) (ap (λ words. set words (suc x) value) begins)

pub write_row : (row : List ℕ) (x value : ℕ) → IsRow row → (x ≡ 0 → ⊥) →
    drop 1 (set row x value) ≡ with_register (drop 1 row) x value
write_row row x value is other = ap (drop 1) (write_words row x value is.0 other)

-- a register's write keeps x0
pub row_set : (row : List ℕ) (x value : ℕ) → IsRow row → (x ≡ 0 → ⊥) → IsRow (set row x value)
row_set row x value is other =
    let words = write_words row x value is.0 other in
    (rw words refl, rw length-set is.1)

-- the registers after a write
pub write_rows : (rows : List (List ℕ)) (thread x value : ℕ) →
    All IsRow rows → thread < length rows → (x ≡ 0 → ⊥) →
    map (drop 1) (set rows thread (set (get_or rows thread []) x value))
    ≡ set (map (drop 1) rows) thread
    (with_register (registers_of (map (drop 1) rows) thread) x value)
write_rows rows thread x value all inside other =
    let row = get_or rows thread [] in
    rw (
      map-set (drop 1) rows thread (set row x value),
      registers_at rows thread,
      write_row row x value (all thread [] inside) other,
    ) refl

pub length-written : (rows : List (List ℕ)) (thread x value : ℕ) →
    All IsRow rows → thread < length rows → (x ≡ 0 → ⊥) → length (registers_of
    (map (drop 1) (set rows thread (set (get_or rows thread []) x value))) thread) ≡ 31
length-written rows thread x value all inside other =
    let row = get_or rows thread [] in
    rw (
      registers_at (set rows thread (set row x value)) thread,
      get_or-set_same rows thread (set row x value) [] inside,
    )
    (length-registers (set row x value) (row_set row x value (all thread [] inside) other))

-- x0 takes no write
pub kept_at_x0 : (bank : List (List ℕ)) (thread x value : ℕ) → x ≡ 0 →
    bank ≡ set bank thread (with_register (registers_of bank thread) x value)
kept_at_x0 bank thread x value is = rw (is, set-get_or bank thread []) refl
