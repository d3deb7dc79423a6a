-- Rows of tables, by their names.
use Rattle.std.proofs.Common.{◌≡◌, ℕ, ◌<◌, ◌&&◌, List, [], ◌∷◌, Option, Some}
use Rattle.std.proofs.Common.{None, Bool, true, false, option_map, map, find, refl}
use Rattle.std.proofs.Common.{sym, cond, Bor, nat_lt, arith, ap, ◌∙◌, take, drop}
use Rattle.std.specs.Str.{bytes_eq}
use Rattle.std.specs.List.{list_all}
use Rattle.std.specs.Option.{option_or}
use Rattle.std.proofs.lemmas.List.Folds.{find-append}
use Rattle.std.proofs.lemmas.Bool.Decides.{nat_tests}
use Rattle.fp_asm.specs.Mnemonics.{Mnemonic, mnemonics, mnemonic, row_named}
use Rattle.fp_asm.specs.Names.{value_named, registers, register_number}
use Rattle.fp_asm.specs.AbstractPieces.{abstract_mnemonic, abstract_name}
use Rattle.fp_asm.specs.declared.mnemonics.Row.{Row}

found_row : (rows : List Row) (text : List ℕ) → row_named (map abstract_mnemonic rows) text
    ≡ option_map abstract_mnemonic (find (λ row. bytes_eq row.name.now text) rows)
found_row [] text = refl
found_row (r ∷ rs) text = go (bytes_eq r.name.now text) (found_row rs text)
  where
    go : (b : Bool) → row_named (map abstract_mnemonic rs) text
        ≡ option_map abstract_mnemonic (find (λ row. bytes_eq row.name.now text) rs) →
        cond b (Some (abstract_mnemonic r)) (row_named (map abstract_mnemonic rs) text) ≡ option_map
        abstract_mnemonic (cond b (Some r) (find (λ row. bytes_eq row.name.now text) rs))
    go true h = refl
    go false h = h

pub table_row : (rows : List Row) (table : List Mnemonic) (text : List ℕ) (found : Option Row) →
    map abstract_mnemonic rows ≡ table → found ≡ find (λ row. bytes_eq row.name.now text) rows →
    option_map abstract_mnemonic found ≡ row_named table text
table_row rows table text found same e =
    ap (option_map abstract_mnemonic) e ∙ sym (found_row rows text)
    ∙ ap (λ rows. row_named rows text) same

pub found_number : (rows : List (Bor (List ℕ) × ℕ)) (text : List ℕ) →
    value_named (map abstract_name rows) text
    ≡ option_map (λ row. row.1) (find (λ row. bytes_eq row.0.now text) rows)
found_number [] text = refl
found_number (r ∷ rs) text = go (bytes_eq r.0.now text) (found_number rs text)
  where
    go : (b : Bool) → value_named (map abstract_name rs) text ≡ option_map (λ row. row.1)
        (find (λ row. bytes_eq row.0.now text) rs) → option_map (λ row. row.1)
        (cond b (Some (abstract_name r)) (find (λ row. bytes_eq row.0 text) (map abstract_name rs)))
        ≡ option_map (λ row. row.1) (cond b (Some r) (find (λ row. bytes_eq row.0.now text) rs))
    go true h = refl
    go false h = h

-- a table of small numbers gives small numbers
named_small : (limit : ℕ) (rows : List (List ℕ × ℕ)) (text : List ℕ) (n : ℕ) →
    list_all (λ row. nat_lt row.1 limit) rows ≡ true → value_named rows text ≡ Some n → n < limit
named_small limit [] text n all found = absurd (cc)
named_small limit (r ∷ rs) text n all found =
    go (bytes_eq r.0 text) (nat_lt r.1 limit) refl (named_small limit rs text n) all found
  where
    more : (small : Bool) → (small && list_all (λ row. nat_lt row.1 limit) rs) ≡ true →
        list_all (λ row. nat_lt row.1 limit) rs ≡ true
    more true h = h
    more false h = absurd (cc)

    go : (here small : Bool) → nat_lt r.1 limit ≡ small →
        (list_all (λ row. nat_lt row.1 limit) rs ≡ true →
        value_named rs text ≡ Some n → n < limit) →
        (small && list_all (λ row. nat_lt row.1 limit) rs) ≡ true → option_map (λ row. row.1)
        (cond here (Some r) (find (λ row. bytes_eq row.0 text) rs)) ≡ Some n → n < limit
    go true true e others h k = let same : r.1 ≡ n = cc in grind (arith, nat_tests, e, same)
    go true false e others h k = absurd (cc)
    go false small e others h k = others (more small h) k

pub register_fits : (text : List ℕ) (n : ℕ) → register_number text ≡ Some n → n < 32
unfolding register_number registers
register_fits text n h = named_small 32 registers text n refl h

module _ (text : List ℕ) where
  abbrev first : Option Mnemonic
  first = row_named (take 27 mnemonics) text

  abbrev second : Option Mnemonic
  second = row_named (take 35 (drop 27 mnemonics)) text

  abbrev third : Option Mnemonic
  third = row_named (drop 62 mnemonics) text

  -- the row of a name, in three tables
  in_three : mnemonic text ≡ option_or first (option_or second third)
  unfolding mnemonic mnemonics
  in_three =
      find-append (λ row. bytes_eq row.name text) (take 27 mnemonics) (drop 27 mnemonics)
      ∙ ap (option_or first) (find-append (λ row. bytes_eq row.name text)
      (take 35 (drop 27 mnemonics)) (drop 62 mnemonics))

  pub in_first : (row : Mnemonic) → Some row ≡ first → Some row ≡ mnemonic text
  in_first row e = sym (in_three ∙ ap (λ found. option_or found (option_or second third)) (sym e))

  pub in_second : (row : Mnemonic) → None ≡ first → Some row ≡ second → Some row ≡ mnemonic text
  in_second row none e =
      sym (in_three ∙ ap (λ found. option_or found (option_or second third)) (sym none)
      ∙ ap (λ found. option_or found third) (sym e))

  pub in_third : (found : Option Mnemonic) → None ≡ first → None ≡ second → found ≡ third →
      found ≡ mnemonic text
  in_third found none none2 e =
      sym (in_three ∙ ap (λ found. option_or found (option_or second third)) (sym none)
      ∙ ap (λ found. option_or found third) (sym none2) ∙ sym e)
