-- A statement makes as many words as the first pass counts.
use Rattle.std.proofs.Common.{◌≡◌, ℕ, Bool, true, false, List, [], ◌∷◌, Result, Ok, refl}
use Rattle.std.proofs.Common.{map, length, cond, subst, arith}
use Rattle.std.specs.Prelude.{replicate, ◌%◌, ◌==◌, pos, neg_ℤ}
use Rattle.std.specs.List.{list_all}
use Rattle.std.proofs.lemmas.List.{length-map, length-replicate}
use Rattle.rv_decode.specs.Encoding.{encoding_of}
use Rattle.rv_decode.specs.Fields.{sign_extended}
use Rattle.rv_decode.specs.declared.instruction.Ins.TheVariants.{Lui, OpImm}
use Rattle.rv_decode.specs.declared.instruction.ImmOp.TheVariants.{Addi}
use Rattle.fp_asm.specs.Operands.{Target, Operands}
use Rattle.fp_asm.specs.Words.{is_within, upper, halves, load_instructions}
use Rattle.fp_asm.specs.First.{Labels}
use Rattle.fp_asm.specs.Statements.{Statement, size_of, size_as}
use Rattle.fp_asm.specs.Second.{target_word, all_resolved, one_word, address_words, value_words}
use Rattle.fp_asm.specs.Second.{statement_words, words_as, fits_word}
use Rattle.fp_asm.specs.declared.refusal.AsmNo.{AsmNo}
use Rattle.fp_asm.specs.declared.refusal.AsmNo.TheVariants as no
use Rattle.asm_laws.proofs.Results.{inverted, held}

one : (r : Result ℕ AsmNo) (ws : List ℕ) → one_word r ≡ Ok ws → length ws ≡ 1
one r ws h =
    let t = inverted r (λ w. Ok (w ∷ [])) ws h in
    let same : t.0 ∷ [] ≡ ws = cc in
    subst (λ (xs : List ℕ). length xs ≡ 1) same refl

resolved : (labels : Labels) (vs : List Target) (ws : List ℕ) → all_resolved labels vs ≡ Ok ws →
    length ws ≡ length vs
unfolding all_resolved
resolved labels [] ws h =
    let same : [] ≡ ws = cc in subst (λ (xs : List ℕ). length xs ≡ 0) same refl
resolved labels (v ∷ vs) ws h =
    let a = inverted (target_word labels v) _ ws h in
    let b = inverted (all_resolved labels vs) _ ws a.2 in
    let same : a.0 ∷ b.0 ≡ ws = cc in
    let rest : length b.0 ≡ length vs = resolved labels vs b.0 b.1 in
    subst (λ (xs : List ℕ). length xs ≡ length (v ∷ vs)) same (rw rest refl)

-- how many instructions load a number doesn't depend on the register
loaded : (rd v : ℕ) → length (load_instructions rd v) ≡ length (load_instructions 0 v)
unfolding load_instructions halves
loaded rd v = go (is_within (neg_ℤ (pos 2048)) (pos 2047) (sign_extended 32 v)) (v % 4096 == 0)
  where
    go : (b d : Bool) → length (cond b (OpImm Addi rd 0 (sign_extended 32 v) ∷ [])
        (cond d (Lui rd (upper v) ∷ []) (halves rd v)))
        ≡ length (cond b (OpImm Addi 0 0 (sign_extended 32 v) ∷ [])
        (cond d (Lui 0 (upper v) ∷ []) (halves 0 v)))
    go true d = refl
    go false true = refl
    go false false = refl

two : (labels : Labels) (o : Operands) (ws : List ℕ) → address_words labels o ≡ Ok ws →
    length ws ≡ 2
unfolding address_words halves
two labels o ws h =
    let a = inverted (target_word labels o.target) _ ws h in
    let t = held (fits_word o.target) no.OutOfRange (Ok (map encoding_of
    (halves o.rd a.0))) ws a.2 in
    let same : map encoding_of (halves o.rd a.0) ≡ ws = cc in
    subst (λ (xs : List ℕ). length xs ≡ 2) same refl

values : (labels : Labels) (vs : List Target) (ws : List ℕ) → value_words labels vs ≡ Ok ws →
    length ws ≡ length vs
unfolding value_words
values labels vs ws h =
    let a = inverted (all_resolved labels vs) _ ws h in
    let t = held (list_all fits_word vs) no.OutOfRange (Ok a.0) ws a.2 in
    let same : a.0 ≡ ws = cc in
    subst (λ (xs : List ℕ). length xs ≡ length vs) same (resolved labels vs a.0 a.1)

spaces : (n : ℕ) → (let none : ℕ = 0 in length (replicate n none)) ≡ n
spaces n = let none : ℕ = 0 in length-replicate n none

li : (rd v : ℕ) → length (map encoding_of (load_instructions rd v)) ≡ length (load_instructions 0 v)
li rd v = rw length-map (loaded rd v)

by_kind : (labels : Labels) (a : ℕ) (s : Statement) (ws : List ℕ) →
    words_as s.makes labels a s ≡ Ok ws → length ws ≡ size_as s.makes s.operands.given s.values
unfolding size_of
by_kind labels a s ws h = grind (arith, one, two, values, li, spaces, h)

pub sized : (labels : Labels) (a : ℕ) (s : Statement) (ws : List ℕ) →
    statement_words labels a s ≡ Ok ws → length ws ≡ size_of s
unfolding statement_words size_of
sized labels a s ws h = by_kind labels a s ws h
