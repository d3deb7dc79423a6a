-- The length of a line: at most 59 bytes, if the cycle has at most ten digits.
use Rattle.std.proofs.Common.{◌≡◌, ℕ, zero, suc, ◌/◌, ◌^◌, ◌<◌, ◌≤◌, length, refl}
use Rattle.std.proofs.Common.{arith, inl, inr, lit≤, true, false, if◌then◌else◌, ◌==◌}
use Rattle.std.specs.Prelude.{◌++◌, decimal, codes}
use Rattle.std.proofs.lemmas.List.{length-append, length-replicate}
use Rattle.std.proofs.lemmas.Fmt.{length-decimal-le}
use Rattle.rv_exec.specs.declared.outcome.Effect.{Effect}
use Rattle.rv_exec.specs.declared.outcome.Effect.TheVariants.{Nothing, Reg, Store, Csr, Trap, Wait}
use Rattle.rv_exec.specs.declared.outcome.Event.{Event}
use Rattle.rv_exec.specs.Line.{IsPrintable, IsWidth}
use Rattle.trace_print.specs.Digits.{hex, two_digits, right}
use Rattle.trace_print.specs.Text.{register_text, store_text, csr_text}
use Rattle.trace_print.specs.Text.{trap_text, effect_text, line_text}

pub length-hex : (width n : ℕ) → length (hex width n) ≡ width
unfolding hex
length-hex zero n = refl
length-hex (suc width) n =
    let rest = length-hex width (n / 16) in
    simp length-append (omega (arith, rest))

pub length-right : (width n : ℕ) → length (decimal n) ≤ width → length (right width n) ≡ width
unfolding right
length-right width n h = simp (length-append, length-replicate) (omega arith)

length-register : (rd value : ℕ) → length (register_text rd value) ≡ 12
unfolding register_text two_digits
length-register rd value = simp length-hex

length-store : (address size value : ℕ) → IsWidth size → length (store_text address size value) ≤ 21
unfolding store_text
length-store address size value h =
    let small : size < 10 =
    elim h [ inl e ↦ omega arith | inr r ↦ elim r [ inl e ↦ omega arith | inr e ↦ omega arith ] ] in
    let digit = length-decimal-le 1 size (omega arith) (omega arith) (omega arith) in
    simp (length-append, length-hex) (omega arith)

length-csr : (csr value : ℕ) → length (csr_text csr value) ≡ 16
unfolding csr_text
length-csr csr value = simp (length-append, length-hex)

length-trap : (cause target : ℕ) → cause < 256 → length (trap_text cause target) ≤ 20
unfolding trap_text
length-trap cause target h =
    let digits = length-decimal-le 3 cause (omega arith) (omega arith) (omega arith) in
    simp (length-append, length-hex) (omega arith)

length-effect : (effect : Effect) → IsPrintable effect → length (effect_text effect) ≤ 29
unfolding effect_text
length-effect Nothing h = lit≤ tt
length-effect (Reg rd value) h = omega (arith, length-register rd value)
length-effect (Store address size value) h = omega (arith, length-store address size value h.0)
length-effect (Csr csr value rd old) h =
    elim (rd == 0) as (λ b.
    length (if b then csr_text csr value
    else register_text rd old ++ (codes " " ++ csr_text csr value)) ≤ 29) [
      | true ↦ omega (arith, length-csr csr value)
      | false ↦ simp length-append (omega (arith, length-csr csr value, length-register rd old))
    ]
length-effect (Trap cause target) h = omega (arith, length-trap cause target h)
length-effect Wait h = lit≤ tt

pub length-line : (e : Event) → e.cycle < 10 ^ 10 → IsPrintable e.effect → length (line_text e) ≤ 59
unfolding line_text
length-line e h j =
    let digits = length-decimal-le 10 e.cycle (omega arith) h (omega arith) in
    let cycle = length-right 10 e.cycle digits in
    let effect = length-effect e.effect j in
    simp (length-append, length-hex) (omega arith)
