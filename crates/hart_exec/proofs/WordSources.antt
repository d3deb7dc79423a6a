-- The table of the registers that a word reads.
use Rattle.std.proofs.Common.{◌≡◌, ◌≢◌, ◌≤◌, ℕ, eqb, eqb→eq, eq-zero-or-pos, T, ◌||◌, zero, suc}
use Rattle.std.proofs.Common.{◌+◌, ◌-◌, ◌*◌, ◌/◌, ◌%◌, ◌^◌, ◌<◌, ◌==◌, ◌&&◌, Bool, true, false}
use Rattle.std.proofs.Common.{◌⊎◌, inl, inr, refl, sym, ◌∙◌, ap, arith, bit_and, bit_xor, get_or}
use Rattle.std.proofs.lemmas.Nat.{and_block, xor_block, and_mask, and_le_r}
use Rattle.std.proofs.lemmas.Nat.{mod_below, pow_pos, div-add-mod'}
use Rattle.std.proofs.lemmas.Bool.Decides.{nat_tests, eqb_tells}
use Rattle.std.specs.Int.Bits.{and_zero_r, xor_zero_r}
use Rattle.rv_decode.specs.Fields.{field}
use Rattle.rv_decode.specs.Table.{ins, read_by, jalr_rows, branch_rows, load_rows}
use Rattle.rv_decode.specs.Table.{store_rows, imm_rows, op_rows, fence_rows}
use Rattle.rv_decode.specs.Table.{system_rows, time_rows, lui_rows, auipc_rows, jal_rows}
use Rattle.rv_decode.proofs.ByOpcode.{ins-lui, ins-auipc, ins-jal, ins-jalr}
use Rattle.rv_decode.proofs.ByOpcode.{ins-branch, ins-load, ins-store, ins-imm, ins-op}
use Rattle.rv_decode.proofs.ByOpcode.{ins-fence, ins-system, ins-time, ins-none}
use Rattle.rv_decode.specs.declared.instruction.Ins.{Ins}
use Rattle.rv_decode.specs.declared.instruction.Ins.TheVariants.{Illegal}
use Rattle.hart_exec.specs.declared.word_sources.TheConstants.{FIELDS}
use Rattle.core_model.specs.Issue.{source_1, source_2}

-- the bits from one on, apart from those below it
and_at : (k n b s : ℕ) → s < 2 ^ k →
    bit_and n (b * 2 ^ k + s) ≡ bit_and (n / 2 ^ k) b * 2 ^ k + bit_and (n % 2 ^ k) s
and_at k n b s h =
    ap (λ m. bit_and m (b * 2 ^ k + s)) (sym (div-add-mod' n (2 ^ k)))
    ∙ and_block k (n / 2 ^ k) b (n % 2 ^ k) s (mod_below n (2 ^ k) (pow_pos k)) h

-- the opcode without its two lowest bits, and funct3
pub key_fields : (w : ℕ) → bit_and w 0x707c ≡ field w 2 5 * 4 + field w 12 3 * 4096
key_fields w =
    let upper : bit_and w 0x707c ≡ bit_and (w / 2 ^ 12) 7 * 2 ^ 12 + bit_and (w % 2 ^ 12) 0x7c =
    and_at 12 w 7 0x7c (omega arith) in
    let lower : bit_and (w % 2 ^ 12) 0x7c
    ≡ bit_and (w % 2 ^ 12 / 2 ^ 2) 31 * 2 ^ 2 + bit_and (w % 2 ^ 12 % 2 ^ 2) 0 =
    and_at 2 (w % 2 ^ 12) 31 0 (omega arith) in
    let kind : bit_and (w / 2 ^ 12) 7 ≡ w / 2 ^ 12 % 2 ^ 3 = and_mask (w / 2 ^ 12) 3 in
    let code : bit_and (w % 2 ^ 12 / 2 ^ 2) 31 ≡ w % 2 ^ 12 / 2 ^ 2 % 2 ^ 5 =
    and_mask (w % 2 ^ 12 / 2 ^ 2) 5 in
    rw (upper, lower, kind, code, and_zero_r (w % 2 ^ 12 % 2 ^ 2)) (omega arith)

key_sum : (code kind : ℕ) → code < 32 → kind < 8 →
    (code * 4 + kind * 4096) * 33558528 % 4294967296 / 16777216 ≡ code * 8 + kind
key_sum code kind h k = omega (arith, h, k)

-- one multiplication moves both fields next to each other
pub key_at : (w : ℕ) →
    bit_and w 0x707c * 33558528 % 4294967296 / 16777216 ≡ field w 2 5 * 8 + field w 12 3
key_at w =
    rw (key_fields w) (key_sum (field w 2 5) (field w 12 3)
    (mod_below (w / 2 ^ 2) (2 ^ 5) (pow_pos 5)) (mod_below (w / 2 ^ 12) (2 ^ 3) (pow_pos 3)))

-- an entry, by its parts; a bitwise and with it, part by part
abbrev entry : ℕ → ℕ → ℕ → ℕ → ℕ → ℕ
entry seven second first written low =
    (((seven * 2 ^ 5 + second) * 2 ^ 5 + first) * 2 ^ 8 + written) * 2 ^ 7 + low

left_by : (n seven second first written low : ℕ) → second < 32 → first < 32 →
    written < 256 → low < 128 → bit_and n (entry seven second first written low) ≡
    entry (bit_and (n / 2 ^ 7 / 2 ^ 8 / 2 ^ 5 / 2 ^ 5) seven)
    (bit_and (n / 2 ^ 7 / 2 ^ 8 / 2 ^ 5 % 2 ^ 5) second) (bit_and (n / 2 ^ 7 / 2 ^ 8 % 2 ^ 5) first)
    (bit_and (n / 2 ^ 7 % 2 ^ 8) written) (bit_and (n % 2 ^ 7) low)
left_by n seven second first written low h2 h1 hw hl =
    rw (
      and_at 7 n (((seven * 2 ^ 5 + second) * 2 ^ 5 + first) * 2 ^ 8 + written) low hl,
      and_at 8 (n / 2 ^ 7) ((seven * 2 ^ 5 + second) * 2 ^ 5 + first) written hw,
      and_at 5 (n / 2 ^ 7 / 2 ^ 8) (seven * 2 ^ 5 + second) first h1,
      and_at 5 (n / 2 ^ 7 / 2 ^ 8 / 2 ^ 5) seven second h2,
    ) refl

-- an exclusive or with 3 changes only the two lowest bits
above : (w : ℕ) → bit_xor w 3 ≡ w / 2 ^ 2 * 2 ^ 2 + bit_xor (w % 2 ^ 2) 3
above w =
    ap (λ m. bit_xor m 3) (sym (div-add-mod' w (2 ^ 2)))
    ∙ xor_block 2 (w / 2 ^ 2) 0 (w % 2 ^ 2) 3 (mod_below w (2 ^ 2) (pow_pos 2)) (omega arith)
    ∙ ap (λ m. m * 2 ^ 2 + bit_xor (w % 2 ^ 2) 3) (xor_zero_r (w / 2 ^ 2))

-- it makes both bits 0 only if both are set
low_bits : (r : ℕ) → r < 4 → (bit_xor r 3 < 4) × (bit_xor r 3 ≡ 0 → r ≡ 3)
low_bits zero h = (omega arith, λ e. absurd (omega (arith, e)))
low_bits (suc zero) h = (omega arith, λ e. absurd (omega (arith, e)))
low_bits (suc (suc zero)) h = (omega arith, λ e. absurd (omega (arith, e)))
low_bits (suc (suc (suc zero))) h = (omega arith, λ e. refl)
low_bits (suc (suc (suc (suc r)))) h = absurd (omega arith)

-- the facts if all bits that must be clear are clear
record Clear (w seven second first written x : ℕ) : Type 0 where
  pub first_is : x / 2 ^ 15 % 2 ^ 5 ≡ bit_and (field w 15 5) first
  pub second_is : x / 2 ^ 20 ≡ bit_and (field w 20 5) second
  pub seven_is : bit_and (field w 25 7) seven ≡ 0
  pub written_is : bit_and (w / 2 ^ 7 % 2 ^ 8) written ≡ 0
  pub whole : w % 2 ^ 2 ≡ 3

clear_of : (w v x r seven second first written a b c d l : ℕ) → w < 2 ^ 32 →
    v ≡ w / 2 ^ 2 * 2 ^ 2 + r → r < 4 → (r ≡ 0 → w % 2 ^ 2 ≡ 3) →
    seven < 128 → second < 32 → first < 32 → written < 32
    → a ≡ bit_and (v / 2 ^ 7 / 2 ^ 8 / 2 ^ 5 / 2 ^ 5) seven →
    b ≡ bit_and (v / 2 ^ 7 / 2 ^ 8 / 2 ^ 5 % 2 ^ 5) second →
    c ≡ bit_and (v / 2 ^ 7 / 2 ^ 8 % 2 ^ 5) first →
    d ≡ bit_and (v / 2 ^ 7 % 2 ^ 8) written → l ≡ bit_and (v % 2 ^ 7) 3
    → x ≡ entry a b c d l → bit_and x 0xfe000f83 ≡ 0 → Clear w seven second first written x
clear_of w v x r seven second first written a b c d l
    hw ev hr whole h7 h2 h1 hd ea eb ec ed el ex none =
    let q7 : v / 2 ^ 7 / 2 ^ 8 / 2 ^ 5 / 2 ^ 5 ≡ field w 25 7 = omega (arith, ev, hr, hw) in
    let q2 : v / 2 ^ 7 / 2 ^ 8 / 2 ^ 5 % 2 ^ 5 ≡ field w 20 5 = omega (arith, ev, hr, hw) in
    let q1 : v / 2 ^ 7 / 2 ^ 8 % 2 ^ 5 ≡ field w 15 5 = omega (arith, ev, hr, hw) in
    let qd : v / 2 ^ 7 % 2 ^ 8 ≡ w / 2 ^ 7 % 2 ^ 8 = omega (arith, ev, hr, hw) in
    let fa : a ≡ bit_and (field w 25 7) seven = ea ∙ ap (λ n. bit_and n seven) q7 in
    let fb : b ≡ bit_and (field w 20 5) second = eb ∙ ap (λ n. bit_and n second) q2 in
    let fc : c ≡ bit_and (field w 15 5) first = ec ∙ ap (λ n. bit_and n first) q1 in
    let fd : d ≡ bit_and (w / 2 ^ 7 % 2 ^ 8) written = ed ∙ ap (λ n. bit_and n written) qd in
    let fl : l ≡ v % 2 ^ 7 % 2 ^ 2 = el ∙ and_mask (v % 2 ^ 7) 2 in
    let la : bit_and (field w 25 7) seven ≤ seven = and_le_r (field w 25 7) seven in
    let lb : bit_and (field w 20 5) second ≤ second = and_le_r (field w 20 5) second in
    let lc : bit_and (field w 15 5) first ≤ first = and_le_r (field w 15 5) first in
    let ld : bit_and (w / 2 ^ 7 % 2 ^ 8) written ≤ written = and_le_r (w / 2 ^ 7 % 2 ^ 8) written in
    let tested = left_by x 127 0 0 31 3 (omega arith) (omega arith) (omega arith) (omega arith) in
    let ta : bit_and (x / 2 ^ 7 / 2 ^ 8 / 2 ^ 5 / 2 ^ 5) 127
    ≡ x / 2 ^ 7 / 2 ^ 8 / 2 ^ 5 / 2 ^ 5 % 2 ^ 7 = and_mask (x / 2 ^ 7 / 2 ^ 8 / 2 ^ 5 / 2 ^ 5) 7 in
    let td : bit_and (x / 2 ^ 7 % 2 ^ 8) 31 ≡ x / 2 ^ 7 % 2 ^ 8 % 2 ^ 5 =
    and_mask (x / 2 ^ 7 % 2 ^ 8) 5 in
    let tl : bit_and (x % 2 ^ 7) 3 ≡ x % 2 ^ 7 % 2 ^ 2 = and_mask (x % 2 ^ 7) 2 in
    let zero_is : entry (bit_and (x / 2 ^ 7 / 2 ^ 8 / 2 ^ 5 / 2 ^ 5) 127)
    (bit_and (x / 2 ^ 7 / 2 ^ 8 / 2 ^ 5 % 2 ^ 5) 0) (bit_and (x / 2 ^ 7 / 2 ^ 8 % 2 ^ 5) 0)
    (bit_and (x / 2 ^ 7 % 2 ^ 8) 31) (bit_and (x % 2 ^ 7) 3) ≡ 0 = sym tested ∙ none in
    let za : x / 2 ^ 7 / 2 ^ 8 / 2 ^ 5 / 2 ^ 5 % 2 ^ 7 ≡ 0 = omega (arith, zero_is, ta) in
    let zd : x / 2 ^ 7 % 2 ^ 8 % 2 ^ 5 ≡ 0 = omega (arith, zero_is, td) in
    let zl : x % 2 ^ 7 % 2 ^ 2 ≡ 0 = omega (arith, zero_is, tl) in
    let bounds : (a < 128) × (b < 32) × (c < 32) × (d < 32) × (l < 4) = (
      omega (arith, fa, la, h7),
      omega (arith, fb, lb, h2),
      omega (arith, fc, lc, h1),
      omega (arith, fd, ld, hd),
      omega (arith, fl),
    ) in
    let a_is : a ≡ 0 = omega (arith, ex, za, bounds.0, bounds.1, bounds.2, bounds.3, bounds.4) in
    let d_is : d ≡ 0 = omega (arith, ex, zd, bounds.1, bounds.2, bounds.3, bounds.4) in
    let l_is : l ≡ 0 = omega (arith, ex, zl, bounds.3, bounds.4) in
    record {
      first_is = omega (arith, ex, bounds.1, bounds.2, bounds.3, bounds.4) ∙ fc;
      second_is = omega (arith, ex, a_is, bounds.1, bounds.2, bounds.3, bounds.4) ∙ fb;
      seven_is = sym fa ∙ a_is;
      written_is = sym fd ∙ d_is;
      whole = whole (omega (arith, fl, l_is, ev, hr));
    }

clear : (w seven second first written : ℕ) → w < 2 ^ 32 →
    seven < 128 → second < 32 → first < 32 → written < 32 →
    bit_and (bit_and (bit_xor w 3) (entry seven second first written 3)) 0xfe000f83 ≡ 0
    →
    Clear w seven second first written (bit_and (bit_xor w 3) (entry seven second first written 3))
clear w seven second first written hw h7 h2 h1 hd none =
    let low = low_bits (w % 2 ^ 2) (mod_below w (2 ^ 2) (pow_pos 2)) in
    clear_of w (bit_xor w 3) _ (bit_xor (w % 2 ^ 2) 3) seven second first written _ _ _ _ _ hw
    (above w) low.0 low.1 h7 h2 h1 hd refl refl refl refl refl
    (left_by (bit_xor w 3) seven second first written 3 h2 h1 (omega (arith, hd)) (omega arith))
    none

-- The fields that the code finds by an entry are those that the instruction reads, if all bits that
-- must be clear are clear.
abbrev pub Reads : ℕ → ℕ → Type 0
Reads w e =
    bit_and (bit_and (bit_xor w 3) e) 0xfe000f83 ≡ 0 →
    (bit_and (bit_xor w 3) e / 2 ^ 15 % 2 ^ 5 ≡ source_1 (ins w))
    × (bit_and (bit_xor w 3) e / 2 ^ 20 ≡ source_2 (ins w))
    × (bit_and (bit_xor w 3) e / 2 ^ 20 < 32)

abbrev Pair : Ins → ℕ → ℕ → Type 0
Pair i x y = (source_1 i ≡ x) × (source_2 i ≡ y)

all_ones : (n : ℕ) → bit_and (n % 2 ^ 5) 31 ≡ n % 2 ^ 5
all_ones n = and_mask (n % 2 ^ 5) 5 ∙ omega arith

none : (w : ℕ) → Pair (ins w) 0 0 → Reads w 0
none w e clear_bits = rw (and_zero_r (bit_xor w 3), e.0, e.1) (refl, refl, omega arith)

one : (w seven : ℕ) → w < 2 ^ 32 → seven < 128 →
    (w % 2 ^ 2 ≡ 3 → bit_and (field w 25 7) seven ≡ 0 → Pair (ins w) (field w 15 5) 0) →
    Reads w (entry seven 0 31 0 3)
one w seven h h7 reads clear_bits =
    let known = clear w seven 0 31 0 h h7 (omega arith) (omega arith) (omega arith) clear_bits in
    let pair = reads known.whole known.seven_is in (
      known.first_is ∙ all_ones (w / 2 ^ 15) ∙ sym pair.0,
      known.second_is ∙ and_zero_r (field w 20 5) ∙ sym pair.1,
      omega (arith, known.second_is, and_zero_r (field w 20 5)),
    )

two : (w seven written : ℕ) → w < 2 ^ 32 → seven < 128 → written < 32
    → (w % 2 ^ 2 ≡ 3 → bit_and (field w 25 7) seven ≡ 0 → bit_and (w / 2 ^ 7 % 2 ^ 8) written ≡ 0 →
    Pair (ins w) (field w 15 5) (field w 20 5)) → Reads w (entry seven 31 31 written 3)
two w seven written h h7 hd reads clear_bits =
    let known = clear w seven 31 31 written h h7 (omega arith) (omega arith) hd clear_bits in
    let pair = reads known.whole known.seven_is known.written_is in (
      known.first_is ∙ all_ones (w / 2 ^ 15) ∙ sym pair.0,
      known.second_is ∙ all_ones (w / 2 ^ 20) ∙ sym pair.1,
      omega (arith, known.second_is, all_ones (w / 2 ^ 20)),
    )

-- a word whose two lowest bits aren't both set is no instruction
three_or_not : (r : ℕ) → r < 4 → (r ≡ 3) ⊎ (r ≢ 3)
three_or_not zero h = inr (λ e. absurd (omega (arith, e)))
three_or_not (suc zero) h = inr (λ e. absurd (omega (arith, e)))
three_or_not (suc (suc zero)) h = inr (λ e. absurd (omega (arith, e)))
three_or_not (suc (suc (suc zero))) h = inl refl
three_or_not (suc (suc (suc (suc r)))) h = absurd (omega arith)

no_code : (w k : ℕ) → k % 4 ≡ 3 → w % 2 ^ 2 ≢ 3 → field w 0 7 ≢ k
no_code w k h other e = other (omega (arith, h, e))

short : (w : ℕ) → w % 2 ^ 2 ≢ 3 → ins w ≡ Illegal w
short w h =
    ins-none w (no_code w 0x37 refl h) (no_code w 0x17 refl h) (no_code w 0x6f refl h)
    (no_code w 0x67 refl h) (no_code w 0x63 refl h) (no_code w 0x03 refl h)
    (no_code w 0x23 refl h) (no_code w 0x13 refl h) (no_code w 0x33 refl h) (no_code w 0x0f refl h)
    (no_code w 0x73 refl h) (no_code w 0x0b refl h)

reads_none : (w : ℕ) → (w % 2 ^ 2 ≡ 3 → Pair (ins w) 0 0) → Reads w 0
reads_none w h =
    elim (three_or_not (w % 2 ^ 2) (mod_below w (2 ^ 2) (pow_pos 2))) [
      | inl whole ↦ none w (h whole)
      | inr other ↦ none w (rw (short w other) (refl, refl))
    ]

code_is : (w op : ℕ) → field w 2 5 ≡ op → w % 2 ^ 2 ≡ 3 → field w 0 7 ≡ op * 4 + 3
code_is w op h whole = omega (arith, h, whole)

two_cases : (n : ℕ) → n < 2 → (n ≡ 0) ⊎ (n ≡ 1)
two_cases zero h = inl refl
two_cases (suc zero) h = inr refl
two_cases (suc (suc n)) h = absurd (omega arith)

f7_zero : (w : ℕ) → bit_and (field w 25 7) 127 ≡ 0 → field w 25 7 ≡ 0
f7_zero w h =
    let m : bit_and (field w 25 7) 127 ≡ field w 25 7 % 2 ^ 7 = and_mask (field w 25 7) 7 in
    omega (arith, h, m)

rd_zero : (w : ℕ) → bit_and (w / 2 ^ 7 % 2 ^ 8) 31 ≡ 0 → field w 7 5 ≡ 0
rd_zero w h =
    let m : bit_and (w / 2 ^ 7 % 2 ^ 8) 31 ≡ w / 2 ^ 7 % 2 ^ 8 % 2 ^ 5 =
    and_mask (w / 2 ^ 7 % 2 ^ 8) 5 in omega (arith, h, m)

-- the bits of funct7 but one
f7_pair : (w : ℕ) → w < 2 ^ 32 → bit_and (field w 25 7) 126 ≡ 0 →
    (field w 25 7 ≡ 0) ⊎ (field w 25 7 ≡ 1)
f7_pair w h z =
    let split : bit_and (field w 25 7) 126
    ≡ bit_and (field w 25 7 / 2 ^ 1) 63 * 2 ^ 1 + bit_and (field w 25 7 % 2 ^ 1) 0 =
    and_at 1 (field w 25 7) 63 0 (omega arith) in
    let m : bit_and (field w 25 7 / 2 ^ 1) 63 ≡ field w 25 7 / 2 ^ 1 % 2 ^ 6 =
    and_mask (field w 25 7 / 2 ^ 1) 6 in
    let small : field w 25 7 < 2 = omega (arith, z, split, m) in
    two_cases (field w 25 7) small

f7_right : (w : ℕ) → w < 2 ^ 32 → bit_and (field w 25 7) 95 ≡ 0 →
    (field w 25 7 ≡ 0) ⊎ (field w 25 7 ≡ 0x20)
f7_right w h z =
    let split : bit_and (field w 25 7) 95
    ≡ bit_and (field w 25 7 / 2 ^ 5) 2 * 2 ^ 5 + bit_and (field w 25 7 % 2 ^ 5) 31 =
    and_at 5 (field w 25 7) 2 31 (omega arith) in
    let low : bit_and (field w 25 7 % 2 ^ 5) 31 ≡ field w 25 7 % 2 ^ 5 % 2 ^ 5 =
    and_mask (field w 25 7 % 2 ^ 5) 5 in
    let high : bit_and (field w 25 7 / 2 ^ 5) 2
    ≡ bit_and (field w 25 7 / 2 ^ 5 / 2 ^ 1) 1 * 2 ^ 1 + bit_and (field w 25 7 / 2 ^ 5 % 2 ^ 1) 0 =
    and_at 1 (field w 25 7 / 2 ^ 5) 1 0 (omega arith) in
    let m : bit_and (field w 25 7 / 2 ^ 5 / 2 ^ 1) 1 ≡ field w 25 7 / 2 ^ 5 / 2 ^ 1 % 2 ^ 1 =
    and_mask (field w 25 7 / 2 ^ 5 / 2 ^ 1) 1 in
    let small : field w 25 7 / 2 ^ 5 < 2 = omega (arith, z, split, high, m) in
    elim (two_cases (field w 25 7 / 2 ^ 5) small) [
      | inl a ↦ inl (omega (arith, z, split, low, a))
      | inr a ↦ inr (omega (arith, z, split, low, a))
    ]

reads_load : (w f : ℕ) → w < 2 ^ 32 → f < 8 → field w 2 5 ≡ 0 → field w 12 3 ≡ f →
    Reads w (get_or FIELDS (0 * 8 + f) 0)
unfolding load_rows
reads_load w zero h hf ho e =
    one w 0 h (omega arith)
    (λ whole seven. let c = code_is w 0 ho whole in rw (ins-load w c) (simp (c, e) (refl, refl)))
reads_load w (suc zero) h hf ho e =
    one w 0 h (omega arith)
    (λ whole seven. let c = code_is w 0 ho whole in rw (ins-load w c) (simp (c, e) (refl, refl)))
reads_load w (suc (suc zero)) h hf ho e =
    one w 0 h (omega arith)
    (λ whole seven. let c = code_is w 0 ho whole in rw (ins-load w c) (simp (c, e) (refl, refl)))
reads_load w (suc (suc (suc zero))) h hf ho e =
    reads_none w
    (λ whole. let c = code_is w 0 ho whole in rw (ins-load w c) (simp (c, e) (refl, refl)))
reads_load w (suc (suc (suc (suc zero)))) h hf ho e =
    one w 0 h (omega arith)
    (λ whole seven. let c = code_is w 0 ho whole in rw (ins-load w c) (simp (c, e) (refl, refl)))
reads_load w (suc (suc (suc (suc (suc zero))))) h hf ho e =
    one w 0 h (omega arith)
    (λ whole seven. let c = code_is w 0 ho whole in rw (ins-load w c) (simp (c, e) (refl, refl)))
reads_load w (suc (suc (suc (suc (suc (suc zero)))))) h hf ho e =
    reads_none w
    (λ whole. let c = code_is w 0 ho whole in rw (ins-load w c) (simp (c, e) (refl, refl)))
reads_load w (suc (suc (suc (suc (suc (suc (suc zero))))))) h hf ho e =
    reads_none w
    (λ whole. let c = code_is w 0 ho whole in rw (ins-load w c) (simp (c, e) (refl, refl)))
reads_load w (suc (suc (suc (suc (suc (suc (suc (suc f)))))))) h hf ho e =
    absurd (omega (arith, hf))

reads_imm : (w f : ℕ) → w < 2 ^ 32 → f < 8 → field w 2 5 ≡ 4 → field w 12 3 ≡ f →
    Reads w (get_or FIELDS (4 * 8 + f) 0)
unfolding imm_rows
reads_imm w zero h hf ho e =
    one w 0 h (omega arith)
    (λ whole seven. let c = code_is w 4 ho whole in rw (ins-imm w c) (simp (c, e) (refl, refl)))
reads_imm w (suc zero) h hf ho e =
    one w 127 h (omega arith) (λ whole seven. let c = code_is w 4 ho whole in
    let z = f7_zero w seven in rw (ins-imm w c) (simp (c, e, z) (refl, refl)))
reads_imm w (suc (suc zero)) h hf ho e =
    one w 0 h (omega arith)
    (λ whole seven. let c = code_is w 4 ho whole in rw (ins-imm w c) (simp (c, e) (refl, refl)))
reads_imm w (suc (suc (suc zero))) h hf ho e =
    one w 0 h (omega arith)
    (λ whole seven. let c = code_is w 4 ho whole in rw (ins-imm w c) (simp (c, e) (refl, refl)))
reads_imm w (suc (suc (suc (suc zero)))) h hf ho e =
    one w 0 h (omega arith)
    (λ whole seven. let c = code_is w 4 ho whole in rw (ins-imm w c) (simp (c, e) (refl, refl)))
reads_imm w (suc (suc (suc (suc (suc zero))))) h hf ho e =
    one w 95 h (omega arith)
    (λ whole seven. let c = code_is w 4 ho whole in elim (f7_right w h seven) [
      | inl z ↦ rw (ins-imm w c) (simp (c, e, z) (refl, refl))
      | inr z ↦ rw (ins-imm w c) (simp (c, e, z) (refl, refl))
    ])
reads_imm w (suc (suc (suc (suc (suc (suc zero)))))) h hf ho e =
    one w 0 h (omega arith)
    (λ whole seven. let c = code_is w 4 ho whole in rw (ins-imm w c) (simp (c, e) (refl, refl)))
reads_imm w (suc (suc (suc (suc (suc (suc (suc zero))))))) h hf ho e =
    one w 0 h (omega arith)
    (λ whole seven. let c = code_is w 4 ho whole in rw (ins-imm w c) (simp (c, e) (refl, refl)))
reads_imm w (suc (suc (suc (suc (suc (suc (suc (suc f)))))))) h hf ho e = absurd (omega (arith, hf))

reads_store : (w f : ℕ) → w < 2 ^ 32 → f < 8 → field w 2 5 ≡ 8 → field w 12 3 ≡ f →
    Reads w (get_or FIELDS (8 * 8 + f) 0)
unfolding store_rows
reads_store w zero h hf ho e =
    two w 0 0 h (omega arith) (omega arith) (λ whole seven written. let c = code_is w 8 ho whole in
    rw (ins-store w c) (simp (c, e) (refl, refl)))
reads_store w (suc zero) h hf ho e =
    two w 0 0 h (omega arith) (omega arith) (λ whole seven written. let c = code_is w 8 ho whole in
    rw (ins-store w c) (simp (c, e) (refl, refl)))
reads_store w (suc (suc zero)) h hf ho e =
    two w 0 0 h (omega arith) (omega arith) (λ whole seven written. let c = code_is w 8 ho whole in
    rw (ins-store w c) (simp (c, e) (refl, refl)))
reads_store w (suc (suc (suc zero))) h hf ho e =
    reads_none w
    (λ whole. let c = code_is w 8 ho whole in rw (ins-store w c) (simp (c, e) (refl, refl)))
reads_store w (suc (suc (suc (suc zero)))) h hf ho e =
    reads_none w
    (λ whole. let c = code_is w 8 ho whole in rw (ins-store w c) (simp (c, e) (refl, refl)))
reads_store w (suc (suc (suc (suc (suc zero))))) h hf ho e =
    reads_none w
    (λ whole. let c = code_is w 8 ho whole in rw (ins-store w c) (simp (c, e) (refl, refl)))
reads_store w (suc (suc (suc (suc (suc (suc zero)))))) h hf ho e =
    reads_none w
    (λ whole. let c = code_is w 8 ho whole in rw (ins-store w c) (simp (c, e) (refl, refl)))
reads_store w (suc (suc (suc (suc (suc (suc (suc zero))))))) h hf ho e =
    reads_none w
    (λ whole. let c = code_is w 8 ho whole in rw (ins-store w c) (simp (c, e) (refl, refl)))
reads_store w (suc (suc (suc (suc (suc (suc (suc (suc f)))))))) h hf ho e =
    absurd (omega (arith, hf))

reads_op : (w f : ℕ) → w < 2 ^ 32 → f < 8 → field w 2 5 ≡ 12 → field w 12 3 ≡ f →
    Reads w (get_or FIELDS (12 * 8 + f) 0)
unfolding op_rows
reads_op w zero h hf ho e =
    two w 126 0 h (omega arith) (omega arith)
    (λ whole seven written. let c = code_is w 12 ho whole in elim (f7_pair w h seven) [
      | inl z ↦ rw (ins-op w c) (simp (c, e, z) (refl, refl))
      | inr z ↦ rw (ins-op w c) (simp (c, e, z) (refl, refl))
    ])
reads_op w (suc zero) h hf ho e =
    two w 126 0 h (omega arith) (omega arith)
    (λ whole seven written. let c = code_is w 12 ho whole in elim (f7_pair w h seven) [
      | inl z ↦ rw (ins-op w c) (simp (c, e, z) (refl, refl))
      | inr z ↦ rw (ins-op w c) (simp (c, e, z) (refl, refl))
    ])
reads_op w (suc (suc zero)) h hf ho e =
    two w 126 0 h (omega arith) (omega arith)
    (λ whole seven written. let c = code_is w 12 ho whole in elim (f7_pair w h seven) [
      | inl z ↦ rw (ins-op w c) (simp (c, e, z) (refl, refl))
      | inr z ↦ rw (ins-op w c) (simp (c, e, z) (refl, refl))
    ])
reads_op w (suc (suc (suc zero))) h hf ho e =
    two w 126 0 h (omega arith) (omega arith)
    (λ whole seven written. let c = code_is w 12 ho whole in elim (f7_pair w h seven) [
      | inl z ↦ rw (ins-op w c) (simp (c, e, z) (refl, refl))
      | inr z ↦ rw (ins-op w c) (simp (c, e, z) (refl, refl))
    ])
reads_op w (suc (suc (suc (suc zero)))) h hf ho e =
    two w 126 0 h (omega arith) (omega arith)
    (λ whole seven written. let c = code_is w 12 ho whole in elim (f7_pair w h seven) [
      | inl z ↦ rw (ins-op w c) (simp (c, e, z) (refl, refl))
      | inr z ↦ rw (ins-op w c) (simp (c, e, z) (refl, refl))
    ])
reads_op w (suc (suc (suc (suc (suc zero))))) h hf ho e =
    two w 126 0 h (omega arith) (omega arith)
    (λ whole seven written. let c = code_is w 12 ho whole in elim (f7_pair w h seven) [
      | inl z ↦ rw (ins-op w c) (simp (c, e, z) (refl, refl))
      | inr z ↦ rw (ins-op w c) (simp (c, e, z) (refl, refl))
    ])
reads_op w (suc (suc (suc (suc (suc (suc zero)))))) h hf ho e =
    two w 126 0 h (omega arith) (omega arith)
    (λ whole seven written. let c = code_is w 12 ho whole in elim (f7_pair w h seven) [
      | inl z ↦ rw (ins-op w c) (simp (c, e, z) (refl, refl))
      | inr z ↦ rw (ins-op w c) (simp (c, e, z) (refl, refl))
    ])
reads_op w (suc (suc (suc (suc (suc (suc (suc zero))))))) h hf ho e =
    two w 126 0 h (omega arith) (omega arith)
    (λ whole seven written. let c = code_is w 12 ho whole in elim (f7_pair w h seven) [
      | inl z ↦ rw (ins-op w c) (simp (c, e, z) (refl, refl))
      | inr z ↦ rw (ins-op w c) (simp (c, e, z) (refl, refl))
    ])
reads_op w (suc (suc (suc (suc (suc (suc (suc (suc f)))))))) h hf ho e = absurd (omega (arith, hf))

reads_branch : (w f : ℕ) → w < 2 ^ 32 → f < 8 → field w 2 5 ≡ 24 → field w 12 3 ≡ f →
    Reads w (get_or FIELDS (24 * 8 + f) 0)
unfolding branch_rows
reads_branch w zero h hf ho e =
    two w 0 0 h (omega arith) (omega arith) (λ whole seven written. let c = code_is w 24 ho whole in
    rw (ins-branch w c) (simp (c, e) (refl, refl)))
reads_branch w (suc zero) h hf ho e =
    two w 0 0 h (omega arith) (omega arith) (λ whole seven written. let c = code_is w 24 ho whole in
    rw (ins-branch w c) (simp (c, e) (refl, refl)))
reads_branch w (suc (suc zero)) h hf ho e =
    reads_none w
    (λ whole. let c = code_is w 24 ho whole in rw (ins-branch w c) (simp (c, e) (refl, refl)))
reads_branch w (suc (suc (suc zero))) h hf ho e =
    reads_none w
    (λ whole. let c = code_is w 24 ho whole in rw (ins-branch w c) (simp (c, e) (refl, refl)))
reads_branch w (suc (suc (suc (suc zero)))) h hf ho e =
    two w 0 0 h (omega arith) (omega arith) (λ whole seven written. let c = code_is w 24 ho whole in
    rw (ins-branch w c) (simp (c, e) (refl, refl)))
reads_branch w (suc (suc (suc (suc (suc zero))))) h hf ho e =
    two w 0 0 h (omega arith) (omega arith) (λ whole seven written. let c = code_is w 24 ho whole in
    rw (ins-branch w c) (simp (c, e) (refl, refl)))
reads_branch w (suc (suc (suc (suc (suc (suc zero)))))) h hf ho e =
    two w 0 0 h (omega arith) (omega arith) (λ whole seven written. let c = code_is w 24 ho whole in
    rw (ins-branch w c) (simp (c, e) (refl, refl)))
reads_branch w (suc (suc (suc (suc (suc (suc (suc zero))))))) h hf ho e =
    two w 0 0 h (omega arith) (omega arith) (λ whole seven written. let c = code_is w 24 ho whole in
    rw (ins-branch w c) (simp (c, e) (refl, refl)))
reads_branch w (suc (suc (suc (suc (suc (suc (suc (suc f)))))))) h hf ho e =
    absurd (omega (arith, hf))

reads_jalr : (w f : ℕ) → w < 2 ^ 32 → f < 8 → field w 2 5 ≡ 25 → field w 12 3 ≡ f →
    Reads w (get_or FIELDS (25 * 8 + f) 0)
unfolding jalr_rows
reads_jalr w zero h hf ho e =
    one w 0 h (omega arith)
    (λ whole seven. let c = code_is w 25 ho whole in rw (ins-jalr w c) (simp (c, e) (refl, refl)))
reads_jalr w (suc zero) h hf ho e =
    reads_none w
    (λ whole. let c = code_is w 25 ho whole in rw (ins-jalr w c) (simp (c, e) (refl, refl)))
reads_jalr w (suc (suc zero)) h hf ho e =
    reads_none w
    (λ whole. let c = code_is w 25 ho whole in rw (ins-jalr w c) (simp (c, e) (refl, refl)))
reads_jalr w (suc (suc (suc zero))) h hf ho e =
    reads_none w
    (λ whole. let c = code_is w 25 ho whole in rw (ins-jalr w c) (simp (c, e) (refl, refl)))
reads_jalr w (suc (suc (suc (suc zero)))) h hf ho e =
    reads_none w
    (λ whole. let c = code_is w 25 ho whole in rw (ins-jalr w c) (simp (c, e) (refl, refl)))
reads_jalr w (suc (suc (suc (suc (suc zero))))) h hf ho e =
    reads_none w
    (λ whole. let c = code_is w 25 ho whole in rw (ins-jalr w c) (simp (c, e) (refl, refl)))
reads_jalr w (suc (suc (suc (suc (suc (suc zero)))))) h hf ho e =
    reads_none w
    (λ whole. let c = code_is w 25 ho whole in rw (ins-jalr w c) (simp (c, e) (refl, refl)))
reads_jalr w (suc (suc (suc (suc (suc (suc (suc zero))))))) h hf ho e =
    reads_none w
    (λ whole. let c = code_is w 25 ho whole in rw (ins-jalr w c) (simp (c, e) (refl, refl)))
reads_jalr w (suc (suc (suc (suc (suc (suc (suc (suc f)))))))) h hf ho e =
    absurd (omega (arith, hf))

no_word : (w k : ℕ) → k < 2 ^ 32 → field k 12 3 ≡ 0 → 0 < field w 12 3 → (field w 0 32 == k) ≡ false
no_word w k small none h = let no : field w 0 32 ≢ k = omega arith in grind (arith, nat_tests)

system_zero : (w : ℕ) → field w 0 7 ≡ 28 * 4 + 3 → field w 12 3 ≡ 0 → (a b d : Bool) →
    (field w 0 32 == 0x00000073) ≡ a → (field w 0 32 == 0x00100073) ≡ b →
    (field w 0 32 == 0x30200073) ≡ d → Pair (read_by system_rows w) 0 0
unfolding system_rows
system_zero w c e true b d ea eb ed = simp (c, e, ea) (refl, refl)
system_zero w c e false true d ea eb ed = simp (c, e, ea, eb) (refl, refl)
system_zero w c e false false true ea eb ed = simp (c, e, ea, eb, ed) (refl, refl)
system_zero w c e false false false ea eb ed = simp (c, e, ea, eb, ed) (refl, refl)

reads_system : (w f : ℕ) → w < 2 ^ 32 → f < 8 → field w 2 5 ≡ 28 → field w 12 3 ≡ f →
    Reads w (get_or FIELDS (28 * 8 + f) 0)
unfolding system_rows
reads_system w zero h hf ho e =
    reads_none w (λ whole. let c = code_is w 28 ho whole in
    rw (ins-system w c) (system_zero w c e (field w 0 32 == 0x00000073) (field w 0 32 == 0x00100073)
    (field w 0 32 == 0x30200073) refl refl refl))
reads_system w (suc zero) h hf ho e =
    one w 0 h (omega arith) (λ whole seven. let c = code_is w 28 ho whole in
    let some : 0 < field w 12 3 = omega (arith, e) in rw (ins-system w c) (simp (
      no_word w 0x00000073 (omega arith) (omega arith) some,
      no_word w 0x00100073 (omega arith) (omega arith) some,
      no_word w 0x30200073 (omega arith) (omega arith) some,
      c,
      e,
    ) (refl, refl)))
reads_system w (suc (suc zero)) h hf ho e =
    one w 0 h (omega arith) (λ whole seven. let c = code_is w 28 ho whole in
    let some : 0 < field w 12 3 = omega (arith, e) in rw (ins-system w c) (simp (
      no_word w 0x00000073 (omega arith) (omega arith) some,
      no_word w 0x00100073 (omega arith) (omega arith) some,
      no_word w 0x30200073 (omega arith) (omega arith) some,
      c,
      e,
    ) (refl, refl)))
reads_system w (suc (suc (suc zero))) h hf ho e =
    one w 0 h (omega arith) (λ whole seven. let c = code_is w 28 ho whole in
    let some : 0 < field w 12 3 = omega (arith, e) in rw (ins-system w c) (simp (
      no_word w 0x00000073 (omega arith) (omega arith) some,
      no_word w 0x00100073 (omega arith) (omega arith) some,
      no_word w 0x30200073 (omega arith) (omega arith) some,
      c,
      e,
    ) (refl, refl)))
reads_system w (suc (suc (suc (suc zero)))) h hf ho e =
    reads_none w (λ whole. let c = code_is w 28 ho whole in
    let some : 0 < field w 12 3 = omega (arith, e) in rw (ins-system w c) (simp (
      no_word w 0x00000073 (omega arith) (omega arith) some,
      no_word w 0x00100073 (omega arith) (omega arith) some,
      no_word w 0x30200073 (omega arith) (omega arith) some,
      c,
      e,
    ) (refl, refl)))
reads_system w (suc (suc (suc (suc (suc zero))))) h hf ho e =
    reads_none w (λ whole. let c = code_is w 28 ho whole in
    let some : 0 < field w 12 3 = omega (arith, e) in rw (ins-system w c) (simp (
      no_word w 0x00000073 (omega arith) (omega arith) some,
      no_word w 0x00100073 (omega arith) (omega arith) some,
      no_word w 0x30200073 (omega arith) (omega arith) some,
      c,
      e,
    ) (refl, refl)))
reads_system w (suc (suc (suc (suc (suc (suc zero)))))) h hf ho e =
    reads_none w (λ whole. let c = code_is w 28 ho whole in
    let some : 0 < field w 12 3 = omega (arith, e) in rw (ins-system w c) (simp (
      no_word w 0x00000073 (omega arith) (omega arith) some,
      no_word w 0x00100073 (omega arith) (omega arith) some,
      no_word w 0x30200073 (omega arith) (omega arith) some,
      c,
      e,
    ) (refl, refl)))
reads_system w (suc (suc (suc (suc (suc (suc (suc zero))))))) h hf ho e =
    reads_none w (λ whole. let c = code_is w 28 ho whole in
    let some : 0 < field w 12 3 = omega (arith, e) in rw (ins-system w c) (simp (
      no_word w 0x00000073 (omega arith) (omega arith) some,
      no_word w 0x00100073 (omega arith) (omega arith) some,
      no_word w 0x30200073 (omega arith) (omega arith) some,
      c,
      e,
    ) (refl, refl)))
reads_system w (suc (suc (suc (suc (suc (suc (suc (suc f)))))))) h hf ho e =
    absurd (omega (arith, hf))

get_row_reads : (w f : ℕ) → field w 0 7 ≡ 2 * 4 + 3 → (f ≡ 0) ⊎ (f ≡ 1) → field w 12 3 ≡ f →
    (a b d : Bool) → (field w 15 5 == 0) ≡ a → (field w 20 5 == 0) ≡ b → (field w 25 7 == 0) ≡ d →
    Pair (read_by time_rows w) 0 0
unfolding time_rows
get_row_reads w f c (inl k) e false b d ea eb ed = simp (c, e, k, ea) (refl, refl)
get_row_reads w f c (inl k) e true false d ea eb ed = simp (c, e, k, ea, eb) (refl, refl)
get_row_reads w f c (inl k) e true true false ea eb ed = simp (c, e, k, ea, eb, ed) (refl, refl)
get_row_reads w f c (inl k) e true true true ea eb ed = simp (c, e, k, ea, eb, ed) (refl, refl)
get_row_reads w f c (inr k) e false b d ea eb ed = simp (c, e, k, ea) (refl, refl)
get_row_reads w f c (inr k) e true false d ea eb ed = simp (c, e, k, ea, eb) (refl, refl)
get_row_reads w f c (inr k) e true true false ea eb ed = simp (c, e, k, ea, eb, ed) (refl, refl)
get_row_reads w f c (inr k) e true true true ea eb ed = simp (c, e, k, ea, eb, ed) (refl, refl)

de_reads : (w : ℕ) → field w 0 7 ≡ 2 * 4 + 3 → field w 12 3 ≡ 5 → (r a b d : Bool) →
    (field w 7 5 == 0) ≡ r → (field w 15 5 == 0) ≡ a → (field w 20 5 == 0) ≡ b →
    (field w 25 7 == 0) ≡ d → Pair (read_by time_rows w) 0 0
unfolding time_rows
de_reads w c e false a b d er ea eb ed = simp (c, e, er) (refl, refl)
de_reads w c e true false b d er ea eb ed = simp (c, e, er, ea) (refl, refl)
de_reads w c e true true false d er ea eb ed = simp (c, e, er, ea, eb) (refl, refl)
de_reads w c e true true true false er ea eb ed = simp (c, e, er, ea, eb, ed) (refl, refl)
de_reads w c e true true true true er ea eb ed = simp (c, e, er, ea, eb, ed) (refl, refl)

reads_time : (w f : ℕ) → w < 2 ^ 32 → f < 8 → field w 2 5 ≡ 2 → field w 12 3 ≡ f →
    Reads w (get_or FIELDS (2 * 8 + f) 0)
unfolding time_rows
reads_time w zero h hf ho e =
    reads_none w (λ whole. let c = code_is w 2 ho whole in rw (ins-time w c) (get_row_reads w 0 c
    (inl refl) e (field w 15 5 == 0) (field w 20 5 == 0) (field w 25 7 == 0) refl refl refl))
reads_time w (suc zero) h hf ho e =
    reads_none w (λ whole. let c = code_is w 2 ho whole in rw (ins-time w c) (get_row_reads w 1 c
    (inr refl) e (field w 15 5 == 0) (field w 20 5 == 0) (field w 25 7 == 0) refl refl refl))
reads_time w (suc (suc zero)) h hf ho e =
    two w 127 31 h (omega arith) (omega arith)
    (λ whole seven written. let c = code_is w 2 ho whole in
    let z = f7_zero w seven in
    let d = rd_zero w written in rw (ins-time w c) (simp (c, e, z, d) (refl, refl)))
reads_time w (suc (suc (suc zero))) h hf ho e =
    two w 127 31 h (omega arith) (omega arith)
    (λ whole seven written. let c = code_is w 2 ho whole in
    let z = f7_zero w seven in
    let d = rd_zero w written in rw (ins-time w c) (simp (c, e, z, d) (refl, refl)))
reads_time w (suc (suc (suc (suc zero)))) h hf ho e =
    two w 127 31 h (omega arith) (omega arith)
    (λ whole seven written. let c = code_is w 2 ho whole in
    let z = f7_zero w seven in
    let d = rd_zero w written in rw (ins-time w c) (simp (c, e, z, d) (refl, refl)))
reads_time w (suc (suc (suc (suc (suc zero))))) h hf ho e =
    reads_none w
    (λ whole. let c = code_is w 2 ho whole in rw (ins-time w c) (de_reads w c e (field w 7 5 == 0)
    (field w 15 5 == 0) (field w 20 5 == 0) (field w 25 7 == 0) refl refl refl refl))
reads_time w (suc (suc (suc (suc (suc (suc zero)))))) h hf ho e =
    reads_none w
    (λ whole. let c = code_is w 2 ho whole in rw (ins-time w c) (simp (c, e) (refl, refl)))
reads_time w (suc (suc (suc (suc (suc (suc (suc zero))))))) h hf ho e =
    reads_none w
    (λ whole. let c = code_is w 2 ho whole in rw (ins-time w c) (simp (c, e) (refl, refl)))
reads_time w (suc (suc (suc (suc (suc (suc (suc (suc f)))))))) h hf ho e =
    absurd (omega (arith, hf))

-- whether some instruction of the opcode with these bits 2 to 6 reads a register
abbrev reads_some : ℕ → Bool
reads_some n =
    eqb n 0
    || (eqb n 2 || (eqb n 4 || (eqb n 8 || (eqb n 12 || (eqb n 24 || (eqb n 25 || (eqb n 28)))))))

-- whether each of the first n entries is 0 unless its opcode reads a register
abbrev are_none : ℕ → Bool
are_none zero = true
are_none (suc n) = (reads_some (n / 8) || eqb (get_or FIELDS n 0) 0) && are_none n

and_l : (a b : Bool) → T (a && b) → T a
and_l true b both = tt
and_l false b both = both

and_r : (a b : Bool) → T (a && b) → T b
and_r true b both = both
and_r false b both = absurd both

or_r : (a b : Bool) → a ≡ false → T (a || b) → T b
or_r true b e either = cc
or_r false b e either = either

none_at : (n k : ℕ) → T (are_none n) → k < n → reads_some (k / 8) ≡ false → get_or FIELDS k 0 ≡ 0
none_at zero k tested below other = absurd (omega arith)
none_at (suc n) k tested below other =
    elim (eq-zero-or-pos (n - k)) [
      | inl z ↦
          let e : k ≡ n = omega arith in
          let here = and_l (reads_some (n / 8) || eqb (get_or FIELDS n 0) 0) (are_none n) tested in
          rw e (eqb→eq (get_or FIELDS n 0) 0 (or_r (reads_some (n / 8)) (eqb (get_or FIELDS n 0) 0)
          (ap (λ m. reads_some (m / 8)) (sym e) ∙ other) here))
      | inr g ↦
          none_at n k (and_r (reads_some (n / 8) || eqb (get_or FIELDS n 0) 0) (are_none n) tested)
          (omega arith) other
    ]

none_of : (op f : ℕ) → op < 32 → f < 8 → reads_some op ≡ false → get_or FIELDS (op * 8 + f) 0 ≡ 0
none_of op f ho hf other =
    let e : (op * 8 + f) / 8 ≡ op = omega arith in
    none_at 256 (op * 8 + f) tt (omega arith) (ap (λ m. reads_some m) e ∙ other)

fence_none : (w : ℕ) → field w 0 7 ≡ 3 * 4 + 3 → (a b : Bool) → (field w 12 3 == 0) ≡ a →
    (field w 12 3 == 1) ≡ b → Pair (read_by fence_rows w) 0 0
unfolding fence_rows
fence_none w c true b ea eb = simp (c, ea) (refl, refl)
fence_none w c false true ea eb = simp (c, ea, eb) (refl, refl)
fence_none w c false false ea eb = simp (c, ea, eb) (refl, refl)

-- a word of another opcode, or of no opcode
reads_other : (w : ℕ) → field w 2 5 ≢ 0 → field w 2 5 ≢ 2 → field w 2 5 ≢ 4 → field w 2 5 ≢ 8 →
    field w 2 5 ≢ 12 → field w 2 5 ≢ 24 → field w 2 5 ≢ 25 → field w 2 5 ≢ 28 → Reads w 0
unfolding lui_rows auipc_rows jal_rows
reads_other w n0 n2 n4 n8 n12 n24 n25 n28 = reads_none w (λ whole.
    elim (eqb_tells (field w 2 5) 3) [
      | inl p ↦
          let c = code_is w 3 p.1 whole in
          rw (ins-fence w c) (fence_none w c (field w 12 3 == 0) (field w 12 3 == 1) refl refl)
      | inr q3 ↦
          elim (eqb_tells (field w 2 5) 5) [
            | inl p ↦ let c = code_is w 5 p.1 whole in rw (ins-auipc w c) (simp c (refl, refl))
            | inr q5 ↦
                elim (eqb_tells (field w 2 5) 13) [
                  | inl p ↦ let c = code_is w 13 p.1 whole in rw (ins-lui w c) (simp c (refl, refl))
                  | inr q13 ↦
                      elim (eqb_tells (field w 2 5) 27) [
                        | inl p ↦
                            let c = code_is w 27 p.1 whole in rw (ins-jal w c) (simp c (refl, refl))
                        | inr q27 ↦
                            rw (ins-none w
                            (λ e. q13.1 (omega (arith, e)))
                            (λ e. q5.1 (omega (arith, e)))
                            (λ e. q27.1 (omega (arith, e)))
                            (λ e. n25 (omega (arith, e)))
                            (λ e. n24 (omega (arith, e)))
                            (λ e. n0 (omega (arith, e)))
                            (λ e. n8 (omega (arith, e)))
                            (λ e. n4 (omega (arith, e)))
                            (λ e. n12 (omega (arith, e)))
                            (λ e. q3.1 (omega (arith, e)))
                            (λ e. n28 (omega (arith, e)))
                            (λ e. n2 (omega (arith, e)))) (refl, refl)
                      ]
                ]
          ]
    ])

-- the table's entry gives the registers that the word's instruction reads
pub reads : (w : ℕ) → w < 2 ^ 32 → Reads w (get_or FIELDS (field w 2 5 * 8 + field w 12 3) 0)
reads w h =
    go (field w 2 5) (field w 12 3) refl refl (mod_below (w / 2 ^ 2) (2 ^ 5) (pow_pos 5))
    (mod_below (w / 2 ^ 12) (2 ^ 3) (pow_pos 3))
  where
    go : (op f : ℕ) → field w 2 5 ≡ op → field w 12 3 ≡ f → op < 32 → f < 8 →
        Reads w (get_or FIELDS (op * 8 + f) 0)
    go op f ho hf bo bf =
        elim (eqb_tells op 0) [
          | inl p ↦ rw p.1 (reads_load w f h bf (ho ∙ p.1) hf)
          | inr q0 ↦
              elim (eqb_tells op 2) [
                | inl p ↦ rw p.1 (reads_time w f h bf (ho ∙ p.1) hf)
                | inr q2 ↦
                    elim (eqb_tells op 4) [
                      | inl p ↦ rw p.1 (reads_imm w f h bf (ho ∙ p.1) hf)
                      | inr q4 ↦
                          elim (eqb_tells op 8) [
                            | inl p ↦ rw p.1 (reads_store w f h bf (ho ∙ p.1) hf)
                            | inr q8 ↦
                                elim (eqb_tells op 12) [
                                  | inl p ↦ rw p.1 (reads_op w f h bf (ho ∙ p.1) hf)
                                  | inr q12 ↦
                                      elim (eqb_tells op 24) [
                                        | inl p ↦ rw p.1 (reads_branch w f h bf (ho ∙ p.1) hf)
                                        | inr q24 ↦
                                            elim (eqb_tells op 25) [
                                              | inl p ↦ rw p.1 (reads_jalr w f h bf (ho ∙ p.1) hf)
                                              | inr q25 ↦
                                                  elim (eqb_tells op 28) [
                                                    | inl p ↦
                                                        rw p.1 (reads_system w f h bf (ho ∙ p.1) hf)
                                                    | inr q28 ↦
                                                        rw (none_of op f bo bf (rw (
                                                          q0.0,
                                                          q2.0,
                                                          q4.0,
                                                          q8.0,
                                                          q12.0,
                                                          q24.0,
                                                          q25.0,
                                                          q28.0,
                                                        ) refl)) (reads_other w (λ e.
                                                        q0.1 (sym ho ∙ e)) (λ e. q2.1 (sym ho ∙ e))
                                                        (λ e. q4.1 (sym ho ∙ e)) (λ e.
                                                        q8.1 (sym ho ∙ e)) (λ e. q12.1 (sym ho ∙ e))
                                                        (λ e. q24.1 (sym ho ∙ e)) (λ e. q25.1
                                                        (sym ho ∙ e)) (λ e. q28.1 (sym ho ∙ e)))
                                                  ]
                                            ]
                                      ]
                                ]
                          ]
                    ]
              ]
        ]

-- the same for an entry by its index, as the code has it
pub named : (w k : ℕ) → w < 2 ^ 32 → k ≡ field w 2 5 * 8 + field w 12 3 →
    bit_and (bit_and (bit_xor w 3) (get_or FIELDS k 0)) 0xfe000f83 ≡ 0 →
    (bit_and (bit_and (bit_xor w 3) (get_or FIELDS k 0) / 2 ^ 15) 31 ≡ source_1 (ins w))
    × (bit_and (bit_xor w 3) (get_or FIELDS k 0) / 2 ^ 20 ≡ source_2 (ins w))
    × (bit_and (bit_xor w 3) (get_or FIELDS k 0) / 2 ^ 20 < 32)
named w k h e clear_bits =
    let here : Reads w (get_or FIELDS k 0) = rw e (reads w h) in
    let known = here clear_bits in
    (and_mask (bit_and (bit_xor w 3) (get_or FIELDS k 0) / 2 ^ 15) 5 ∙ known.0, known.1, known.2)
