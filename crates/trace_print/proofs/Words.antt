-- The eight digits of a word, made at once.
use Rattle.std.proofs.Common.{◌≡◌, ℕ, zero, suc, ◌/◌, ◌%◌, ◌<◌, List, [], ◌∷◌, arith, refl}
use Rattle.std.specs.Str.{IsUtf8, IsAscii}
use Rattle.std.proofs.lemmas.Str.{IsUtf8-from_ascii}
use Rattle.trace_print.specs.Digits.{hex_digit, hex}

-- the eight digits of a word, each directly from the word
pub eight_digits : (w : ℕ) → hex_digit (w / 0x10000000 % 16) ∷ hex_digit (w / 0x1000000 % 16)
    ∷ hex_digit (w / 0x100000 % 16) ∷ hex_digit (w / 0x10000 % 16) ∷ hex_digit (w / 0x1000 % 16)
    ∷ hex_digit (w / 0x100 % 16) ∷ hex_digit (w / 0x10 % 16) ∷ hex_digit (w % 16) ∷ [] ≡ hex 8 w
unfolding hex
eight_digits w =
    let two : w / 0x10 / 16 ≡ w / 0x100 = omega arith in
    let three : w / 0x100 / 16 ≡ w / 0x1000 = omega arith in
    let four : w / 0x1000 / 16 ≡ w / 0x10000 = omega arith in
    let five : w / 0x10000 / 16 ≡ w / 0x100000 = omega arith in
    let six : w / 0x100000 / 16 ≡ w / 0x1000000 = omega arith in
    let seven : w / 0x1000000 / 16 ≡ w / 0x10000000 = omega arith in
    rw (two, three, four, five, six, seven) refl

ascii_nil : IsAscii []
ascii_nil i = omega arith

ascii_cons : (a : ℕ) (bs : List ℕ) → a < 128 → IsAscii bs → IsAscii (a ∷ bs)
ascii_cons a bs small rest zero = small
ascii_cons a bs small rest (suc i) = rest i

-- eight bytes below 128 are text
pub ascii_text : (a b c d e f g h : ℕ) → a < 128 → b < 128 → c < 128 → d < 128 → e < 128 → f < 128 →
    g < 128 → h < 128 → IsUtf8 (a ∷ b ∷ c ∷ d ∷ e ∷ f ∷ g ∷ h ∷ [])
ascii_text a b c d e f g h pa pb pc pd pe pf pg ph =
    let last = ascii_cons g (h ∷ []) pg (ascii_cons h [] ph ascii_nil) in
    let four = ascii_cons e (f ∷ g ∷ h ∷ []) pe (ascii_cons f (g ∷ h ∷ []) pf last) in
    let six =
    ascii_cons c (d ∷ e ∷ f ∷ g ∷ h ∷ []) pc (ascii_cons d (e ∷ f ∷ g ∷ h ∷ []) pd four) in
    IsUtf8-from_ascii _ (ascii_cons a (b ∷ c ∷ d ∷ e ∷ f ∷ g ∷ h ∷ []) pa
    (ascii_cons b (c ∷ d ∷ e ∷ f ∷ g ∷ h ∷ []) pb six))
