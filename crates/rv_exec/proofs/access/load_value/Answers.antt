-- The bytes that are loaded, with their sign.
use Rattle.std.proofs.Common.{ℕ, ◌%◌, ◌^◌, ◌<◌, ◌∙◌, ap, arith, bit_and}
use Rattle.std.proofs.lemmas.Grind.{common_steps}
use Rattle.std.proofs.lemmas.Nat.{and_mask}
use mir.Syntax.{w16, w32}
use mir.Val.{SFits, of_z}
use Rattle.rv_exec.specs.Access.{loaded_value, sign_extension}
use Rattle.rv_exec.proofs.Signs.{extended_word, half_extended}
use Rattle.rv_exec.proofs.access.load_value.Goals as goal

pub returns-in-Lb : goal.returns-in-Lb
unfolding loaded_value
returns-in-Lb c = grind (arith, common_steps)

pub returns-in-Lh : goal.returns-in-Lh
unfolding loaded_value
returns-in-Lh c =
    let n = bit_and c.bytes_from-bytes.result 65535 in
    let low = and_mask c.bytes_from-bytes.result 16 in
    let small : n < 2 ^ 16 = omega (arith, low) in
    let read : SFits w16 c.cast_signed-in-Lh.result =
    record { sfits = c.cast_signed-in-Lh.type_inv } in
    let wider : SFits w32 c.from-in-Lh.result = record { sfits = c.from-in-Lh.type_inv } in
    let word =
    extended_word w16 _ _ _ read wider c.from-in-Lh.ensures c.cast_unsigned-in-Lh.ensures in
    let bytes = low ∙ ap (λ (x : ℕ). x % 65536) c.bytes_from-bytes.ensures in
    rw c.in-Lh.is (word ∙ ap (of_z w32) c.cast_signed-in-Lh.ensures ∙ half_extended n small
    ∙ ap (sign_extension 2) bytes)
