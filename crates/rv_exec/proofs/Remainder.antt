-- The remainder of a quotient that is truncated toward 0.
use Rattle.std.proofs.Common.{◌≡◌, suc, ◌+◌, ◌*◌, ◌/◌, ◌%◌, ℤ, pos, negsuc, ◌-ℤ◌, ◌*ℤ◌, arith}
use Rattle.rv_exec.specs.Alu.{quotient}

-- the remainder, with the sign of the dividend
abbrev pub left : ℤ → ℤ → ℤ
left (pos a) (pos b) = pos (a % b)
left (pos a) (negsuc b) = pos (a % suc b)
left (negsuc a) (pos b) = pos 0 -ℤ pos (suc a % b)
left (negsuc a) (negsuc b) = pos 0 -ℤ pos (suc a % suc b)

pub left-is : (x y : ℤ) → x -ℤ y *ℤ quotient x y ≡ left x y
left-is (pos a) (pos b) = let h : a ≡ b * (a / b) + a % b = omega arith in grind (arith, h)
left-is (pos a) (negsuc b) =
    let h : a ≡ suc b * (a / suc b) + a % suc b = omega arith in grind (arith, h)
left-is (negsuc a) (pos b) =
    let h : suc a ≡ b * (suc a / b) + suc a % b = omega arith in grind (arith, h)
left-is (negsuc a) (negsuc b) =
    let h : suc a ≡ suc b * (suc a / suc b) + suc a % suc b = omega arith in grind (arith, h)
