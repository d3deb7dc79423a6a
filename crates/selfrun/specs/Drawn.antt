-- The programs of the machine's own run: each thread has 128 words; a simple generator of numbers
-- draws 124 of them. Source: this project's profile.
use Rattle.std.specs.Prelude.{ℕ, zero, suc, ◌+◌, ◌*◌, ◌/◌, ◌%◌, ◌^◌, ◌==◌, pos, negsuc}
use Rattle.std.specs.Prelude.{if◌then◌else◌, true, false, List, [], ◌∷◌, ◌++◌, map, flat_map}
use Rattle.std.specs.List.{range_with_len}
use Rattle.byteorder.specs.Endian.{little_bytes}
use Rattle.rv_decode.specs.Encoding.{encoding_of}
use Rattle.rv_decode.specs.declared.instruction.Ins.{Ins}
use Rattle.rv_decode.specs.declared.instruction.Ins.TheVariants.{Lui, OpImm, Op, Load}
use Rattle.rv_decode.specs.declared.instruction.Ins.TheVariants.{Store, Branch, Jal}
use Rattle.rv_decode.specs.declared.instruction.AluOp.TheVariants.{Add, Sub, Xor, Sltu}
use Rattle.rv_decode.specs.declared.instruction.ImmOp.TheVariants.{Addi}
use Rattle.rv_decode.specs.declared.instruction.LoadOp.TheVariants.{Lw}
use Rattle.rv_decode.specs.declared.instruction.StoreOp.TheVariants.{Sw}
use Rattle.rv_decode.specs.declared.instruction.BranchOp.TheVariants.{Bne}
use Rattle.fp_image.specs.declared.parts.Segment.{Segment}
use Rattle.fp_setup.specs.SetupOfTables.{the_threads}
use Rattle.fp_setup.specs.Settings.{Settings}
use Rattle.fp_setup.specs.Plain.{plain_setup}

-- the draw after a number
unfoldable pub next_draw : ℕ → ℕ
next_draw x = (x * 1664525 + 1013904223) % 2 ^ 32

-- the number after a number of draws
unfoldable pub draw : ℕ → ℕ → ℕ
draw first zero = first
draw first (suc n) = next_draw (draw first n)

-- the instruction of a form: a, b and d are registers, e is an offset
abbrev pub form : ℕ → (a b d e : ℕ) → Ins
form n a b d e =
    if n == 0 then Op Add d a b
    else if n == 1 then Op Sub d a b
    else if n == 2 then Op Xor d a b
    else if n == 3 then OpImm Addi d a (pos e)
    else if n == 4 then Op Sltu d a b
    else if n == 5 then Load Lw d 8 (pos e)
    else if n == 6 then Store Sw 8 b (pos e)
    else Branch Bne a b (pos 8)

-- the instruction of a draw: registers 1 to 7, and a multiple of four below 256
unfoldable pub drawn_ins : ℕ → Ins
drawn_ins x =
    form (x / 2 ^ 28 % 8) (1 + x / 2 ^ 8 % 7) (1 + x / 2 ^ 12 % 7) (1 + x / 2 ^ 16 % 7)
    (4 * (x / 2 ^ 20 % 64))

-- The instructions of thread k before the drawn ones. They load the address of region k of the data
-- scratchpad, 0x20000000 + 2048 * k, into x8. For an odd k it is a multiple of 4,096 minus 2,048.
abbrev pub first_ins : ℕ → List Ins
first_ins k =
    Lui 8 (0x20000 + (k + 1) / 2) ∷ OpImm Addi 8 8 (if k % 2 == 0 then pos 0 else negsuc 2047) ∷ []

-- and after them: a count in x1, and back to the first of them
abbrev pub last_ins : List Ins
last_ins = OpImm Addi 1 1 (pos 1) ∷ Jal 0 (negsuc 499) ∷ []

-- the instructions of the first n draws from a number on
abbrev pub drawn_from : ℕ → ℕ → List Ins
drawn_from x n = map (λ j. drawn_ins (draw x (j + 1))) (range_with_len 0 n)

-- the instructions of thread k, which draws on from a number
abbrev pub instructions : ℕ → ℕ → List Ins
instructions x k = first_ins k ++ (drawn_from x 124 ++ last_ins)

-- the bytes of instructions
unfoldable pub bytes_of : List Ins → List ℕ
bytes_of list = flat_map (λ i. little_bytes 4 (encoding_of i)) list

-- thread k draws on from the last draw of the thread before; it starts at 2048 * k
abbrev pub segment : ℕ → ℕ → Segment
segment number k =
    record { address = 2048 * k; bytes = bytes_of (instructions (draw number (124 * k)) k) }

-- the segments of the eight programs
unfoldable pub programs : ℕ → List Segment
programs number = map (segment number) the_threads

-- A cycle has 10 nanoseconds. T0 to T3 are hard and confined, with one slot each; four slots follow
-- for T4 to T7, which are soft. Each thread has a region of the instruction scratchpad. In the data
-- scratchpad T0 to T3 have one region each, three are shared, and the last one is read only.
abbrev pub own_setup : Settings
own_setup =
    plain_setup 10 0xeeee3210 0xaa00 0x76543210 0xc8883210
    (map (λ k. 2048 * k) the_threads)
    (true ∷ true ∷ true ∷ true ∷ false ∷ false ∷ false ∷ false ∷ [])
