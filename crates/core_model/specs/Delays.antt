-- The passage of an instruction through the pipeline, in cycles.
use Rattle.std.specs.Prelude.{ℕ}

-- The numbers of cycles from an instruction's issue, in F, to the stages D, E and M.
abbrev pub cycles_to_d : ℕ
cycles_to_d = 1

abbrev pub cycles_to_e : ℕ
cycles_to_e = 2

abbrev pub cycles_to_m : ℕ
cycles_to_m = 3

-- The number of cycles from an instruction's issue, in F, to the last stage, W. An issue of cycle c
-- has retired after n cycles if c + cycles_to_w < n. So the issues of the first n - cycles_to_w
-- cycles have retired.
abbrev pub cycles_to_w : ℕ
cycles_to_w = 4

-- The number of cycles from the issue of a write to slots or modes to the first pick that uses it.
abbrev pub cycles_to_pick : ℕ
cycles_to_pick = 3
