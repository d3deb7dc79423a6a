-- The text of a trace: a line for each event, by this project's format of events.
use Rattle.std.specs.Prelude.{ℕ, ◌==◌, List, ◌++◌, decimal, codes, flat_map, if◌then◌else◌}
use Rattle.rv_exec.specs.declared.outcome.Effect.{Effect}
use Rattle.rv_exec.specs.declared.outcome.Effect.TheVariants.{Nothing, Reg, Store, Csr, Trap, Wait}
use Rattle.rv_exec.specs.declared.outcome.Event.{Event}
use Rattle.trace_print.specs.Digits.{hex, two_digits, right}

-- a register and the value that it gets
unfoldable pub register_text : ℕ → ℕ → List ℕ
register_text rd value = codes "x" ++ (two_digits rd ++ (codes "=" ++ hex 8 value))

-- an address, the number of bytes stored there, and the value
unfoldable pub store_text : ℕ → ℕ → ℕ → List ℕ
store_text address size value =
    codes "[" ++ (hex 8 address ++ (codes "]/" ++ (decimal size ++ (codes "=" ++ hex 8 value))))

-- a CSR and its new value
unfoldable pub csr_text : ℕ → ℕ → List ℕ
csr_text csr value = codes "csr " ++ (hex 3 csr ++ (codes "=" ++ hex 8 value))

-- a cause and the address at which the thread continues
unfoldable pub trap_text : ℕ → ℕ → List ℕ
trap_text cause target = codes "trap " ++ (decimal cause ++ (codes " -> " ++ hex 8 target))

-- an effect; if a register gets a CSR's old value, that comes first
unfoldable pub effect_text : Effect → List ℕ
effect_text Nothing = codes "-"
effect_text (Reg rd value) = register_text rd value
effect_text (Store address size value) = store_text address size value
effect_text (Csr csr value rd old) =
    if rd == 0 then csr_text csr value
    else register_text rd old ++ (codes " " ++ csr_text csr value)
effect_text (Trap cause target) = trap_text cause target
effect_text Wait = codes "wait"

-- the cycle right in 10 columns, the pc, the word, the effect and a line feed
unfoldable pub line_text : Event → List ℕ
line_text e =
    right 10 e.cycle ++ (codes " " ++ (hex 8 e.pc ++ (codes " " ++ (hex 8 e.word ++ (codes " " ++
    (effect_text e.effect ++ codes "\n"))))))

-- the lines of events, in order
abbrev pub text : List Event → List ℕ
text events = flat_map line_text events
