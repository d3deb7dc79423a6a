-- The place of a fault in a setup file, as a text.
use Rattle.std.specs.Prelude.{ℕ, ◌-◌, ◌==◌, List, [], ◌∷◌, ◌++◌, decimal, codes, if◌then◌else◌}
use Rattle.fp_setup.specs.Keys.{Key, names, top_keys, thread_keys, loop_keys}
use Rattle.fp_setup.specs.declared.refusal.Place.{Place}

-- the keys of a table by its number
abbrev pub keys_of : ℕ → List Key
keys_of table =
    if table == 1 then top_keys
    else if table == 2 then thread_keys
    else if table == 3 then loop_keys
    else []

-- an entry of a list by its number, from 1; empty if the list has no such entry
abbrev pub entry_of : List (List ℕ) → ℕ → List ℕ
entry_of [] number = []
entry_of (entry ∷ entries) number = if number == 1 then entry else entry_of entries (number - 1)

-- the name of a key by the numbers of its table and of itself
unfoldable pub key_text : ℕ → ℕ → List ℕ
key_text table key = entry_of (names (keys_of table)) key

-- an index in brackets
unfoldable pub index_text : ℕ → List ℕ
index_text index = codes "[" ++ (decimal index ++ codes "]")

-- a key's value, or an element of it
unfoldable pub value_text : ℕ → ℕ → ℕ → List ℕ
value_text table key item = key_text table key ++ (if item == 0 then [] else index_text (item - 1))

-- a table of a thread or of a loop
unfoldable pub row_text : ℕ → ℕ → List ℕ
row_text table row = (if table == 2 then codes "thread" else codes "loop") ++ index_text row

-- the file as a whole, the top table, one of its values, a table of a thread or of a loop, or a
-- value of it
unfoldable pub place_text : Place → List ℕ
place_text p =
    if p.table == 0 then codes "-"
    else if p.table == 1 then (if p.key == 0 then codes "top" else value_text 1 p.key p.item)
    else if p.key == 0 then row_text p.table p.row
    else row_text p.table p.row ++ (codes "." ++ value_text p.table p.key p.item)
