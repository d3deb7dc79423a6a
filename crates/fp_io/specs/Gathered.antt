-- Bytes that are buffered for a sink.
use Rattle.std.specs.Prelude.{ℕ, ◌+◌, nat_le, if◌then◌else◌, Option}
use Rattle.std.specs.Prelude.{option_map, List, [], ◌++◌, length}

-- the bytes that a sink has taken, if exposed, followed by the bytes buffered for it
abbrev pub followed : Option (List ℕ) → List ℕ → Option (List ℕ)
followed taken gathered = option_map (λ bytes. bytes ++ gathered) taken

-- the buffered bytes after a put; `room` is the size of the buffer. The new bytes are appended if
-- they fit; else the buffer is empty
abbrev pub gathered_with : ℕ → List ℕ → List ℕ → List ℕ
gathered_with room gathered bytes =
    if nat_le (length gathered + length bytes) room then gathered ++ bytes else []
