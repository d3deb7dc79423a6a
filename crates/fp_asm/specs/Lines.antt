-- The lines of a source.
use Rattle.std.specs.Prelude.{ℕ, ◌==◌, ◌-◌, ◌&&◌, nat_lt, List, if◌then◌else◌, length, take, get_or}
use Rattle.fp_asm.specs.Between.{between}

-- a line without the carriage return before its line feed
unfoldable pub without_return : List ℕ → List ℕ
without_return line =
    if nat_lt 0 (length line) && get_or line (length line - 1) 0 == 13
    then take (length line - 1) line
    else line

-- The lines: the parts between line feeds, without one carriage return before a line feed. The part
-- after the last line feed is a line too; if it is empty it has no effect.
unfoldable pub lines_of : List ℕ → List (List ℕ)
lines_of source = between (λ b. b == 10) without_return (λ line. line) source
