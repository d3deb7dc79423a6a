-- The lines of a list, and the words of a line.
use Rattle.std.specs.Prelude.{ℕ, ◌==◌, ◌||◌, Bool, List, [], ◌∷◌, ◌++◌, if◌then◌else◌}
use Rattle.command_line.specs.Numbers.{is_between}

-- the lines of bytes, where the first line begins with these bytes; a line feed (10) ends a line
unfoldable pub lines_after : List ℕ → List ℕ → List (List ℕ)
lines_after line [] = line ∷ []
lines_after line (byte ∷ bytes) =
    if byte == 10 then line ∷ lines_after [] bytes else lines_after (line ++ byte ∷ []) bytes

-- the lines of a text: its parts between line feeds
unfoldable pub lines_of : List ℕ → List (List ℕ)
lines_of text = lines_after [] text

-- a byte between words: a tab (9) to a carriage return (13), or a space (32)
abbrev pub is_blank : ℕ → Bool
is_blank byte = is_between 9 13 byte || byte == 32

-- a word and more words, where an empty word is none
abbrev pub with_word : List ℕ → List (List ℕ) → List (List ℕ)
with_word [] words = words
with_word (byte ∷ bytes) words = (byte ∷ bytes) ∷ words

-- the words of bytes, where the first word begins with these bytes; a blank ends a word
unfoldable pub words_after : List ℕ → List ℕ → List (List ℕ)
words_after word [] = with_word word []
words_after word (byte ∷ bytes) =
    if is_blank byte then with_word word (words_after [] bytes)
    else words_after (word ++ byte ∷ []) bytes

-- the words of a line: its parts between blanks
unfoldable pub words_of : List ℕ → List (List ℕ)
words_of line = words_after [] line
