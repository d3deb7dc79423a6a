-- The lines of a dump, by this project's format of dumps.
use Rattle.std.specs.Prelude.{ℕ, List, [], ◌∷◌, ◌++◌, decimal, codes, Option, Some, None}
use Rattle.trace_print.specs.Digits.{hex}
use Rattle.trace_print.specs.declared.dump_lines.StageContent.{StageContent}
use Rattle.trace_print.specs.declared.dump_lines.StageContent.TheVariants.{Nothing, Picked}
use Rattle.trace_print.specs.declared.dump_lines.StageContent.TheVariants.{Flushed, Issue}

-- the number of cycles done
unfoldable pub cycles_text : ℕ → List ℕ
cycles_text n = codes "cycles " ++ (decimal n ++ codes "\n")

-- a thread's name
unfoldable pub thread_text : ℕ → List ℕ
thread_text thread = codes "T" ++ decimal thread

-- the content of a stage: nothing, a picked thread, a flushed turn, or an issue with its pc and
-- word
unfoldable pub held_text : StageContent → List ℕ
held_text Nothing = codes "-"
held_text (Picked thread) = thread_text thread
held_text (Flushed thread) = thread_text thread ++ codes " flushed"
held_text (Issue thread pc word) =
    thread_text thread ++ (codes " " ++ (hex 8 pc ++ (codes " " ++ hex 8 word)))

-- the line of a stage: its name and its content
unfoldable pub stage_text : List ℕ → StageContent → List ℕ
stage_text name held = name ++ (codes " " ++ (held_text held ++ codes "\n"))

-- a word by its name
unfoldable pub word_text : List ℕ → ℕ → List ℕ
word_text name word = name ++ (codes " " ++ (hex 8 word ++ codes "\n"))

-- words, each with a space before it
unfoldable pub words_text : List ℕ → List ℕ
words_text [] = []
words_text (word ∷ words) = codes " " ++ (hex 8 word ++ words_text words)

-- words of a thread by their name
unfoldable pub thread_words_text : ℕ → List ℕ → List ℕ → List ℕ
thread_words_text thread name words =
    thread_text thread ++ (codes " " ++ (name ++ (words_text words ++ codes "\n")))

-- a moment, or none
unfoldable pub moment_text : Option ℕ → List ℕ
moment_text None = codes "-"
moment_text (Some moment) = hex 16 moment

-- a thread's armed moment, its sleep moment, and the latched high word
unfoldable pub timer_text : ℕ → Option ℕ → ℕ → ℕ → List ℕ
timer_text thread armed sleep high =
    thread_text thread ++ (codes " armed "
    ++ (moment_text armed ++ (codes " sleep " ++ (hex 16 sleep ++ (codes " high " ++
    (hex 8 high ++ codes "\n"))))))

-- a latch, or the mark of an absent port
unfoldable pub port_text : Option ℕ → List ℕ
port_text None = codes "open"
port_text (Some latch) = hex 8 latch

-- the line of a port's latch
unfoldable pub latch_text : ℕ → Option ℕ → List ℕ
latch_text thread latch = thread_text thread ++ (codes " latch " ++ (port_text latch ++ codes "\n"))

-- the words from an address on
unfoldable pub memory_text : ℕ → List ℕ → List ℕ
memory_text address words =
    codes "[" ++ (hex 8 address ++ (codes "]" ++ (words_text words ++ codes "\n")))
