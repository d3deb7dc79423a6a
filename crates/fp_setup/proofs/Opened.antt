-- The definitions that each function's proofs open, under one name.
use Rattle.fp_setup.specs.Checks.{eight_check, list_check, word_check}
use Rattle.fp_setup.specs.FaultOrder.{loop_table_fault, threads_fault}
use Rattle.fp_setup.specs.SetupOfTables.{loop_of, nibble_word, number_of_name, threads_of, modes_of}

-- a loop's table
unfoldable pub loop_table : Type 0
unfolding loop_table_fault loop_of
loop_table = Unit

-- a word of eight texts
unfoldable pub eight : Type 0
unfolding eight_check nibble_word
eight = Unit

-- the tables of threads
unfoldable pub threads : Type 0
unfolding list_check threads_fault
threads = Unit

-- a setup without threads
unfoldable pub no_threads : Type 0
unfolding threads_of modes_of
no_threads = Unit

-- a word that is a number or a name
unfoldable pub word : Type 0
unfolding word_check number_of_name
word = Unit
