-- The settings in the tables of threads, as the reader keeps them.
use Rattle.std.specs.Prelude.{List}
use Rattle.toml.specs.Data.{Members}
use Rattle.fp_setup.specs.declared.thread_rows.ThreadRow.{ThreadRow}
use Rattle.fp_setup.specs.declared.thread_rows.ThreadRows.{ThreadRows}
use Rattle.fp_setup.specs.SetupOfTables.{id_at, mode_at, thread_setup, modes_of, threads_of}

abbrev pub thread_row_of : Members → ThreadRow
thread_row_of ms = record { id = id_at ms; mode = mode_at ms; thread = thread_setup ms }

abbrev pub rows_of : List Members → ThreadRows
rows_of rows = record { modes = modes_of rows; threads = threads_of rows }
