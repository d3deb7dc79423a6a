-- The state of files and of a sink in memory, and its change by a call.
use Rattle.std.specs.Prelude.{ℕ, ◌-◌, ◌≤◌, ◌<◌, ◌||◌, Bool, List, [], ◌++◌}
use Rattle.std.specs.Prelude.{length, take, min, nat_lt, Option, Some, None, refl}
use Rattle.std.specs.Ordering.{nat_cmp}
use Rattle.std.specs.Cmp.Lexicographic.{slice_cmp}
use Rattle.std.specs.FinMap as map
use Rattle.std.specs.Coded.{Coded, code_by, coded×, coded_ℕ, coded_list}
use Rattle.fp_io.specs.declared.memory_sink.Cut.{Cut}
use Rattle.fp_io.specs.Causes.{risen, risen_if}
use Rattle.fp_io.specs.Listed.{is_listed, cut_of, is_cut, listed_before, AreBelowLast}

-- the bytes of each name
abbrev pub Named : Type 0
Named = map.FinMap (slice_cmp nat_cmp) (List ℕ)

-- files in memory: the bytes of each name, the numbers of the calls of `fetch` that fail, the
-- number of calls made, and the number of faults
pub record MemoryFiles : Type 0 where
  pub named : Named
  pub failing : List ℕ
  pub calls : ℕ
  pub faults : ℕ

-- the files in memory as plain data: a map from names to contents, and the counts
abbrev pub memory_files_code : Coded MemoryFiles
memory_files_code =
    code_by (Named × (List ℕ × (ℕ × ℕ)))
    (coded× (map.code {R = slice_cmp nat_cmp} (coded_list coded_ℕ) (coded_list coded_ℕ))
    (coded× (coded_list coded_ℕ) (coded× coded_ℕ coded_ℕ)))
    (λ m. (m.named, (m.failing, (m.calls, m.faults))))
    (λ p. record { named = p.0; failing = p.1.0; calls = p.1.1.0; faults = p.1.1.1 }) (λ _. refl)

-- no file, and no call
abbrev pub no_files : MemoryFiles
no_files = record { named = map.empty; failing = []; calls = 0; faults = 0 }

-- the next call of `fetch` is listed
abbrev pub next_fails : MemoryFiles → Bool
next_fails m = is_listed m.failing m.calls

-- after a call of `fetch`
abbrev pub fetched_from : MemoryFiles → MemoryFiles
fetched_from m = record m { calls = risen m.calls; faults = risen_if (next_fails m) m.faults }

-- no more faults than listed calls that were made
abbrev pub FaultsAreListed : MemoryFiles → Type 0
FaultsAreListed m = m.faults ≤ listed_before (is_listed m.failing) m.calls

-- the invariant of files in memory
pub record FilesAreSound (failing : List ℕ) (calls faults : ℕ) : Type 0 where
  pub below : AreBelowLast (is_listed failing)
  pub few : faults ≤ listed_before (is_listed failing) calls

-- a sink in memory: the bytes taken so far, its total room in bytes, the calls of `put` that are
-- cut and fail, the number of calls made, and the number of faults
pub record MemorySink : Type 0 where
  pub bytes : List ℕ
  pub room : ℕ
  pub cuts : List Cut
  pub calls : ℕ
  pub faults : ℕ

-- no byte, and no call
abbrev pub empty_sink : ℕ → MemorySink
empty_sink room = record { bytes = []; room = room; cuts = []; calls = 0; faults = 0 }

-- the number of these bytes that fit
abbrev pub fitting : MemorySink → List ℕ → ℕ
fitting s bytes = min (length bytes) (s.room - length s.bytes)

-- the number of bytes that a call takes, cut or not, from those that fit
abbrev pub taken_by : Option ℕ → ℕ → ℕ
taken_by None fits = fits
taken_by (Some most) fits = min most fits

-- the next call of `put` fails: it is cut, or not all of these bytes fit
abbrev pub put_fails : MemorySink → List ℕ → Bool
put_fails s bytes = is_cut s.cuts s.calls || nat_lt (fitting s bytes) (length bytes)

-- after a call of `put`
abbrev pub put_into : MemorySink → List ℕ → MemorySink
put_into s bytes = record s {
  bytes = s.bytes ++ take (taken_by (cut_of s.cuts s.calls) (fitting s bytes)) bytes;
  calls = risen s.calls;
  faults = risen_if (put_fails s bytes) s.faults;
}

-- while there is room, no more faults than listed calls that were made
abbrev pub FaultsAreCut : MemorySink → Type 0
FaultsAreCut s = length s.bytes < s.room → s.faults ≤ listed_before (is_cut s.cuts) s.calls

-- the invariant of a sink: the bytes fit its room, the memory for the room is allocated, and the
-- counts of calls and faults are sound while there is room
pub record SinkIsSound (bytes : List ℕ) (room capacity : ℕ) (cuts : List Cut)
    (calls faults : ℕ) : Type 0 where
  pub within : length bytes ≤ room
  pub reserved : room ≤ capacity
  pub below : AreBelowLast (is_cut cuts)
  pub few : length bytes < room → faults ≤ listed_before (is_cut cuts) calls
