-- The table of a thread, after each of its keys is read.
use Rattle.std.proofs.Common.{◌≡◌, ℕ, ◌+◌, ◌<◌, ◌≤◌, ◌&&◌, Bool, true, false, List}
use Rattle.std.proofs.Common.{map, drop, Option, IfSome, option_map, codes, refl, rules}
use Rattle.toml.specs.Data.{Members, get_member}
use Rattle.timer_unit.specs.Time.{most_cycles}
use Rattle.fp_setup.specs.declared.refusal.Place.{Place}
use Rattle.fp_setup.specs.declared.refusal.Fault.{Fault}
use Rattle.fp_setup.specs.declared.bounds.Range.{Range}
use Rattle.fp_setup.specs.declared.input_list.Input.{Input}
use Rattle.fp_setup.specs.declared.thread_list.ThreadSetup.{ThreadSetup}
use Rattle.fp_setup.specs.declared.thread_rows.ThreadRow.{ThreadRow}
use Rattle.fp_setup.specs.declared.vocabulary.Words.TheVariants.{Modes}
use Rattle.fp_setup.specs.Faults.{first}
use Rattle.fp_setup.specs.Keys.{names, thread_keys}
use Rattle.fp_setup.specs.Values.{number, number_at, truth_at, elements_at, input_of}
use Rattle.fp_setup.specs.Vocabulary.{is_value}
use Rattle.fp_setup.specs.Checks.{is_in}
use Rattle.fp_setup.specs.FaultOrder.{integers, addresses, value_check, keys_fault}
use Rattle.fp_setup.specs.FaultOrder.{unknown_fault, thread_table_fault}
use Rattle.fp_setup.specs.SetupOfTables.{id_at, mode_at, thread_setup}
use Rattle.fp_setup.specs.Rows.{thread_row_of}
use Rattle.fp_setup.specs.Inputs.{AreInputs}
use Rattle.fp_setup.specs.Threads.{IsThread}

module _ (size : ℕ) (ids : List ℕ) (row : Place) (ms : Members) where
  -- the fault of the keys from this one on, counted from 0
  abbrev pub keys_from : ℕ → Option Fault
  keys_from n =
      keys_fault (value_check (record { size = size; table = ms; ids = ids })) row (n + 1)
      (drop n thread_keys) ms

  -- nothing is found before that key
  abbrev pub IsGoodTo : ℕ → Type 0
  IsGoodTo n = thread_table_fault size ids row ms ≡ keys_from n

  -- the first check is that of unknown keys
  pub table_checks : thread_table_fault size ids row ms
      ≡ first (unknown_fault (names thread_keys) row ms) (keys_from 0)
  unfolding thread_table_fault
  table_checks = refl

-- the ranges of the keys as bounds
pub id_below : (n : ℕ) → is_in (integers 0 7) n ≡ true → n < 8
id_below n h = search rules

pub mode_below : (n : ℕ) → is_value Modes n ≡ true → n < 4
mode_below n h = search rules

pub entry_inside : (size n : ℕ) → 4 ≤ size → is_in (addresses 0 size) n ≡ true → n < size
entry_inside size n low h = search rules

pub is_thread : (size : ℕ) (t : ThreadSetup) (range : Range) (moment : Option ℕ) → 4 ≤ size →
    size ≤ 65536 → is_in (addresses 0 size) t.entry ≡ true → (t.confined && t.permit) ≡ false
    → range ≡ integers 0 most_cycles → t.unplug ≡ moment →
    IfSome moment (λ at. is_in range at ≡ true) → AreInputs t.inputs → IsThread t
is_thread size t range moment low high entry both is_range is_moment unplug inputs = search rules

-- the values of the keys make the row
pub row-from : (ms : Members) (i m en : ℕ) (cf pm : Bool) (at : Option ℕ) (is : List Input)
    → i ≡ id_at ms → m ≡ mode_at ms → en ≡ number_at (codes "entry") ms →
    cf ≡ truth_at (codes "confined") ms → pm ≡ truth_at (codes "permit") ms →
    at ≡ option_map number (get_member (codes "unplug") ms)
    → is ≡ map input_of (elements_at (codes "inputs") ms)
    → ◌≡◌ {A = ThreadRow}
    (record {
      id = i;
      mode = m;
      thread = record { entry = en; confined = cf; permit = pm; unplug = at; inputs = is };
    }) (thread_row_of ms)
unfolding thread_setup
row-from ms i m en cf pm at is a b c d e f g = cc
