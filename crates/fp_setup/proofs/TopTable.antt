-- The top table, after each of its keys is read.
use Rattle.std.proofs.Common.{◌≡◌, ℕ, ◌+◌, List, [], map, drop, Option}
use Rattle.std.proofs.Common.{codes, refl, true, ◌≤◌, inl, inr, rules, arith}
use Rattle.region_guard.specs.Regions.{IsSize}
use Rattle.toml.specs.Data.{Members}
use Rattle.fp_setup.specs.declared.refusal.Fault.{Fault}
use Rattle.fp_setup.specs.declared.thread_list.ThreadSetup.{ThreadSetup}
use Rattle.fp_setup.specs.declared.loop_list.LoopSetup.{LoopSetup}
use Rattle.fp_setup.specs.declared.vocabulary.Words.TheVariants.{Slots, Owners}
use Rattle.fp_setup.specs.Faults.{first, top}
use Rattle.fp_setup.specs.Keys.{names, top_keys}
use Rattle.fp_setup.specs.Values.{number_at, text_at, elements_at}
use Rattle.fp_setup.specs.Checks.{is_in}
use Rattle.fp_setup.specs.FaultOrder.{integers, keys_fault, top_check, unknown_fault, top_fault}
use Rattle.fp_setup.specs.SetupOfTables.{settings, version_at, nibble_word, word_of}
use Rattle.fp_setup.specs.SetupOfTables.{modes_of, threads_of, loop_of, rows_at}

module _ (size : ℕ) (ms : Members) where
  -- the fault of the keys from this one on, counted from 0
  abbrev pub keys_from : ℕ → Option Fault
  keys_from n =
      keys_fault (top_check (record { size = size; table = ms; ids = [] })) top (n + 1)
      (drop n top_keys) ms

  -- nothing is found before that key
  abbrev pub IsGoodTo : ℕ → Type 0
  IsGoodTo n = top_fault size ms ≡ keys_from n

  -- the first check is that of unknown keys
  pub table_checks : top_fault size ms ≡ first (unknown_fault (names top_keys) top ms) (keys_from 0)
  unfolding top_fault
  table_checks = refl

-- the ranges of the period and of the size as bounds
pub period_within : (n : ℕ) → is_in (integers 1 1000) n ≡ true → (1 ≤ n) × (n ≤ 1000)
period_within n h = (search rules, search rules)

pub size_within : (size : ℕ) → IsSize size → (4 ≤ size) × (size ≤ 65536)
size_within size (inl small) = (omega arith, omega arith)
size_within size (inr large) = (omega arith, omega arith)

-- the values of the keys make the setup
pub settings-from : (ms : Members) (v p sl m ir dr : ℕ) (im : List ℕ)
    (ts : List ThreadSetup) (ls : List LoopSetup) → v ≡ version_at ms →
    p ≡ number_at (codes "period") ms → sl ≡ nibble_word Slots (elements_at (codes "slots") ms) →
    m ≡ word_of 4 (modes_of (rows_at (codes "thread") ms)) →
    ir ≡ nibble_word Owners (elements_at (codes "i_regions") ms) →
    dr ≡ nibble_word Owners (elements_at (codes "d_regions") ms) → im ≡ text_at (codes "image") ms
    → ts ≡ threads_of (rows_at (codes "thread") ms) → ls ≡ map loop_of (rows_at (codes "loop") ms)
    → (record {
      version = v;
      period = p;
      slots = sl;
      modes = m;
      iregions = ir;
      dregions = dr;
      image = im;
      threads = ts;
      loops = ls;
    }) ≡ settings ms
unfolding settings
settings-from ms v p sl m ir dr im ts ls a b c d e f g h i = cc
