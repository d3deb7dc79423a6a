-- The rules that tables of threads and loops keep if their checks find no fault.
use Rattle.std.proofs.Common.{◌≡◌, ℕ, ◌+◌, ◌<◌, ◌≤◌, ◌==◌, ◌&&◌, Bool, true, false, nat_lt}
use Rattle.std.proofs.Common.{List, [], ◌∷◌, ◌++◌, length, map, get_or, Option, Some}
use Rattle.std.proofs.Common.{None, if◌then◌else◌, unwrap_or, codes, All, refl, arith}
use Rattle.std.specs.Option.{option_map_or}
use Rattle.std.proofs.Math.Bool.{and-false}
use Rattle.std.proofs.lemmas.List.{length-map}
use Rattle.std.proofs.lemmas.List.Elements.{All-nil, All-cons, All-head}
use Rattle.std.proofs.lemmas.List.Elements.{All-tail, All-weaker, All-map}
use Rattle.std.proofs.lemmas.List.Sums.{list_all-from_AllPass}
use Rattle.toml.specs.Data.{Data, Members, no_members, as_table, get_member}
use Rattle.timer_unit.specs.Time.{most_cycles}
use Rattle.fp_setup.specs.declared.refusal.Place.{Place}
use Rattle.fp_setup.specs.declared.refusal.SetupNo.TheVariants as no
use Rattle.fp_setup.specs.declared.loop_list.LoopSetup.{LoopSetup}
use Rattle.fp_setup.specs.declared.thread_list.ThreadSetup.{ThreadSetup}
use Rattle.fp_setup.specs.declared.vocabulary.Words.TheVariants.{Modes}
use Rattle.fp_setup.specs.Faults.{fault_at, key_of, loop_row, thread_row}
use Rattle.fp_setup.specs.Inputs.{AreInputs}
use Rattle.fp_setup.specs.Loops.{AreLoops, IsLoop}
use Rattle.fp_setup.specs.Threads.{AreThreads, IsThread}
use Rattle.fp_setup.specs.Keys.{names, thread_keys, loop_keys}
use Rattle.fp_setup.specs.Vocabulary.{Text, is_value}
use Rattle.fp_setup.specs.Values.{elements, input_of, members, number}
use Rattle.fp_setup.specs.Values.{number_at, text, truth, truth_at}
use Rattle.fp_setup.specs.Checks.{is_in, integer_check, word_check}
use Rattle.fp_setup.specs.Checks.{permit_check, inputs_fault, list_check}
use Rattle.fp_setup.specs.FaultOrder.{Around, integers, addresses, value_check, keys_fault}
use Rattle.fp_setup.specs.FaultOrder.{unknown_fault, thread_table_fault, thread_fault}
use Rattle.fp_setup.specs.FaultOrder.{loop_table_fault, loop_fault, id_of, threads_from, loops_from}
use Rattle.fp_setup.specs.SetupOfTables.{id_at, loop_of, mode_at, modes_of, number_of_name}
use Rattle.fp_setup.specs.SetupOfTables.{said_of, table_of, the_threads, thread_setup}
use Rattle.fp_setup.specs.SetupOfTables.{threads_of, default_thread, unnamed_mode, word_of}
use Rattle.fp_setup.proofs.Digits.{word_of-small}
use Rattle.fp_setup.proofs.LoopTable.{is_loop, last_inside}
use Rattle.fp_setup.proofs.RowPut.{unnamed-rules}
use Rattle.fp_setup.proofs.ThreadTable.{entry_inside, is_thread}
use Rattle.fp_setup.proofs.ValuesKept.{inputs-kept, integer-kept, moment-kept, needed-kept}
use Rattle.fp_setup.proofs.ValuesKept.{optional-kept, parts, permit-kept, some-fault, word-kept}

-- the table of a thread
record IsRow (size : ℕ) (ms : Members) : Type 0 where
  mode : is_value Modes (mode_at ms) ≡ true
  thread : IsThread (thread_setup ms)
  inside : (thread_setup ms).entry < size

thread-table : (size : ℕ) (ids : List ℕ) (row : Place) (ms : Members) → 4 ≤ size → size ≤ 65536 →
    thread_table_fault size ids row ms ≡ None → IsRow size ms
unfolding thread_table_fault thread_setup
thread-table size ids row ms low high h =
    let around : Around = record { size = size; table = ms; ids = ids } in
    let (known, keys) = parts (unknown_fault (names thread_keys) row ms)
    (keys_fault (value_check around) row 1 thread_keys ms) h in
    let (id, after_id) = parts _ _ keys in
    let (mode, after_mode) = parts _ _ after_id in
    let (entry, after_entry) = parts _ _ after_mode in
    let (confined, after_confined) = parts _ _ after_entry in
    let (permit, after_permit) = parts _ _ after_confined in
    let (unplug, after_unplug) = parts _ _ after_permit in
    let (inputs, after_inputs) = parts _ _ after_unplug in
    let starts : is_in (addresses 0 size) (number_at (codes "entry") ms) ≡ true =
    needed-kept (λ n. is_in (addresses 0 size) n ≡ true) number 0
    (integer_check (addresses 0 size)) (key_of row 3) (get_member (codes "entry") ms) entry
    (λ d good. integer-kept (addresses 0 size) (key_of row 3) d good) in
    let both : (truth_at (codes "confined") ms && truth_at (codes "permit") ms) ≡ false =
    optional-kept (λ b. (truth_at (codes "confined") ms && b) ≡ false) truth false
    (permit_check (truth_at (codes "confined") ms)) (key_of row 5)
    (get_member (codes "permit") ms) permit (and-false (truth_at (codes "confined") ms))
    (λ d good. permit-kept (truth_at (codes "confined") ms) (key_of row 5) d good) in
    let fed : AreInputs (thread_setup ms).inputs =
    optional-kept (λ (ds : List Data). AreInputs (map input_of ds)) elements []
    (list_check 4096 inputs_fault) (key_of row 7) (get_member (codes "inputs") ms) inputs
    unnamed-rules.fed (λ d good. inputs-kept (key_of row 7) d good) in
    record {
      mode =
          needed-kept (λ (t : Text). is_value Modes (number_of_name Modes t) ≡ true) text []
          (word_check Modes) (key_of row 2) (get_member (codes "mode") ms) mode
          (λ d good. word-kept Modes (key_of row 2) d good);
      thread =
          is_thread size (thread_setup ms) (integers 0 most_cycles) _ low high starts both refl refl
          (moment-kept (integers 0 most_cycles) (key_of row 6)
          (get_member (codes "unplug") ms) unplug) fed;
      inside = entry_inside size (number_at (codes "entry") ms) low starts;
    }

thread-in : (size : ℕ) (ids : List ℕ) (row : Place) (o : Option Members) → 4 ≤ size → size ≤ 65536 →
    thread_fault size ids row o ≡ None → IsRow size (unwrap_or o no_members)
thread-in size ids row None low high h = absurd (some-fault (fault_at no.WrongType row) h)
thread-in size ids row (Some ms) low high h = thread-table size ids row ms low high h

rows-kept : (size index : ℕ) (ids : List ℕ) (ds : List Data) → 4 ≤ size → size ≤ 65536 →
    threads_from size index ids ds ≡ None → All (IsRow size) (map members ds)
rows-kept size index ids [] low high h = All-nil (IsRow size)
rows-kept size index ids (d ∷ ds) low high h =
    let (here, more) = parts (thread_fault size ids (thread_row index) (as_table d))
    (threads_from size (index + 1) (ids ++ id_of d ∷ []) ds) h in
    All-cons (IsRow size) (members d) (map members ds)
    (thread-in size ids (thread_row index) (as_table d) low high here)
    (rows-kept size (index + 1) (ids ++ id_of d ∷ []) ds low high more)

-- a property of each table's value and of the default holds of a thread's value
said-kept : {X : Type 0} (P : Members → Type 0) (Q : X → Type 0)
    (say : Members → X) (other : X) (rows : List Members) (k : ℕ) →
    All P rows → ((r : Members) → P r → Q (say r)) → Q other → Q (said_of say other rows k)
said-kept P Q say other [] k all each rest = rest
said-kept P Q say other (r ∷ rows) k all each rest =
    go (id_at r == k) (said-kept P Q say other rows k (All-tail P r rows all) each rest)
  where
    go : (b : Bool) → Q (said_of say other rows k) →
        Q (option_map_or say (if b then Some r else table_of rows k) other)
    go true later = each r (All-head P r rows all)
    go false later = later

all-said : {X : Type 0} (P : Members → Type 0) (Q : X → Type 0) (say : Members → X) (other : X)
    (rows : List Members) → All P rows → ((r : Members) → P r → Q (say r)) → Q other →
    All Q (map (said_of say other rows) the_threads)
all-said P Q say other rows all each rest =
    All-map Q (said_of say other rows) the_threads
    (λ k d below. said-kept P Q say other rows (get_or the_threads k d) all each rest)

-- the threads of the tables keep the rules
pub record AreRowsKept (size : ℕ) (rows : List Members) : Type 0 where
  pub threads : AreThreads (threads_of rows)
  pub entries : All (λ (t : ThreadSetup). t.entry < size) (threads_of rows)
  pub modes : word_of 4 (modes_of rows) < 65536

pub threads-kept : (size : ℕ) (ds : List Data) → 4 ≤ size → size ≤ 65536 →
    threads_from size 0 [] ds ≡ None → AreRowsKept size (map members ds)
unfolding threads_of modes_of
threads-kept size ds low high h =
    let rows : List Members = map members ds in
    let all : All (IsRow size) rows = rows-kept size 0 [] ds low high h in
    let Small : ℕ → Type 0 = λ n. nat_lt n 4 ≡ true in
    let small : All Small (map (said_of mode_at unnamed_mode rows) the_threads) =
    all-said (IsRow size) Small mode_at unnamed_mode rows all (λ r row. row.mode) refl in
    record {
      threads = record {
        eight = refl;
        each =
            all-said (IsRow size) IsThread thread_setup default_thread rows all
            (λ r row. row.thread) unnamed-rules;
      };
      entries =
          all-said (IsRow size) (λ (t : ThreadSetup). t.entry < size) thread_setup default_thread
          rows all (λ r row. row.inside) (omega arith);
      modes =
          word_of-small 4 (map (said_of mode_at unnamed_mode rows) the_threads) refl
          (list_all-from_AllPass (λ n. nat_lt n 4)
          (map (said_of mode_at unnamed_mode rows) the_threads) small);
    }

-- the loop of a table, in a scratchpad of that size
record IsLoopIn (size : ℕ) (l : LoopSetup) : Type 0 where
  is : IsLoop l
  inside : l.last < size

loop-table : (size : ℕ) (row : Place) (ms : Members) → 4 ≤ size →
    loop_table_fault size row ms ≡ None → IsLoopIn size (loop_of ms)
unfolding loop_table_fault loop_of
loop-table size row ms low h =
    let around : Around = record { size = size; table = ms; ids = [] } in
    let first : ℕ = number_at (codes "head") ms in
    let (known, keys) = parts (unknown_fault (names loop_keys) row ms)
    (keys_fault (value_check around) row 1 loop_keys ms) h in
    let (head, after_head) = parts _ _ keys in
    let (last, after_last) = parts _ _ after_head in
    let (limit, after_limit) = parts _ _ after_last in
    let begins : is_in (addresses 0 size) first ≡ true =
    needed-kept (λ n. is_in (addresses 0 size) n ≡ true) number 0
    (integer_check (addresses 0 size)) (key_of row 1) (get_member (codes "head") ms) head
    (λ d good. integer-kept (addresses 0 size) (key_of row 1) d good) in
    let ends : is_in (addresses first size) (number_at (codes "last") ms) ≡ true =
    needed-kept (λ n. is_in (addresses first size) n ≡ true) number 0
    (integer_check (addresses first size)) (key_of row 2) (get_member (codes "last") ms) last
    (λ d good. integer-kept (addresses first size) (key_of row 2) d good) in
    let turns : is_in (integers 0 1048576) (number_at (codes "bound") ms) ≡ true =
    needed-kept (λ n. is_in (integers 0 1048576) n ≡ true) number 0
    (integer_check (integers 0 1048576)) (key_of row 3) (get_member (codes "bound") ms) limit
    (λ d good. integer-kept (integers 0 1048576) (key_of row 3) d good) in
    record {
      is =
          is_loop size first (number_at (codes "last") ms)
          (number_at (codes "bound") ms) begins ends turns;
      inside = last_inside size first (number_at (codes "last") ms) low ends;
    }

loop-in : (size : ℕ) (row : Place) (o : Option Members) → 4 ≤ size → loop_fault size row o ≡ None →
    IsLoopIn size (loop_of (unwrap_or o no_members))
loop-in size row None low h = absurd (some-fault (fault_at no.WrongType row) h)
loop-in size row (Some ms) low h = loop-table size row ms low h

loops-in : (size index : ℕ) (ds : List Data) → 4 ≤ size → loops_from size index ds ≡ None →
    All (IsLoopIn size) (map loop_of (map members ds))
loops-in size index [] low h = All-nil (IsLoopIn size)
loops-in size index (d ∷ ds) low h =
    let (here, more) =
    parts (loop_fault size (loop_row index) (as_table d)) (loops_from size (index + 1) ds) h in
    All-cons (IsLoopIn size) (loop_of (members d)) (map loop_of (map members ds))
    (loop-in size (loop_row index) (as_table d) low here) (loops-in size (index + 1) ds low more)

pub record AreLoopsKept (size : ℕ) (loops : List LoopSetup) : Type 0 where
  pub rules : AreLoops loops
  pub ends : All (λ (l : LoopSetup). l.last < size) loops

pub loops-kept : (size : ℕ) (ds : List Data) → 4 ≤ size → length ds ≤ 256 →
    loops_from size 0 ds ≡ None → AreLoopsKept size (map loop_of (map members ds))
loops-kept size ds low few h =
    let loops : List LoopSetup = map loop_of (map members ds) in
    let all : All (IsLoopIn size) loops = loops-in size 0 ds low h in
    let rows : length loops ≡ length (map members ds) = length-map (map members ds) loop_of in
    let tables : length (map members ds) ≡ length ds = length-map ds members in
    record {
      rules = record {
        few = omega (arith, few, rows, tables);
        each = All-weaker (IsLoopIn size) IsLoop (λ l in'. in'.is) loops all;
      };
      ends =
          All-weaker (IsLoopIn size) (λ (l : LoopSetup). l.last < size)
          (λ l in'. in'.inside) loops all;
    }
