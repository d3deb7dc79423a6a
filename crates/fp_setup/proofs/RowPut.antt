-- One more table of a thread changes the value of its thread and of no other.
use Rattle.std.proofs.Common.{◌≡◌, ◌≢◌, ◌==◌, ℕ, zero, suc, ◌<◌, true, false, List}
use Rattle.std.proofs.Common.{[], ◌∷◌, ◌++◌, ◌+◌, length, nat_lt, take, drop, map}
use Rattle.std.proofs.Common.{lit<, lit≤, Option, Some, None, get_or, set, length-set}
use Rattle.std.proofs.Common.{refl, ap, subst, sym, ◌∙◌, arith, inl, inr, ◌⊎◌}
use Rattle.std.specs.List.{list_any, list_all}
use Rattle.std.proofs.lemmas.List.Sums.{AllPass-from_list_all, list_all-from_AllPass}
use Rattle.std.specs.Option.{option_map_or}
use Rattle.std.proofs.lemmas.Bool.{cases_eq, lt-ltb, or_parts}
use Rattle.std.proofs.lemmas.Bool.Decides.{nat_tests}
use Rattle.std.proofs.lemmas.List.Elements.{All-nil, All-set}
use Rattle.std.proofs.lemmas.List.{take_more, take_more_set, drop_more, map-append}
use Rattle.std.proofs.lemmas.List.{get_or-map, get_or-set_other, same_lists}
use Rattle.std.proofs.lemmas.Grind.{get_or-set_at}
use Rattle.toml.specs.Data.{Members, as_table}
use Rattle.fp_setup.specs.declared.refusal.Fault.{Fault}
use Rattle.fp_setup.specs.declared.thread_list.ThreadSetup.{ThreadSetup}
use Rattle.fp_setup.specs.Faults.{thread_row}
use Rattle.fp_setup.specs.FaultOrder.{thread_fault, threads_from}
use Rattle.toml.specs.declared.value.Value.{Value}
use Rattle.toml.specs.View.{view}
use Rattle.fp_setup.specs.Threads.{IsThread}
use Rattle.fp_setup.specs.Values.{members}
use Rattle.fp_setup.specs.SetupOfTables.{id_at, mode_at, thread_setup, table_of}
use Rattle.fp_setup.specs.SetupOfTables.{said_of, the_threads, threads_of}
use Rattle.fp_setup.specs.SetupOfTables.{modes_of, default_thread, unnamed_mode}

-- the table doesn't name another thread
table_of-other : (rows : List Members) (row : Members) (k : ℕ) → k ≢ id_at row →
    table_of (rows ++ row ∷ []) k ≡ table_of rows k
table_of-other [] row k other = grind (arith, nat_tests, other)
table_of-other (r ∷ rows) row k other = grind (arith, table_of-other rows row k other)

-- it names its own thread, if none before does
table_of-own : (rows : List Members) (row : Members) (k : ℕ) → k ≡ id_at row →
    list_any (λ n. n == k) (map id_at rows) ≡ false → table_of (rows ++ row ∷ []) k ≡ Some row
table_of-own [] row k own not_taken = grind (arith, nat_tests, own)
table_of-own (r ∷ rows) row k own not_taken =
    let (here, more) = or_parts (id_at r == k) (list_any (λ n. n == k) (map id_at rows))
    not_taken in
    rw here (table_of-own rows row k own more)

pub thread_at : (k : ℕ) → k < 8 → get_or the_threads k 0 ≡ k
thread_at zero h = refl
thread_at (suc zero) h = refl
thread_at (suc (suc zero)) h = refl
thread_at (suc (suc (suc zero))) h = refl
thread_at (suc (suc (suc (suc zero)))) h = refl
thread_at (suc (suc (suc (suc (suc zero))))) h = refl
thread_at (suc (suc (suc (suc (suc (suc zero)))))) h = refl
thread_at (suc (suc (suc (suc (suc (suc (suc zero))))))) h = refl
thread_at (suc (suc (suc (suc (suc (suc (suc (suc k)))))))) h = absurd (omega arith)

said_at : {X : Type 0} (say : Members → X) (other : X) (rows : List Members) (k : ℕ) (d : X) → k < 8
    → get_or (map (said_of say other rows) the_threads) k d ≡ said_of say other rows k
said_at say other rows k d small =
    get_or-map (said_of say other rows) the_threads k 0 d small
    ∙ ap (said_of say other rows) (thread_at k small)

put_at : {X : Type 0} (say : Members → X) (other : X) (rows : List Members) (row : Members)
    (k : ℕ) (d : X) → id_at row < 8 → list_any (λ n. n == id_at row) (map id_at rows) ≡ false →
    k < 8 → (k ≡ id_at row) ⊎ (k ≢ id_at row) →
    get_or (map (said_of say other (rows ++ row ∷ [])) the_threads) k d
    ≡ get_or (set (map (said_of say other rows) the_threads) (id_at row) (say row)) k d
put_at say other rows row k d small not_taken h (inl own) =
    let P : ℕ → Type 0 = λ n. list_any (λ m. m == n) (map id_at rows) ≡ false in
    said_at say other (rows ++ row ∷ []) k d h
    ∙ (ap (λ o. option_map_or say o other) (table_of-own rows row k own (subst P
    (sym own) not_taken))
    ∙ sym
    (get_or-set_at (map (said_of say other rows) the_threads) (id_at row) k (say row) d own small))
put_at say other rows row k d small not_taken h (inr apart) =
    said_at say other (rows ++ row ∷ []) k d h
    ∙ (ap (λ o. option_map_or say o other) (table_of-other rows row k apart)
    ∙ (sym (said_at say other rows k d h) ∙ sym
    (get_or-set_other (map (said_of say other rows) the_threads) (id_at row) k (say row) d apart)))

-- the value of each thread after one more table
put : {X : Type 0} (say : Members → X) (other : X) (rows : List Members) (row : Members)
    → id_at row < 8 → list_any (λ n. n == id_at row) (map id_at rows) ≡ false
    → map (said_of say other (rows ++ row ∷ [])) the_threads
    ≡ set (map (said_of say other rows) the_threads) (id_at row) (say row)
put say other rows row small not_taken =
    same_lists _ _
    (sym (length-set (map (said_of say other rows) the_threads) (id_at row) (say row)))
    (λ k d h. put_at say other rows row k d small not_taken h (cases_eq k (id_at row)))

pub threads_of-put : (rows : List Members) (row : Members) → id_at row < 8 →
    list_any (λ n. n == id_at row) (map id_at rows) ≡ false →
    threads_of (rows ++ row ∷ []) ≡ set (threads_of rows) (id_at row) (thread_setup row)
unfolding threads_of
threads_of-put rows row small not_taken = put thread_setup default_thread rows row small not_taken

pub modes_of-put : (rows : List Members) (row : Members) → id_at row < 8 →
    list_any (λ n. n == id_at row) (map id_at rows) ≡ false →
    modes_of (rows ++ row ∷ []) ≡ set (modes_of rows) (id_at row) (mode_at row)
unfolding modes_of
modes_of-put rows row small not_taken = put mode_at unnamed_mode rows row small not_taken

-- the tables of a list, and one more of them
abbrev pub tables : List Value → List Members
tables items = map members (map view items)

pub tables-more : (items : List Value) (i : ℕ) (x : Value) → i < length items → x ≡ get_or items i x
    → tables (take (i + 1) items) ≡ tables (take i items) ++ members (view x) ∷ []
tables-more items i x inside is =
    rw (take_more items i x inside, ← is, map-append, map-append) refl

-- a thread that no table names keeps the rules
pub unnamed-rules : IsThread default_thread
unnamed-rules = record {
  aligned = refl;
  inside = lit< tt;
  one_of_both = refl;
  unplugged = tt;
  fed = record {
    few = lit≤ tt;
    within = All-nil _;
    rising = λ i j d below inside. absurd (omega arith);
  };
}

-- after one more table: the ids so far, the remaining faults, modes and threads
pub ids-more : (ids : List ℕ) (items : List Value) (i : ℕ) (x : Value) (n : ℕ) →
    i < length ids → i < length items → x ≡ get_or items i x →
    n ≡ id_at (members (view x)) → take i ids ≡ map id_at (tables (take i items)) →
    take (i + 1) (set ids i n) ≡ map id_at (tables (take (i + 1) items))
ids-more ids items i x n room inside is same before =
    rw (take_more_set ids i n room, tables-more items i x inside is, map-append, before, same) refl

pub found-more : (size : ℕ) (found : Option Fault) (ids : List ℕ) (items : List Value)
    (i : ℕ) (x : Value) (n : ℕ) → i < length ids → i < length items → x ≡ get_or items i x →
    n ≡ id_at (members (view x)) → thread_fault size (take i ids) (thread_row i)
    (as_table (view x)) ≡ None → found ≡ threads_from size i (take i ids) (map view (drop i items))
    → found ≡ threads_from size (i + 1) (take (i + 1) (set ids i n)) (map view (drop (i + 1) items))
found-more size found ids items i x n room inside is same good before =
    let rest : drop i items ≡ x ∷ drop (i + 1) items =
    drop_more items i x inside ∙ ap (λ y. y ∷ drop (i + 1) items) (sym is) in
    let step : threads_from size i (take i ids) (map view (drop i items)) ≡ threads_from size
    (i + 1) (take i ids ++ id_at (members (view x)) ∷ []) (map view (drop (i + 1) items)) =
    rw (rest, good) refl in
    before ∙ (step ∙ ap (λ taken. threads_from size (i + 1) taken (map view (drop (i + 1) items)))
    (sym (take_more_set ids i n room ∙ ap (λ m. take i ids ++ m ∷ []) same)))

pub modes-more : (rows after : List Members) (r : Members) (old new : List ℕ) (n m : ℕ) →
    after ≡ rows ++ r ∷ [] → n ≡ id_at r → m ≡ mode_at r → n < 8 → list_any (λ k. k == n)
    (map id_at rows) ≡ false → old ≡ modes_of rows → new ≡ set old n m → new ≡ modes_of after
modes-more rows after r old new n m more id mode small not_taken before is =
    let Fresh : ℕ → Type 0 = λ k. list_any (λ l. l == k) (map id_at rows) ≡ false in
    let Small : ℕ → Type 0 = λ k. k < 8 in
    is ∙ (rw (before, id, mode, more)
    (sym (modes_of-put rows r (subst Small id small) (subst Fresh id not_taken))))

pub threads-more : (rows after : List Members) (r : Members) (old new : List ThreadSetup) (n : ℕ)
    (t : ThreadSetup) → after ≡ rows ++ r ∷ [] → n ≡ id_at r → t ≡ thread_setup r → n < 8 →
    list_any (λ k. k == n) (map id_at rows) ≡ false → old ≡ threads_of rows → new ≡ set old n t →
    new ≡ threads_of after
threads-more rows after r old new n t more id thread small not_taken before is =
    let Fresh : ℕ → Type 0 = λ k. list_any (λ l. l == k) (map id_at rows) ≡ false in
    let Small : ℕ → Type 0 = λ k. k < 8 in
    is ∙ (rw (before, id, thread, more)
    (sym (threads_of-put rows r (subst Small id small) (subst Fresh id not_taken))))

-- modes are below 4
pub few-more : (old new : List ℕ) (n m : ℕ) → m < 4 → list_all (λ k. nat_lt k 4) old ≡ true →
    new ≡ set old n m → list_all (λ k. nat_lt k 4) new ≡ true
few-more old new n m small before is =
    let P : ℕ → Type 0 = λ k. nat_lt k 4 ≡ true in
    rw is (list_all-from_AllPass (λ k. nat_lt k 4) (set old n m)
    (All-set P old n m (lt-ltb m 4 small) (AllPass-from_list_all (λ k. nat_lt k 4) old before)))
