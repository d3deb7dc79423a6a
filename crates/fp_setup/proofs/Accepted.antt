-- A setup that is accepted keeps the rules.
use Rattle.std.proofs.Common.{◌≡◌, ◌⊎◌, inl, inr, ℕ, ◌%◌, ◌<◌, ◌≤◌, ◌==◌, ◌&&◌, Bool, true, false}
use Rattle.std.proofs.Common.{nat_le, nat_lt, lit≤, leb-true, List, [], length, map, Option, Some}
use Rattle.std.proofs.Common.{None, Ok, Err, if◌then◌else◌, IsTrue, codes, refl, subst, arith}
use Rattle.std.specs.Option.{option_map_or}
use Rattle.std.proofs.lemmas.Bool.{and_parts, cases_lt}
use Rattle.toml.specs.Data.{Data, Members, get_member}
use Rattle.fp_setup.specs.declared.refusal.Fault.{Fault}
use Rattle.fp_setup.specs.declared.refusal.SetupNo.TheVariants as no
use Rattle.fp_setup.specs.declared.vocabulary.Words.TheVariants.{Slots, Owners}
use Rattle.fp_setup.specs.Faults.{fault_at, key_of, no_place, top}
use Rattle.fp_setup.specs.Keys.{names, top_keys}
use Rattle.fp_setup.specs.AcceptedSetups.{AcceptedKeepRules}
use Rattle.fp_setup.specs.Rules.{KeepsRules}
use Rattle.fp_setup.specs.Settings.{Settings, size_of}
use Rattle.fp_setup.specs.Values.{elements, members, number, number_at, text, text_at}
use Rattle.fp_setup.specs.Vocabulary.{is_word}
use Rattle.fp_setup.specs.Checks.{is_in, integer_check, bytes_check, eight_check, list_check}
use Rattle.fp_setup.specs.FaultOrder.{Around, integers, key_fault, keys_fault, unknown_fault}
use Rattle.fp_setup.specs.FaultOrder.{threads_fault, loops_fault, top_check, top_fault}
use Rattle.fp_setup.specs.SetupOfTables.{loop_of, nibble_word, rows_at, settings, version_at}
use Rattle.fp_setup.specs.Setup.{document, setup, setup_in, setup_of, unless_fault}
use Rattle.fp_setup.proofs.RowsKept.{AreLoopsKept, AreRowsKept, loops-kept, threads-kept}
use Rattle.fp_setup.proofs.TopTable.{period_within}
use Rattle.fp_setup.proofs.ValuesKept.{IsLong, bytes-kept, eight-kept, integer-kept}
use Rattle.fp_setup.proofs.ValuesKept.{list-kept, needed-kept, optional-kept, parts}

abbrev OneOrTwo : ℕ → Type 0
OneOrTwo version = (version ≡ 1) ⊎ (version ≡ 2)

one-or-two : (n : ℕ) → is_in (integers 1 2) n ≡ true → OneOrTwo n
one-or-two n h = go (cases_lt n 2)
  where
    range : (nat_le 1 n ≡ true) × (nat_le n 2 ≡ true)
    range =
        and_parts (nat_le 1 n) (nat_le n 2) (and_parts (nat_le 1 n && nat_le n 2) (n % 1 == 0) h).0

    go : (n < 2) ⊎ (2 ≤ n) → OneOrTwo n
    go (inl l) = inl (omega (arith, l, leb-true 1 n range.0))
    go (inr g) = inr (omega (arith, g, leb-true n 2 range.1))

sized : (version : ℕ) → (4 ≤ size_of version) × (size_of version ≤ 65536)
sized version = go (version == 2)
  where
    go : (b : Bool) → (4 ≤ (if b then 65536 else 16384)) × ((if b then 65536 else 16384) ≤ 65536)
    go true = (lit≤ tt, lit≤ tt)
    go false = (lit≤ tt, lit≤ tt)

threads-or-none : (size : ℕ) (o : Option Data) → 4 ≤ size → size ≤ 65536 →
    key_fault (list_check 8 (threads_fault size)) false (key_of top 7) o ≡ None →
    AreRowsKept size (map members (option_map_or elements o []))
unfolding threads_fault
threads-or-none size o low high h =
    optional-kept (λ (ds : List Data). AreRowsKept size (map members ds)) elements []
    (list_check 8 (threads_fault size)) (key_of top 7) o h
    (threads-kept size [] low high refl) (λ d good. threads-kept size (elements d) low high
    (list-kept 8 (threads_fault size) (key_of top 7) d good).1)

loops-or-none : (size : ℕ) (o : Option Data) → 4 ≤ size →
    key_fault (list_check 256 (loops_fault size)) false (key_of top 8) o ≡ None →
    AreLoopsKept size (map loop_of (map members (option_map_or elements o [])))
unfolding loops_fault
loops-or-none size o low h =
    optional-kept (λ (ds : List Data). AreLoopsKept size (map loop_of (map members ds))) elements []
    (list_check 256 (loops_fault size)) (key_of top 8) o h
    (loops-kept size [] low (omega arith) refl)
    (λ d good. (let (few, each) = list-kept 256 (loops_fault size) (key_of top 8) d good in
    loops-kept size (elements d) low few each))

table-kept : (ms : Members) → top_fault (size_of (version_at ms)) ms ≡ None →
    KeepsRules (settings ms)
unfolding top_fault settings
table-kept ms h =
    let size : ℕ = size_of (version_at ms) in
    let around : Around = record { size = size; table = ms; ids = [] } in
    let (known, keys) = parts (unknown_fault (names top_keys) top ms)
    (keys_fault (top_check around) top 1 top_keys ms) h in
    let (version, after_version) = parts _ _ keys in
    let (period, after_period) = parts _ _ after_version in
    let (image, after_image) = parts _ _ after_period in
    let (slots, after_slots) = parts _ _ after_image in
    let (iregions, after_iregions) = parts _ _ after_slots in
    let (dregions, after_dregions) = parts _ _ after_iregions in
    let (thread, after_thread) = parts _ _ after_dregions in
    let (loop, after_loop) = parts _ _ after_thread in
    let (low, high) = sized (version_at ms) in
    let nanoseconds : is_in (integers 1 1000) (number_at (codes "period") ms) ≡ true =
    needed-kept (λ n. is_in (integers 1 1000) n ≡ true) number 0
    (integer_check (integers 1 1000)) (key_of top 2) (get_member (codes "period") ms) period
    (λ d good. integer-kept (integers 1 1000) (key_of top 2) d good) in
    let name : IsLong 1 255 (text_at (codes "image") ms) =
    needed-kept (IsLong 1 255) text [] (bytes_check 1 255) (key_of top 3)
    (get_member (codes "image") ms) image (λ d good. bytes-kept 1 255 (key_of top 3) d good) in
    let rows : AreRowsKept size (rows_at (codes "thread") ms) =
    threads-or-none size (get_member (codes "thread") ms) low high thread in
    let loops : AreLoopsKept size (map loop_of (rows_at (codes "loop") ms)) =
    loops-or-none size (get_member (codes "loop") ms) low loop in
    record {
      version =
          optional-kept OneOrTwo number 1 (integer_check (integers 1 2))
          (key_of top 1) (get_member (codes "version") ms) version (inl refl)
          (λ d good. one-or-two (number d) (integer-kept (integers 1 2) (key_of top 1) d good));
      period_low = (period_within (number_at (codes "period") ms) nanoseconds).0;
      period_high = (period_within (number_at (codes "period") ms) nanoseconds).1;
      slots =
          needed-kept (λ (ds : List Data). IsTrue (is_word Slots (nibble_word Slots ds)))
          elements [] (eight_check Slots) (key_of top 4) (get_member (codes "slots") ms) slots
          (λ d good. eight-kept Slots (key_of top 4) d good);
      modes = rows.modes;
      iregions =
          needed-kept (λ (ds : List Data). IsTrue (is_word Owners (nibble_word Owners ds))) elements
          [] (eight_check Owners) (key_of top 5) (get_member (codes "i_regions") ms) iregions
          (λ d good. eight-kept Owners (key_of top 5) d good);
      dregions =
          needed-kept (λ (ds : List Data). IsTrue (is_word Owners (nibble_word Owners ds))) elements
          [] (eight_check Owners) (key_of top 6) (get_member (codes "d_regions") ms) dregions
          (λ d good. eight-kept Owners (key_of top 6) d good);
      named = name.0;
      name_short = name.1;
      threads = rows.threads;
      entries = rows.entries;
      loops = loops.rules;
      ends = loops.ends;
    }

refuses : (f : Fault) (s : Settings) → Err f ≡ Ok s → ⊥
refuses f s is = cc

of-table : (ms : Members) (s : Settings) (found : Option Fault) →
    top_fault (size_of (version_at ms)) ms ≡ found →
    unless_fault found (settings ms) ≡ Ok s → KeepsRules s
of-table ms s None good is =
    let same : settings ms ≡ s = cc in subst KeepsRules same (table-kept ms good)
of-table ms s (Some f) bad is = absurd (refuses f s is)

in-document : (o : Option Members) (s : Settings) → setup_in o ≡ Ok s → KeepsRules s
unfolding setup_of
in-document None s is = absurd (refuses (fault_at no.Toml no_place) s is)
in-document (Some ms) s is = of-table ms s (top_fault (size_of (version_at ms)) ms) refl is

pub accepted-keep : AcceptedKeepRules
unfolding setup
accepted-keep bytes s is = go (nat_lt 262144 (length bytes)) is
  where
    go : (b : Bool) →
        (if b then Err (fault_at no.TooLong no_place) else setup_in (document bytes)) ≡ Ok s →
        KeepsRules s
    go true e = absurd (refuses (fault_at no.TooLong no_place) s e)
    go false e = in-document (document bytes) s e
