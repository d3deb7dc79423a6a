-- The eight threads of given entries and flags, one after another.
use Rattle.std.proofs.Common.{◌≡◌, ◌<◌, ◌+◌, ◌%◌, ◌==◌, ℕ, Bool, true, false, nat_lt, List, []}
use Rattle.std.proofs.Common.{◌∷◌, ◌++◌, length, map, take, get_or, set, lit≤, refl, ap, ◌∙◌, arith}
use Rattle.std.specs.List.{list_all}
use Rattle.std.proofs.lemmas.Bool.{and_parts, ltb-true, eqb-true}
use Rattle.std.proofs.Math.Bool.{and-false}
use Rattle.std.proofs.lemmas.List.{map_more, take_more_set}
use Rattle.std.proofs.lemmas.List.Elements.{All-nil}
use Rattle.std.proofs.lemmas.List.Sums.{AllPass-from_list_all}
use Rattle.fp_setup.specs.declared.thread_list.ThreadSetup.{ThreadSetup}
use Rattle.fp_setup.specs.Threads.{IsThread}
use Rattle.fp_setup.specs.SetupOfTables.{the_threads}
use Rattle.fp_setup.specs.Plain.{is_entry, plain_at}
use Rattle.fp_setup.proofs.RowPut.{thread_at}

-- each of them keeps the rules, and starts in the scratchpad of version 1
pub rules_at : (entries : List ℕ) (confined : List Bool) (k : ℕ) →
    k < length entries → list_all is_entry entries ≡ true →
    IsThread (plain_at entries confined k) × ((plain_at entries confined k).entry < 16384)
rules_at entries confined k small good =
    let here : is_entry (get_or entries k 0) ≡ true =
    AllPass-from_list_all is_entry entries good k 0 small in
    let (low, even) =
    and_parts (nat_lt (get_or entries k 0) 16384) (get_or entries k 0 % 4 == 0) here in
    let inside : get_or entries k 0 < 16384 = ltb-true (get_or entries k 0) 16384 low in
    let aligned : get_or entries k 0 % 4 ≡ 0 = eqb-true (get_or entries k 0 % 4) 0 even in (
      record {
        aligned = aligned;
        inside = omega arith;
        one_of_both = and-false (get_or confined k false);
        unplugged = tt;
        fed = record {
          few = lit≤ tt;
          within = All-nil _;
          rising = λ i j d below within. absurd (omega arith);
        };
      },
      inside,
    )

-- one more thread
pub made-more : (f : ℕ → ThreadSetup) (old new : List ThreadSetup) (k : ℕ) (t : ThreadSetup) →
    k < 8 → length old ≡ 8 → t ≡ f k → new ≡ set old k t → take k old ≡ map f (take k the_threads) →
    take (k + 1) new ≡ map f (take (k + 1) the_threads)
made-more f old new k t small eight is put before =
    let inside : k < length old = omega arith in
    let more : map f (take (k + 1) the_threads) ≡ map f (take k the_threads) ++ f k ∷ [] =
    map_more f the_threads k 0 small
    ∙ ap (λ n. map f (take k the_threads) ++ f n ∷ []) (thread_at k small) in
    rw (put, take_more_set old k t inside, more, before, is) refl
