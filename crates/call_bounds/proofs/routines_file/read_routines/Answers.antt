use Rattle.std.proofs.Common.{◌≡◌, inr, ◌<◌, ℕ, suc, ◌+◌, ◌++◌, [], ◌∷◌, List, length, Option, Some}
use Rattle.std.proofs.Common.{None, Result, Ok, Err, sym, ap, ◌∙◌, subst, arith, length-append}
use Rattle.std.specs.Prelude.{min}
use Rattle.call_bounds.specs.Routines.{AreRoutines}
use Rattle.call_bounds.specs.RoutinesFile.{lines_of, routine_at, routines_from, routines_of}
use Rattle.call_bounds.specs.declared.routines_refusals.RoutinesRefused.{RoutinesRefused}
use Rattle.call_bounds.specs.declared.routines.Routine.{Routine}
use Rattle.call_bounds.proofs.RoutineLines.{all-joined, joined, joined-cons}
use Rattle.call_bounds.proofs.RoutineLines.{joined-none, line-next, line-stops}
use Rattle.call_bounds.proofs.RisingRoutines.{ends-there, one-more}
use Rattle.call_bounds.proofs.routines_file.read_routines.Goals as goal

-- at first no byte is read
starts : (size : ℕ) (file : List ℕ) (n : ℕ) (xs : List Routine) (rest : List ℕ) → n ≡ 1 → xs ≡ [] →
    rest ≡ file → routines_of size file ≡ joined xs (routines_from size n None (lines_of rest))
unfolding routines_of
starts size file n xs rest one none same =
    rw (one, none, same) (joined-none (routines_from size 1 None (lines_of file)))

no-lines : AreRoutines []
no-lines = record {
  few = omega arith;
  each = λ r c. (let z = c.1 in absurd (omega (arith, z)));
  rise = tt;
}

-- a fault of the next line is that of the file
stops : (size n : ℕ) (before : Option Routine) (bytes line rest : List ℕ) (xs : List Routine)
    (e : RoutinesRefused) (whole : Result (List Routine) RoutinesRefused) →
    whole ≡ joined xs (routines_from size n before (lines_of bytes)) →
    bytes ≡ line ++ rest → length line ≡ min 18 (length bytes) → 0 < length bytes →
    routine_at size n before line ≡ Err e → whole ≡ Err e
stops size n before bytes line rest xs e whole is cut len some fault =
    is ∙ (ap (λ b. joined xs (routines_from size n before (lines_of b))) cut
    ∙ ap (joined xs) (line-stops size n before line rest e (subst (λ b. length line
    ≡ min 18 (length b)) cut len) (subst (λ b. 0 < length b) cut some) fault))

-- the next routine
goes_on : (size n m : ℕ) (before : Option Routine) (bytes line rest : List ℕ)
    (xs ys : List Routine) (r : Routine) (whole : Result (List Routine) RoutinesRefused) →
    whole ≡ joined xs (routines_from size n before (lines_of bytes)) → bytes ≡ line ++ rest →
    routine_at size n before line ≡ Ok r → m ≡ suc n → ys ≡ xs ++ r ∷ [] →
    whole ≡ joined ys (routines_from size m (Some r) (lines_of rest))
goes_on size n m before bytes line rest xs ys r whole is cut next count added =
    rw (count, added) (is ∙ (ap (λ b. joined xs (routines_from size n before (lines_of b))) cut
    ∙ (ap (joined xs) (line-next size n before line rest r next)
    ∙ joined-cons xs r (routines_from size (suc n) (Some r) (lines_of rest)))))

pub loop-line-init : goal.loop-line-init
loop-line-init c =
    let all : c.into_iter-line-iterator.result.rest.now ≡ c.args.bytes.now =
    rw c.into_iter-line-iterator.ensures.into_iter_gives c.chunks-line-items.ensures.rest in
    let none : length c.new-items.result.items ≡ 0 =
    ap (λ (l : List Routine). length l) c.new-items.ensures.items in
    record {
      whole =
          starts c.args.size c.args.bytes.now (suc (length c.new-items.result.items))
          c.new-items.result.items c.into_iter-line-iterator.result.rest.now
          (omega (arith, none)) c.new-items.ensures.items all;
      width = rw c.into_iter-line-iterator.ensures.into_iter_gives c.chunks-line-items.ensures.size;
      rules = rw c.new-items.ensures.items no-lines;
      end = λ t h. (let z = h.1 in absurd (omega (arith, none, z)));
    }

pub routine_at-requires-clause-number : goal.routine_at-requires-clause-number
routine_at-requires-clause-number c =
    let few = c.loop-line.invariant.rules.few in
    omega (arith, c.len.ensures, few)

pub returns-in-Err : goal.returns-in-Err
returns-in-Err c =
    let steps = c.in-Some.ensures.steps in
    let n : c.len.result + 1 ≡ suc (length c.loop-line.items.items) =
    omega (arith, c.len.ensures) in
    inr (sym (stops c.args.size
    (suc (length c.loop-line.items.items)) c.loop-line.before c.loop-line.line-iterator.rest.now
    c.in-Some.line.now c.next.new.self.rest.now c.loop-line.items.items c.in-Err.refused
    (routines_of c.args.size c.args.bytes.now) c.loop-line.invariant.whole steps.1.0
    (subst (λ k. length c.in-Some.line.now ≡ min k (length c.loop-line.line-iterator.rest.now))
    c.loop-line.invariant.width steps.1.1) steps.1.2
    (subst (λ k. routine_at c.args.size k c.loop-line.before c.in-Some.line.now
    ≡ Err c.in-Err.refused) n (sym c.in-Err.ensures.value))))

pub loop-line-preserved : goal.loop-line-preserved
loop-line-preserved c =
    let steps = c.in-Some.ensures.steps in
    let xs : List Routine = c.loop-line.items.items in
    let r : Routine = c.in-Ok.routine in
    let added : c.push.new.self.items ≡ xs ++ r ∷ [] =
    rw c.if-is_err.ensures.negation at c.push.ensures.items in
    let n : c.len.result + 1 ≡ suc (length xs) = omega (arith, c.len.ensures) in
    let few : length xs < 64 = omega (arith, c.len.ensures, c.in-Ok.ensures.few) in
    let more : length c.push.new.self.items ≡ suc (length xs) =
    rw added (simp length-append (omega arith)) in
    record {
      whole =
          goes_on c.args.size (suc (length xs))
          (suc (length c.push.new.self.items)) c.loop-line.before c.loop-line.line-iterator.rest.now
          c.in-Some.line.now c.next.new.self.rest.now xs c.push.new.self.items r
          (routines_of c.args.size c.args.bytes.now) c.loop-line.invariant.whole steps.1.0
          (subst (λ k. routine_at c.args.size k c.loop-line.before c.in-Some.line.now ≡ Ok r) n
          (sym c.in-Ok.ensures.value)) (ap suc more) added;
      width = steps.0 ∙ c.loop-line.invariant.width;
      rules =
          rw added
          (one-more c.args.size c.loop-line.before xs r c.requires c.loop-line.invariant.rules
          c.loop-line.invariant.end few c.in-Ok.ensures.placed c.in-Ok.ensures.above);
      end =
          rw added (ends-there c.args.size c.loop-line.before xs r c.loop-line.invariant.end
          c.in-Ok.ensures.placed c.in-Ok.ensures.above);
    }

pub from_vec-requires : goal.from_vec-requires
from_vec-requires c = c.loop-line.invariant.rules

pub returns : goal.returns
returns c =
    let steps = c.in-None.ensures.steps in
    inr (ap Ok c.from_vec.ensures ∙ sym (c.loop-line.invariant.whole
    ∙ all-joined c.args.size (suc (length c.loop-line.items.items)) c.loop-line.before
    c.loop-line.line-iterator.rest.now c.loop-line.items.items steps.1.0))
