-- The words of code, its calls and returns.
use Rattle.std.proofs.Common.{◌≡◌, ℕ, ◌+◌, ◌*◌, ◌<◌, refl, arith, ap, sym, ◌∙◌, Option, Some, None}
use Rattle.std.proofs.Common.{MatchOption, is_some, Bool, true, false, List, length, slice_index_or}
use Rattle.std.specs.List.{position}
use Rattle.rv_decode.specs.Table.{ins}
use Rattle.std.proofs.lemmas.List.Elements.{Contains-get_or}
use Rattle.fp_setup.specs.declared.loop_list.LoopSetup.{LoopSetup}
use Rattle.region_tree.specs.Tree.{IsSection, tree_with, section_words}
use Rattle.region_tree.specs.declared.section.Section.{Section}
use Rattle.region_tree.proofs.DraftLaws.{words-length}
use Rattle.call_bounds.specs.Routines.{AreRoutines, IsRoutine}
use Rattle.call_bounds.specs.declared.routines.Routine.{Routine}
use Rattle.call_bounds.specs.Calls.{Calls, Function, callee, link_target, range, routine_to}
use Rattle.call_bounds.specs.Listing.{Listing, calls, function_at, function_count, scratchpad}
use Rattle.call_bounds.specs.Patched.{function_tree, patch, patched_word}
use Rattle.call_bounds.proofs.Called.{has, index-none, index-some}
use Rattle.call_bounds.proofs.Numbers.{function-routine, routine-of}

-- the number of words of the scratchpad
pub scratchpad-length : (memory : ℕ → ℕ) (words : List ℕ) →
    words ≡ section_words memory scratchpad → length words ≡ 16384
scratchpad-length memory words e =
    let is : IsSection scratchpad =
    record { order = omega arith; from_aligned = refl; to_aligned = refl; end = omega arith } in
    let z : 65536 ≡ 0 + 4 * length (section_words memory scratchpad) =
    words-length memory scratchpad is in
    ap length e ∙ (let y : length (section_words memory scratchpad) ≡ 16384 = omega arith in y)

callee-at : (x : Calls) (u h w : ℕ) → w ≡ x.word u → Some h ≡ link_target u (ins w) →
    link_target u (ins (x.word u)) ≡ Some h
callee-at x u h w e f = ap (λ w. link_target u (ins w)) (sym e) ∙ sym f

pub callee-none : (x : Calls) (u h w : ℕ) → w ≡ x.word u → Some h ≡ link_target u (ins w) →
    None ≡ position (has h) x.routines → callee x u ≡ None
callee-none x u h w e f g =
    ap (routine_to x.routines) (callee-at x u h w e f) ∙ index-none x.routines h (sym g)

pub callee-some : (l : Listing) (u h w k : ℕ) → w ≡ (calls l).word u →
    Some h ≡ link_target u (ins w) → Some k ≡ position (has h) l.routines →
    (0 < k + 1) × (k + 1 < function_count l) × (callee (calls l) u ≡ function_at l (k + 1))
callee-some l u h w k e f g =
    let z = index-some l.routines h k (record { head = 0; last = 0 }) (sym g) in (
      omega arith,
      omega (arith, z.0),
      ap (routine_to l.routines) (callee-at (calls l) u h w e f)
          ∙ (z.1 ∙ sym (function-routine l k (record { head = 0; last = 0 }) z.0)),
    )

-- the word in the place of a call
pub patch-call : (l : Listing) (u w : ℕ) (back : Bool) (o : Option ℕ) →
    is_some o ≡ true → MatchOption o (callee (calls l) u ≡ None)
    (λ k. (0 < k) × (k < function_count l) × (callee (calls l) u ≡ function_at l k)) →
    0xc0002073 ≡ patch (callee (calls l) u) back w
patch-call l u w back None e says = cc
patch-call l u w back (Some k) e says =
    let z = routine-of l k says.0 says.1 in sym (ap (λ o. patch o back w) (says.2 ∙ z.1))

-- the word in the place of a return
pub patch-return : (l : Listing) (u w : ℕ) (back : Bool) (o : Option ℕ) →
    is_some o ≡ false → back ≡ true → MatchOption o (callee (calls l) u ≡ None)
    (λ k. (0 < k) × (k < function_count l) × (callee (calls l) u ≡ function_at l k)) →
    0x00000073 ≡ patch (callee (calls l) u) back w
patch-return l u w back None e is says =
    sym (ap (λ o. patch o back w) says ∙ ap (λ b. patch None b w) is)
patch-return l u w back (Some k) e is says = cc

-- the number of words of a function
pub function-words : (memory : ℕ → ℕ) (s t : Section) (words : List ℕ) → IsSection s → s ≡ t →
    words ≡ section_words memory t → s.to ≡ s.from + 4 * length words
function-words memory s t words is e f =
    words-length memory s is
    ∙ ap (λ ws. s.from + 4 * length ws) (ap (section_words memory) e ∙ sym f)

-- the tree of a function, from its words and loops
pub tree-eq : (x : Calls) (p : Function) (s : Section) (words : List ℕ) (loops : List LoopSetup) →
    s ≡ range x p → words ≡ section_words (patched_word x p) (range x p) → loops ≡ x.loops →
    tree_with s words loops ≡ function_tree x p
tree-eq x p s words loops a b c = λ i. tree_with (a i) (b i) (c i)

-- a listed routine by its index
pub routine-is : (rs : List Routine) (k : ℕ) (d : Routine) → AreRoutines rs → k < length rs →
    IsRoutine (slice_index_or rs k d)
routine-is rs k d are h = are.each (slice_index_or rs k d) (Contains-get_or rs k d h)
