-- The routine with a head, by its index.
use Rattle.std.proofs.Common.{◌≡◌, ℕ, suc, ◌+◌, ◌<◌, ◌≤◌, ◌==◌, refl, arith, sym}
use Rattle.std.proofs.Common.{subst, cond, not, nat_lt, if◌then◌else◌, Some, None}
use Rattle.std.proofs.Common.{List, [], ◌∷◌, length, slice_index_or, Bool, true, false}
use Rattle.std.specs.List.{position, position_or_len}
use Rattle.std.proofs.lemmas.Bool.Decides.{nat_tests}
use Rattle.call_bounds.specs.declared.routines.Routine.{Routine}
use Rattle.call_bounds.specs.Calls.{routine_at}

abbrev pub has : ℕ → Routine → Bool
has a r = r.head == a

at-index : (rs : List Routine) (a : ℕ) (d : Routine) → position_or_len (has a) rs < length rs →
    routine_at rs a ≡ Some (slice_index_or rs (position_or_len (has a) rs) d)
unfolding routine_at
at-index [] a d h = absurd (omega arith)
at-index (y ∷ rs) a d h = go (y.head == a) refl h (at-index rs a d)
  where
    go : (b : Bool) → (y.head == a) ≡ b →
        cond (not b) (1 + position_or_len (has a) rs) 0 < length (y ∷ rs) →
        (position_or_len (has a) rs < length rs →
        routine_at rs a ≡ Some (slice_index_or rs (position_or_len (has a) rs) d)) →
        (if b then Some y else routine_at rs a)
        ≡ Some (slice_index_or (y ∷ rs) (cond (not b) (1 + position_or_len (has a) rs) 0) d)
    go true e h later = refl
    go false e h later =
        let s : 1 + position_or_len (has a) rs ≡ suc (position_or_len (has a) rs) = omega arith in
        subst (λ i. routine_at rs a ≡ Some (slice_index_or (y ∷ rs) i d)) (sym s)
        (later (omega arith))

at-none : (rs : List Routine) (a : ℕ) → length rs ≤ position_or_len (has a) rs →
    routine_at rs a ≡ None
unfolding routine_at
at-none [] a h = refl
at-none (y ∷ rs) a h = go (y.head == a) refl h (at-none rs a)
  where
    go : (b : Bool) → (y.head == a) ≡ b →
        length (y ∷ rs) ≤ cond (not b) (1 + position_or_len (has a) rs) 0 →
        (length rs ≤ position_or_len (has a) rs → routine_at rs a ≡ None) →
        (if b then Some y else routine_at rs a) ≡ None
    go true e h later = absurd (omega arith)
    go false e h later = later (omega arith)

pub index-none : (rs : List Routine) (a : ℕ) → position (has a) rs ≡ None → routine_at rs a ≡ None
index-none rs a h = go (nat_lt (position_or_len (has a) rs) (length rs)) refl h
  where
    go : (b : Bool) → nat_lt (position_or_len (has a) rs) (length rs) ≡ b →
        cond b (Some (position_or_len (has a) rs)) None ≡ None → routine_at rs a ≡ None
    go true e h = cc
    go false e h = at-none rs a (grind (arith, nat_tests))

pub index-some : (rs : List Routine) (a k : ℕ) (d : Routine) → position (has a) rs ≡ Some k →
    (k < length rs) × (routine_at rs a ≡ Some (slice_index_or rs k d))
index-some rs a k d h = go (nat_lt (position_or_len (has a) rs) (length rs)) refl h
  where
    go : (b : Bool) → nat_lt (position_or_len (has a) rs) (length rs) ≡ b →
        cond b (Some (position_or_len (has a) rs)) None ≡ Some k →
        (k < length rs) × (routine_at rs a ≡ Some (slice_index_or rs k d))
    go true e h =
        let same : position_or_len (has a) rs ≡ k = cc in
        let lt : position_or_len (has a) rs < length rs = grind (arith, nat_tests) in (
          omega arith,
          subst (λ i. routine_at rs a ≡ Some (slice_index_or rs i d)) same (at-index rs a d lt),
        )
    go false e h = cc
