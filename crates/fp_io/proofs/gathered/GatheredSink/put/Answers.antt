use Rattle.std.proofs.Common.{◌≡◌, ℕ, ◌+◌, ◌<◌, ◌≤◌, true, false, List, [], ◌++◌, length}
use Rattle.std.proofs.Common.{take, Result, Ok, Err, refl, sym, ap, ◌∙◌, rules, arith}
use Rattle.std.specs.Prelude.{OnErr, nat_le}
use Rattle.std.proofs.lemmas.Bool.Decides.{nat_tests}
use Rattle.std.proofs.lemmas.Slice.{take-put_mid}
use Rattle.fp_io.specs.Gathered.{gathered_with}
use Rattle.fp_io.proofs.Prefixes.{gathered_after}
use Rattle.fp_io.proofs.gathered.GatheredSink.put.Goals as goal

-- bytes that fit are gathered after those before
with-room : (gathered bytes : List ℕ) → length gathered + length bytes ≤ 8192 →
    gathered ++ bytes ≡ gathered_with 8192 gathered bytes
with-room gathered bytes fits =
    let few : nat_le (length gathered + length bytes) 8192 ≡ true =
    grind (arith, nat_tests) in rw few refl

-- bytes that don't fit leave none gathered
without-room : (gathered bytes : List ℕ) → 8192 < length gathered + length bytes →
    gathered_with 8192 gathered bytes ≡ []
without-room gathered bytes over =
    let many : nat_le (length gathered + length bytes) 8192 ≡ false =
    grind (arith, nat_tests) in rw many refl

on-error : {T E P : Type 0} (r : Result T E) → P → OnErr r P
on-error (Ok x) p = tt
on-error (Err e) p = p

pub returns-then-bytes-self-clause-full : goal.returns-then-bytes-self-clause-full
returns-then-bytes-self-clause-full g c =
    let over : 8192 < length (take c.self.inside.len c.self.inside.room) + length c.args.bytes.now =
    search rules in
    rw (← c.self.view_is) (on-error c.hand_on.result over)

pub returns-then-bytes-self-clause-room : goal.returns-then-bytes-self-clause-room
returns-then-bytes-self-clause-room g c =
    let over : 8192 < length (take c.self.inside.len c.self.inside.room) + length c.args.bytes.now =
    search rules in
    rw (← c.self.view_is) (λ fits. absurd (omega (arith, over, fits)))

pub returns-then-bytes-self-clause-gathered : goal.returns-then-bytes-self-clause-gathered
returns-then-bytes-self-clause-gathered g c =
    let over : 8192 < length (take c.self.inside.len c.self.inside.room) + length c.args.bytes.now =
    search rules in
    c.hand_on.ensures.gathered ∙ rw (← c.self.view_is) (sym (without-room _ _ over))

pub returns-clause-ok : goal.returns-clause-ok
returns-clause-ok g c =
    let s = c.self.inside in
    let whole : s.len ≤ length s.room = search rules in
    let same = c.copy_from_slice.ensures.after in
    rw (
      take-put_mid s.len _ s.room _ (s.len + length c.args.bytes.now)
          (ap (λ (ys : List ℕ). s.len + length ys) (sym same)) whole,
      same,
      ← c.self.view_is,
    ) (gathered_after _ _ _)

pub returns-clause-gathered : goal.returns-clause-gathered
returns-clause-gathered g c =
    let s = c.self.inside in
    let whole : s.len ≤ length s.room = search rules in
    let same = c.copy_from_slice.ensures.after in
    let few : length (take s.len s.room) + length c.args.bytes.now ≤ 8192 = search rules in
    rw (
      take-put_mid s.len _ s.room _ (s.len + length c.args.bytes.now)
          (ap (λ (ys : List ℕ). s.len + length ys) (sym same)) whole,
      same,
      ← c.self.view_is,
    ) (with-room _ _ few)
