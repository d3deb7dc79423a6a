-- The setting of a cycle is the content of the registers two cycles before it.
use Rattle.std.proofs.Common.{◌≡◌, ℕ, zero, suc, ◌+◌, ◌-◌, ◌<◌, ◌≤◌, inl, inr}
use Rattle.std.proofs.Common.{◌⊎◌, Bool, true, false, ◌&&◌, List, [], ◌∷◌}
use Rattle.std.proofs.Common.{◌++◌, Some, None, refl, ap, sym, ◌∙◌, arith}
use Rattle.std.specs.Prelude.{if◌then◌else◌, Option, ◌==◌, nat_le}
use Rattle.std.specs.List.{list_all}
use Rattle.std.proofs.lemmas.Bool.{cases_lt}
use Rattle.std.proofs.lemmas.Bool.Decides.{nat_tests}
use Rattle.rv_exec.specs.declared.outcome.Effect.{Effect}
use Rattle.rv_exec.specs.declared.outcome.Effect.TheVariants.{Nothing, Reg, Store, Csr, Trap, Wait}
use Rattle.core_model.specs.World.{Start, Took, Registers, world, recent, newest, registers_after}
use Rattle.core_model.specs.World.Took.{Idle, Lost, Ran}
use Rattle.core_model.proofs.Turns.{nexts, ages, Turned}
use Rattle.core_model.specs.declared.phase.Phase.{Phase}
use Rattle.core_model.specs.Phases.{phase_after, last_phase, phases_of, first_phase}
use Rattle.core_model.specs.Phased.{latest, no_phase}
use Rattle.core_model.specs.SettingLaws.{Matches, SettingsOfPicks, UnretiredUnseen}

pub latest-append : (c : ℕ) (p : Phase) (ps qs : List Phase) →
    latest c p (ps ++ qs) ≡ latest c (latest c p ps) qs
latest-append c p [] qs = refl
latest-append c p (q ∷ ps) qs = latest-append c (if nat_le q.from c then q else p) ps qs

pub last-append : (p : Phase) (ps qs : List Phase) →
    last_phase p (ps ++ qs) ≡ last_phase (last_phase p ps) qs
last-append p [] qs = refl
last-append p (q ∷ ps) qs = last-append q ps qs

-- a turn's setting takes effect at the earliest in the third cycle after it
unseen : (b c : ℕ) (took : Took) (p q : Phase) → b < c + 3 → latest b p (phase_after c took q) ≡ p
unseen b c Idle p q l = refl
unseen b c (Lost k) p q l = refl
unseen b c (Ran k pc word None) p q l = refl
unseen b c (Ran k pc word (Some Nothing)) p q l = refl
unseen b c (Ran k pc word (Some (Reg rd value))) p q l = refl
unseen b c (Ran k pc word (Some (Store address width value))) p q l = refl
unseen b c (Ran k pc word (Some (Trap cause target))) p q l = refl
unseen b c (Ran k pc word (Some Wait)) p q l = refl
unseen b c (Ran k pc word (Some (Csr csr value rd old))) p q l = go (csr == 0x7C0) (csr == 0x7C1)
  where
    late : nat_le (c + 3) b ≡ false
    late = grind (arith, nat_tests)

    go : (x y : Bool) →
        latest b p (if x then record { from = c + 3; slots = value; modes = q.modes } ∷ []
        else if y
        then record { from = c + 3; slots = q.slots; modes = value } ∷ []
        else []) ≡ p
    go true y = rw late refl
    go false true = rw late refl
    go false false = refl

-- and from then on it is visible
seen : (b c : ℕ) (took : Took) (p q : Phase) → c + 3 ≤ b →
    latest b p (phase_after c took q) ≡ last_phase p (phase_after c took q)
seen b c Idle p q l = refl
seen b c (Lost k) p q l = refl
seen b c (Ran k pc word None) p q l = refl
seen b c (Ran k pc word (Some Nothing)) p q l = refl
seen b c (Ran k pc word (Some (Reg rd value))) p q l = refl
seen b c (Ran k pc word (Some (Store address width value))) p q l = refl
seen b c (Ran k pc word (Some (Trap cause target))) p q l = refl
seen b c (Ran k pc word (Some Wait)) p q l = refl
seen b c (Ran k pc word (Some (Csr csr value rd old))) p q l = go (csr == 0x7C0) (csr == 0x7C1)
  where
    here : nat_le (c + 3) b ≡ true
    here = grind (arith, nat_tests)

    P : Bool → Bool → List Phase
    P x y =
        if x then record { from = c + 3; slots = value; modes = q.modes } ∷ []
        else if y then record { from = c + 3; slots = q.slots; modes = value } ∷ [] else []

    go : (x y : Bool) → latest b p (P x y) ≡ last_phase p (P x y)
    go true y = rw here refl
    go false true = rw here refl
    go false false = refl

-- the last entry is the content of the registers
after-matches : (c k pc word : ℕ) (e : Option Effect) (p : Phase) (r : Registers) → Matches p r →
    Matches (last_phase p (phase_after c (Ran k pc word e) p)) (registers_after e r)
after-matches c k pc word None p r m = m
after-matches c k pc word (Some Nothing) p r m = m
after-matches c k pc word (Some (Reg rd value)) p r m = m
after-matches c k pc word (Some (Store address width value)) p r m = m
after-matches c k pc word (Some (Trap cause target)) p r m = m
after-matches c k pc word (Some Wait) p r m = m
after-matches c k pc word (Some (Csr csr value rd old)) p r m =
    go (csr == 0x7C0) (csr == 0x7C1) (csr == 0x7C2) (csr == 0x7C3)
  where
    go : (x y z u : Bool) → Matches
        (last_phase p (if x then record { from = c + 3; slots = value; modes = p.modes } ∷ []
        else if y then record { from = c + 3; slots = p.slots; modes = value } ∷ [] else []))
        (if x then record r { slots = value }
        else if y then record r { modes = value }
        else if z
        then record r { dregions = value }
        else if u then record r { iregions = value } else r)
    go true y z u = record { slots = refl; modes = m.modes }
    go false true z u = record { slots = m.slots; modes = refl }
    go false false true u = record { slots = m.slots; modes = m.modes }
    go false false false true = record { slots = m.slots; modes = m.modes }
    go false false false false = m

-- the entries of the cycles before n
abbrev Before : Start → ℕ → List Phase
Before s n = phases_of (first_phase s) (world s n).turns

before-next : (s : Start) (n : ℕ) → Before s (suc n) ≡ Before s n
    ++ phase_after n (newest (world s (suc n))) (last_phase (first_phase s) (Before s n))
before-next s n = rw ((nexts s n).turns, ages s n) refl

last-matches : (s : Start) (n : ℕ) →
    Matches (last_phase (first_phase s) (Before s n)) (world s n).registers
unfolding world recent
last-matches s zero = record { slots = refl; modes = refl }
last-matches s (suc n) = rw (
  before-next s n,
  last-append (first_phase s) (Before s n)
      (phase_after n (newest (world s (suc n))) (last_phase (first_phase s) (Before s n))),
)
    (go (newest (world s (suc n))) (nexts s n).turned (last-matches s n))
  where
    p : Phase
    p = last_phase (first_phase s) (Before s n)

    go : (took : Took) → Turned s n (world s n) took (world s (suc n)) →
        Matches p (world s n).registers →
        Matches (last_phase p (phase_after n took p)) (world s (suc n)).registers
    go Idle t m = rw t.registers m
    go (Lost k) t m = rw t.same.registers m
    go (Ran k pc word e) t m =
        rw t.registers (after-matches n k pc word e p (world s n).registers m)

-- two cycles later all entries are visible
all-seen : (s : Start) (d : Phase) (n b : ℕ) → n + 2 ≤ b →
    latest b d (Before s n) ≡ last_phase (first_phase s) (Before s n)
unfolding world recent
all-seen s d zero b l = let from : nat_le 0 b ≡ true = grind (arith, nat_tests) in rw from refl
all-seen s d (suc n) b l =
    let new : List Phase =
    phase_after n (newest (world s (suc n))) (last_phase (first_phase s) (Before s n)) in
    let less : n + 2 ≤ b = omega arith in
    let late : n + 3 ≤ b = omega arith in
    ap (latest b d) (before-next s n)
    ∙ latest-append b d (Before s n) new
    ∙ ap (λ p. latest b p new) (all-seen s d n b less)
    ∙ seen b n (newest (world s (suc n))) (last_phase (first_phase s) (Before s n))
    (last_phase (first_phase s) (Before s n)) late
    ∙ sym (last-append (first_phase s) (Before s n) new)
    ∙ ap (last_phase (first_phase s)) (sym (before-next s n))

first-matches : (s : Start) (d : Phase) (b : ℕ) →
    Matches (latest b d (Before s 0)) (world s 0).registers
unfolding world recent
first-matches s d b =
    let from : nat_le 0 b ≡ true = grind (arith, nat_tests) in
    rw from (record { slots = refl; modes = refl })

-- the setting of a cycle up to two after the last, by the writes before n
pub setting-matches : (s : Start) (d : Phase) (n b : ℕ) → b ≤ n + 2 →
    Matches (latest b d (phases_of (first_phase s) (world s n).turns)) (world s (b - 2)).registers
setting-matches s d zero b l =
    let start : b - 2 ≡ 0 = omega arith in
    rw start (first-matches s d b)
setting-matches s d (suc n) b l = go (λ up. setting-matches s d n b up) (cases_lt b (n + 3))
  where
    new : List Phase
    new = phase_after n (newest (world s (suc n))) (last_phase (first_phase s) (Before s n))

    split : latest b d (Before s (suc n)) ≡ latest b (latest b d (Before s n)) new
    split = ap (latest b d) (before-next s n) ∙ latest-append b d (Before s n) new

    go : (b ≤ n + 2 → Matches (latest b d (Before s n)) (world s (b - 2)).registers) →
        (b < n + 3) ⊎ (n + 3 ≤ b) →
        Matches (latest b d (Before s (suc n))) (world s (b - 2)).registers
    go older (inl less) =
        let up : b ≤ n + 2 = omega arith in
        rw (
          split,
          unseen b n (newest (world s (suc n))) (latest b d (Before s n))
              (last_phase (first_phase s) (Before s n)) less,
        ) (older up)
    go older (inr more) =
        let here : b - 2 ≡ suc n = omega arith in
        let all : suc n + 2 ≤ b = omega arith in
        rw (all-seen s d (suc n) b all, here) (last-matches s (suc n))

-- a property of every setting holds of the setting of a cycle
pub latest-keeps : (P : Phase → Bool) (c : ℕ) (p : Phase) (ps : List Phase) → P p ≡ true →
    list_all P ps ≡ true → P (latest c p ps) ≡ true
latest-keeps P c p [] h all = h
latest-keeps P c p (q ∷ qs) h all =
    go (λ k r. latest-keeps P c (if nat_le q.from c then q else p) qs k r) (P q) refl all
  where
    pick : (x : Bool) → P q ≡ true → P (if x then q else p) ≡ true
    pick true e = e
    pick false e = h

    go : (P (if nat_le q.from c then q else p) ≡ true → list_all P qs ≡ true →
        P (latest c (if nat_le q.from c then q else p) qs) ≡ true) → (b : Bool) → P q ≡ b →
        (b && list_all P qs) ≡ true → P (latest c (if nat_le q.from c then q else p) qs) ≡ true
    go on true e rest = on (pick (nat_le q.from c) e) rest
    go on false e rest = cc

pub settings-of-picks : SettingsOfPicks
settings-of-picks s n c within = setting-matches s no_phase (n - 4) c within

-- later writes don't change the setting of a cycle up to two after the last
settled : (s : Start) (d : Phase) (n b m : ℕ) → b ≤ n + 2 →
    latest b d (Before s (n + m)) ≡ latest b d (Before s n)
settled s d n b zero l = ap (λ k. latest b d (Before s k)) (let e : n + 0 ≡ n = omega arith in e)
settled s d n b (suc m) l =
    let p : Phase = last_phase (first_phase s) (Before s (n + m)) in
    let took : Took = newest (world s (suc (n + m))) in
    let early : b < (n + m) + 3 = omega arith in
    ap (λ k. latest b d (Before s k)) (let e : n + suc m ≡ suc (n + m) = omega arith in e)
    ∙ ap (latest b d) (before-next s (n + m))
    ∙ latest-append b d (Before s (n + m)) (phase_after (n + m) took p)
    ∙ unseen b (n + m) took (latest b d (Before s (n + m))) p early
    ∙ settled s d n b m l

pub unretired-unseen : UnretiredUnseen
unretired-unseen s n c within = record {
  used = settings-of-picks s n c within;
  later =
      λ m.
      ap (λ k. latest c no_phase (Before s k))
      (let e : n + m - 4 ≡ (n - 4) + (n + m - 4 - (n - 4)) = omega arith in e)
      ∙ settled s no_phase (n - 4) c (n + m - 4 - (n - 4)) within;
}
