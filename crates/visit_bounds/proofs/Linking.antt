-- While the slots and its mode stay, the issues of a thread follow the edges of the known words.
use Rattle.std.proofs.Common.{◌≡◌, ℕ, zero, suc, ◌+◌, ◌-◌, ◌*◌, ◌/◌, ◌%◌, ◌<◌, ◌≤◌}
use Rattle.std.proofs.Common.{inl, inr, ◌⊎◌, Bool, true, false, List, [], ◌∷◌, ◌++◌}
use Rattle.std.proofs.Common.{length, refl, ap, sym, ◌∙◌, subst, arith, ne_eqb}
use Rattle.std.specs.Prelude.{◌==◌, if◌then◌else◌}
use Rattle.std.proofs.lemmas.Bool.{cases_lt}
use Rattle.std.proofs.Math.Nat.{add-mul-mod_self_right, mod-add-div', mul-le-mul_left}
use Rattle.core_model.specs.Thread.{Thread}
use Rattle.region_tree.specs.Graph.{Edge}
use Rattle.region_tree.specs.Walk.{IsOwn, Positions}
use Rattle.slot_table.specs.Frame.{frame}
use Rattle.timer_unit.specs.Time.{time}
use Rattle.bound_calc.specs.Bound.{positions}
use Rattle.core_model.proofs.Turns.{Turned, ages, nexts}
use Rattle.core_model.specs.World.{Start, Took, issue_of, newest, recent, thread_of, world}
use Rattle.core_model.specs.World.Took.{Idle, Lost, Ran}
use Rattle.isolation.proofs.Induction.{earlier_is}
use Rattle.visit_bounds.proofs.Cycles.{IssuesInCycle, CycleInvariant, IsHardAt}
use Rattle.visit_bounds.proofs.Cycles.{Stays, begins, cycles, goes_on}
use Rattle.visit_bounds.proofs.Instructions.{Gone}
use Rattle.visit_bounds.specs.InSettings.{AreLinkedIn, IsHardBy, IsSet, Throughout}
use Rattle.visit_bounds.specs.VisitBound.{Along, AreLinked}
use Rattle.core_model.specs.Traps.{is_trap}
use Rattle.visit_bounds.specs.Visits.{Issued, issue_in, issues_of}

-- at known words issues that don't trap follow an edge
abbrev pub Went : (ℕ → Type 0) → (ℕ → Edge → Type 0) → Start → ℕ → Type 0
Went known edge_in s i =
    (c : ℕ) → known (thread_of (recent s c).now i).pc →
    is_trap (issue_of s c (recent s c).now i).effect ≡ false →
    Gone (edge_in (thread_of (recent s c).now i).pc) c (thread_of (recent s c).now i).own.sleep
    (issue_of s c (recent s c).now i).thread

-- a cycle at a position of the thread's own
abbrev Own : ℕ → ℕ → ℕ → Type 0
Own slots i c = IsOwn (positions slots i) (c % length (frame slots))

-- before cycle c: since an issue the thread is at the end of an edge, awake, and has had no ready
-- turn of its own
record Awaits (edge_in : ℕ → Edge → Type 0) (s : Start) (slots i c : ℕ) (b : Issued)
    (th : Thread) : Type 0 where
  edge : Edge
  known : edge_in b.pc edge
  to : th.pc ≡ edge.to
  ready : th.ready ≡ b.cycle + edge.lag
  awake : th.own.sleep ≤ time s.period b.cycle
  none : (y : ℕ) → th.ready ≤ y → y < c → Own slots i y → ⊥

-- a condition holds in each cycle from one to below another
abbrev Until : (ℕ → Type 0) → ℕ → ℕ → Type 0
Until set a c = (k : ℕ) → a ≤ k → k < c → set k

abbrev Pending : (ℕ → Type 0) → (ℕ → Type 0) → (ℕ → Edge → Type 0) → Start → ℕ → ℕ → ℕ →
    List Issued → Thread → Type 0
Pending set known edge_in s slots i c [] th = Unit {0}
Pending set known edge_in s slots i c (b ∷ more) th =
    (b.cycle < c) × (set b.cycle → Own slots i b.cycle)
    × (Until set b.cycle c → known b.pc → b.traps ≡ false → Awaits edge_in s slots i c b th)

record Linked (set known : ℕ → Type 0) (edge_in : ℕ → Edge → Type 0) (s : Start)
    (slots i c : ℕ) : Type 0 where
  going : CycleInvariant s i c
  links : AreLinkedIn set known edge_in (positions slots i) (issues_of i (recent s c).now.turns)
  pending : Pending set known edge_in s slots i c (issues_of i (recent s c).now.turns)
      (thread_of (recent s c).now i)

-- the cycles before n that are set have these slots, and the thread is hard and active
abbrev Sets : (ℕ → Type 0) → Start → ℕ → ℕ → ℕ → Type 0
Sets set s slots i n = (c : ℕ) → c < n → set c → IsHardAt s slots i c

-- positions d cycles later
shifted : (a d n : ℕ) → (a % n + d) % n ≡ (a + d) % n
shifted a d n =
    sym (ap (λ z. z % n)
    (let e : a + d ≡ (a % n + d) + a / n * n = omega (arith, mod-add-div' a n) in e)
    ∙ add-mul-mod_self_right (a % n + d) (a / n) n)

follows : (known : ℕ → Type 0) (edge_in : ℕ → Edge → Type 0) (s : Start)
    (slots i c : ℕ) (b : Issued) (th : Thread) (traps : _) → b.cycle < c →
    Own slots i b.cycle → Own slots i c → th.ready ≤ c → Awaits edge_in s slots i c b th →
    Along edge_in (positions slots i) b (record { cycle = c; pc = th.pc; traps = traps })
follows known edge_in s slots i c b th traps before own_b own_c ready y = record {
  edge = y.edge;
  known = y.known;
  to = y.to;
  order = omega arith;
  turn = record {
    start = own_b;
    late = omega (arith, y.ready);
    lands =
        ap (λ z. z % length (frame slots)) (let e : c ≡ b.cycle + (c - b.cycle) = omega arith in e)
        ∙ sym (shifted b.cycle (c - b.cycle) (length (frame slots)));
    own = own_c;
    first =
        λ e low high o. y.none (b.cycle + e) (omega (arith, y.ready)) (omega arith)
        (subst (λ k. IsOwn (positions slots i) k) (shifted b.cycle e (length (frame slots))) o);
  };
}

abbrev Link : (ℕ → Type 0) → (ℕ → Type 0) → (ℕ → Edge → Type 0) → ℕ → ℕ → List Issued →
    Issued → Type 0
Link set known edge_in slots i [] a = Unit {0}
Link set known edge_in slots i (b ∷ more) a =
    (b.cycle < a.cycle) × (Throughout set b.cycle a.cycle → known b.pc → b.traps ≡ false →
    Along edge_in (positions slots i) b a)

linked-more : (set known : ℕ → Type 0) (edge_in : ℕ → Edge → Type 0) (slots i : ℕ)
    (l : List Issued) (a : Issued) → AreLinkedIn set known edge_in (positions slots i) l →
    (set a.cycle → Own slots i a.cycle) → Link set known edge_in slots i l a →
    AreLinkedIn set known edge_in (positions slots i) (a ∷ l)
linked-more set known edge_in slots i [] a h own link = own
linked-more set known edge_in slots i (b ∷ more) a h own link = (h, link.0, own, link.1)

link-of : (set known : ℕ → Type 0) (edge_in : ℕ → Edge → Type 0) (s : Start)
    (slots i c : ℕ) (l : List Issued) (th : Thread) (traps : _) →
    Pending set known edge_in s slots i c l th → (set c → Own slots i c) → th.ready ≤ c →
    Link set known edge_in slots i l (record { cycle = c; pc = th.pc; traps = traps })
link-of set known edge_in s slots i c [] th traps p own ready = tt
link-of set known edge_in s slots i c (b ∷ more) th traps p own ready = (
  p.0,
  λ here reach calm.
      let before = p.0 in
      let at_b : b.cycle ≤ c = omega arith in
      let at_c : c ≤ c = omega arith in
      let from_b : b.cycle ≤ b.cycle = omega arith in
      follows known edge_in s slots i c b th traps before
      (p.1 (here b.cycle from_b at_b)) (own (here c at_b at_c)) ready
      (p.2 (λ k low high. here k low (let up : k ≤ c = omega arith in up)) reach calm),
)

pending-new : (set known : ℕ → Type 0) (edge_in : ℕ → Edge → Type 0) (s : Start) (slots i c : ℕ) →
    (set c → IsHardAt s slots i c) → Went known edge_in s i → (g : IssuesInCycle s slots i c) →
    (l : List Issued) → Pending set known edge_in s slots i (suc c) (record {
      cycle = c;
      pc = (thread_of (recent s c).now i).pc;
      traps = is_trap (issue_of s c (recent s c).now i).effect;
    } ∷ l) (thread_of (recent s (suc c)).now i)
pending-new set known edge_in s slots i c is goes g l = (
  omega arith,
  λ here. g.own (is here),
  awaits,
)
  where
    b : Issued
    b = record {
      cycle = c;
      pc = (thread_of (recent s c).now i).pc;
      traps = is_trap (issue_of s c (recent s c).now i).effect;
    }

    awaits : Until set c (suc c) → known (thread_of (recent s c).now i).pc →
        is_trap (issue_of s c (recent s c).now i).effect ≡ false →
        Awaits edge_in s slots i (suc c) b (thread_of (recent s (suc c)).now i)
    awaits here reach calm =
        let y = goes c reach calm in
        let at : c ≤ c = omega arith in
        let below : c < suc c = omega arith in
        let ready : (thread_of (recent s (suc c)).now i).ready ≡ c + y.edge.lag =
        ap (λ (th : Thread). th.ready) g.thread ∙ y.ready in
        record {
          edge = y.edge;
          known = y.known;
          to = ap (λ (th : Thread). th.pc) g.thread ∙ y.to;
          ready = ready;
          awake =
              subst (λ m. m ≤ time s.period c)
              (sym (ap (λ (th : Thread). th.own.sleep) g.thread ∙ y.sleeps))
              (g.awake (is (here c at below)));
          none = λ k low high o. let one = y.later in absurd (omega (arith, ready, one));
        }

pending-same : (set known : ℕ → Type 0) (edge_in : ℕ → Edge → Type 0) (s : Start) (slots i c : ℕ) →
    (set c → IsHardAt s slots i c) → Stays s slots i c → (l : List Issued) →
    Pending set known edge_in s slots i c l (thread_of (recent s c).now i) →
    Pending set known edge_in s slots i (suc c) l (thread_of (recent s c).now i)
pending-same set known edge_in s slots i c is y [] p = tt
pending-same set known edge_in s slots i c is y (b ∷ more) p =
    (let lt = p.0 in omega arith, p.1, more_of)
  where
    go : set c → Awaits edge_in s slots i c b (thread_of (recent s c).now i) →
        Awaits edge_in s slots i (suc c) b (thread_of (recent s c).now i)
    go here a = record {
      edge = a.edge;
      known = a.known;
      to = a.to;
      ready = a.ready;
      awake = a.awake;
      none = λ k low high o. none k low o (let z : (k < c) ⊎ (k ≡ c) = grind arith in z);
    }
      where
        awake : (thread_of (recent s c).now i).own.sleep ≤ time s.period c
        awake =
            let le : s.period * b.cycle ≤ s.period * c =
            mul-le-mul_left s.period (let lt = p.0 in omega arith) in
            let a_le = a.awake in omega arith

        none : (k : ℕ) → (thread_of (recent s c).now i).ready ≤ k → Own slots i k →
            (k < c) ⊎ (k ≡ c) → ⊥
        none k low o (inl lt) = a.none k low lt o
        none k low o (inr e) = y.idle (is here) (subst (λ z. Own slots i z) e o) (omega arith) awake

    more_of : Until set b.cycle (suc c) → known b.pc → b.traps ≡ false →
        Awaits edge_in s slots i (suc c) b (thread_of (recent s c).now i)
    more_of here reach calm =
        let lt = p.0 in
        let at : b.cycle ≤ c = omega arith in
        let below : c < suc c = omega arith in
        go (here c at below)
        (p.2 (λ k low high. here k low (let up : k < suc c = omega arith in up)) reach calm)

linked-first : (set known : ℕ → Type 0) (edge_in : ℕ → Edge → Type 0) (s : Start) (slots i : ℕ) →
    length s.threads ≡ 8 → Linked set known edge_in s slots i zero
unfolding recent
linked-first set known edge_in s slots i eight =
    record { going = begins s i eight; links = tt; pending = tt }

linked : (set known : ℕ → Type 0) (edge_in : ℕ → Edge → Type 0) (s : Start) (slots i n c : ℕ) →
    c ≤ n → Sets set s slots i n → Went known edge_in s i → i < 8 → length s.threads ≡ 8 →
    Linked set known edge_in s slots i c
linked set known edge_in s slots i n zero up sets went number eight =
    linked-first set known edge_in s slots i eight
linked set known edge_in s slots i n (suc c) up sets went number eight =
    onto (linked set known edge_in s slots i n c
    (let less : c ≤ n = omega arith in less) sets went number eight)
  where
    is : set c → IsHardAt s slots i c
    is = sets c (let less : c < n = omega arith in less)

    onto : Linked set known edge_in s slots i c → Linked set known edge_in s slots i (suc c)
    onto y = go (cycles s slots i c number y.going)
      where
        l : List Issued
        l = issues_of i (recent s c).now.turns

        th : Thread
        th = thread_of (recent s c).now i

        more : CycleInvariant s i (suc c)
        more = goes_on s i c number y.going

        go : IssuesInCycle s slots i c ⊎ Stays s slots i c → Linked set known edge_in s
            slots i (suc c)
        go (inl g) = record {
          going = more;
          links = subst (λ k. AreLinkedIn set known edge_in (positions slots i) k) (sym g.issues)
              (linked-more set known edge_in slots i l (record {
                cycle = c;
                pc = th.pc;
                traps = is_trap (issue_of s c (recent s c).now i).effect;
              }) y.links (λ here. g.own (is here))
              (link-of set known edge_in s slots i c l th
              (is_trap (issue_of s c (recent s c).now i).effect) y.pending
              (λ here. g.own (is here)) g.ready));
          pending =
              subst
              (λ k. Pending set known edge_in s slots i (suc c) k (thread_of (recent s
              (suc c)).now i))
              (sym g.issues) (pending-new set known edge_in s slots i c is went g l);
        }
        go (inr g) = record {
          going = more;
          links =
              subst (λ k. AreLinkedIn set known edge_in (positions slots i) k)
              (sym g.issues) y.links;
          pending =
              subst (λ k. Pending set known edge_in s slots i (suc c) k
              (thread_of (recent s (suc c)).now i)) (sym g.issues)
              (subst (λ u. Pending set known edge_in s slots i (suc c) l u) (sym g.thread)
              (pending-same set known edge_in s slots i c is g l y.pending));
        }

-- a thread that isn't one of the eight never issues
no-issues : (s : Start) (i n : ℕ) → 8 ≤ i → issues_of i (world s n).turns ≡ []
unfolding world recent
no-issues s i zero past = refl
no-issues s i (suc c) past =
    ap (issues_of i) (nexts s c).turns
    ∙ go (newest (world s (suc c))) (nexts s c).turned (no-issues s i c past)
  where
    go : (took : Took) → Turned s c (world s c) took (world s (suc c)) →
        issues_of i (world s c).turns ≡ [] →
        issue_in i (length (world s c).turns) took ++ issues_of i (world s c).turns ≡ []
    go Idle turned before = before
    go (Lost k) turned before = before
    go (Ran k pc word effect) turned before =
        let other : (k == i) ≡ false =
        ne_eqb k i (λ same. omega (arith, turned.below, same, past)) in
        rw other before

-- issues in cycles below n
abbrev pub AreBelow : ℕ → List Issued → Type 0
AreBelow n [] = Unit {0}
AreBelow n (a ∷ l) = (a.cycle < n) × AreBelow n l

issues-below : (i n : ℕ) (turns : List Took) → length turns ≤ n → AreBelow n (issues_of i turns)
issues-below i n [] up = tt
issues-below i n (Idle ∷ turns) up = issues-below i n turns (omega arith)
issues-below i n (Lost k ∷ turns) up = issues-below i n turns (omega arith)
issues-below i n (Ran k pc word effect ∷ turns) up =
    go (k == i) (issues-below i n turns (omega arith))
  where
    go : (b : Bool) → AreBelow n (issues_of i turns) → AreBelow n
        ((if b then record { cycle = length turns; pc = pc; traps = is_trap effect } ∷ [] else [])
        ++ issues_of i turns)
    go true h = (let l : length turns < n = omega arith in l, h)
    go false h = h

-- those of n cycles are in these cycles
pub all-below : (s : Start) (i n : ℕ) → AreBelow n (issues_of i (world s n).turns)
all-below s i n = issues-below i n (world s n).turns (let e = ages s n in omega arith)

pub below-at : (n : ℕ) (later : List Issued) (a : Issued) (l : List Issued) →
    AreBelow n (later ++ (a ∷ l)) → a.cycle < n
below-at n [] a l h = h.0
below-at n (b ∷ later) a l h = below-at n later a l h.1

pub issues-earlier : (s : Start) (i n : ℕ) (later : List Issued) (last : Issued)
    (rest : List Issued) → issues_of i (world s n).turns ≡ later ++ (last ∷ rest) → last.cycle < n
issues-earlier s i n later last rest among =
    below-at n later last rest (subst (λ l. AreBelow n l) among (all-below s i n))

-- a setting that holds in cycle c is the one that picking uses in it
pub set-at : (s : Start) (slots i c : ℕ) → IsSet s slots i c → IsHardAt s slots i c
set-at s slots i c here = subst (λ w. IsHardBy slots i w.registers) (sym (earlier_is s c)) here

pub linked_all : (known : ℕ → Type 0) (edge_in : ℕ → Edge → Type 0) (s : Start) (slots i n : ℕ) →
    Went known edge_in s i → length s.threads ≡ 8 →
    AreLinkedIn (IsSet s slots i) known edge_in (positions slots i) (issues_of i (world s n).turns)
unfolding world
linked_all known edge_in s slots i n went eight = go (cases_lt i 8)
  where
    go : (i < 8) ⊎ (8 ≤ i) →
        AreLinkedIn (IsSet s slots i) known edge_in (positions slots i) (issues_of i
        (world s n).turns)
    go (inl number) =
        (linked (IsSet s slots i) known edge_in s slots i n n (let same : n ≤ n =
        omega arith in same)
        (λ c low here. set-at s slots i c here) went number eight).links
    go (inr past) =
        subst (λ l. AreLinkedIn (IsSet s slots i) known edge_in (positions slots i) l)
        (sym (no-issues s i n past)) tt

-- issues of a run of n cycles, all of which are set, are linked
pub linked-always : (set known : ℕ → Type 0) (edge_in : ℕ → Edge → Type 0) (s : Positions) (n : ℕ)
    (l : List Issued) → ((c : ℕ) → c < n → set c) → AreBelow n l → AreLinkedIn set known
    edge_in s l →
    AreLinked known edge_in s l
linked-always set known edge_in s n [] all below h = tt
linked-always set known edge_in s n (a ∷ []) all below h = h (all a.cycle below.0)
linked-always set known edge_in s n (a ∷ (b ∷ more)) all below h =
    let at = below.0 in (
      linked-always set known edge_in s n (b ∷ more) all below.1 h.0,
      h.2 (all a.cycle below.0),
      h.3 (λ c low high. all c (let up : c < n = omega arith in up)),
    )

-- parts of linked issues
pub linked-rest : (set known : ℕ → Type 0) (edge_in : ℕ → Edge → Type 0) (s : Positions)
    (a : Issued)
    (l : List Issued) → AreLinkedIn set known edge_in s (a ∷ l) → AreLinkedIn set known edge_in s l
linked-rest set known edge_in s a [] h = tt
linked-rest set known edge_in s a (b ∷ more) h = h.0

pub linked-after : (set known : ℕ → Type 0) (edge_in : ℕ → Edge → Type 0) (s : Positions)
    (later l : List Issued) → AreLinkedIn set known edge_in s (later ++ l) →
    AreLinkedIn set known edge_in s l
linked-after set known edge_in s [] l h = h
linked-after set known edge_in s (a ∷ later) l h =
    linked-after set known edge_in s later l (linked-rest set known edge_in s a (later ++ l) h)

pub linked-own : (set known : ℕ → Type 0) (edge_in : ℕ → Edge → Type 0) (s : Positions)
    (a : Issued) (l : List Issued) → AreLinkedIn set known edge_in s (a ∷ l) → set a.cycle →
    IsOwn s (a.cycle % length s.frame)
linked-own set known edge_in s a [] h = h
linked-own set known edge_in s a (b ∷ more) h = h.2
