-- The latch of a port, by the stores to it.
use Rattle.std.proofs.Common.{◌≡◌, ◌≢◌, ℕ, zero, suc, ◌+◌, ◌-◌, ◌<◌, ◌≤◌, inl, inr, ◌⊎◌}
use Rattle.std.proofs.Common.{Bool, true, false, List, [], ◌∷◌, ◌++◌, append-nil, get_or}
use Rattle.std.proofs.Common.{set, length, length-set, Some, None, Option, refl, ap, ap₂}
use Rattle.std.proofs.Common.{sym, ◌∙◌, subst, arith, get_or-set_other, get_or-set_same}
use Rattle.std.specs.Prelude.{if◌then◌else◌, ◌==◌, ◌&&◌, nat_lt}
use Rattle.std.proofs.lemmas.Bool.{cases_lt}
use Rattle.std.proofs.lemmas.Bool.Decides.{nat_tests}
use Rattle.std.proofs.lemmas.List.Elements.{filter-append}
use Rattle.std.proofs.lemmas.List.{append_assoc}
use Rattle.rv_exec.specs.declared.outcome.Effect.{Effect}
use Rattle.rv_exec.specs.declared.outcome.Effect.TheVariants.{Nothing, Reg, Store, Csr, Trap, Wait}
use Rattle.rv_exec.specs.declared.outcome.Event.{Event}
use Rattle.region_guard.specs.MemoryMap.{port_address}
use Rattle.core_model.specs.World.{Start, Took, World, event_of, events_of}
use Rattle.core_model.specs.World.{has_port, latches_after, newest, recent, world}
use Rattle.core_model.specs.World.Took.{Idle, Lost, Ran}
use Rattle.core_model.proofs.Turns.{Turned, ages, nexts}
use Rattle.closed_loops.specs.Loop.{PortStore, port_store, port_stores}
use Rattle.closed_loops.specs.Answered.{stores_before}
use Rattle.closed_loops.specs.Sampled.{LatchOfStores, StoreDelay}
use Rattle.closed_loops.specs.Sampled.{arrived_stores, last_word, present_stores}

stores-append : (xs ys : List Event) → port_stores (xs ++ ys) ≡ port_stores xs ++ port_stores ys
stores-append [] ys = refl
stores-append (e ∷ xs) ys =
    ap (λ (zs : List PortStore). port_store e.cycle e.effect ++ zs) (stores-append xs ys)
    ∙ sym (append_assoc (port_store e.cycle e.effect) (port_stores xs) (port_stores ys))

last-append : (word : ℕ) (xs ys : List PortStore) →
    last_word word (xs ++ ys) ≡ last_word (last_word word xs) ys
last-append word [] ys = refl
last-append word (x ∷ xs) ys = last-append x.word xs ys

abbrev event_at : ℕ → ℕ → ℕ → ℕ → Effect → Event
event_at c k pc word effect =
    record { cycle = c; thread = k; pc = pc; word = word; effect = effect }

-- an effect that is no store at the port
unheard : (b : Bool) (first : ℕ) (e : Event) → port_store e.cycle e.effect ≡ [] →
    first ≡ last_word first (port_stores (if b then e ∷ [] else []))
unheard true first e h = ap (λ (xs : List PortStore). last_word first (xs ++ [])) (sym h)
unheard false first e h = refl

set-latch : (s : Start) (c i k v : ℕ) (ls : List ℕ) → i < length ls → has_port s i c ≡ true →
    i ≡ k → get_or (if has_port s k c then set ls k v else ls) i 0 ≡ v
set-latch s c i k v ls inside there eq =
    let here : has_port s k c ≡ true = subst (λ (j : ℕ). has_port s j c ≡ true) eq there in
    rw here (subst (λ (j : ℕ). get_or (set ls k v) j 0 ≡ v) (sym eq)
    (get_or-set_same ls k v 0 (subst (λ (j : ℕ). j < length ls) eq inside)))

store-latch : (s : Start) (c i k pc word address width v : ℕ) (ls : List ℕ) →
    i < length ls → has_port s i c ≡ true →
    get_or (latches_after s c k (Some (Store address width v)) ls) i 0 ≡ last_word (get_or ls i 0)
    (port_stores (event_of i c (Ran k pc word (Some (Store address width v)))))
store-latch s c i k pc word address width v ls inside there = by_thread (k == i) refl
  where
    e : Event
    e = event_at c k pc word (Store address width v)

    by_address : i ≡ k → (d : Bool) → get_or (if d && has_port s k c then set ls k v else ls) i 0
        ≡ last_word (get_or ls i 0) ((if d then record { cycle = c; word = v } ∷ [] else []) ++ [])
    by_address eq true = set-latch s c i k v ls inside there eq
    by_address eq false = refl

    other : i ≢ k → (d : Bool) → get_or (if d then set ls k v else ls) i 0 ≡ get_or ls i 0
    other apart true = get_or-set_other ls k i v 0 apart
    other apart false = refl

    by_thread : (b : Bool) → (k == i) ≡ b →
        get_or (if address == port_address && has_port s k c then set ls k v else ls) i 0
        ≡ last_word (get_or ls i 0) (port_stores (if b then e ∷ [] else []))
    by_thread true q = by_address (grind (arith, nat_tests)) (address == port_address)
    by_thread false q = other (grind (arith, nat_tests)) (address == port_address && has_port s k c)

event-latch : (s : Start) (c i k pc word : ℕ) (effect : Option Effect) (ls : List ℕ) →
    i < length ls → has_port s i c ≡ true →
    get_or (latches_after s c k effect ls) i 0
    ≡ last_word (get_or ls i 0) (port_stores (event_of i c (Ran k pc word effect)))
event-latch s c i k pc word None ls inside there = refl
event-latch s c i k pc word (Some Nothing) ls inside there =
    unheard (k == i) (get_or ls i 0) (event_at c k pc word Nothing) refl
event-latch s c i k pc word (Some (Reg rd x)) ls inside there =
    unheard (k == i) (get_or ls i 0) (event_at c k pc word (Reg rd x)) refl
event-latch s c i k pc word (Some (Store a b v)) ls inside there =
    store-latch s c i k pc word a b v ls inside there
event-latch s c i k pc word (Some (Csr n x rd old)) ls inside there =
    unheard (k == i) (get_or ls i 0) (event_at c k pc word (Csr n x rd old)) refl
event-latch s c i k pc word (Some (Trap cause target)) ls inside there =
    unheard (k == i) (get_or ls i 0) (event_at c k pc word (Trap cause target)) refl
event-latch s c i k pc word (Some Wait) ls inside there =
    unheard (k == i) (get_or ls i 0) (event_at c k pc word Wait) refl

turned-latch : (s : Start) (c i : ℕ) (w : World) (took : Took) (after : World) →
    Turned s c w took after → i < length w.latches → has_port s i c ≡ true →
    get_or after.latches i 0 ≡ last_word (get_or w.latches i 0) (port_stores (event_of i c took))
turned-latch s c i w Idle after t inside there = ap (λ (ls : List ℕ). get_or ls i 0) t.latches
turned-latch s c i w (Lost k) after t inside there =
    ap (λ (ls : List ℕ). get_or ls i 0) t.same.latches
turned-latch s c i w (Ran k pc word effect) after t inside there =
    ap (λ (ls : List ℕ). get_or ls i 0) t.latches
    ∙ event-latch s c i k pc word effect w.latches inside there

length-after : (s : Start) (c k : ℕ) (effect : Option Effect) (ls : List ℕ) →
    length (latches_after s c k effect ls) ≡ length ls
length-after s c k None ls = refl
length-after s c k (Some Nothing) ls = refl
length-after s c k (Some (Reg rd x)) ls = refl
length-after s c k (Some (Store address width v)) ls =
    go (address == port_address && has_port s k c)
  where
    go : (b : Bool) → length (if b then set ls k v else ls) ≡ length ls
    go true = length-set ls k v
    go false = refl
length-after s c k (Some (Csr n x rd old)) ls = refl
length-after s c k (Some (Trap cause target)) ls = refl
length-after s c k (Some Wait) ls = refl

length-turned : (s : Start) (c : ℕ) (w : World) (took : Took) (after : World) →
    Turned s c w took after → length after.latches ≡ length w.latches
length-turned s c w Idle after t = ap (λ (ls : List ℕ). length ls) t.latches
length-turned s c w (Lost k) after t = ap (λ (ls : List ℕ). length ls) t.same.latches
length-turned s c w (Ran k pc word effect) after t =
    ap (λ (ls : List ℕ). length ls) t.latches ∙ length-after s c k effect w.latches

pub length-latches : (s : Start) (c : ℕ) → length (world s c).latches ≡ length s.latches
unfolding world recent
length-latches s zero = refl
length-latches s (suc c) =
    length-turned s c (world s c) (newest (world s (suc c))) (world s (suc c)) (nexts s c).turned
    ∙ length-latches s c

-- the stores before the next cycle
newer : (s : Start) (i c : ℕ) → stores_before s i (suc c)
    ≡ stores_before s i c ++ port_stores (event_of i c (newest (world s (suc c))))
newer s i c =
    let turns = (world s c).turns in
    let took = newest (world s (suc c)) in
    ap (λ (ts : List Took). port_stores (events_of i ts)) (nexts s c).turns
    ∙ stores-append (events_of i turns) (event_of i (length turns) took)
    ∙ ap (λ (n : ℕ). port_stores (events_of i turns) ++ port_stores (event_of i n took)) (ages s c)

-- a turn gives one store at most, of its cycle
abbrev IsOne : ℕ → List PortStore → Type 0
IsOne c xs = (xs ≡ []) ⊎ ((v : ℕ) × (xs ≡ record { cycle = c; word = v } ∷ []))

one-store : (i c : ℕ) (took : Took) → IsOne c (port_stores (event_of i c took))
one-store i c Idle = inl refl
one-store i c (Lost k) = inl refl
one-store i c (Ran k pc word None) = inl refl
one-store i c (Ran k pc word (Some effect)) = go (k == i) effect
  where
    heard : (b : Bool) (v : ℕ) →
        IsOne c ((if b then record { cycle = c; word = v } ∷ [] else []) ++ [])
    heard true v = inr (v, refl)
    heard false v = inl refl

    go : (b : Bool) (e : Effect) →
        IsOne c (port_stores (if b then event_at c k pc word e ∷ [] else []))
    go false e = inl refl
    go true Nothing = inl refl
    go true (Reg rd x) = inl refl
    go true (Store address width v) = heard (address == port_address) v
    go true (Csr n x rd old) = inl refl
    go true (Trap cause target) = inl refl
    go true Wait = inl refl

-- a port that is absent keeps its latch
kept-latch : (s : Start) (c i k v : ℕ) (ls : List ℕ) → has_port s i c ≡ false → (d : Bool) →
    get_or (if d && has_port s k c then set ls k v else ls) i 0 ≡ get_or ls i 0
kept-latch s c i k v ls off false = refl
kept-latch s c i k v ls off true = go (k == i) refl
  where
    go : (b : Bool) → (k == i) ≡ b →
        get_or (if has_port s k c then set ls k v else ls) i 0 ≡ get_or ls i 0
    go true same =
        let eq : i ≡ k = grind (arith, nat_tests) in
        let gone : has_port s k c ≡ false = subst (λ (j : ℕ). has_port s j c ≡ false) eq off in
        rw gone refl
    go false differ = other (has_port s k c)
      where
        other : (b : Bool) → get_or (if b then set ls k v else ls) i 0 ≡ get_or ls i 0
        other true =
            let apart : i ≢ k = grind (arith, nat_tests) in get_or-set_other ls k i v 0 apart
        other false = refl

absent-latch : (s : Start) (c i k : ℕ) (effect : Option Effect) (ls : List ℕ) →
    has_port s i c ≡ false → get_or (latches_after s c k effect ls) i 0 ≡ get_or ls i 0
absent-latch s c i k None ls off = refl
absent-latch s c i k (Some Nothing) ls off = refl
absent-latch s c i k (Some (Reg rd x)) ls off = refl
absent-latch s c i k (Some (Store a b v)) ls off = kept-latch s c i k v ls off (a == port_address)
absent-latch s c i k (Some (Csr n x rd old)) ls off = refl
absent-latch s c i k (Some (Trap cause target)) ls off = refl
absent-latch s c i k (Some Wait) ls off = refl

absent-turn : (s : Start) (c i : ℕ) (w : World) (took : Took) (after : World) →
    Turned s c w took after → has_port s i c ≡ false →
    get_or after.latches i 0 ≡ get_or w.latches i 0
absent-turn s c i w Idle after t off = ap (λ (ls : List ℕ). get_or ls i 0) t.latches
absent-turn s c i w (Lost k) after t off = ap (λ (ls : List ℕ). get_or ls i 0) t.same.latches
absent-turn s c i w (Ran k pc word effect) after t off =
    ap (λ (ls : List ℕ). get_or ls i 0) t.latches ∙ absent-latch s c i k effect w.latches off

-- the store of a cycle counts if the port is present in that cycle, and only then
one-present : (s : Start) (i c : ℕ) (xs : List PortStore) → has_port s i c ≡ true → IsOne c xs →
    present_stores s i xs ≡ xs
one-present s i c xs on (inl e) = rw e refl
one-present s i c xs on (inr p) = rw (p.1, on) refl

one-absent : (s : Start) (i c : ℕ) (xs : List PortStore) → has_port s i c ≡ false → IsOne c xs →
    present_stores s i xs ≡ []
one-absent s i c xs off (inl e) = rw e refl
one-absent s i c xs off (inr p) = rw (p.1, off) refl

turned-present : (s : Start) (c i : ℕ) (w : World) (took : Took) (after : World) →
    Turned s c w took after → i < length w.latches → get_or after.latches i 0
    ≡ last_word (get_or w.latches i 0) (present_stores s i (port_stores (event_of i c took)))
turned-present s c i w took after t inside = go (has_port s i c) refl
  where
    stores : List PortStore
    stores = port_stores (event_of i c took)

    go : (b : Bool) → has_port s i c ≡ b →
        get_or after.latches i 0 ≡ last_word (get_or w.latches i 0) (present_stores s i stores)
    go true on =
        turned-latch s c i w took after t inside on
        ∙ ap (λ (xs : List PortStore). last_word (get_or w.latches i 0) xs)
        (sym (one-present s i c stores on (one-store i c took)))
    go false off =
        absent-turn s c i w took after t off
        ∙ ap (λ (xs : List PortStore). last_word (get_or w.latches i 0) xs)
        (sym (one-absent s i c stores off (one-store i c took)))

pub latch-of-stores : LatchOfStores
unfolding world recent
latch-of-stores s i zero inside = refl
latch-of-stores s i (suc c) inside =
    let took = newest (world s (suc c)) in
    let present = present_stores s i in
    turned-present s c i (world s c) took (world s (suc c))
    (nexts s c).turned (omega (arith, inside, length-latches s c))
    ∙ ap (λ (x : ℕ). last_word x (present (port_stores (event_of i c took))))
    (latch-of-stores s i c inside) ∙ sym (last-append (get_or s.latches i 0)
    (present (stores_before s i c)) (present (port_stores (event_of i c took))))
    ∙ ap (λ (xs : List PortStore). last_word (get_or s.latches i 0) xs)
    (sym (filter-append (λ (store : PortStore). has_port s i store.cycle)
    (stores_before s i c) (port_stores (event_of i c took))))
    ∙ ap (λ (xs : List PortStore). last_word (get_or s.latches i 0) (present xs))
    (sym (newer s i c))

late-store : (c m : ℕ) (xs : List PortStore) → m ≤ c + 3 → IsOne c xs → arrived_stores m xs ≡ []
late-store c m xs l (inl e) = rw e refl
late-store c m xs l (inr p) =
    let off : nat_lt (c + 3) m ≡ false = grind (arith, nat_tests) in rw (p.1, off) refl

early-store : (c m : ℕ) (xs : List PortStore) → c + 3 < m → IsOne c xs → arrived_stores m xs ≡ xs
early-store c m xs l (inl e) = rw e refl
early-store c m xs l (inr p) =
    let on : nat_lt (c + 3) m ≡ true = grind (arith, nat_tests) in rw (p.1, on) refl

arrived-append : (m : ℕ) (xs ys : List PortStore) →
    arrived_stores m (xs ++ ys) ≡ arrived_stores m xs ++ arrived_stores m ys
arrived-append m xs ys = filter-append (λ (store : PortStore). nat_lt (store.cycle + 3) m) xs ys

-- three cycles after the last of them, all stores have arrived
all-arrived : (s : Start) (i a m : ℕ) → a + 3 ≤ m →
    arrived_stores m (stores_before s i a) ≡ stores_before s i a
unfolding world recent
all-arrived s i zero m l = refl
all-arrived s i (suc a) m l =
    let took = newest (world s (suc a)) in
    ap (arrived_stores m) (newer s i a)
    ∙ arrived-append m (stores_before s i a) (port_stores (event_of i a took))
    ∙ ap₂ (λ (xs ys : List PortStore). xs ++ ys) (all-arrived s i a m (omega arith))
    (early-store a m (port_stores (event_of i a took)) (omega arith) (one-store i a took))
    ∙ sym (newer s i a)

pub store-delay : StoreDelay
unfolding world recent
store-delay s i zero m l = let none : m - 3 ≡ 0 = omega arith in rw none refl
store-delay s i (suc a) m l =
    elim (cases_lt m (suc a + 3)) [
      | inl h ↦
          let took = newest (world s (suc a)) in
          ap (arrived_stores m) (newer s i a)
          ∙ arrived-append m (stores_before s i a) (port_stores (event_of i a took))
          ∙ ap₂ (λ (xs ys : List PortStore). xs ++ ys) (store-delay s i a m (omega arith))
          (late-store a m (port_stores (event_of i a took)) (omega arith) (one-store i a took))
          ∙ append-nil (stores_before s i (m - 3))
      | inr h ↦
          let e : m - 3 ≡ suc a = omega arith in
          subst (λ (d : ℕ). arrived_stores m (stores_before s i (suc a)) ≡ stores_before s i d)
          (sym e) (all-arrived s i (suc a) m (omega arith))
    ]
