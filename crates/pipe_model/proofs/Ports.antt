-- The ports after one turn in M.
use Rattle.std.proofs.Common.{◌≡◌, ℕ, zero, suc, ◌+◌, ◌-◌, ◌<◌, ◌≤◌, ◌⊎◌, inl}
use Rattle.std.proofs.Common.{inr, Bool, true, false, List, get_or, set, length}
use Rattle.std.proofs.Common.{Some, None, refl, ap, sym, ◌∙◌, subst, subst₂, arith}
use Rattle.std.specs.Prelude.{if◌then◌else◌, Option, ◌==◌, ◌&&◌, IfSome, is_some}
use Rattle.std.proofs.lemmas.List.{get_or-set_same, get_or-set_other}
use Rattle.std.proofs.lemmas.List.{get_or_past, length-set, set_past}
use Rattle.std.proofs.lemmas.Bool.{cases_lt}
use Rattle.std.proofs.lemmas.Bool.Decides.{nat_tests}
use Rattle.rv_exec.specs.declared.outcome.Effect.{Effect}
use Rattle.rv_exec.specs.declared.outcome.Effect.TheVariants.{Nothing, Reg, Store, Csr, Trap, Wait}
use Rattle.fp_ports.specs.PluggedPorts.{Row, row_at, row_with_word}
use Rattle.core_model.specs.World.{Start, World, Took, world, recent}
use Rattle.core_model.specs.World.{has_port, is_plugged, latches_with}
use Rattle.core_model.specs.World.Took.{Idle, Lost, Ran}
use Rattle.core_model.proofs.Turns.{Turned, nexts}
use Rattle.pipe_model.specs.Stages.{ports_stored, put_at_port}
use Rattle.pipe_model.specs.Relation.{in_memory, HasLatches, Begins}
use Rattle.pipe_model.specs.Relation.{stays_in, port_words, SamePorts}
use Rattle.pipe_model.proofs.Moved.{equals, unequal}

-- the number of latches stays
latched-length : (there : Bool) (k : ℕ) (e : Option Effect) (ls : List ℕ) →
    length (latches_with there k e ls) ≡ length ls
latched-length there k None ls = refl
latched-length there k (Some Nothing) ls = refl
latched-length there k (Some (Reg x y)) ls = refl
latched-length there k (Some (Store address width value)) ls = go (address == 0x40000000 && there)
  where
    go : (b : Bool) → length (if b then set ls k value else ls) ≡ length ls
    go true = length-set ls k value
    go false = refl
latched-length there k (Some (Csr n x y z)) ls = refl
latched-length there k (Some (Trap x y)) ls = refl
latched-length there k (Some Wait) ls = refl

count_after : (s : Start) (n : ℕ) (w after : World) (took : Took) → Turned s n w took after →
    length after.latches ≡ length w.latches
count_after s n w after Idle t = ap length t.latches
count_after s n w after (Lost j) t = ap length t.same.latches
count_after s n w after (Ran j pc word effect) t =
    ap length t.latches ∙ latched-length (has_port s j n) j effect w.latches

pub eight_latches : (s : Start) (c : ℕ) → Begins s → length (world s c).latches ≡ 8
unfolding world recent
eight_latches s zero b = b.latches
eight_latches s (suc c) b =
    count_after s c (world s c) (world s (suc c)) _ (nexts s c).turned ∙ eight_latches s c b

-- a port that is present in cycle n + 3 was present for the turn of cycle n
was_there : (u : Option ℕ) (n c : ℕ) → c ≡ n + 3 → stays_in u c ≡ true → is_plugged u n ≡ true
was_there None n c e h = refl
was_there (Some u) n c e h = grind (arith, nat_tests)

-- the latch that a row shows
abbrev pub HasLatch : Option Row → ℕ → Type 0
HasLatch row latch = IfSome row (λ r. r.latch ≡ latch)

shown-written : (row : Option Row) (value : ℕ) → HasLatch (row_with_word row value) value
shown-written None value = tt
shown-written (Some r) value = refl

-- a store at the port of thread j: its row, from the row before it
row-put : (ports : List (Option Row)) (j value : ℕ) (P : Option Row → Type 0) →
    P None → P (row_with_word (row_at ports j) value) →
    P (row_at (set ports j (row_with_word (row_at ports j) value)) j)
row-put ports j value P none some = go (cases_lt j (length ports))
  where
    go : (j < length ports) ⊎ (length ports ≤ j) →
        P (row_at (set ports j (row_with_word (row_at ports j) value)) j)
    go (inl l) =
        subst P (sym (get_or-set_same ports j (row_with_word (row_at ports j) value) None l)) some
    go (inr l) =
        let same : set ports j (row_with_word (row_at ports j) value) ≡ ports =
        set_past ports j (row_with_word (row_at ports j) value) l in
        let past : row_at ports j ≡ None = get_or_past ports j None l in
        subst (λ (xs : List (Option Row)). P (row_at xs j)) (sym same) (subst P (sym past) none)

-- it shows the same words as before
same-written : (row : Option Row) (value : ℕ) →
    port_words (row_with_word row value) ≡ port_words row
same-written None value = refl
same-written (Some r) value = refl

same-put : (ports : List (Option Row)) (j value : ℕ) →
    SamePorts ports (set ports j (row_with_word (row_at ports j) value))
same-put ports j value k = go (j == k) refl (cases_lt j (length ports))
  where
    row : Option Row
    row = row_with_word (row_at ports j) value

    go : (b : Bool) → (j == k) ≡ b → (j < length ports) ⊎ (length ports ≤ j) →
        port_words (row_at (set ports j row) k) ≡ port_words (row_at ports k)
    go b e (inr l) =
        ap (λ (xs : List (Option Row)). port_words (row_at xs k)) (set_past ports j row l)
    go false e (inl l) = ap port_words (get_or-set_other ports j k row None (unequal j k e))
    go true e (inl l) =
        let P : ℕ → Type 0 =
        λ x. port_words (row_at (set ports j row) x) ≡ port_words (row_at ports x) in
        subst P (equals j k e)
        (ap port_words (get_or-set_same ports j row None l) ∙ same-written (row_at ports j) value)

same-effect : (ports : List (Option Row)) (j : ℕ) (e : Option Effect) →
    SamePorts ports (put_at_port j e ports)
same-effect ports j None k = refl
same-effect ports j (Some Nothing) k = refl
same-effect ports j (Some (Reg x y)) k = refl
same-effect ports j (Some (Store address width value)) k = go (address == 0x40000000)
  where
    go : (b : Bool) →
        port_words (row_at (if b then set ports j (row_with_word (row_at ports j) value) else ports)
        k) ≡ port_words (row_at ports k)
    go true = same-put ports j value k
    go false = refl
same-effect ports j (Some (Csr n x y z)) k = refl
same-effect ports j (Some (Trap x y)) k = refl
same-effect ports j (Some Wait) k = refl

pub same-ports : (ports : List (Option Row)) (t : Took) →
    SamePorts ports (ports_stored (in_memory t) ports)
unfolding ports_stored
same-ports ports Idle k = refl
same-ports ports (Lost j) k = refl
same-ports ports (Ran j pc word effect) k = same-effect ports j effect k

-- The latches of ports and world after an effect of thread j. If its port is present, it is present
-- in the world.
module _ (j : ℕ) (there : Bool) (ports : List (Option Row)) (ls : List ℕ) (eight : length ls ≡ 8)
    (below : j < 8) (has : (k : ℕ) → k < 8 → HasLatch (row_at ports k) (get_or ls k 0))
    (real : is_some (row_at ports j) ≡ true → there ≡ true) where
  put-mine : (value : ℕ) → HasLatch (row_at (set ports j (row_with_word (row_at ports j) value)) j)
      (get_or (if there then set ls j value else ls) j 0)
  put-mine value =
      row-put ports j value
      (λ row. HasLatch row (get_or (if there then set ls j value else ls) j 0))
      tt (go (row_at ports j) refl)
    where
      go : (row : Option Row) → row_at ports j ≡ row →
          HasLatch (row_with_word row value) (get_or (if there then set ls j value else ls) j 0)
      go None e = tt
      go (Some r) e =
          let is : there ≡ true = real (rw e refl) in
          rw is (sym (get_or-set_same ls j value 0 (rw eight below)))

  put : (value k : ℕ) (b : Bool) → (j == k) ≡ b → k < 8 →
      HasLatch (row_at (set ports j (row_with_word (row_at ports j) value)) k)
      (get_or (if there then set ls j value else ls) k 0)
  put value k false e h =
      subst₂ HasLatch
      (sym (get_or-set_other ports j k (row_with_word (row_at ports j) value) None (unequal j k e)))
      (sym (other there)) (has k h)
    where
      other : (b : Bool) → get_or (if b then set ls j value else ls) k 0 ≡ get_or ls k 0
      other true = get_or-set_other ls j k value 0 (unequal j k e)
      other false = refl
  put value k true e h =
      let P : ℕ → Type 0 =
      λ x. HasLatch (row_at (set ports j (row_with_word (row_at ports j) value)) x)
      (get_or (if there then set ls j value else ls) x 0) in
      subst P (equals j k e) (put-mine value)

  shown-effect : (e : Option Effect) (k : ℕ) → k < 8 →
      HasLatch (row_at (put_at_port j e ports) k) (get_or (latches_with there j e ls) k 0)
  shown-effect None k h = has k h
  shown-effect (Some Nothing) k h = has k h
  shown-effect (Some (Reg x y)) k h = has k h
  shown-effect (Some (Store address width value)) k h = go (address == 0x40000000)
    where
      go : (b : Bool) →
          HasLatch
          (row_at (if b then set ports j (row_with_word (row_at ports j) value) else ports) k)
          (get_or (if b && there then set ls j value else ls) k 0)
      go true = put value k (j == k) refl h
      go false = has k h
  shown-effect (Some (Csr n x y z)) k h = has k h
  shown-effect (Some (Trap x y)) k h = has k h
  shown-effect (Some Wait) k h = has k h

-- M: ports with the latches of the world before a turn have those of the world after it
pub ports-is : (s : Start) (n : ℕ) (w after : World) (ports : List (Option Row)) (t : Took) →
    length w.latches ≡ 8 → Turned s n w t after →
    ((k : ℕ) → k < 8 → is_some (row_at ports k) ≡ true → has_port s k n ≡ true) →
    HasLatches w ports → HasLatches after (ports_stored (in_memory t) ports)
unfolding ports_stored
ports-is s n w after ports Idle l t real has = λ k h. rw t.latches (has k h)
ports-is s n w after ports (Lost j) l t real has = λ k h. rw t.same.latches (has k h)
ports-is s n w after ports (Ran j pc word effect) l t real has =
    λ k h. rw t.latches
    (shown-effect j (has_port s j n) ports w.latches l t.below has (real j t.below) effect k h)

-- a port that is present in cycle c was present for the turn of c - 3
pub plugged : (s : Start) (c k : ℕ) → 2 < c →
    (there : Bool) → there ≡ (get_or s.handed k false && stays_in (get_or s.unplugs k None) c) →
    there ≡ true → has_port s k (c - 3) ≡ true
plugged s c k l there e h = go (get_or s.handed k false) (sym e ∙ h)
  where
    go : (b : Bool) → (b && stays_in (get_or s.unplugs k None) c) ≡ true →
        (b && is_plugged (get_or s.unplugs k None) (c - 3)) ≡ true
    go true p = was_there (get_or s.unplugs k None) (c - 3) c (omega arith) p
    go false p = p
