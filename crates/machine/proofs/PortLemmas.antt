-- The removed ports, and the words that the pipeline finds at the others.
use Rattle.std.proofs.Common.{◌≡◌, ◌≢◌, ℕ, zero, suc, ◌+◌, ◌-◌, ◌<◌, ◌≤◌, inl}
use Rattle.std.proofs.Common.{inr, Bool, true, false, List, get_or, set, length}
use Rattle.std.proofs.Common.{Some, None, Option, refl, ap, sym, subst, ◌∙◌, arith}
use Rattle.std.specs.Prelude.{if◌then◌else◌, ◌&&◌, is_some, nat_le, nat_lt, IfSome}
use Rattle.std.specs.Option.{option_map_or}
use Rattle.std.proofs.lemmas.Bool.Decides.{nat_tests}
use Rattle.std.proofs.lemmas.List.{get_or-set_same, get_or-set_other}
use Rattle.std.proofs.Math.ListN.{length-set}
use Rattle.std.proofs.lemmas.Bool.{cases_lt}
use Rattle.fp_ports.specs.PluggedPorts.{Row, row_at, word_seen}
use Rattle.fp_ports.specs.ShownWords.{is_gone}
use Rattle.core_model.specs.World.{world}
use Rattle.pipe_model.specs.Stages.{State}
use Rattle.pipe_model.specs.Relation.{stays_in, port_words}
use Rattle.machine.specs.DumpedState.{is_port_left}
use Rattle.machine.specs.FieldRelation.{port_read, ports_left_in}
use Rattle.machine.specs.FieldLaws.{Unplugs, GoesOn}

-- a row after ports were unplugged
abbrev pub left_of : List (Option ℕ) → ℕ → List (Option Row) → ℕ → Option Row
left_of unplugs c ports k = if stays_in (get_or unplugs k None) c then row_at ports k else None

-- one more port may be removed
abbrev pub one_less : Bool → List (Option Row) → ℕ → List (Option Row)
one_less stays rest j = if stays then rest else set rest j None

length-less : (b : Bool) (rest : List (Option Row)) (j : ℕ) →
    length (one_less b rest j) ≡ length rest
length-less true rest j = refl
length-less false rest j = length-set rest j None

pub length-kept : (unplugs : List (Option ℕ)) (c : ℕ) (ports : List (Option Row)) (j : ℕ) →
    length (ports_left_in unplugs c ports j) ≡ length ports
length-kept unplugs c ports zero = refl
length-kept unplugs c ports (suc j) =
    length-less (stays_in (get_or unplugs j None) c) (ports_left_in unplugs c ports j) j
    ∙ length-kept unplugs c ports j

other-less : (b : Bool) (rest : List (Option Row)) (j k : ℕ) → k ≢ j →
    row_at (one_less b rest j) k ≡ row_at rest k
other-less true rest j k apart = refl
other-less false rest j k apart = get_or-set_other rest j k None None apart

same-less : (b : Bool) (rest : List (Option Row)) (j : ℕ) → j < length rest →
    row_at (one_less b rest j) j ≡ (if b then row_at rest j else None)
same-less true rest j inside = refl
same-less false rest j inside = get_or-set_same rest j None None inside

kept-above : (unplugs : List (Option ℕ)) (c : ℕ) (ports : List (Option Row)) (j k : ℕ) → j ≤ k →
    row_at (ports_left_in unplugs c ports j) k ≡ row_at ports k
kept-above unplugs c ports zero k h = refl
kept-above unplugs c ports (suc j) k h =
    let apart : k ≢ j = omega arith in
    other-less (stays_in (get_or unplugs j None) c) (ports_left_in unplugs c ports j) j k apart
    ∙ kept-above unplugs c ports j k (omega arith)

kept-newest : (unplugs : List (Option ℕ)) (c : ℕ) (ports : List (Option Row)) (j : ℕ) →
    j < length ports → row_at (ports_left_in unplugs c ports (suc j)) j ≡ left_of unplugs c ports j
kept-newest unplugs c ports j inside =
    same-less (stays_in (get_or unplugs j None) c) (ports_left_in unplugs c ports j) j
    (omega (arith, length-kept unplugs c ports j))
    ∙ ap (λ (o : Option Row). if stays_in (get_or unplugs j None) c then o else None)
    (kept-above unplugs c ports j j (omega arith))

kept-below : (unplugs : List (Option ℕ)) (c : ℕ) (ports : List (Option Row)) (j k : ℕ) → k < j →
    k < length ports → row_at (ports_left_in unplugs c ports j) k ≡ left_of unplugs c ports k
kept-below unplugs c ports zero k h inside = absurd (omega arith)
kept-below unplugs c ports (suc j) k h inside =
    elim (cases_lt k j) [
      | inl l ↦
          let apart : k ≢ j = omega arith in
          other-less (stays_in (get_or unplugs j None) c)
          (ports_left_in unplugs c ports j) j k apart ∙ kept-below unplugs c ports j k l inside
      | inr g ↦
          let e : j ≡ k = omega arith in
          let P : ℕ → Type 0 =
          λ i. row_at (ports_left_in unplugs c ports (suc i)) k ≡ left_of unplugs c ports k in
          subst P (sym e) (kept-newest unplugs c ports k inside)
    ]

-- the row of a thread
pub kept-row : (unplugs : List (Option ℕ)) (c : ℕ) (ports : List (Option Row)) (k : ℕ) →
    length ports ≡ 8 → k < 8 →
    row_at (ports_left_in unplugs c ports 8) k ≡ left_of unplugs c ports k
kept-row unplugs c ports k eight below = kept-below unplugs c ports 8 k below (omega arith)

stays-kept : (unplug : Option ℕ) (c : ℕ) → stays_in unplug c ≡ true → is_port_left unplug c ≡ true
stays-kept None c h = refl
stays-kept (Some x) c h = grind (arith, nat_tests)

stays-next : (unplug : Option ℕ) (c : ℕ) → stays_in unplug c ≡ is_port_left unplug (suc c)
stays-next None c = refl
stays-next (Some x) c = grind (arith, nat_tests)

there_of : (o : Option Row) (handed stays kept : Bool) → is_some o ≡ (handed && kept) →
    (stays ≡ true → kept ≡ true) → is_some (if stays then o else None) ≡ (handed && stays)
there_of o handed true kept e h = e ∙ ap (λ b. handed && b) (h refl)
there_of o true false kept e h = refl
there_of o false false kept e h = refl

-- the word that the issue of three cycles ago finds
seen_three : (unplug : Option ℕ) (o : Option Row) (c : ℕ) → 3 ≤ c →
    word_seen (if stays_in unplug c then o else None) (c - 3) ≡ port_read unplug o (c - 3)
seen_three None o c h = refl
seen_three (Some x) o c h = go (nat_lt c (x + 3)) (nat_le x (c - 3)) refl refl
  where
    go : (b d : Bool) → nat_lt c (x + 3) ≡ b → nat_le x (c - 3) ≡ d →
        word_seen (if b then o else None) (c - 3) ≡ (if d then 0xFFFFFFFF else word_seen o (c - 3))
    go true false p q = refl
    go false true p q = refl
    go true true p q = absurd (grind (arith, nat_tests))
    go false false p q = absurd (grind (arith, nat_tests))

pub unplugs : Unplugs
unplugs s c n p u at plan st within eight = record {
  refines = record {
    stage_registers = st.refines.stage_registers;
    fronts = st.refines.fronts;
    units =
        ap (λ (v : State). record v { ports = ports_left_in plan c u.ports 8 }) st.refines.units;
    ports = λ k below. latch_left k below;
  };
  shows = record {
    there =
        λ k below. ap is_some (row k below)
        ∙ there_of (row_at u.ports k) (get_or s.handed k false) (stays_in (get_or plan k None) c)
        (is_port_left (get_or s.unplugs k None) c) (st.ports.there k below) (kept k)
        ∙ ap (λ (o : List (Option ℕ)). get_or s.handed k false && stays_in (get_or o k None) c)
        st.due;
    words =
        λ k below late. ap (λ (o : Option Row). word_seen o (c - 3)) (row k below)
        ∙ seen_three (get_or plan k None) (row_at u.ports k) c late
        ∙ ap (λ (o : List (Option ℕ)). port_read (get_or o k None) (row_at u.ports k) (c - 3))
        st.due ∙ sym (st.ports.words k (c - 3) below (omega arith) (omega arith));
  };
}
  where
    row : (k : ℕ) → k < 8 → row_at (ports_left_in plan c u.ports 8) k ≡ left_of plan c u.ports k
    row k below = kept-row plan c u.ports k eight below

    kept : (k : ℕ) → stays_in (get_or plan k None) c ≡ true →
        is_port_left (get_or s.unplugs k None) c ≡ true
    kept k h =
        ap (λ (o : List (Option ℕ)). is_port_left (get_or o k None) c) (sym st.due)
        ∙ stays-kept (get_or plan k None) c h

    latch_left : (k : ℕ) → k < 8 → IfSome (row_at (ports_left_in plan c u.ports 8) k)
        (λ r. r.latch ≡ get_or (world s (c - 3)).latches k 0)
    latch_left k below = rw (row k below) (go (stays_in (get_or plan k None) c))
      where
        go : (b : Bool) → IfSome (if b then row_at u.ports k else None)
            (λ (r : Row). r.latch ≡ get_or (world s (c - 3)).latches k 0)
        go true = st.refines.ports k below
        go false = tt

some-words : (o : Option Row) → is_some o ≡ is_some (port_words o)
some-words None = refl
some-words (Some r) = refl

seen-words : (o : Option Row) (c : ℕ) →
    word_seen o c ≡ option_map_or (λ (f : ℕ → ℕ). f c) (port_words o) 0xFFFFFFFF
seen-words None c = refl
seen-words (Some r) c = refl

-- an issue that hasn't reached its port yet finds the same words there after the cycle
found-left : (unplug : Option ℕ) (o : Option Row) (c at : ℕ) → suc c ≤ at + 3 →
    port_read unplug (if stays_in unplug c then o else None) at ≡ port_read unplug o at
found-left None o c at h = refl
found-left (Some x) o c at h = go (nat_lt c (x + 3)) (nat_le x at) refl refl
  where
    go : (b d : Bool) → nat_lt c (x + 3) ≡ b → nat_le x at ≡ d →
        (if d then 0xFFFFFFFF else word_seen (if b then o else None) at)
        ≡ (if d then 0xFFFFFFFF else word_seen o at)
    go true true p q = refl
    go true false p q = refl
    go false true p q = refl
    go false false p q = absurd (grind (arith, nat_tests))

pub goes_on : GoesOn
goes_on s c n p u at plan t st eight kept = record {
  begins = st.begins;
  refines = kept.refines;
  cycle = ap suc st.cycle;
  due = st.due;
  ports = record {
    there =
        λ k below. some-words (row_at t.state.ports k) ∙ ap is_some (kept.ports k)
        ∙ sym (some-words (row_at (ports_left_in plan c u.ports 8) k)) ∙ ap is_some (row k below)
        ∙ there_of (row_at u.ports k) (get_or s.handed k false) (stays_in (get_or plan k None) c)
        (is_port_left (get_or s.unplugs k None) c) (st.ports.there k below) (stays k)
        ∙ ap (λ (o : List (Option ℕ)). get_or s.handed k false && stays_in (get_or o k None) c)
        st.due ∙ ap (λ b. get_or s.handed k false && b) (stays-next (get_or s.unplugs k None) c);
    words =
        λ k a below within late. st.ports.words k a below within (omega arith)
        ∙ ap (λ (o : List (Option ℕ)). port_read (get_or o k None) (row_at u.ports k) a)
        (sym st.due) ∙ sym (found-left (get_or plan k None) (row_at u.ports k) c a late) ∙ ap
        (λ (o : List (Option ℕ)). port_read (get_or o k None) (left_of plan c u.ports k) a) st.due
        ∙ ap (λ w. if is_gone (get_or s.unplugs k None) a then 0xFFFFFFFF else w) (same k a below);
  };
}
  where
    row : (k : ℕ) → k < 8 → row_at (ports_left_in plan c u.ports 8) k ≡ left_of plan c u.ports k
    row k below = kept-row plan c u.ports k eight below

    stays : (k : ℕ) → stays_in (get_or plan k None) c ≡ true →
        is_port_left (get_or s.unplugs k None) c ≡ true
    stays k h =
        ap (λ (o : List (Option ℕ)). is_port_left (get_or o k None) c) (sym st.due)
        ∙ stays-kept (get_or plan k None) c h

    same : (k a : ℕ) → k < 8 →
        word_seen (left_of plan c u.ports k) a ≡ word_seen (row_at t.state.ports k) a
    same k a below =
        ap (λ (o : Option Row). word_seen o a) (sym (row k below))
        ∙ seen-words (row_at (ports_left_in plan c u.ports 8) k) a
        ∙ ap (λ (o : Option (ℕ → ℕ)). option_map_or (λ (f : ℕ → ℕ). f a) o 0xFFFFFFFF)
        (sym (kept.ports k)) ∙ sym (seen-words (row_at t.state.ports k) a)
