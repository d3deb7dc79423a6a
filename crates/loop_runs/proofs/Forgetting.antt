-- A machine whose ports forget the words that no load in flight finds.
use Rattle.std.proofs.Common.{◌≡◌, ◌≢◌, ℕ, ◌+◌, ◌-◌, ◌<◌, ◌≤◌, Bool, true, false, List, [], ◌∷◌}
use Rattle.std.proofs.Common.{length, get_or, Some, None, Option, refl, ap, sym, ◌∙◌, subst, arith}
use Rattle.std.specs.Prelude.{if◌then◌else◌, ◌&&◌, ◌==◌, is_some, nat_le, IfSome}
use Rattle.std.proofs.lemmas.Bool.Decides.{nat_tests}
use Rattle.fp_ports.specs.declared.feeds.Feed.{Feed}
use Rattle.fp_ports.specs.Kinds.{kept_from}
use Rattle.fp_ports.specs.PluggedPorts.{Forgot, Row, row_at, word_seen}
use Rattle.fp_ports.specs.ShownWords.{is_gone}
use Rattle.core_model.specs.World.{Start, port_word, world}
use Rattle.pipe_model.specs.Stages.{State}
use Rattle.pipe_model.specs.Relation.{HasLatches}
use Rattle.machine.specs.DumpedState.{is_port_left}
use Rattle.machine.specs.FieldRelation.{port_read}
use Rattle.machine.specs.WorldRelation.{Refines}
use Rattle.machine.specs.declared.state.Machine.{Machine}
use Rattle.closed_loops.specs.Answered.{with_all_shown}
use Rattle.loop_runs.specs.FedRuns.{AllForgot, FallsBelow, ForgetsRunning, KeepsThree}
use Rattle.loop_runs.specs.Looping.{Looping}
use Rattle.loop_runs.specs.Plants.{Response}

forgot-latch : (first : ℕ) (a b : Option Row) (x : ℕ) → Forgot first a b →
    IfSome a (λ (r : Row). r.latch ≡ x) → IfSome b (λ (r : Row). r.latch ≡ x)
forgot-latch first None None x f h = tt
forgot-latch first None (Some t) x f h = absurd f
forgot-latch first (Some r) None x f h = absurd f
forgot-latch first (Some r) (Some t) x f h = f.0 ∙ h

forgot-there : (first : ℕ) (a b : Option Row) → Forgot first a b → is_some b ≡ is_some a
forgot-there first None None f = refl
forgot-there first None (Some t) f = absurd f
forgot-there first (Some r) None f = absurd f
forgot-there first (Some r) (Some t) f = refl

forgot-seen : (first : ℕ) (a b : Option Row) (c : ℕ) → Forgot first a b → first ≤ c →
    word_seen b c ≡ word_seen a c
forgot-seen first None None c f late = refl
forgot-seen first None (Some t) c f late = absurd f
forgot-seen first (Some r) None c f late = absurd f
forgot-seen first (Some r) (Some t) c f late = f.1 c late

pub forgets-running : ForgetsRunning
forgets-running s c n m before after st forgot = record {
  begins = st.begins;
  refines = record {
    stage_registers = st.refines.stage_registers;
    fronts = st.refines.fronts;
    units = ap (λ (v : State). let x : State = record v { ports = after } in x) st.refines.units;
    ports = latches;
  };
  cycle = st.cycle;
  due = st.due;
  ports = record { there = there; words = words };
}
  where
    latches : HasLatches (world s (c - 3)) after
    latches k l =
        forgot-latch (c - 3) (row_at before k) (row_at after k)
        (get_or (world s (c - 3)).latches k 0) (forgot k l) (st.refines.ports k l)

    there : (k : ℕ) → k < 8 → is_some (row_at after k)
        ≡ (get_or s.handed k false && is_port_left (get_or s.unplugs k None) c)
    there k l =
        forgot-there (c - 3) (row_at before k) (row_at after k) (forgot k l) ∙ st.ports.there k l

    words : (k a : ℕ) → k < 8 → a < n → c ≤ a + 3 →
        port_word s a k ≡ port_read (get_or s.unplugs k None) (row_at after k) a
    words k a l inn late =
        st.ports.words k a l inn late
        ∙ ap (λ (w : ℕ). if is_gone (get_or s.unplugs k None) a then 0xFFFFFFFF else w)
        (sym (forgot-seen (c - 3) (row_at before k) (row_at after k) a (forgot k l)
        (omega (arith, late))))

-- the same, by an equal cycle
pub forgets-from : ForgetsRunning →
    (s : Start) (c n first : ℕ) (m : Machine) (before after : List (Option Row)) → first ≡ c - 3 →
    Refines s c n m before → AllForgot first before after → Refines s c n m after
forgets-from law s c n first m before after e st forgot =
    law s c n m before after st (subst (λ (a : ℕ). AllForgot a before after) e forgot)

-- ports that forgot nothing
forgot-same : (first : ℕ) (a : Option Row) → Forgot first a a
forgot-same first None = tt
forgot-same first (Some r) = (refl, λ c late. refl)

forgot-more : (first : ℕ) (a b d : Option Row) → Forgot first a b → Forgot first b d →
    Forgot first a d
forgot-more first None None None f g = tt
forgot-more first None None (Some u) f g = absurd g
forgot-more first None (Some t) d f g = absurd f
forgot-more first (Some r) None d f g = absurd f
forgot-more first (Some r) (Some t) None f g = absurd g
forgot-more first (Some r) (Some t) (Some u) f g = (g.0 ∙ f.0, λ c late. g.1 c late ∙ f.1 c late)

pub all-same : (first : ℕ) (ports : List (Option Row)) → AllForgot first ports ports
all-same first ports k l = forgot-same first (row_at ports k)

-- one more port forgot
pub one-forgot : (first i : ℕ) (before ports after : List (Option Row)) →
    AllForgot first before ports → Forgot first (row_at ports i) (row_at after i) →
    ((k : ℕ) → k ≢ i → row_at after k ≡ row_at ports k) → AllForgot first before after
one-forgot first i before ports after all here others k l = go (k == i) refl
  where
    go : (b : Bool) → (k == i) ≡ b → Forgot first (row_at before k) (row_at after k)
    go true same =
        let eq : i ≡ k = grind (arith, nat_tests) in
        forgot-more first (row_at before k) (row_at ports k) (row_at after k) (all k l)
        (subst (λ (j : ℕ). Forgot first (row_at ports j) (row_at after j)) eq here)
    go false differ =
        let apart : k ≢ i = grind (arith, nat_tests) in
        subst (λ (o : Option Row). Forgot first (row_at before k) o)
        (sym (others k apart)) (all k l)

-- closed loops continue with the ports that forgot
pub forgot-looping : (first now : List (Option Response)) (every : ℕ)
    (s : Start) (n q i c : ℕ) (m : Machine) (ports after : List (Option Row)) →
    ((t : Start) → Refines t c n m ports → Refines t c n m after) →
    Looping first now every s n q i c m ports → Looping first now every s n q i c m after
forgot-looping first now every s n q i c m ports after keeps h =
    let st : Refines (with_all_shown s h.shown) c n m after =
    keeps (with_all_shown s h.shown) h.refines in
    record {
      shown = h.shown;
      eight = h.eight;
      refines = st;
      words = h.words;
      inputs = h.inputs;
      plants =
          λ j low there.
          h.plants j low (h.refines.ports.there j low ∙ sym (st.ports.there j low) ∙ there);
    }

-- each kept feed but the oldest is of a cycle after `first`, and all are before c
keeps-below : (feeds : List Feed) (first c : ℕ) → first < c → FallsBelow c feeds →
    length (kept_from first feeds) + first ≤ c
keeps-below [] first c l f = omega (arith, l)
keeps-below (feed ∷ older) first c l f =
    go (nat_le feed.at first) refl (λ more. keeps-below older first feed.at more f.1)
  where
    go : (b : Bool) → nat_le feed.at first ≡ b →
        (first < feed.at → length (kept_from first older) + first ≤ feed.at) →
        length (feed ∷ (if b then [] else kept_from first older)) + first ≤ c
    go true p h = omega (arith, l)
    go false p h =
        let more : first < feed.at = grind (arith, nat_tests) in
        omega (arith, f.0, h more)

pub keeps-three : KeepsThree
keeps-three feeds c some f = omega (arith, keeps-below feeds (c - 3) c (omega (arith, some)) f)
