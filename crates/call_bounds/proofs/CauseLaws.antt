-- The causes of refusal of functions, function by function.
use Rattle.std.proofs.Common.{◌≡◌, ℕ, ◌+◌, refl, arith, ap, sym, subst, Option, Some, None}
use Rattle.region_tree.specs.Graph.{Graph}
use Rattle.region_tree.specs.Refusals.{IndirectAt, IsAllowed, IsLowest}
use Rattle.region_tree.specs.Refusals.{IsRefused, Nowhere, TimedAt, UnboundedAt}
use Rattle.region_tree.specs.Nesting.{NestingAt}
use Rattle.region_tree.specs.Search.{Before, LowestOf, lower_of}
use Rattle.region_tree.specs.Tree.{IsSection, graph}
use Rattle.region_tree.specs.declared.tree.TreeNo.{TreeNo}
use Rattle.region_tree.proofs.LowestLaws.{lowest-next, lowest-same}
use Rattle.call_bounds.specs.Build.{AreCauses, InFunction, IsCauseOf, IsFirst, join_causes}
use Rattle.call_bounds.specs.Build.{no_causes}
use Rattle.call_bounds.specs.CallRefusals.{InFunctions}
use Rattle.call_bounds.specs.CallRefused.{IsTreeRefused, AreFunctionsAllowed}
use Rattle.call_bounds.specs.Calls.{IsReached, function, range}
use Rattle.call_bounds.specs.Listing.{Listing, calls, function_at, function_count}
use Rattle.call_bounds.specs.Patched.{function_tree}
use Rattle.call_bounds.specs.declared.causes.Causes.{Causes}
use Rattle.call_bounds.specs.declared.tree.CallNo.{CallNo}
use Rattle.call_bounds.proofs.Numbers.{reached-number}
use Rattle.call_bounds.proofs.Same.{IsSame, indirect-same, nesting-same, timed-same, unbounded-same}

lower-none : (a b : Option ℕ) → lower_of a b ≡ None → (a ≡ None) × (b ≡ None)
unfolding lower_of
lower-none None None h = (refl, refl)
lower-none None (Some y) h = cc
lower-none (Some x) None h = cc
lower-none (Some x) (Some y) h = cc

pub causes-next : (l : Listing) (c : ℕ) (f g : Causes) → AreCauses (λ P. Before
    (InFunction l P) c) f →
    AreCauses (λ P. InFunction l P c) g → AreCauses (λ P. Before (InFunction l P) (c + 1))
    (join_causes f g)
causes-next l c f g a b = record {
  nesting = lowest-next (InFunction l NestingAt) c f.nesting g.nesting a.nesting b.nesting;
  indirect =
      λ e. let z = lower-none f.nesting g.nesting e in
      lowest-next (InFunction l IndirectAt) c f.indirect g.indirect (a.indirect z.0)
      (b.indirect z.1);
  timed =
      λ e h. let z = lower-none f.nesting g.nesting e in
      let y = lower-none f.indirect g.indirect h in
      lowest-next (InFunction l TimedAt) c f.timed g.timed (a.timed z.0 y.0) (b.timed z.1 y.1);
  unbounded =
      λ e h m. let z = lower-none f.nesting g.nesting e in
      let y = lower-none f.indirect g.indirect h in
      let x = lower-none f.timed g.timed m in
      lowest-next (InFunction l UnboundedAt) c f.unbounded g.unbounded (a.unbounded z.0 y.0 x.0)
      (b.unbounded z.1 y.1 x.1);
}

pub joined-none : (f g : Causes) → join_causes f g ≡ no_causes → (f ≡ no_causes) × (g ≡ no_causes)
joined-none f g e =
    let n = lower-none f.nesting g.nesting (ap (λ (h : Causes). h.nesting) e) in
    let i = lower-none f.indirect g.indirect (ap (λ (h : Causes). h.indirect) e) in
    let t = lower-none f.timed g.timed (ap (λ (h : Causes). h.timed) e) in
    let u = lower-none f.unbounded g.unbounded (ap (λ (h : Causes). h.unbounded) e) in (
      λ k. record { nesting = n.0 k; indirect = i.0 k; timed = t.0 k; unbounded = u.0 k },
      λ k. record { nesting = n.1 k; indirect = i.1 k; timed = t.1 k; unbounded = u.1 k },
    )

none-before : (l : Listing) (P : Graph → ℕ → Type 0) → Nowhere (Before (InFunction l P) 0)
none-before l P a h = absurd (omega (arith, h.1))

pub causes-start : (l : Listing) → AreCauses (λ P. Before (InFunction l P) 0) no_causes
causes-start l = record {
  nesting = none-before l NestingAt;
  indirect = λ e. none-before l IndirectAt;
  timed = λ e h. none-before l TimedAt;
  unbounded = λ e h m. none-before l UnboundedAt;
}

-- of one function
lowest-in : (l : Listing) (k : ℕ) (P : Graph → ℕ → Type 0) (a : ℕ) →
    IsReached (calls l) (function_at l k) → IsSame P (calls l) (function_at l k) →
    IsLowest (P (graph (function_tree (calls l) (function_at l k)))) a →
    IsLowest (InFunction l P k) a
lowest-in l k P a r s low =
    record { holds = (r, s.there a low.holds); lowest = λ b h. low.lowest b (s.back b h.1) }

nowhere-in : (l : Listing) (k : ℕ) (P : Graph → ℕ → Type 0) → IsSame P (calls l) (function_at l k) →
    Nowhere (P (graph (function_tree (calls l) (function_at l k)))) → Nowhere (InFunction l P k)
nowhere-in l k P s none a h = none a (s.back a h.1)

pub causes-other : (l : Listing) (k : ℕ) → (IsReached (calls l) (function_at l k) → ⊥) →
    AreCauses (λ P. InFunction l P k) no_causes
causes-other l k out = record {
  nesting = λ a h. out h.0;
  indirect = λ e a h. out h.0;
  timed = λ e m a h. out h.0;
  unbounded = λ e m n a h. out h.0;
}

pub causes-allowed : (l : Listing) (k : ℕ) → IsSection (range (calls l) (function_at l k)) →
    IsAllowed (graph (function_tree (calls l) (function_at l k))) → AreCauses (λ P. InFunction l P
    k) no_causes
causes-allowed l k is ok =
    let x = calls l in let p = function_at l k in
    record {
      nesting = nowhere-in l k NestingAt (nesting-same x p is) ok.nesting;
      indirect = λ e. nowhere-in l k IndirectAt (indirect-same x p is) ok.indirect;
      timed = λ e h. nowhere-in l k TimedAt (timed-same x p is) ok.timed;
      unbounded = λ e h m. nowhere-in l k UnboundedAt (unbounded-same x p is) ok.unbounded;
    }

pub causes-refused : (l : Listing) (k : ℕ) (t : TreeNo) (f : Causes) →
    IsSection (range (calls l) (function_at l k)) → IsReached (calls l) (function_at l k) →
    IsRefused (graph (function_tree (calls l) (function_at l k))) t → IsCauseOf t f →
    AreCauses (λ P. InFunction l P k) f
causes-refused l k (TreeNo.Nesting a) f is r h e = subst (AreCauses (λ P. InFunction l P k)) (sym e)
    (record {
      nesting = lowest-in l k NestingAt a r (nesting-same (calls l) (function_at l k) is) h;
      indirect = λ e. cc;
      timed = λ e m. cc;
      unbounded = λ e m n. cc;
    })
causes-refused l k (TreeNo.IndirectJump a) f is r h e =
    subst (AreCauses (λ P. InFunction l P k)) (sym e) (record {
      nesting = nowhere-in l k NestingAt (nesting-same (calls l) (function_at l k) is) h.0;
      indirect = λ e. lowest-in l k IndirectAt a r (indirect-same (calls l) (function_at
          l k) is) h.1;
      timed = λ e m. cc;
      unbounded = λ e m n. cc;
    })
causes-refused l k (TreeNo.TimedWait a) f is r h e = subst (AreCauses (λ P. InFunction l
    P k)) (sym e)
    (record {
      nesting = nowhere-in l k NestingAt (nesting-same (calls l) (function_at l k) is) h.0;
      indirect = λ e. nowhere-in l k IndirectAt (indirect-same (calls l) (function_at l k) is) h.1;
      timed = λ e m. lowest-in l k TimedAt a r (timed-same (calls l) (function_at l k) is) h.2;
      unbounded = λ e m n. cc;
    })
causes-refused l k (TreeNo.UnboundedBackEdge a) f is r h e =
    subst (AreCauses (λ P. InFunction l P k)) (sym e) (record {
      nesting = nowhere-in l k NestingAt (nesting-same (calls l) (function_at l k) is) h.0;
      indirect = λ e. nowhere-in l k IndirectAt (indirect-same (calls l) (function_at l k) is) h.1;
      timed = λ e m. nowhere-in l k TimedAt (timed-same (calls l) (function_at l k) is) h.2;
      unbounded =
          λ e m n. lowest-in l k UnboundedAt a r (unbounded-same (calls l) (function_at
          l k) is) h.3;
    })
causes-refused l k TreeNo.NoMemory f is r h e = absurd e

-- of all functions
all-functions : (l : Listing) (P : Graph → ℕ → Type 0) (r : Option ℕ) →
    LowestOf (Before (InFunction l P) (function_count l)) r → LowestOf (InFunctions (calls l) P) r
all-functions l P r = lowest-same (Before (InFunction l P) (function_count l)) (InFunctions
    (calls l) P) r
    (λ a h. record { within = function_at l h.0; reached = h.2.0; holds = h.2.1 })
    (λ a h. let z = reached-number l h.within h.reached in (
      z.0,
      z.1,
      (
        subst (λ p. IsReached (calls l) p) (sym z.2) h.reached,
        subst (λ p. P (function (calls l) p) a) (sym z.2) h.holds,
      ),
    ))

causes-all : (l : Listing) (f : Causes) → AreCauses (λ P. Before (InFunction l P)
    (function_count l)) f →
    AreCauses (InFunctions (calls l)) f
causes-all l f c = record {
  nesting = all-functions l NestingAt f.nesting c.nesting;
  indirect = λ e. all-functions l IndirectAt f.indirect (c.indirect e);
  timed = λ e h. all-functions l TimedAt f.timed (c.timed e h);
  unbounded = λ e h m. all-functions l UnboundedAt f.unbounded (c.unbounded e h m);
}

first-of : (D : (Graph → ℕ → Type 0) → ℕ → Type 0) (P : Graph → ℕ → Type 0) (o : Option ℕ) (a : ℕ) →
    o ≡ Some a → LowestOf (D P) o → IsLowest (D P) a
first-of D P o a e low = subst (LowestOf (D P)) e low

none-of : (D : (Graph → ℕ → Type 0) → ℕ → Type 0) (P : Graph → ℕ → Type 0) (o : Option ℕ) →
    o ≡ None → LowestOf (D P) o → Nowhere (D P)
none-of D P o e low = subst (LowestOf (D P)) e low

refused : (l : Listing) (f : Causes) (c : CallNo) → AreCauses (InFunctions (calls l)) f →
    IsFirst f c →
    IsTreeRefused (calls l) c
refused l f (CallNo.Nesting a) c h = first-of (InFunctions (calls l)) NestingAt f.nesting
    a h c.nesting
refused l f (CallNo.IndirectJump a) c h = (
  none-of (InFunctions (calls l)) NestingAt f.nesting h.0 c.nesting,
  first-of (InFunctions (calls l)) IndirectAt f.indirect a h.1 (c.indirect h.0),
)
refused l f (CallNo.TimedWait a) c h = (
  none-of (InFunctions (calls l)) NestingAt f.nesting h.0 c.nesting,
  none-of (InFunctions (calls l)) IndirectAt f.indirect h.1 (c.indirect h.0),
  first-of (InFunctions (calls l)) TimedAt f.timed a h.2 (c.timed h.0 h.1),
)
refused l f (CallNo.UnboundedBackEdge a) c h = (
  none-of (InFunctions (calls l)) NestingAt f.nesting h.0 c.nesting,
  none-of (InFunctions (calls l)) IndirectAt f.indirect h.1 (c.indirect h.0),
  none-of (InFunctions (calls l)) TimedAt f.timed h.2 (c.timed h.0 h.1),
  first-of (InFunctions (calls l)) UnboundedAt f.unbounded a h.3 (c.unbounded h.0 h.1 h.2),
)
refused l f CallNo.NoMemory c h = tt
refused l f (CallNo.Overlap a) c h = h
refused l f (CallNo.Recursion a) c h = h
refused l f (CallNo.Escape a) c h = h

pub tree-refused : (l : Listing) (f : Causes) (t : CallNo) →
    AreCauses (λ P. Before (InFunction l P) (function_count l)) f → IsFirst f t →
    IsTreeRefused (calls l) t
tree-refused l f t c h = refused l f t (causes-all l f c) h

pub tree-allowed : (l : Listing) (f : Causes) →
    AreCauses (λ P. Before (InFunction l P) (function_count l)) f → f ≡ no_causes →
    AreFunctionsAllowed (calls l)
tree-allowed l f c e =
    let a =
    causes-all l no_causes (subst (AreCauses (λ P. Before (InFunction l P) (function_count l))) e c)
    in
    (a.nesting, a.indirect refl, a.timed refl refl, a.unbounded refl refl refl)
