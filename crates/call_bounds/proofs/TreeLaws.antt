-- The trees of functions, one by one.
use Rattle.std.proofs.Common.{◌≡◌, ℕ, ◌+◌, ◌<◌, ◌⊎◌, refl, arith, inl, inr, ap, sym, subst, ◌∙◌}
use Rattle.std.proofs.Common.{Option, Some, None, List, [], ◌∷◌, ◌++◌, length, length-append}
use Rattle.std.proofs.Math.ListN.{get_or-append}
use Rattle.std.proofs.lemmas.List.{get_or-append-add}
use Rattle.region_tree.specs.Refusals.{IsAllowed, IsRefused}
use Rattle.region_tree.specs.Tree.{IsSection, Tree, graph}
use Rattle.region_tree.specs.declared.tree.TreeNo.{TreeNo}
use Rattle.call_bounds.specs.Build.{AreTreesTo, IsCauseOf, IsTried, join_causes, no_causes}
use Rattle.call_bounds.specs.Calls.{IsReached, range}
use Rattle.call_bounds.specs.Listing.{AreFunctionTrees, IsTreeOf, Listing}
use Rattle.call_bounds.specs.Listing.{calls, function_at, function_count, tree_at}
use Rattle.call_bounds.specs.Patched.{function_tree}
use Rattle.call_bounds.specs.declared.causes.Causes.{Causes}
use Rattle.call_bounds.proofs.CauseLaws.{causes-allowed, causes-next, causes-other}
use Rattle.call_bounds.proofs.CauseLaws.{causes-refused, causes-start, joined-none}

pub tried-other : (l : Listing) (k : ℕ) → (IsReached (calls l) (function_at l k) → ⊥) →
    IsTried l k None no_causes
tried-other l k out = record { causes = causes-other l k out; built = λ e. IsTreeOf.other out }

pub tried-tree : (l : Listing) (k : ℕ) (t : Tree) → IsSection (range (calls l) (function_at l k)) →
    IsReached (calls l) (function_at l k) → IsAllowed (graph (function_tree (calls l)
    (function_at l k))) →
    t ≡ function_tree (calls l) (function_at l k) → IsTried l k (Some t) no_causes
tried-tree l k t is r ok e = record {
  causes = causes-allowed l k is ok;
  built = λ _. subst (λ t. IsTreeOf (calls l) (function_at l k) (Some t)) (sym e)
      (IsTreeOf.reached r);
}

known : (t : TreeNo) (f : Causes) → IsCauseOf t f → f ≡ no_causes → ⊥
known (TreeNo.Nesting a) f h e = let z = ap (λ (f : Causes). f.nesting) (sym h ∙ e) in cc
known (TreeNo.IndirectJump a) f h e = let z = ap (λ (f : Causes). f.indirect) (sym h ∙ e) in cc
known (TreeNo.TimedWait a) f h e = let z = ap (λ (f : Causes). f.timed) (sym h ∙ e) in cc
known (TreeNo.UnboundedBackEdge a) f h e =
    let z = ap (λ (f : Causes). f.unbounded) (sym h ∙ e) in cc
known TreeNo.NoMemory f h e = h

pub tried-refused : (l : Listing) (k : ℕ) (t : TreeNo) (f : Causes) →
    IsSection (range (calls l) (function_at l k)) → IsReached (calls l) (function_at l k) →
    IsRefused (graph (function_tree (calls l) (function_at l k))) t → IsCauseOf t f →
    IsTried l k None f
tried-refused l k t f is r h e =
    record { causes = causes-refused l k t f is r h e; built = λ none. absurd (known t f e none) }

pub trees-start : (l : Listing) → AreTreesTo l 0 [] no_causes
trees-start l =
    record { count = refl; causes = causes-start l; built = λ e k h. absurd (omega arith) }

pub trees-next : (l : Listing) (c : ℕ) (trees trees' : List (Option Tree)) (tree : Option Tree)
    (f g : Causes) → trees' ≡ trees ++ tree ∷ [] → IsTried l c tree g → AreTreesTo l c trees f →
    AreTreesTo l (c + 1) trees' (join_causes f g)
trees-next l c trees trees' tree f g is t a =
    subst (λ ts. AreTreesTo l (c + 1) ts (join_causes f g)) (sym is) (record {
      count =
          length-append trees (tree ∷ [])
          ∙ (let z = a.count in let y : length trees + 1 ≡ c + 1 = omega arith in y);
      causes = causes-next l c f g a.causes t.causes;
      built = λ e k h. go (joined-none f g e) k (let z : (k < c) ⊎ (k ≡ c) = grind arith in z);
    })
  where
    go : (f ≡ no_causes) × (g ≡ no_causes) → (k : ℕ) → (k < c) ⊎ (k ≡ c) →
        IsTreeOf (calls l) (function_at l k) (tree_at (trees ++ tree ∷ []) k)
    go z k (inl below) =
        subst (IsTreeOf (calls l) (function_at l k))
        (sym (get_or-append trees (tree ∷ []) None k (omega (arith, a.count))))
        (a.built z.0 k below)
    go z k (inr same) =
        let at : tree_at (trees ++ tree ∷ []) k ≡ tree = ap (λ i. tree_at (trees ++ tree ∷ []) i)
        (let y = a.count in let x : k ≡ length trees + 0 = omega arith in x)
        ∙ get_or-append-add trees (tree ∷ []) 0 None in
        subst (IsTreeOf (calls l) (function_at l k)) (sym at)
        (subst (λ i. IsTreeOf (calls l) (function_at l i) tree) (sym same) (t.built z.1))

pub trees-all : (l : Listing) (trees : List (Option Tree)) (f : Causes) → f ≡ no_causes →
    AreTreesTo l (function_count l) trees f → AreFunctionTrees l trees
trees-all l trees f e a = record { count = a.count; each = a.built e }
