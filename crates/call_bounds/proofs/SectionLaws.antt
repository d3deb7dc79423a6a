-- The section, after all its functions are known.
use Rattle.std.proofs.Common.{◌≡◌, ℕ, ◌∙◌, subst, sym, List, Option, None, Some, length}
use Rattle.region_tree.specs.Tree.{IsTree, Tree}
use Rattle.region_tree.specs.Walk.{IsOwn, Positions}
use Rattle.bound_calc.specs.Propagation.{AreReached, CostsOn, matrix_at, costs_on}
use Rattle.bound_calc.specs.Tops.{IsTop}
use Rattle.bound_calc.specs.declared.matrix.Matrix.{Matrix}
use Rattle.call_bounds.specs.Calls.{IsReached, range}
use Rattle.call_bounds.specs.Listing.{Listing, calls}
use Rattle.call_bounds.specs.Patched.{function_tree}
use Rattle.call_bounds.specs.Runs.{Deep, Leaving, Through}
use Rattle.call_bounds.specs.Summaries.{Any, AreCallees, AreKnown, AreSummaries}
use Rattle.call_bounds.specs.Summaries.{Ending, IsMost, KnowsCallees, ExitCostsAt, route}
use Rattle.call_bounds.specs.Tops.{EndsBy, IsMostBelow}
use Rattle.call_bounds.proofs.AnyLaws.{Alike, alike-either}
use Rattle.call_bounds.proofs.DoneLaws.{callee-reached}
use Rattle.call_bounds.proofs.LeaveLaws.{leaving-alike, most-is}
use Rattle.call_bounds.proofs.FunctionLaws.{Gone, count, deep-alike, gone, holds, many}
use Rattle.call_bounds.proofs.TopLaws.{ends-either, top-alike}

-- the section's callees are known if all reached functions are
section-knows : (l : Listing) (s : Positions) (through deep : List Matrix) →
    AreKnown l s (λ k. Unit {0}) through deep → KnowsCallees l s 0 through deep
section-knows l s through deep all k lt call =
    all k lt (callee-reached (calls l) None _ IsReached.first call) tt

pub section-most : (l : Listing) (s : Positions) (callees : List (Option ℕ))
    (through deep : List Matrix) (most : ℕ) → (p : ℕ) × IsOwn s p →
    AreSummaries l s through deep → AreKnown l s (λ k. Unit {0}) through deep →
    AreCallees l (range (calls l) None) (count (range (calls l) None)) callees →
    IsTree (function_tree (calls l) None) → IsMostBelow (function_tree (calls l) None) s
    (costs_on (record { indices = callees; costs = through }))
    (costs_on (record { indices = callees; costs = deep }))
    (length (function_tree (calls l) None).words) most → IsMost (route l s) most
section-most l s callees through deep most slot are known cs tree b =
    most-is (route l s) most slot
    (top-alike (alike-either ends leaves) (ends-either t s word_costs into b.at top))
  where
    t : Tree
    t = function_tree (calls l) None

    word_costs : CostsOn
    word_costs = costs_on (record { indices = callees; costs = through })

    into : CostsOn
    into = costs_on (record { indices = callees; costs = deep })

    knows : KnowsCallees l s 0 through deep
    knows = section-knows l s through deep known

    r : AreReached t s word_costs b.at
    r = record { count = b.count; best = b.best }

    g : Gone (route l s) None b.at
    g = gone l s 0 callees through deep b.at are IsReached.first knows cs tree r

    same : length t.words ≡ count (range (calls l) None)
    same = sym b.count ∙ many l 0 b.at s word_costs tree r

    top : IsTop (Any (λ k. EndsBy t s word_costs into k (matrix_at b.at k))
        (count (range (calls l) None))) 0 most
    top =
        subst (λ n. IsTop (Any (λ k. EndsBy t s word_costs into k (matrix_at b.at k)) n)
        0 most) same
        b.top

    ends : Alike (Deep (route l s) None) (Ending into b.at (count (range (calls l) None)))
    ends =
        deep-alike (route l s) None b.at into g
        (holds l s 0 (λ t. Deep (route l s) (Some t)) deep callees g.section cs are.count'
        (λ k t lt here call. (knows k lt call t here).ends))

    leaves : Alike (Leaving (route l s))
        (Any (ExitCostsAt t s word_costs b.at) (count (range (calls l) None)))
    leaves =
        leaving-alike (route l s) b.at word_costs g
        (holds l s 0 (Through (route l s)) through callees g.section cs are.count
        (λ k t lt here call. (knows k lt call t here).back))
