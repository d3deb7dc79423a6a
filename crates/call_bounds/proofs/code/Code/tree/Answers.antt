use Rattle.std.proofs.Common.{◌≡◌, IfErr, OnOk, ap, subst}
use Rattle.region_tree.specs.Refusals.{IsAllowed, IsRefused}
use Rattle.region_tree.specs.Tree.{graph, tree_with}
use Rattle.call_bounds.specs.Calls.{range}
use Rattle.call_bounds.specs.Listing.{Listing, calls, function_at}
use Rattle.call_bounds.specs.Patched.{function_tree, patched_word}
use Rattle.call_bounds.proofs.CodeLaws.{function-words, tree-eq}
use Rattle.call_bounds.proofs.code.Code.tree.Goals as goal

pub from_words-requires-clause-count : goal.from_words-requires-clause-count
from_words-requires-clause-count c =
    let x = calls c.args.self.now in
    let p = function_at c.args.self.now c.args.function in
    function-words (patched_word x p) c.range-section.result (range x p) c.in_ok-words.words.items
    c.range-section.ensures.rules c.range-section.ensures.value c.in_ok-words.ensures

pub returns-clause-allowed : goal.returns-clause-allowed
returns-clause-allowed c =
    let x = calls c.args.self.now in
    let p = function_at c.args.self.now c.args.function in
    let same : tree_with c.range-section.result c.in_ok-words.words.items c.self.inside.loops
    ≡ function_tree x p =
    tree-eq x p c.range-section.result c.in_ok-words.words.items
    c.self.inside.loops c.range-section.ensures.value c.in_ok-words.ensures
    (ap (λ (l : Listing). l.loops) c.self.view_is) in
    subst (λ t. OnOk c.from_words.result (IsAllowed (graph t))) same c.from_words.ensures.allowed

pub returns-clause-refused : goal.returns-clause-refused
returns-clause-refused c =
    let x = calls c.args.self.now in
    let p = function_at c.args.self.now c.args.function in
    let same : tree_with c.range-section.result c.in_ok-words.words.items c.self.inside.loops
    ≡ function_tree x p =
    tree-eq x p c.range-section.result c.in_ok-words.words.items
    c.self.inside.loops c.range-section.ensures.value c.in_ok-words.ensures
    (ap (λ (l : Listing). l.loops) c.self.view_is) in
    subst (λ t. IfErr c.from_words.result (IsRefused (graph t))) same c.from_words.ensures.refused
