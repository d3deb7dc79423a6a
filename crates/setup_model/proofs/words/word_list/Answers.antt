use Rattle.std.proofs.Common.{◌≡◌, ◌+◌, ◌*◌, ◌/◌, ◌∷◌, [], ◌++◌}
use Rattle.std.proofs.Common.{List, ℕ, map, arith, sym, ap, ap₂, ◌∙◌}
use Rattle.std.specs.List.{range_with_len}
use Rattle.std.proofs.lemmas.List.FromFn.{map-range_with_len_more}
use Rattle.fp_image.specs.Rules.{word}
use Rattle.setup_model.specs.Start.{words_from}
use Rattle.setup_model.proofs.words.word_list.Goals as goal

pub loop-k-init : goal.loop-k-init
loop-k-init c = c.in_ok-words.ensures.items

pub loop-k-preserved : goal.loop-k-preserved
loop-k-preserved c =
    let more = map-range_with_len_more (λ k. word c.args.image.now (c.args.base + 4 * k))
    0 c.loop-k.k c.loop-k.k (omega arith) in
    let pushed = rw c.in_ok-push.was at c.push.ensures.items in
    pushed
    ∙ ap₂ (λ (words : List ℕ) (w : ℕ). words ++ w ∷ []) c.loop-k.invariant c.word.ensures ∙ sym more

pub returns : goal.returns
unfolding words_from
returns c =
    let end : c.loop-k.k ≡ c.args.size / 4 =
    omega (arith, c.loop-k-test.false, c.loop-k.auto.k-end) in
    c.loop-k.invariant
    ∙ ap (λ n. map (λ k. word c.args.image.now (c.args.base + 4 * k)) (range_with_len 0 n)) end
