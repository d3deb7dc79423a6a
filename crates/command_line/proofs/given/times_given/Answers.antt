use Rattle.std.proofs.Common.{◌≡◌, ◌∙◌, ◌+◌, ◌<◌, ◌≤◌, ◌∷◌, [], List, ℕ, Option, rules}
use Rattle.std.proofs.Common.{ap, sym, map, length, string_bytes, true, false, Some}
use Rattle.std.proofs.Common.{None, drop, option_map, arith, subst, if◌then◌else◌}
use Rattle.command_line.specs.Code.{form_value, count_in, is_bad_form, gives_to, opened_by}
use Rattle.command_line.proofs.Counts.{plus, after_word, after_bad, at_end}
use Rattle.command_line.proofs.Counts.{at_end_waiting, left_of, none_left, one_at_most}
use Rattle.command_line.proofs.given.times_given.Goals as goal

pub returns-then-is_bad : goal.returns-then-is_bad
returns-then-is_bad c =
    let names = map (λ n. n.now) c.args.options.now in
    let name = c.args.name.now in
    let times = c.loop-word.times in
    let i = c.loop-word.word-index in
    let waiting = option_map (λ n. n.now) c.loop-word.waiting in
    let rest = map string_bytes (drop (i + 1) c.args.words.now) in
    let word = c.as_str.result.now in
    let f = form_value c.form_of-form.result in
    let inside : i < length c.args.words.now = omega arith in
    let split = left_of string_bytes c.args.words.now i c.word-item.result inside in
    let is = ap string_bytes (sym c.word-item.is) ∙ sym c.as_str.ensures.value in
    let wrong : is_bad_form f ≡ true = search rules in
    sym
    (c.loop-word.invariant.times
    ∙ (ap (λ (ws : List (List ℕ)). plus times (count_in names name waiting ws))
    (split ∙ ap (λ (w : List ℕ). w ∷ rest) is)
    ∙ ap (plus times) (after_bad names name word rest waiting f c.form_of-form.ensures wrong)))

pub loop-word-preserved : goal.loop-word-preserved
loop-word-preserved c =
    let names = map (λ n. n.now) c.args.options.now in
    let name = c.args.name.now in
    let times = c.loop-word.times in
    let i = c.loop-word.word-index in
    let waiting = option_map (λ n. n.now) c.loop-word.waiting in
    let rest = map string_bytes (drop (i + 1) c.args.words.now) in
    let word = c.as_str.result.now in
    let f = form_value c.form_of-form.result in
    let inside : i < length c.args.words.now = omega arith in
    let split = left_of string_bytes c.args.words.now i c.word-item.result inside in
    let is = ap string_bytes (sym c.word-item.is) ∙ sym c.as_str.ensures.value in
    let good : is_bad_form f ≡ false = search rules in
    let one : (if gives_to f name then 1 else 0) ≡ c.from-times.result = search rules in
    let most = one_at_most (gives_to f name) in
    let few : c.from-times.result ≤ 1 = subst (λ (k : ℕ). k ≤ 1) one most in
    let small = c.loop-word.invariant.small in
    record {
      times =
          c.loop-word.invariant.times
          ∙ (ap (λ (ws : List (List ℕ)). plus times (count_in names name waiting ws))
          (split ∙ ap (λ (w : List ℕ). w ∷ rest) is)
          ∙ (after_word names name word rest waiting f times c.form_of-form.ensures good
          ∙ (ap (λ (k : ℕ). plus (times + k) (count_in names name (opened_by f) rest)) one
          ∙ ap (λ (o : Option (List ℕ)). plus (times + c.from-times.result)
          (count_in names name o rest)) (sym c.opened-waiting.ensures))));
      small = omega (arith, few, small);
    }

pub returns-in-Some : goal.returns-in-Some
returns-in-Some c =
    let names = map (λ n. n.now) c.args.options.now in
    let name = c.args.name.now in
    let times = c.loop-word.times in
    let over : length c.args.words.now ≤ c.loop-word.word-index = omega arith in
    let waiting = option_map (λ n. n.now) c.loop-word.waiting in
    let none = none_left string_bytes c.args.words.now c.loop-word.word-index over in
    let end : count_in names name waiting [] ≡ None =
    ap (λ o. count_in names name (option_map (λ n. n.now) o) []) c.in-Some.is
    ∙ at_end_waiting names name c.in-Some.field-0.now in
    sym (c.loop-word.invariant.times ∙ ap (λ (ws : List (List ℕ)).
    plus times (count_in names name waiting ws)) none ∙ ap (plus times) end)

pub returns-in-None : goal.returns-in-None
returns-in-None c =
    let names = map (λ n. n.now) c.args.options.now in
    let name = c.args.name.now in
    let times = c.loop-word.times in
    let over : length c.args.words.now ≤ c.loop-word.word-index = omega arith in
    let waiting = option_map (λ n. n.now) c.loop-word.waiting in
    let none = none_left string_bytes c.args.words.now c.loop-word.word-index over in
    let end : count_in names name waiting [] ≡ Some 0 =
    ap (λ o. count_in names name (option_map (λ n. n.now) o) []) c.in-None.is ∙ at_end names name in
    let same : times + 0 ≡ times = omega arith in
    sym (c.loop-word.invariant.times ∙ ap (λ (ws : List (List ℕ)).
    plus times (count_in names name waiting ws)) none ∙ ap (plus times) end ∙ ap Some same)
