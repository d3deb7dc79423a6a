use Rattle.std.proofs.Common.{◌≡◌, refl, sym, ◌∙◌, arith}
use Rattle.std.proofs.lemmas.Grind.{common_steps}
use Rattle.fp_elf.proofs.Putting.{put-apart, put-joined}
use Rattle.fp_elf.proofs.runs.put_word.Goals.{in-Some, in-Some-2+in_ok-push-in-Some-2, in-None}
use Rattle.fp_elf.proofs.runs.put_word.Goals as goal

pub returns : goal.returns
returns c =
    elim c.match-pop.branch [
      | in-Some w ↦
          put-joined c.args.address _ _ _ c.pop.new.self.items
          w.in-Some.first _ c.in_ok-push.ensures.items
          (rw w.runs-is refl) w.in-Some.ensures.items w.run-is (omega arith)
      | in-Some-2+in_ok-push-in-Some-2 w ↦
          let left : c.match-pop.runs.items ≡ w.push.new.self.items = rw w.runs-is refl in
          put-apart c.args.address _ _ _ c.pop.new.self.items w.in-Some.first _
          c.in_ok-push.ensures.items (left ∙ w.in_ok-push-in-Some-2.ensures.items
          ∙ sym w.in-Some.ensures.items) w.in-Some.ensures.items w.run-is (λ e. omega arith)
      | in-None w ↦ grind (arith, common_steps)
    ]
