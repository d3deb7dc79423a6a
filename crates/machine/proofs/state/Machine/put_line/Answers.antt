use Rattle.std.proofs.Common.{◌≡◌, ◌∙◌, ℕ, List, [], ◌∷◌, length}
use Rattle.std.proofs.Common.{true, false, arith, refl, subst, sym}
use Rattle.std.proofs.Math.Nat.{le_refl}
use Rattle.std.proofs.lemmas.Grind.{common_steps}
use Rattle.std.specs.Prelude.{◌==◌, OnOk, OnErr}
use Rattle.std.specs.Io.KnownBytes.{Appends}
use Rattle.fp_io.specs.Content.{AppendsPrefix}
use Rattle.fp_io.proofs.Prefixes.{appends_nothing}
use Rattle.machine.proofs.state.Machine.put_line.Goals as goal

none : (bytes : List ℕ) → (length bytes == 0) ≡ true → bytes ≡ []
none [] h = refl
none (b ∷ bytes) h = grind (arith, common_steps)

some : (bytes : List ℕ) → (length bytes == 0) ≡ false → bytes ≡ [] → ⊥
some [] h empty = cc
some (b ∷ bytes) h empty = cc

pub returns-then-is_empty : goal.returns-then-is_empty
returns-then-is_empty g c =
    let taken = g.K.Sink.taken c.args.out.now in
    let nothing = sym (none c.line-line.result.bytes (sym c.is_empty.ensures ∙ c.if-is_empty.true))
    ∙ c.line-line.ensures in
    record {
      ok = subst (λ (line : List ℕ). Appends taken taken line) nothing (appends_nothing taken);
      err = tt;
      failed = tt;
      counted = le_refl _;
      nothing = λ empty. refl;
    }

pub returns : goal.returns
returns g c =
    let before = g.K.Sink.taken c.args.out.now in
    let after = g.K.Sink.taken c.put.new.self in
    let shown = c.as_bytes.ensures.value ∙ (c.deref.ensures.0 ∙ c.line-line.ensures) in
    record {
      ok =
          subst (λ (line : List ℕ). OnOk c.put.result (Appends before after line)) shown
          c.put.ensures.ok;
      err =
          subst (λ (line : List ℕ). OnErr c.put.result (AppendsPrefix before after line)) shown
          c.put.ensures.err;
      failed = c.put.ensures.failed;
      counted = c.put.ensures.counted;
      nothing =
          λ empty. absurd (some c.line-line.result.bytes
          (sym c.is_empty.ensures ∙ c.if-is_empty.false) (c.line-line.ensures ∙ empty));
    }
