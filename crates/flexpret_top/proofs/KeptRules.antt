-- The setup of a program is an accepted one.
use Rattle.std.proofs.Common.{◌≡◌, ℕ, List, Option, Some, None, Result, Ok, Err, refl, ap}
use Rattle.std.proofs.Common.{subst, sym}
use Rattle.fp_image.specs.declared.parts.Segment.{Segment}
use Rattle.fp_setup.specs.AcceptedSetups.{AcceptedKeepRules}
use Rattle.fp_setup.specs.Rules.{KeepsRules}
use Rattle.fp_setup.specs.Settings.{Settings, size_of}
use Rattle.fp_setup.specs.Setup.{setup}
use Rattle.fp_setup.specs.declared.refusal.Fault.{Fault}
use Rattle.commands.specs.Answer.{Answer, over_file, then_by}
use Rattle.commands.specs.Program.{image_in, of_setup, setup_in, with_image}
use Rattle.commands.specs.declared.program.Program.{Program}
use Rattle.flexpret_top.specs.ProgramRules.{ProgramsKeepRules}

accepted : AcceptedKeepRules → (bytes : List ℕ) (s : Settings) → setup_in bytes ≡ Ok s →
    KeepsRules s
unfolding setup_in
accepted law bytes s h = go (setup bytes) refl h
  where
    go : (r : Result Settings Fault) → setup bytes ≡ r → of_setup r ≡ Ok s → KeepsRules s
    go (Ok t) e h = let same : t ≡ s = cc in subst KeepsRules same (law bytes t e)
    go (Err fault) e h = absurd (cc)

from-file : AcceptedKeepRules → (file : Option (List ℕ)) (s : Settings) →
    over_file setup_in file ≡ Ok s → KeepsRules s
from-file law None s h = absurd (cc)
from-file law (Some bytes) s h = accepted law bytes s h

with-setup : (s : Settings) (r : Result (List Segment) Answer) (p : Program) →
    then_by r (with_image s) ≡ Ok p → p.setup ≡ s
with-setup s (Ok segments) p h =
    let made : Program = record { setup = s; image = segments } in
    let same : made ≡ p = cc in
    ap (λ (q : Program). q.setup) (sym same)
with-setup s (Err answer) p h = absurd (cc)

pub programs-keep-rules : AcceptedKeepRules → ProgramsKeepRules
programs-keep-rules law files name p h = go (over_file setup_in (files name)) refl h
  where
    go : (r : Result Settings Answer) → over_file setup_in (files name) ≡ r →
        then_by r (λ s. then_by (over_file (image_in (size_of s.version)) (files s.image))
        (with_image s)) ≡ Ok p → KeepsRules p.setup
    go (Ok s) e h =
        subst KeepsRules
        (sym (with-setup s (over_file (image_in (size_of s.version)) (files s.image)) p h))
        (from-file law (files name) s e)
    go (Err answer) e h = absurd (cc)
