-- The theorems on call visits of the machines of setups, from those on starts.
use Rattle.std.proofs.Common.{ℕ, ◌∙◌}
use Rattle.std.proofs.lemmas.List.{length-map}
use Rattle.call_bounds.specs.CallRefusals.{IsListing}
use Rattle.call_bounds.specs.Calls.{Calls}
use Rattle.fp_setup.specs.Rules.{KeepsRules}
use Rattle.fp_setup.specs.Settings.{size_of}
use Rattle.isolation.specs.TraceLaws.{Machine}
use Rattle.setup_model.specs.Start.{start}
use Rattle.visit_bounds.proofs.CallBounded.{function-aligned}
use Rattle.visit_bounds.proofs.Starts.{code-word, size-even}
use Rattle.visit_bounds.specs.CallsInSettings.{CallVisitsAreBoundedInSettings, HasWordsOfFunctions}
use Rattle.visit_bounds.specs.SetupCallVisitBound.{IsAlikeInFunctions}
use Rattle.visit_bounds.specs.SetupInSettings.{CallVisitsStayBoundedInSettings}
use Rattle.visit_bounds.specs.SetupInSettings.{HasSameWordsOfFunctions}

pub alike-call-words : (x : Calls) (m : Machine) (n : ℕ) → IsListing x → KeepsRules m.setup →
    HasSameWordsOfFunctions m x → HasWordsOfFunctions (start m.setup m.image m.ports n) x
unfolding start
alike-call-words x m n is rules h = record {
  eight = length-map m.setup.threads _ ∙ rules.threads.eight;
  same_words =
      λ u met lt.
      code-word m.image (size_of m.setup.version) u (size-even m.setup.version rules.version)
      (function-aligned x met.within u is met.reached met.word) lt ∙ h u met;
}

pub call_visits_in_settings : CallVisitsAreBoundedInSettings → CallVisitsStayBoundedInSettings
call_visits_in_settings law x slots i b m n is ok most rules h last before here v comes keeps =
    law x slots i b (start m.setup m.image m.ports n) n is ok most
    (alike-call-words x m n is rules h) last before here v comes keeps

pub alike-functions : (x : Calls) (m : Machine) (i slots : ℕ) → IsListing x →
    IsAlikeInFunctions m i slots x → HasSameWordsOfFunctions m x
alike-functions x m i slots is h u met =
    h.same_words u (function-aligned x met.within u is met.reached met.word) met
