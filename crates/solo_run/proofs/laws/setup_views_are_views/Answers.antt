use Rattle.solo_run.proofs.SetupViews.{setup-views}
use Rattle.solo_run.proofs.laws.setup_views_are_views.Goals as goal

pub returns : goal.returns
returns c = setup-views
