use Rattle.std.proofs.Common.{sym, ◌∙◌}
use Rattle.std.proofs.lemmas.Bool.Decides.{Decides-eqb}
use Rattle.std.proofs.lemmas.Slice.Eq.{slice_eq-Decides}
use Rattle.beside_loads.proofs.have_same.Goals as goal

pub returns : goal.returns
returns c =
    let decides = slice_eq-Decides Decides-eqb _ _ _ c.eq.ensures in (
      λ yes. sym c.bytes.ensures ∙ (decides.0 yes ∙ c.bytes-2.ensures),
      λ same. decides.1 (c.bytes.ensures ∙ (same ∙ sym c.bytes-2.ensures)),
    )
