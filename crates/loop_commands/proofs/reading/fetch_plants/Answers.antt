use Rattle.std.proofs.Common.{◌≡◌, ℕ, List, Ok, subst}
use Rattle.std.proofs.lemmas.Result.{err_from_is_err_and}
use Rattle.loop_command_line.specs.ListCauses.{IsListCauseOf}
use Rattle.loop_command_line.specs.Plants.{plants_of}
use Rattle.loop_commands.proofs.Lists.{fetched_list, list_fault}
use Rattle.loop_commands.proofs.reading.fetch_plants.Goals as goal

pub returns-in_err-read_plants-clause-fault : goal.returns-in_err-read_plants-clause-fault
returns-in_err-read_plants-clause-fault g c =
    let contents = g.F.Files.contents c.args.files.now in
    let why = c.in_err-read_plants.field-0.0 in
    let Refuses : List ℕ → Type 0 = λ text. IsListCauseOf (plants_of text) why in
    let p = err_from_is_err_and c.from_residual-in_err-read_plants.result
    c.from_residual-in_err-read_plants.ensures.1 in
    rw (p.1, p.2)
    (list_fault contents c.args.name.now c.in_ok-text.text.items
    (g.F.Files.faults c.args.files.now) (g.F.Files.faults c.fetch.new.files) why
    c.in_ok-text.ensures.bytes
    (subst Refuses c.deref.ensures.value c.in_err-read_plants.ensures.refused))

pub returns-clause-ok : goal.returns-clause-ok
returns-clause-ok g c =
    let contents = g.F.Files.contents c.args.files.now in
    let plants = c.in_ok-read_plants.field-0.items in
    let Has : List ℕ → Type 0 = λ text. plants_of text ≡ Ok plants in
    fetched_list contents c.args.name.now c.in_ok-text.text.items (Ok plants)
    c.in_ok-text.ensures.bytes
    (subst Has c.deref.ensures.value c.in_ok-read_plants.ensures.listed)
