use Rattle.rv_disasm.proofs.Back.{takes_one_word, assembles_back}
use Rattle.rv_disasm.proofs.round_trip.texts_assemble_back.Goals as goal

pub returns-clause-one : goal.returns-clause-one
returns-clause-one c = takes_one_word

pub returns-clause-back : goal.returns-clause-back
returns-clause-back c = assembles_back
