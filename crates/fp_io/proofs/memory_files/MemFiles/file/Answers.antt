use Rattle.std.proofs.Common.{option_map, sym, ap, ◌∙◌}
use Rattle.std.specs.FinMap.{get}
use Rattle.fp_io.specs.Memory.{MemoryFiles}
use Rattle.fp_io.proofs.NamedBytes.{get-named_by, option_map-copied}
use Rattle.fp_io.proofs.memory_files.MemFiles.file.Goals as goal

pub returns : goal.returns
returns c =
    option_map-copied (λ v. v.items) c.get.result
    ∙ ap (option_map (λ v. v.items)) c.get.ensures.value
    ∙ sym (get-named_by (λ v. v.items) c.self.inside.files c.args.name.now)
    ∙ ap (λ (m : MemoryFiles). get m.named c.args.name.now) c.self.view_is
