use Rattle.std.proofs.Common.{◌∙◌, ap, ap₂, map, string_bytes}
use Rattle.std.proofs.lemmas.Result.{err_from_is_err_and}
use Rattle.std.specs.FinMap.{from_entries, insert}
use Rattle.fp_io.specs.Memory.{MemoryFiles}
use Rattle.fp_io.proofs.NamedBytes.{named_by, named_by-insert}
use Rattle.fp_io.proofs.memory_files.MemFiles.add.Goals as goal

pub returns-clause-after : goal.returns-clause-after
returns-clause-after c =
    let inside = c.self.inside in
    let named = named_by-insert (λ v. v.items) inside.files c.insert.new.self
    c.in_ok-name.name c.in_ok-bytes.bytes c.in_ok-insert.ensures.updates in
    let given = named ∙ ap₂ (insert (named_by (λ v. v.items) inside.files))
    c.in_ok-name.ensures.ok c.in_ok-bytes.ensures.items in
    ap (λ n. record {
      named = n;
      failing = inside.failing.items;
      calls = inside.calls;
      faults = inside.faults;
    }) given
    ∙ ap (λ (m : MemoryFiles). record m { named = insert m.named c.args.name.now c.args.bytes.now })
    c.self.view_is

-- Memory was refused.
pub returns-in_err-insert-clause-after : goal.returns-in_err-insert-clause-after
returns-in_err-insert-clause-after c =
    let inside = c.self.inside in
    let kept = ap (λ es. from_entries (map (λ e. (string_bytes e.0, e.1.items)) es))
    c.in_err-insert.ensures.err in
    let refused = err_from_is_err_and c.from_residual-in_err-insert.result
    c.from_residual-in_err-insert.ensures.1 in
    rw refused.1 (ap (λ n. record {
      named = n;
      failing = inside.failing.items;
      calls = inside.calls;
      faults = inside.faults;
    }) kept ∙ c.self.view_is)
