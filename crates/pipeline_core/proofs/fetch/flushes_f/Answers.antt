use Rattle.std.proofs.Common.{rules}
use Rattle.pipeline_core.proofs.fetch.flushes_f.Goals as goal

pub returns-in-DecodeAndFetch : goal.returns-in-DecodeAndFetch
returns-in-DecodeAndFetch c = search rules

pub returns-in-Decode : goal.returns-in-Decode
returns-in-Decode c = search rules
