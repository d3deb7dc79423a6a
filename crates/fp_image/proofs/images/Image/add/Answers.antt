use Rattle.std.proofs.Common.{rules}
use Rattle.fp_image.proofs.images.Image.add.Goals as goal

pub returns : goal.returns
returns c = search rules
