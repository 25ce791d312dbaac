use Rattle.magma_disk.proofs.Left.{after_crash}
use Rattle.magma_disk.proofs.laws.one_image_is_left.Goals as goal

pub returns : goal.returns
returns c = after_crash
