-- The law, as it was proved.
use Rattle.sno_images.proofs.ImageNumbers.{faithful}
use Rattle.sno_images.proofs.laws.image_numbers_are_faithful.Goals as goal

pub returns : goal.returns
returns c = faithful
