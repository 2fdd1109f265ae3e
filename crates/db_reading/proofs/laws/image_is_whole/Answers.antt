use Rattle.db_reading.proofs.WholeImages.{image-whole}
use Rattle.db_reading.proofs.laws.image_is_whole.Goals as goal

pub returns : goal.returns
returns c = image-whole
