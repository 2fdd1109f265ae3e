use Rattle.db_reading.proofs.Images.{image-holds}
use Rattle.db_reading.proofs.laws.image_reads_back.Goals as goal

pub returns : goal.returns
returns c = image-holds
