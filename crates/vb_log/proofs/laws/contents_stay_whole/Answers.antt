use Rattle.vb_log.proofs.Staying.{stays_whole}
use Rattle.vb_log.proofs.laws.contents_stay_whole.Goals as goal

pub returns : goal.returns
returns c = stays_whole
