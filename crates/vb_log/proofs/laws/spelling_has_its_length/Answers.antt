use Rattle.vb_log.proofs.Entries.{entry_size}
use Rattle.vb_log.proofs.laws.spelling_has_its_length.Goals as goal

pub returns : goal.returns
returns c = entry_size
