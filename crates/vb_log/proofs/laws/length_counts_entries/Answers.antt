use Rattle.vb_log.proofs.Logs.{content_length}
use Rattle.vb_log.proofs.laws.length_counts_entries.Goals as goal

pub returns : goal.returns
returns c = content_length
