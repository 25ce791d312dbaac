use Rattle.vb_log.proofs.Entries.{one_spelled, entry_fits}
use Rattle.vb_log.proofs.laws.entry_has_one_spelling.Goals as goal

pub returns-clause-one_entry : goal.returns-clause-one_entry
returns-clause-one_entry c = one_spelled

pub returns-clause-fits : goal.returns-clause-fits
returns-clause-fits c = entry_fits
