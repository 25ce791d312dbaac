use Rattle.vb_log.proofs.Totals.{mutation_counts, deletion_counts, prepare_counts}
use Rattle.vb_log.proofs.laws.changes_count_once.Goals as goal

pub returns-clause-mutation : goal.returns-clause-mutation
returns-clause-mutation c = mutation_counts

pub returns-clause-deletion : goal.returns-clause-deletion
returns-clause-deletion c = deletion_counts

pub returns-clause-prepare : goal.returns-clause-prepare
returns-clause-prepare c = prepare_counts
