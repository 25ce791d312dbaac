use Rattle.pipe_laws.proofs.Deeds.{run_is, close_is}
use Rattle.pipe_laws.proofs.runs.runs_are_histories.Goals as goal

pub returns-clause-answered : goal.returns-clause-answered
returns-clause-answered c = run_is

pub returns-clause-flushed : goal.returns-clause-flushed
returns-clause-flushed c = close_is
