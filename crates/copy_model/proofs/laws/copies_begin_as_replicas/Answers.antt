use Rattle.copy_model.proofs.Opened.{opened_on, begins_new}
use Rattle.copy_model.proofs.laws.copies_begin_as_replicas.Goals as goal

pub returns-clause-new : goal.returns-clause-new
returns-clause-new g c = λ k chain place number layout. begins_new k chain place number layout

pub returns-clause-opened : goal.returns-clause-opened
returns-clause-opened g c =
    λ luck chain place number d copy e. opened_on chain place number luck.layout d copy luck.chance e
