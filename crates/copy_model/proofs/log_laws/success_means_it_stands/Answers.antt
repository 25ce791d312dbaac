use Rattle.copy_model.specs.Requests.{fate_of}
use Rattle.copy_model.proofs.Told.{tells_where, waits_where}
use Rattle.copy_model.proofs.log_laws.success_means_it_stands.Goals as goal

pub returns-clause-stands : goal.returns-clause-stands
returns-clause-stands g c =
    λ ticket copy reply e isnt. tells_where ticket copy (fate_of ticket copy) reply e isnt

pub returns-clause-waits : goal.returns-clause-waits
returns-clause-waits g c = λ ticket copy next. waits_where ticket copy (fate_of ticket copy) next
