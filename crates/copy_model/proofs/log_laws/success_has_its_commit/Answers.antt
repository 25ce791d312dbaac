use Rattle.copy_model.proofs.Standing.{step_bears, tells_commit}
use Rattle.copy_model.proofs.log_laws.success_has_its_commit.Goals as goal

pub returns-clause-kept : goal.returns-clause-kept
returns-clause-kept g c = λ y luck e copy one h. step_bears y luck e copy one h

pub returns-clause-told : goal.returns-clause-told
returns-clause-told g c = λ ticket copy reply h e isnt. tells_commit ticket copy reply h e isnt
