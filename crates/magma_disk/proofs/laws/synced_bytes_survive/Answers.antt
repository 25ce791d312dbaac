use Rattle.magma_disk.proofs.Survival.{seen, survives}
use Rattle.magma_disk.proofs.laws.synced_bytes_survive.Goals as goal

pub returns-clause-read : goal.returns-clause-read
returns-clause-read c = λ file i steps past now low spare run. seen i file steps past now low spare run

pub returns-clause-left : goal.returns-clause-left
returns-clause-left c = λ file i steps past now image low spare run may. survives i file steps past now image low spare run may
