use Rattle.magma_store.proofs.OneStore.{survives}
use Rattle.magma_store.proofs.laws.what_is_on_disk_survives.Goals as goal

pub returns : goal.returns
returns c = survives
