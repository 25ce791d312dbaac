use Rattle.magma_store.proofs.Openings.{opens_of}
use Rattle.magma_store.proofs.store.Store.open_store.Goals as goal

pub returns-in-Ok-clause-opens : goal.returns-in-Ok-clause-opens
returns-in-Ok-clause-opens g c = opens_of _ _ c.args.chain.now c.args.place _ c.in-Ok.opened c.in-Ok.ensures.comes
