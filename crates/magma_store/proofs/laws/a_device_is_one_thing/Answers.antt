use Rattle.magma_store.proofs.OneStore.{one_store, no_store, whole_store, none_damaged}
use Rattle.magma_store.proofs.laws.a_device_is_one_thing.Goals as goal

pub returns-clause-one_store : goal.returns-clause-one_store
returns-clause-one_store c = one_store

pub returns-clause-used : goal.returns-clause-used
returns-clause-used c = no_store

pub returns-clause-whole : goal.returns-clause-whole
returns-clause-whole c = whole_store

pub returns-clause-unused : goal.returns-clause-unused
returns-clause-unused c = none_damaged
