use Rattle.magma_store.proofs.Openings.{opening_comes, opening_moments, left_on}
use Rattle.magma_store.proofs.opening.open_on.Goals as goal

pub returns-in-Done-clause-comes : goal.returns-in-Done-clause-comes
returns-in-Done-clause-comes g c =
    opening_comes _ _ _ c.args.chain.now c.args.place c.open_synced.result c.in-Done.ensures.bytes c.open_synced.ensures.finishes

pub returns-in-Done-clause-any_moment : goal.returns-in-Done-clause-any_moment
returns-in-Done-clause-any_moment g c =
    opening_moments _ _ _ c.args.chain.now c.args.place c.open_synced.result c.sync.ensures.seen c.in-Done.ensures.bytes c.open_synced.ensures.silent c.open_synced.ensures.finishes

pub returns-in-Done-clause-left : goal.returns-in-Done-clause-left
returns-in-Done-clause-left g c =
    left_on _ _ _ c.args.chain.now c.args.place c.open_synced.result c.sync.ensures.seen c.in-Done.ensures.bytes c.open_synced.ensures.silent c.open_synced.ensures.finishes c.open_synced.ensures.back
