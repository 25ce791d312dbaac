use Rattle.std.proofs.Common.{subst, arith}
use Rattle.world_model.specs.Worlds.{IsFirstAt}
use Rattle.world_model.proofs.Beginning.{first_at}
use Rattle.world_model.proofs.laws.copies_begin_new.Goals as goal

pub returns : goal.returns
returns g c = λ k layout chain number x copy e.
    subst (λ n. IsFirstAt k chain number n copy) (omega arith)
    (first_at k layout chain number chain.names 0 x copy e)
