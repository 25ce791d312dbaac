use Rattle.std.proofs.Common.{subst}
use Rattle.magma_disk.specs.Calls.{Syncs}
use Rattle.magma_disk.proofs.SyncedCalls.{write_failed, write_done, write_settles}
use Rattle.magma_disk.proofs.synced.write_synced.Goals as goal

pub returns-in-Failed-clause-any_moment : goal.returns-in-Failed-clause-any_moment
returns-in-Failed-clause-any_moment g c = λ file is. write_failed c.args.at c.args.piece.now file _ _ is c.in-Failed.ensures.bytes

pub returns-in-Done-clause-any_moment : goal.returns-in-Done-clause-any_moment
returns-in-Done-clause-any_moment g c =
    λ file is. write_done c.args.at c.args.piece.now file c.sync.result _ _ _ is c.in-Done.ensures.bytes c.sync.ensures.bytes

pub returns-in-Done-clause-done : goal.returns-in-Done-clause-done
returns-in-Done-clause-done g c =
    λ file is done.
    write_settles c.args.at c.args.piece.now file _ _ _ is c.in-Done.ensures.bytes
    (subst (λ r. Syncs r (g.D.Disk.states c.write_at.new.self) (g.D.Disk.states c.sync.new.self)) done c.sync.ensures.bytes)
