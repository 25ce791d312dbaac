use Rattle.std.specs.Prelude.{IfOk, ◌↔◌, IsTrue}
use Rattle.magma_store.specs.Store.{Shown}
use Rattle.magma_store.specs.Whole.{GoWith}
use Rattle.std.proofs.Common.{subst}
use Rattle.magma_store.proofs.Going.{lead_tells, whole_told}
use Rattle.magma_store.proofs.store.Store.is_whole_with.Goals as goal

pub returns-clause-items : goal.returns-clause-items
returns-clause-items g c = λ held is.
    let store = c.args.self.now in
    whole_told c.go_with.result store.spots held.items c.args.rest.now
    (lead_tells store.spots held.items store.layout (g.D.Disk.states store.disk) is.spots) c.requires.whole c.requires.bare
    (subst (λ (s : Shown g.row.D.Denot). IfOk c.go_with.result (λ b. IsTrue b ↔ GoWith s.spots c.args.rest.now)) c.self.view_is c.go_with.ensures)
