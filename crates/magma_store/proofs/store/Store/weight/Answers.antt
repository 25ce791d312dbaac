use Rattle.std.proofs.Common.{◌∙◌, ap}
use Rattle.magma_store.specs.Spots.{spots_size}
use Rattle.magma_store.specs.Store.{Shown}
use Rattle.magma_store.proofs.Weights.{opened_size}
use Rattle.magma_store.proofs.store.Store.weight.Goals as goal

pub returns-clause-items : goal.returns-clause-items
returns-clause-items g c = λ held is.
    let store = c.args.self.now in
    c.size.ensures ∙ ap (λ (s : Shown g.row.D.Denot). spots_size s.spots) c.self.view_is
    ∙ opened_size store.spots held.items store.layout (g.D.Disk.states store.disk) is.spots
