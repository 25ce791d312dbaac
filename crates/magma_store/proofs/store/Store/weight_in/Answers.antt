use Rattle.std.specs.FinMap as map
use Rattle.std.proofs.Common.{◌∙◌, ap}
use Rattle.doc_model.specs.Keys.{is_in}
use Rattle.magma_store.specs.Spots.{spots_size}
use Rattle.magma_store.specs.Store.{Shown}
use Rattle.magma_store.proofs.Weights.{opened_in}
use Rattle.magma_store.proofs.store.Store.weight_in.Goals as goal

pub returns-clause-items : goal.returns-clause-items
returns-clause-items g c = λ held is.
    let store = c.args.self.now in
    let ids = c.args.collections.now in
    c.size_in.ensures.value ∙ ap (λ (s : Shown g.row.D.Denot). spots_size (map.retain_keys s.spots (is_in ids))) c.self.view_is
    ∙ opened_in store.spots held.items store.layout (g.D.Disk.states store.disk) ids is.spots
