use Rattle.std.proofs.Common.{rules, ◌+◌, ◌≤◌, sym, subst}
use Rattle.magma_store.specs.Gotten.{Stands}
use Rattle.magma_store.proofs.Gotten.{leads_to}
use Rattle.magma_store.proofs.store.Store.get.Goals as goal

-- src/store.rt:164:5
pub returns-in-Some-clause-few : goal.returns-in-Some-clause-few
returns-in-Some-clause-few g c = λ held o.
    let there = leads_to (g.D.Disk.states c.args.self.now.disk) c.args.self.now.spots held.items c.args.self.now.layout c.args.key.now c.in-Some.spot.now o.spots (search rules) (search rules) in
    let stands = subst (λ v. Stands c.in-Some.spot.now there.0 (g.D.Disk.states v.disk)) (sym c.self.view_is) there.1 in
    subst (λ v. (g.D.Disk.counts c.item_of.new.disk).reads ≤ (g.D.Disk.counts v.disk).reads + 191) c.self.view_is (c.item_of.ensures.few there.0 stands)
