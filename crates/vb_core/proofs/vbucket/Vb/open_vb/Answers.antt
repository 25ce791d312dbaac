use Rattle.std.proofs.Common.{ℕ, List, Result, Ok, Err, IfOk, subst}
use Rattle.durability_core.specs.declared.chain.Chain.{Chain}
use Rattle.magma_disk.specs.Device.{Device}
use Rattle.magma_disk.specs.Moments.{Throughout}
use Rattle.magma_store.specs.declared.fault.StoreFault.{StoreFault}
use Rattle.magma_store.specs.Store.{Shown, Opens, IsOwn, LeavesOpening}
use Rattle.vb_core.proofs.Opens.{IsComing, opens_all, unopened}
use Rattle.vb_core.proofs.vbucket.Vb.open_vb.Goals as goal

pub returns-in-None-clause-opens : goal.returns-in-None-clause-opens
returns-in-None-clause-opens g c =
    let states = g.D.Disk.states in
    let h : List Device = states c.args.disk in
    let chain : Chain = c.args.chain.now in
    let place : ℕ = c.args.place in
    let e = c.open_store-opened.ensures in
    let opened : Opens states h chain place (Ok c.in-Ok.store) = subst (λ (r : Result (Shown g.row.D.Denot) StoreFault). Opens states h chain place r) c.in-Ok.is e.opens in
    let own : IsOwn chain place c.in-Ok.store.meta = subst (λ (r : Result (Shown g.row.D.Denot) StoreFault). IfOk r (λ s. IsOwn chain place s.meta)) c.in-Ok.is e.own in
    let first : Throughout (LeavesOpening h chain place) h (states c.in-Ok.store.disk) =
    subst (λ (r : Result (Shown g.row.D.Denot) StoreFault). IfOk r (λ s. Throughout (LeavesOpening h chain place) h (states s.disk))) c.in-Ok.is e.any_moment in
    let all : IsComing states h chain place c.args.number c.on_store.result.0 c.on_store.result.1 =
    opens_all states h chain place c.args.number c.in-Ok.store c.on_store.result.0 c.on_store.result.1 opened own first c.on_store.ensures.opens c.on_store.ensures.silent in
    all.opens

pub returns-in-None-clause-any_moment : goal.returns-in-None-clause-any_moment
returns-in-None-clause-any_moment g c =
    let states = g.D.Disk.states in
    let h : List Device = states c.args.disk in
    let chain : Chain = c.args.chain.now in
    let place : ℕ = c.args.place in
    let e = c.open_store-opened.ensures in
    let opened : Opens states h chain place (Ok c.in-Ok.store) = subst (λ (r : Result (Shown g.row.D.Denot) StoreFault). Opens states h chain place r) c.in-Ok.is e.opens in
    let own : IsOwn chain place c.in-Ok.store.meta = subst (λ (r : Result (Shown g.row.D.Denot) StoreFault). IfOk r (λ s. IsOwn chain place s.meta)) c.in-Ok.is e.own in
    let first : Throughout (LeavesOpening h chain place) h (states c.in-Ok.store.disk) =
    subst (λ (r : Result (Shown g.row.D.Denot) StoreFault). IfOk r (λ s. Throughout (LeavesOpening h chain place) h (states s.disk))) c.in-Ok.is e.any_moment in
    let all : IsComing states h chain place c.args.number c.on_store.result.0 c.on_store.result.1 =
    opens_all states h chain place c.args.number c.in-Ok.store c.on_store.result.0 c.on_store.result.1 opened own first c.on_store.ensures.opens c.on_store.ensures.silent in
    all.moments

pub returns-in-None-clause-any_moment_back : goal.returns-in-None-clause-any_moment_back
returns-in-None-clause-any_moment_back g c =
    let states = g.D.Disk.states in
    let h : List Device = states c.args.disk in
    let chain : Chain = c.args.chain.now in
    let place : ℕ = c.args.place in
    let e = c.open_store-opened.ensures in
    let opened : Opens states h chain place (Ok c.in-Ok.store) = subst (λ (r : Result (Shown g.row.D.Denot) StoreFault). Opens states h chain place r) c.in-Ok.is e.opens in
    let own : IsOwn chain place c.in-Ok.store.meta = subst (λ (r : Result (Shown g.row.D.Denot) StoreFault). IfOk r (λ s. IsOwn chain place s.meta)) c.in-Ok.is e.own in
    let first : Throughout (LeavesOpening h chain place) h (states c.in-Ok.store.disk) =
    subst (λ (r : Result (Shown g.row.D.Denot) StoreFault). IfOk r (λ s. Throughout (LeavesOpening h chain place) h (states s.disk))) c.in-Ok.is e.any_moment in
    let all : IsComing states h chain place c.args.number c.on_store.result.0 c.on_store.result.1 =
    opens_all states h chain place c.args.number c.in-Ok.store c.on_store.result.0 c.on_store.result.1 opened own first c.on_store.ensures.opens c.on_store.ensures.silent in
    all.moments_back

pub returns-clause-any_moment_back : goal.returns-clause-any_moment_back
returns-clause-any_moment_back g c =
    let states = g.D.Disk.states in
    let h : List Device = states c.args.disk in
    let chain : Chain = c.args.chain.now in
    let place : ℕ = c.args.place in
    let e = c.open_store-opened.ensures in
    let opened : Opens states h chain place (Err c.in-Err.fault) = subst (λ (r : Result (Shown g.row.D.Denot) StoreFault). Opens states h chain place r) c.in-Err.is e.opens in
    (unopened states h chain place c.args.number c.in-Err.fault c.open_store-opened.result.1 opened e.any_moment_back).moments_back
