use Rattle.std.proofs.Common.{refl, sym, subst}
use Rattle.magma_store.specs.declared.opening.Opened.{Opened}
use Rattle.magma_store.specs.Journal.{IsFile}
use Rattle.magma_store.specs.Opening.{Finishes}
use Rattle.magma_store.proofs.Openings.{refused_on, unloaded, none_there, one_there}
use Rattle.magma_store.proofs.opening.open_synced.Goals as goal

pub returns-in_err-meta-clause-finishes : goal.returns-in_err-meta-clause-finishes
returns-in_err-meta-clause-finishes g c = λ file is.
    let why = c.in_err-meta.field-0.0 in
    refused_on file c.args.chain.now c.args.place _ _ c.from_residual.result why c.from_residual.ensures.1 c.in_err-meta.ensures.states (unloaded file c.args.chain.now c.args.place why (c.in_err-meta.ensures.unloaded file is))

pub returns-in-None-clause-finishes : goal.returns-in-None-clause-finishes
returns-in-None-clause-finishes g c = λ file is.
    let states = c.in_ok-meta.ensures.states in
    let chain = c.args.chain.now in
    let now = g.D.Disk.states c.make.new.disk in
    subst (λ mid. Finishes file chain c.args.place mid now c.make.result) states
    (c.make.ensures.finishes file (subst (IsFile file) (sym states) is) (none_there file c.in_ok-meta.field-0 c.in-None.is (c.in_ok-meta.ensures.loaded file is)))

pub returns-in-Some-clause-finishes : goal.returns-in-Some-clause-finishes
returns-in-Some-clause-finishes g c = λ file is.
    let states = c.in_ok-meta.ensures.states in
    let chain = c.args.chain.now in
    let now = g.D.Disk.states c.raise.new.disk in
    let found : Opened = record { meta = c.in-Some.meta; spots = c.in_ok-meta.field-0.spots; filled = c.in_ok-meta.field-0.filled } in
    subst (λ mid. Finishes file chain c.args.place mid now c.raise.result) states
    (c.raise.ensures.finishes file (subst (IsFile file) (sym states) is) (one_there file c.in_ok-meta.field-0 found c.in-Some.is refl refl (c.in_ok-meta.ensures.loaded file is)))
