-- A request is planned by what the log has.
use Rattle.std.specs.Prelude.{Option}
use Rattle.std.specs.FinMap as map
use Rattle.std.specs.Option.{option_copied, IfSome}
use Rattle.std.proofs.Common.{◌∙◌, sym, subst, arith}
use Rattle.doc_model.specs.declared.document.Doc.{Doc}
use Rattle.kv_request.proofs.Small.{request_is_small}
use Rattle.vb_log.specs.Spelling.{IsAllowedDoc}
use Rattle.vb_core.specs.Means.{over}
use Rattle.vb_core.proofs.Allowances.{step_planned, item_allowed}
use Rattle.vb_core.proofs.Beneath.{looked_up, shown_storable, refuses_on}
use Rattle.vb_core.proofs.vbucket.Vb.plan_on.Goals as goal

pub plan-requires : goal.plan-requires
plan-requires g c = (request_is_small c.args.request.now c.requires.request).specs

pub returns-in-Ok-plan-clause-planned : goal.returns-in-Ok-plan-clause-planned
returns-in-Ok-plan-clause-planned g c = λ copy s.
    looked_up g.D.Disk.states c.args.self.now c.read.new.self _ _ copy c.args.now c.args.request.now c.args.key.now
    c.max_ttl-lifetime.result c.args.cas _ c.in-Ok.read (option_copied c.shown-doc.result)
    c.self.view_is c.self-2.view_is c.in-Ok.ensures.rests s c.requires.key c.max_ttl-lifetime.ensures c.manifest.ensures.value
    c.requires.cas c.shown-doc.ensures (c.in-Ok.ensures.found copy s)
    ∙ c.in-Ok-plan.ensures

pub returns-in-Ok-plan-clause-fits : goal.returns-in-Ok-plan-clause-fits
returns-in-Ok-plan-clause-fits g c =
    let key = c.args.key.now in
    let allowed : IfSome (option_copied c.shown-doc.result) IsAllowedDoc =
    subst (λ (d : Option Doc). IfSome d IsAllowedDoc) (sym c.shown-doc.ensures)
    (item_allowed (over (map.get c.self-2.inside.recent.items key) c.in-Ok.read)
    (shown_storable c.self-2.inside.recent.items key c.in-Ok.read c.self-2.invariant.items c.in-Ok.ensures.storable)) in
    step_planned (record { max_ttl = c.max_ttl-lifetime.result; now = c.args.now; draw = c.args.cas }) c.args.request.now
    (option_copied c.shown-doc.result) c.in-Ok-plan.change
    (omega arith) (request_is_small c.args.request.now c.requires.request) c.requires.initial allowed c.know_ranges.ensures
    c.in-Ok-plan.ensures

pub returns-clause-planned : goal.returns-clause-planned
returns-clause-planned g c = λ copy s.
    let same = looked_up g.D.Disk.states c.args.self.now c.read.new.self _ _ copy c.args.now c.args.request.now c.args.key.now
    c.max_ttl-lifetime.result c.args.cas _ c.in-Ok.read (option_copied c.shown-doc.result)
    c.self.view_is c.self-2.view_is c.in-Ok.ensures.rests s c.requires.key c.max_ttl-lifetime.ensures c.manifest.ensures.value
    c.requires.cas c.shown-doc.ensures (c.in-Ok.ensures.found copy s) in
    refuses_on _ _ _ _ c.in-Err-plan.why same c.in-Err-plan.ensures
