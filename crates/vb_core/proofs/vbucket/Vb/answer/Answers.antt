-- A request that names a document's key is served, and any other is one on the manifest.
use Rattle.std.specs.Prelude.{◌≡◌, Some}
use Rattle.std.specs.Option.{option_copied}
use Rattle.std.proofs.Common.{◌∙◌, ap, sym}
use Rattle.std.proofs.lemmas.Result.{IfOk-weaker}
use Rattle.kv_request.specs.Tables.{key_named}
use Rattle.vb_log.specs.Logs.{folds}
use Rattle.copy_model.specs.declared.outcome.Outcome.TheVariants as outcomes
use Rattle.copy_model.specs.Requests.{served, body_step}
use Rattle.vb_core.specs.Flat.{flat}
use Rattle.vb_core.proofs.Served.{named_served}
use Rattle.vb_core.proofs.Answered.{comes_alike}
use Rattle.vb_core.proofs.vbucket.Vb.answer.Goals as goal

pub returns-in-Some-clause-step : goal.returns-in-Some-clause-step
returns-in-Some-clause-step g c = λ copy is.
    let request = c.args.request.now in
    let named : key_named request.body ≡ Some c.in-Some.key.now = sym c.name_of.ensures.key ∙ ap option_copied c.in-Some.is in
    IfOk-weaker c.on_document.result _ _ (λ told h.
    comes_alike g.D.Disk.states g.D.Disk.counts copy (λ luck. served folds (flat copy.chain) luck c.args.now request copy)
    (λ luck. body_step folds (flat copy.chain) luck c.args.now request request.body copy)
    c.args.self.now c.on_document.new.self (outcomes.Reply told)
    (λ luck. named_served (flat copy.chain) luck c.args.now request request.body c.in-Some.key.now copy named) h)
    (c.on_document.ensures.served copy is)

pub returns-in-None-clause-step : goal.returns-in-None-clause-step
returns-in-None-clause-step g c = λ copy is. c.on_manifest.ensures.step c.args.now copy is
