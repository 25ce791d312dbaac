use Rattle.std.specs.Prelude.{false, refl}
use Rattle.kv_request.specs.declared.request.Features.{Features}
use Rattle.vb_core.proofs.asking.ask.Goals as goal

pub request-requires-clause-request : goal.request-requires-clause-request
request-requires-clause-request c =
    let granted : Features = record { token = false; json = false; collections = c.args.asked.collections } in
    (granted, c.in_ok-frame.frame, c.if-not-fits.ensures.0 refl, c.in_ok-request.ensures)
