use Rattle.std.specs.Int.{w64}
use Rattle.magma_store.specs.Forms.{field, accepted_within, IsBroken}
use Rattle.magma_store.proofs.Leads.{handed}
use Rattle.magma_store.proofs.fields.accepted_at.Goals as goal

pub returns-in_err-number-clause-broken : goal.returns-in_err-number-clause-broken
returns-in_err-number-clause-broken c =
    λ next. handed c.from_residual.result c.in_err-number.field-0.0 (IsBroken (field w64 (accepted_within c.args.promise) next) c.args.bytes.now) c.from_residual.ensures.1
    (c.in_err-number.ensures.broken (accepted_within c.args.promise) next)
