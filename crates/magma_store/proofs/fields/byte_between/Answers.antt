use Rattle.std.specs.Int.{w8}
use Rattle.magma_store.specs.Forms.{field, between, IsBroken}
use Rattle.magma_store.proofs.Leads.{handed}
use Rattle.magma_store.proofs.fields.byte_between.Goals as goal

pub returns-in_err-number-clause-broken : goal.returns-in_err-number-clause-broken
returns-in_err-number-clause-broken c =
    λ next. handed c.from_residual.result c.in_err-number.field-0.0 (IsBroken (field w8 (between c.args.least c.args.most) next) c.args.bytes.now) c.from_residual.ensures.1
    (c.in_err-number.ensures.broken (between c.args.least c.args.most) next)
