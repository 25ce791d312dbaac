use Rattle.std.specs.Int.{w32}
use Rattle.magma_store.specs.Forms.{field, exactly, IsBroken}
use Rattle.magma_store.proofs.Leads.{handed}
use Rattle.magma_store.proofs.fields.behind_exactly.Goals as goal

pub returns-in_err-number-clause-broken : goal.returns-in_err-number-clause-broken
returns-in_err-number-clause-broken c =
    λ next. handed c.from_residual.result c.in_err-number.field-0.0 (IsBroken (field w32 (exactly c.args.expected) next) c.args.bytes.now) c.from_residual.ensures.1
    (c.in_err-number.ensures.broken (exactly c.args.expected) next)
