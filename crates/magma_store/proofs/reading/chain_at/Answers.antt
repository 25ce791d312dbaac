use Rattle.std.specs.Int.{w8, w32}
use Rattle.magma_store.specs.declared.kinds.TheConstants.{MAGIC}
use Rattle.magma_store.specs.Forms.{field, exactly, between, names_form, IsBroken}
use Rattle.magma_store.specs.Fronts.{chain_form}
use Rattle.kv_edge.proofs.Fields.{wide32}
use Rattle.magma_store.proofs.Leads.{wide8, handed, broken_behind, leads_on, field_leads}
use Rattle.magma_store.proofs.Parts.{chain_found}
use Rattle.magma_store.proofs.reading.chain_at.Goals as goal

pub returns-in_err-behind_magic-clause-broken : goal.returns-in_err-behind_magic-clause-broken
returns-in_err-behind_magic-clause-broken c =
    λ next. handed c.from_residual.result c.in_err-behind_magic.field-0.0 (IsBroken (chain_form next) c.args.bytes.now) c.from_residual.ensures.1
    (c.in_err-behind_magic.ensures.broken (λ magic. field w8 (between 1 4) (λ count. names_form 1 count (next count))))

pub returns-in_err-count-clause-broken : goal.returns-in_err-count-clause-broken
returns-in_err-count-clause-broken c =
    λ next. handed c.from_residual-in_err-count.result c.in_err-count.field-0.0 (IsBroken (chain_form next) c.args.bytes.now) c.from_residual-in_err-count.ensures.1
    (broken_behind c.in_err-count.field-0.0
    (field_leads w32 wide32 (exactly MAGIC) (λ magic. field w8 (between 1 4) (λ count. names_form 1 count (next count))) c.args.bytes.now MAGIC c.in_ok-behind_magic.behind_magic.now c.in_ok-behind_magic.ensures.found)
    (c.in_err-count.ensures.broken (λ count. names_form 1 count (next count))))

pub returns-in_err-names-clause-broken : goal.returns-in_err-names-clause-broken
returns-in_err-names-clause-broken c =
    λ next. handed c.from_residual-in_err-names.result c.in_err-names.field-0.0 (IsBroken (chain_form next) c.args.bytes.now) c.from_residual-in_err-names.ensures.1
    (broken_behind c.in_err-names.field-0.0
    (leads_on
    (field_leads w32 wide32 (exactly MAGIC) (λ magic. field w8 (between 1 4) (λ count. names_form 1 count (next count))) c.args.bytes.now MAGIC c.in_ok-behind_magic.behind_magic.now c.in_ok-behind_magic.ensures.found)
    (field_leads w8 wide8 (between 1 4) (λ count. names_form 1 count (next count)) c.in_ok-behind_magic.behind_magic.now c.in_ok-count.count c.in_ok-count.behind_count.now c.in_ok-count.ensures.found))
    (c.in_err-names.ensures.broken (next c.in_ok-count.count)))

pub returns-clause-found : goal.returns-clause-found
returns-clause-found c =
    chain_found c.args.bytes.now c.in_ok-count.count c.in_ok-behind_magic.behind_magic.now c.in_ok-count.behind_count.now c.in_ok-names.names c.in_ok-names.rest.now
    c.in_ok-behind_magic.ensures.found c.in_ok-count.ensures.found c.in_ok-names.ensures.found
