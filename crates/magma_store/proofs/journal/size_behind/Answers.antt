use Rattle.std.proofs.Common.{sym, arith}
use Rattle.magma_store.proofs.Fronts.{size_read}
use Rattle.magma_store.proofs.journal.size_behind.Goals as goal

pub returns-in-Some : goal.returns-in-Some
returns-in-Some c =
    size_read c.args.rest.now c.in-Some.size c.in-Some.field-0-1.now (λ i. omega (arith, c.type_inv.rest i))
    (sym c.in-Some.ensures)
