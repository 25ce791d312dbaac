use Rattle.std.proofs.Common.{◌+◌, ◌-◌, ◌≤◌, length, subst, arith}
use Rattle.magma_store.specs.Forms.{IsBroken, next_form}
use Rattle.magma_store.specs.Taking.{BreaksWithin}
use Rattle.magma_store.proofs.Takings.{read_broken}
use Rattle.magma_store.proofs.loading.take_next.Goals as goal

pub returns-in-Err-Broken-clause-broken : goal.returns-in-Err-Broken-clause-broken
returns-in-Err-Broken-clause-broken c = λ file next.
    let held = c.args.held.now in
    let old = c.args.loaded.now in
    let e = c.in-Err-Broken in
    let within : e.left ≤ length held = subst (BreaksWithin (length held)) e.field-0-is e.ensures.within in
    read_broken file old held e.left e.found e.expected (old.filled + 9 + length held - e.left) next within (omega arith)
    (λ records by. subst (IsBroken (next_form records) held) e.field-0-is (e.ensures.broken records by))
