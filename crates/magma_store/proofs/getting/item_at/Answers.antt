use Rattle.std.proofs.Common.{arith, ap, ◌∙◌, Some, []}
use Rattle.magma_store.proofs.Gotten.{read_there, few_pieces}
use Rattle.magma_store.proofs.getting.item_at.Goals as goal

-- src/getting.rt:33:1
pub returns-in-Ok-clause-found : goal.returns-in-Ok-clause-found
returns-in-Ok-clause-found g c = λ item stands.
    let there = read_there (g.D.Disk.states c.args.disk.now) c.args.spot item c.in_ok-bytes.bytes.items stands c.in_ok-bytes.ensures.bytes in
    ap Some (c.in-Ok.ensures.only item [] there.allowed (c.deref.ensures.value ∙ there.whole)).0

-- src/getting.rt:33:1
pub returns-in-Ok-clause-few : goal.returns-in-Ok-clause-few
returns-in-Ok-clause-few g c = λ item stands.
    let few = few_pieces (g.D.Disk.states c.args.disk.now) c.args.spot item stands in
    let reads = c.in_ok-bytes.ensures.few in
    omega (arith, few, reads)
