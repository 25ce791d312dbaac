use Rattle.std.proofs.Common.{arith}
use Rattle.magma_store.proofs.StoredItems.{item_short}
use Rattle.magma_store.proofs.reading.place_at.Goals as goal

pub overflow_cast-length : goal.overflow_cast-length
overflow_cast-length c =
    let found = c.in-Ok.ensures.found in
    let len = found.len in
    omega (arith, item_short c.in-Ok.item found.allowed)
