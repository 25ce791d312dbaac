use Rattle.vb_log.proofs.Entries.{one_spelled, broken_none, broken_at}
use Rattle.vb_log.proofs.reading.read_entry.Goals as goal

pub returns-in-Ok-clause-only : goal.returns-in-Ok-clause-only
returns-in-Ok-clause-only c = λ e s. one_spelled c.in-Ok.entry e c.args.bytes.now c.in-Ok.ensures.found s

pub returns-in-Err-Broken-clause-only : goal.returns-in-Err-Broken-clause-only
returns-in-Err-Broken-clause-only c =
    let broken = rw c.in-Err-Broken.field-0-is at c.in-Err-Broken.ensures.broken in
    λ e s. absurd (broken_none c.args.bytes.now c.in-Err-Broken.left broken e s)

pub returns-in-Err-Broken-clause-broken : goal.returns-in-Err-Broken-clause-broken
returns-in-Err-Broken-clause-broken c =
    let broken = rw c.in-Err-Broken.field-0-is at c.in-Err-Broken.ensures.broken in
    (broken_at c.args.bytes.now c.in-Err-Broken.left broken, broken_none c.args.bytes.now c.in-Err-Broken.left broken)
