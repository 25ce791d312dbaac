use Rattle.vb_log.specs.Layout.{end}
use Rattle.vb_log.specs.Stored.{stored_layout}
use Rattle.vb_log.proofs.Layouts.{left_within}
use Rattle.vb_log.proofs.StoredBytes.{stored_none, stored_breaks_at, stored_at, stored_only}
use Rattle.vb_log.proofs.stored.read_item.Goals as goal

pub overflow_sub-result-in-Err-Broken : goal.overflow_sub-result-in-Err-Broken
overflow_sub-result-in-Err-Broken c =
    let broken = rw c.in-Err-Broken.field-0-is at c.in-Err-Broken.ensures.broken in
    left_within (stored_layout end) c.args.bytes.now c.in-Err-Broken.left (broken end)

pub returns-in-Ok-clause-found : goal.returns-in-Ok-clause-found
returns-in-Ok-clause-found c = stored_at c.args.bytes.now c.in-Ok.item c.in-Ok.rest.now c.in-Ok.ensures.found

pub returns-in-Ok-clause-only : goal.returns-in-Ok-clause-only
returns-in-Ok-clause-only c = λ item rest h e. stored_only c.args.bytes.now c.in-Ok.item c.in-Ok.rest.now item rest c.in-Ok.ensures.found h e

pub returns-in-Err-Broken-clause-only : goal.returns-in-Err-Broken-clause-only
returns-in-Err-Broken-clause-only c =
    let broken = rw c.in-Err-Broken.field-0-is at c.in-Err-Broken.ensures.broken in
    λ item rest h e. absurd (stored_none c.args.bytes.now c.in-Err-Broken.left broken item rest h e)

pub returns-in-Err-Broken-clause-broken : goal.returns-in-Err-Broken-clause-broken
returns-in-Err-Broken-clause-broken c =
    let broken = rw c.in-Err-Broken.field-0-is at c.in-Err-Broken.ensures.broken in
    (stored_breaks_at c.args.bytes.now c.in-Err-Broken.left broken, stored_none c.args.bytes.now c.in-Err-Broken.left broken)
