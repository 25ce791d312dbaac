use Rattle.vb_log.specs.Layout.{end}
use Rattle.vb_log.specs.Prepares.{widest, pending_layout}
use Rattle.vb_log.proofs.Layouts.{left_within}
use Rattle.vb_log.proofs.PendingBytes.{pending_none, pending_breaks_at, pending_found, pending_only}
use Rattle.vb_log.proofs.pending.read_pending.Goals as goal

pub overflow_sub-result-in-Err-Broken : goal.overflow_sub-result-in-Err-Broken
overflow_sub-result-in-Err-Broken c =
    let broken = rw c.in-Err-Broken.field-0-is at c.in-Err-Broken.ensures.broken in
    left_within (pending_layout widest end) c.args.bytes.now c.in-Err-Broken.left (broken end)

pub returns-in-Ok-clause-found : goal.returns-in-Ok-clause-found
returns-in-Ok-clause-found c = pending_found c.args.bytes.now c.in-Ok.prepares c.in-Ok.rest.now c.in-Ok.ensures.found

pub returns-in-Ok-clause-only : goal.returns-in-Ok-clause-only
returns-in-Ok-clause-only c = λ ps rest h e. pending_only c.args.bytes.now c.in-Ok.prepares c.in-Ok.rest.now ps rest c.in-Ok.ensures.found h e

pub returns-in-Err-Broken-clause-only : goal.returns-in-Err-Broken-clause-only
returns-in-Err-Broken-clause-only c =
    let broken = rw c.in-Err-Broken.field-0-is at c.in-Err-Broken.ensures.broken in
    λ ps rest h e. absurd (pending_none c.args.bytes.now c.in-Err-Broken.left broken ps rest h e)

pub returns-in-Err-Broken-clause-broken : goal.returns-in-Err-Broken-clause-broken
returns-in-Err-Broken-clause-broken c =
    let broken = rw c.in-Err-Broken.field-0-is at c.in-Err-Broken.ensures.broken in
    (pending_breaks_at c.args.bytes.now c.in-Err-Broken.left broken, pending_none c.args.bytes.now c.in-Err-Broken.left broken)
