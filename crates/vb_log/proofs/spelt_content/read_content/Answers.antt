use Rattle.std.proofs.Common.{◌-◌, ◌≤◌, length, inl, sym, subst}
use Rattle.vb_log.specs.Contents.{content_layout}
use Rattle.vb_log.specs.Faults.{ContentBreaksAt}
use Rattle.vb_log.proofs.Layouts.{left_within}
use Rattle.vb_log.proofs.ContentBytes.{broken_none, broken_at}
use Rattle.vb_log.proofs.WholeBytes.{read_found, read_only, read_none}
use Rattle.vb_log.proofs.spelt_content.read_content.Goals as goal

pub overflow_sub-result : goal.overflow_sub-result
overflow_sub-result c =
    let broken = rw c.in-Err-Broken.field-0-is at c.in-Err-Broken.ensures.broken in
    subst (λ n. n ≤ length c.args.bytes.now) (sym c.in-Err-Broken.left-is) (left_within content_layout c.args.bytes.now c.in-Err-Broken.left broken)

pub returns-in-Ok-clause-found : goal.returns-in-Ok-clause-found
returns-in-Ok-clause-found c = read_found c.args.bytes.now c.in-Ok.bounds c.in-Ok.body c.in-Ok.ensures.found c.whole_of.result c.whole_of.ensures.found c.whole_of.ensures.whole

pub returns-in-Ok-clause-only : goal.returns-in-Ok-clause-only
returns-in-Ok-clause-only c = read_only c.args.bytes.now c.in-Ok.bounds c.in-Ok.body c.in-Ok.ensures.found c.whole_of.result c.whole_of.ensures.found c.whole_of.ensures.broken

pub returns-in-Ok-clause-broken : goal.returns-in-Ok-clause-broken
returns-in-Ok-clause-broken c = read_none c.args.bytes.now c.in-Ok.bounds c.in-Ok.body c.in-Ok.ensures.found c.whole_of.result c.whole_of.ensures.broken

pub returns-in-Err-Broken-clause-only : goal.returns-in-Err-Broken-clause-only
returns-in-Err-Broken-clause-only c =
    let broken = rw c.in-Err-Broken.field-0-is at c.in-Err-Broken.ensures.broken in
    λ m s. absurd (broken_none c.args.bytes.now c.in-Err-Broken.left broken m s)

pub returns-in-Err-Broken-clause-broken : goal.returns-in-Err-Broken-clause-broken
returns-in-Err-Broken-clause-broken c =
    let broken = rw c.in-Err-Broken.field-0-is at c.in-Err-Broken.ensures.broken in (
      inl (subst (λ n. ContentBreaksAt c.args.bytes.now (length c.args.bytes.now - n)) (sym c.in-Err-Broken.left-is) (broken_at c.args.bytes.now c.in-Err-Broken.left broken)),
      broken_none c.args.bytes.now c.in-Err-Broken.left broken,
    )
