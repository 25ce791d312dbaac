use Rattle.std.proofs.Common.{ap, arith, subst}
use Rattle.manifest_rules.specs.Applying.{text_step, Drops}
use Rattle.vb_log.specs.declared.entry.Entry.TheVariants as entries
use Rattle.vb_log.specs.Content.{with_entry}
use Rattle.vb_log.specs.Sizes.{size}
use Rattle.vb_log.specs.Held.{items_size}
use Rattle.vb_log.proofs.Weighing.{of_some}
use Rattle.vb_log.proofs.Holding.{manifest_counts}
use Rattle.vb_log.proofs.judging.dropped_size.Goals as goal

pub returns-in-Ok : goal.returns-in-Ok
returns-in-Ok c =
    let old = c.content.inside in
    let text = c.args.text.now in
    let e = manifest_counts (record { items = old.items; prepares = old.prepares; manifest = old.manifest; greatest_cas = old.greatest_cas; length = old.length }) text c.in-Ok.dropped c.rising-ids.result.items
    (subst (λ t. Drops (text_step old.manifest t) c.in-Ok.dropped) c.as_slice.ensures c.in-Ok.ensures.step) c.rising-ids.ensures.same in
    let dropped = ap (λ l. items_size (of_some l old.items)) c.as_slice-in-Ok.ensures.value in
    let new = ap (λ d. size (with_entry d (entries.Manifest text))) c.content.view_is in
    let whole = ap size c.content.view_is in
    omega (arith, c.size_in.ensures)
