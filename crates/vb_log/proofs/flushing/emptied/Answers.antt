use Rattle.std.specs.FinMap as map
use Rattle.std.proofs.Common.{◌≡◌, refl, sym, ap, ◌∙◌, subst}
use Rattle.vb_log.specs.Content.{Content}
use Rattle.vb_log.specs.Held.{IsHeld}
use Rattle.vb_log.proofs.Positions.{emptied_held}
use Rattle.vb_log.proofs.flushing.emptied.Goals as goal

pub invariant_of-result : goal.invariant_of-result
invariant_of-result c =
    let old = c.content.inside in
    subst (λ m. IsHeld (record { items = m; prepares = c.in_ok-copy.field-0; manifest = c.in_ok-copy-2.field-0; greatest_cas = old.greatest_cas; length = old.length })) (sym c.new.ensures)
    (emptied_held (record { items = old.items; prepares = old.prepares; manifest = old.manifest; greatest_cas = old.greatest_cas; length = old.length }) c.in_ok-copy.field-0 c.in_ok-copy-2.field-0 c.content.invariant c.in_ok-copy.ensures c.in_ok-copy-2.ensures)
