use Rattle.std.proofs.Common.{◌+◌, ◌∙◌, ap, subst, sym}
use Rattle.std.specs.FinMap as map
use Rattle.vb_log.specs.Adding.{HasRoom, with_change}
use Rattle.vb_log.specs.Content.{is_free, item_made}
use Rattle.vb_log.proofs.Holding.{change_held}
use Rattle.vb_log.proofs.adding.add_change.Goals as goal

pub invariant_of-content-2 : goal.invariant_of-content-2
invariant_of-content-2 c =
    let old = c.content.inside in
    let key = c.args.key in
    change_held (record { items = old.items; prepares = old.prepares; manifest = old.manifest; greatest_cas = old.greatest_cas; length = old.length }) c.put.new.self key c.args.what c.max-content-inside.result c.content.invariant
    (subst (λ d. HasRoom (is_free d key) d (with_change d key c.args.what)) (sym c.content.view_is) c.requires.room)
    (ap (λ d. is_free d key) c.content.view_is ∙ sym c.is_free.ensures ∙ c.if-not-is_free.false)
    (c.in_ok-put.ensures.ok ∙ ap (λ i. map.insert old.items key i) (c.item_made-item.ensures ∙ ap (λ k. item_made (old.length + 1) k c.args.what) c.in_ok-own.ensures))
