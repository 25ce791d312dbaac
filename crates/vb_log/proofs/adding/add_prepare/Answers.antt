use Rattle.std.proofs.Common.{◌∙◌, ap, subst, sym}
use Rattle.vb_log.specs.Adding.{HasRoom, with_waiting}
use Rattle.vb_log.specs.Content.{is_free}
use Rattle.vb_log.proofs.Holding.{all_before, prepare_held}
use Rattle.vb_log.proofs.adding.add_prepare.Goals as goal

pub push-requires-clause-behind : goal.push-requires-clause-behind
push-requires-clause-behind c = all_before c.content.inside.length c.content.inside.prepares c.content.invariant.within

pub invariant_of-content-2 : goal.invariant_of-content-2
invariant_of-content-2 c =
    let old = c.content.inside in
    let key = c.args.key in
    prepare_held (record { items = old.items; prepares = old.prepares; manifest = old.manifest; greatest_cas = old.greatest_cas; length = old.length }) c.push.new.self key c.args.what c.args.level c.max-content-inside.result c.content.invariant
    (subst (λ d. HasRoom (is_free d key) d (with_waiting d key c.args.what c.args.level)) (sym c.content.view_is) c.requires.room)
    (ap (λ d. is_free d key) c.content.view_is ∙ sym c.is_free.ensures ∙ c.if-not-is_free.false)
    c.in_ok-push.ensures.ok
