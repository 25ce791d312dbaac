use Rattle.std.specs.Option.{option_copied}
use Rattle.std.proofs.Common.{sym, subst}
use Rattle.vb_core.specs.Making.{Covers}
use Rattle.vb_core.specs.Shown.{ShownVb}
use Rattle.vb_core.proofs.Lasting.{fit_grown}
use Rattle.vb_core.proofs.vbucket.Vb.add_now.Goals as goal

pub invariant_of-self-2 : goal.invariant_of-self-2
invariant_of-self-2 g c =
    let old = c.self.inside in
    let key = option_copied c.args.key in
    let dropped = c.args.dropped.now in
    fit_grown old.store.meta old.core old.recent c.add_within.new.content old.seen
    c.length-self-inside.result c.args.entry key dropped
    c.self.invariant c.requires.entry
    (subst (λ (v : ShownVb g.row.D.Denot). Covers v.recent.manifest c.args.entry key dropped) (sym c.self.view_is) c.requires.covers)
    c.in_ok-add_within.ensures.room c.length-self-inside.ensures c.in_ok-add_within.ensures.ok
