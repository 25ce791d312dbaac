use Rattle.std.specs.Option.{option_copied}
use Rattle.std.proofs.Common.{◌≡◌, subst}
use Rattle.vb_core.specs.Covering.{covered_size}
use Rattle.vb_core.specs.Shown.{ShownVb}
use Rattle.vb_core.proofs.Covering.{none_covered}
use Rattle.vb_core.proofs.vbucket.Vb.covered.Goals as goal

pub returns-then-self : goal.returns-then-self
returns-then-self g c =
    let i = c.self.inside in
    let key = option_copied c.args.key in
    subst (λ (v : ShownVb g.row.D.Denot). 0 ≡ covered_size v key c.args.dropped.now) c.self.view_is
    (none_covered i.is_anew i.recent.items i.store.spots key c.args.dropped.now c.if-self.true)
