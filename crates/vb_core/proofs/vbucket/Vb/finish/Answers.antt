use Rattle.std.proofs.Common.{ap, subst, ◌∙◌}
use Rattle.magma_disk.specs.Calls.{MayLeave}
use Rattle.vb_core.specs.Shown.{ShownVb, IsFit}
use Rattle.vb_core.proofs.Resting.{copy_leaves, all_leaves}
use Rattle.vb_core.proofs.vbucket.Vb.finish.Goals as goal

pub returns-clause-leaves : goal.returns-clause-leaves
returns-clause-leaves g c = λ copy is image left.
    let V = ShownVb g.row.D.Denot in
    let states = g.D.Disk.states in
    let vb : V = c.args.self in
    let fit : IsFit vb.store.meta vb.core vb.recent vb.seen = subst (λ (v : V). IsFit v.store.meta v.core v.recent v.seen) c.self.view_is c.self.invariant in
    copy_leaves states vb copy fit is image
    (subst (λ (d : g.row.D.Denot). MayLeave (states d) image) (c.finish.ensures ∙ ap (λ (v : V). v.store.disk) c.self.view_is) left)

pub returns-clause-sound : goal.returns-clause-sound
returns-clause-sound g c = λ copy lives all image left.
    let V = ShownVb g.row.D.Denot in
    let states = g.D.Disk.states in
    let vb : V = c.args.self in
    let fit : IsFit vb.store.meta vb.core vb.recent vb.seen = subst (λ (v : V). IsFit v.store.meta v.core v.recent v.seen) c.self.view_is c.self.invariant in
    all_leaves states vb copy fit lives all image
    (subst (λ (d : g.row.D.Denot). MayLeave (states d) image) (c.finish.ensures ∙ ap (λ (v : V). v.store.disk) c.self.view_is) left)
