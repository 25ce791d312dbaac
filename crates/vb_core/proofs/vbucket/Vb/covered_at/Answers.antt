use Rattle.std.specs.FinMap as map
use Rattle.std.proofs.Common.{◌≡◌, sym, ◌∙◌, subst, false, true}
use Rattle.magma_store.specs.Spots.{size_at}
use Rattle.vb_core.specs.Means.{uncovered}
use Rattle.vb_core.specs.Shown.{ShownVb}
use Rattle.vb_core.proofs.Beneath.{some_copied}
use Rattle.vb_core.proofs.Covering.{shown_if}
use Rattle.vb_core.proofs.vbucket.Vb.covered_at.Goals as goal

pub returns-then-is_some : goal.returns-then-is_some
returns-then-is_some g c =
    let i = c.self.inside in
    let key = c.args.key.now in
    subst (λ (v : ShownVb g.row.D.Denot). 0 ≡ size_at (map.get (uncovered v.recent.items v.store.spots) key)) c.self.view_is
    (sym (shown_if i.recent.items i.store.spots key true (some_copied c.item.result _ true c.item.ensures (sym c.is_some.ensures ∙ c.if-is_some.true))))

pub returns : goal.returns
returns g c =
    let i = c.self.inside in
    let key = c.args.key.now in
    subst (λ (v : ShownVb g.row.D.Denot). c.weight_at.result ≡ size_at (map.get (uncovered v.recent.items v.store.spots) key)) c.self.view_is
    (c.weight_at.ensures.spot
    ∙ sym (shown_if i.recent.items i.store.spots key false (some_copied c.item.result _ false c.item.ensures (sym c.is_some.ensures ∙ c.if-is_some.false))))
