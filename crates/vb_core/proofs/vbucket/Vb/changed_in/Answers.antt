use Rattle.std.specs.Prelude.{◌≡◌, ◌+◌, map as list_map, List}
use Rattle.std.specs.FinMap as map
use Rattle.std.proofs.Common.{sym, subst, Bor}
use Rattle.std.proofs.lemmas.Result.{IfOk-weaker}
use Rattle.doc_model.specs.declared.document.Item.{Item}
use Rattle.doc_model.specs.Keys.{is_in}
use Rattle.magma_store.specs.Spots.{spots_size}
use Rattle.vb_log.specs.Flushing.{AreByPosition}
use Rattle.vb_core.specs.Means.{uncovered}
use Rattle.vb_core.specs.Shown.{ShownVb}
use Rattle.vb_core.proofs.Covering.{changed_rest}
use Rattle.vb_core.proofs.vbucket.Vb.changed_in.Goals as goal

pub returns : goal.returns
returns g c =
    let i = c.self.inside in
    let dropped = c.args.dropped.now in
    let by : AreByPosition i.recent.items (list_map (λ (r : Bor Item). r.now) c.as_slice.result.now) =
    subst (λ (l : List (Bor Item)). AreByPosition i.recent.items (list_map (λ (r : Bor Item). r.now) l)) (sym c.as_slice.ensures.value) c.in_ok-items.ensures.items in
    IfOk-weaker c.total_within.result _ _ (λ n is.
    subst (λ (v : ShownVb g.row.D.Denot). spots_size (map.retain_keys (uncovered v.recent.items v.store.spots) (is_in dropped)) + n
    ≡ spots_size (map.retain_keys v.store.spots (is_in dropped))) c.self.view_is
    (changed_rest i.recent.items i.store.spots dropped c.as_slice.result.now n c.in_ok-items.ensures.stand by is))
    c.total_within.ensures
