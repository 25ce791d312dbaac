use Rattle.std.proofs.Common.{◌≡◌, IsTrue, List, ℕ, sym, ◌∙◌, ap, subst}
use Rattle.manifest_rules.specs.State.{are_rising}
use Rattle.std.specs.FinMap as map
use Rattle.std.proofs.lemmas.Result.{IfOk-weaker}
use Rattle.doc_model.specs.Keys.{is_in}
use Rattle.magma_store.specs.Spots.{with_spots}
use Rattle.magma_store.specs.Taking.{spots_left}
use Rattle.magma_store.proofs.loading.take_places.Goals as goal
use Rattle.magma_store.proofs.loading.take_places.Goals.{then-is_anew, else-is_anew}

pub remove_collections-requires : goal.remove_collections-requires
remove_collections-requires c = subst (λ (ids : List ℕ). IsTrue (are_rising ids)) (sym c.deref.ensures.value) c.in_ok-dropped.ensures.rise

pub returns : goal.returns
returns c =
    let dropped = c.in_ok-dropped.dropped.items in
    let left : c.if-is_anew.spots ≡ spots_left c.args.is_anew dropped c.args.spots.now = elim c.if-is_anew.branch [
      | then-is_anew w ↦ w.spots-is ∙ w.new.ensures ∙ ap (λ b. spots_left b dropped c.args.spots.now) (sym w.if-is_anew.true)
      | else-is_anew w ↦
          w.spots-is ∙ w.remove_collections.ensures ∙ ap (λ (l : List ℕ). map.retain_keys c.args.spots.now (λ key. Rattle.std.specs.Prelude.not (is_in l key))) w.deref.ensures.value
          ∙ ap (λ b. spots_left b dropped c.args.spots.now) (sym w.if-is_anew.false)
    ] in
    IfOk-weaker c.insert_all.result _ _ (λ _ e. (dropped, c.in_ok-dropped.ensures.dropped, e ∙ ap (λ s. with_spots s c.args.places.now) left)) c.insert_all.ensures
