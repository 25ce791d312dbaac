use Rattle.std.proofs.Common.{ℕ, List, ◌+◌, false, map as list_map, refl, sym, ◌∙◌, ap, subst}
use Rattle.std.proofs.lemmas.Result.{IfOk-weaker}
use Rattle.doc_model.specs.declared.document.Item.{Item}
use Rattle.magma_disk.specs.Moments.{Throughout}
use Rattle.magma_store.specs.Layout.{write_size, LaysWrite}
use Rattle.magma_store.specs.Store.{IsOpen, Either, IsBatch, written}
use Rattle.magma_store.proofs.Storings.{based, stays_either}
use Rattle.magma_store.proofs.store.Store.commit.Goals as goal

pub returns-in_err-items-clause-any_moment : goal.returns-in_err-items-clause-any_moment
returns-in_err-items-clause-any_moment g c = λ held manifest is batch.
    let store = c.args.self.now in
    let states = g.D.Disk.states in
    let items = c.args.batch.items in
    (store.layout + write_size c.args.meta.tail items, refl, stays_either held store.spots store.layout (states store.disk) _ (written false manifest items c.args.meta held) _ (based states held store is) refl)

pub returns-clause-any_moment : goal.returns-clause-any_moment
returns-clause-any_moment g c = λ held manifest is batch.
    let store = c.args.self.now in
    let states = g.D.Disk.states in
    let now = states c.write.new.self.disk in
    let same = ap (list_map (λ i. i.now)) c.deref-2.ensures.value ∙ c.in_ok-items.ensures ∙ c.deref.ensures.value in
    subst (λ (l : List Item). (after : ℕ) × LaysWrite store.layout false l c.args.meta after × Throughout (Either held store.layout (written false manifest l c.args.meta held) after) (states store.disk) now) same
    (c.write.ensures.any_moment held manifest is (subst (λ (l : List Item). IsBatch manifest l c.args.meta) (sym same) batch))

pub returns-clause-done : goal.returns-clause-done
returns-clause-done g c =
    let states = g.D.Disk.states in
    let same = ap (list_map (λ i. i.now)) c.deref-2.ensures.value ∙ c.in_ok-items.ensures ∙ c.deref.ensures.value in
    IfOk-weaker c.write.result _ _
    (λ _ done held manifest is batch.
    subst (λ (l : List Item). IsOpen states (written false manifest l c.args.meta held) c.write.new.self) same (done held manifest is (subst (λ (l : List Item). IsBatch manifest l c.args.meta) (sym same) batch)))
    c.write.ensures.done
