use Rattle.std.specs.List.{list_any}
use Rattle.std.proofs.Common.{◌≡◌, nat_eq, [], ◌∷◌, ◌++◌, sym, ap, ◌∙◌}
use Rattle.manifest_rules.specs.Catalog.{Catalog, collection_ids}
use Rattle.manifest_rules.specs.Rules.{lost}
use Rattle.magma_store.proofs.Collections.{others, with_default, without_default}
use Rattle.magma_store.proofs.whole.collections_of.Goals as goal
use Rattle.magma_store.proofs.whole.collections_of.Goals.{then-has+in_ok-push, else-has}

pub returns-clause-there : goal.returns-clause-there
returns-clause-there c = λ id.
    let m = c.args.manifest.now in
    let ids_are : c.in_ok-ids.ids ≡ others m =
    c.in_ok-ids.ensures ∙ ap (λ (n : Catalog). lost (collection_ids m.scopes) (collection_ids n.scopes)) c.in_ok-initial.ensures in
    c.rising.ensures.same id
    ∙ elim c.if-has.branch [
      | then-has+in_ok-push w ↦ ap (list_any (nat_eq id)) (w.ids-is ∙ w.in_ok-push.ensures.ok ∙ ap (λ l. l ++ 0 ∷ []) ids_are) ∙ with_default m id (sym w.if-has.ensures)
      | else-has w ↦ ap (list_any (nat_eq id)) (w.ids-is ∙ ids_are) ∙ without_default m id (sym w.if-has.ensures)
    ]
