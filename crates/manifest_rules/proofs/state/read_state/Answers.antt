use Rattle.std.proofs.Common.{◌≡◌, ◌+◌, ◌≤◌, length, drop, sym, ap, ap₂, ◌∙◌, subst, arith}
use Rattle.std.proofs.lemmas.Result.{err_from_is_err_and}
use Rattle.manifest_rules.specs.Catalog.{scope_ids, collection_ids}
use Rattle.manifest_rules.specs.State.{IdsAt, IsAt}
use Rattle.manifest_rules.proofs.States.{with_gone, state_found}
use Rattle.manifest_rules.proofs.Faults.{text_fault, scopes_fault, collections_fault, text_within, ids_within}
use Rattle.manifest_rules.proofs.state.read_state.Goals as goal

pub returns-in_err-manifest-clause-none : goal.returns-in_err-manifest-clause-none
returns-in_err-manifest-clause-none c =
    let p = err_from_is_err_and c.from_residual.result c.from_residual.ensures.1 in
    rw (p.1, p.2) (text_fault c.args.bytes.now c.in_err-manifest.field-0.0 c.in_err-manifest.ensures.breaks)

pub returns-in_err-gone_scopes-clause-none : goal.returns-in_err-gone_scopes-clause-none
returns-in_err-gone_scopes-clause-none c =
    let bytes = c.args.bytes.now in
    let m = c.in_ok-manifest.manifest in
    let text = c.in_ok-manifest.text in
    let present : c.as_slice.result.now ≡ scope_ids m.scopes = c.as_slice.ensures.value ∙ c.in_ok-ids.ensures.of_scopes ∙ ap scope_ids c.scopes.ensures in
    let p = err_from_is_err_and c.from_residual-in_err-gone_scopes.result c.from_residual-in_err-gone_scopes.ensures.1 in
    rw (p.1, p.2) (scopes_fault bytes c.as_slice.result.now m text c.in_err-gone_scopes.field-0.0 c.in_ok-manifest.ensures.found.0 present c.in_err-gone_scopes.ensures.breaks)

pub returns-in_err-gone-clause-none : goal.returns-in_err-gone-clause-none
returns-in_err-gone-clause-none c =
    let bytes = c.args.bytes.now in
    let m = c.in_ok-manifest.manifest in
    let text = c.in_ok-manifest.text in
    let gone = c.in_ok-gone_scopes.gone_scopes.items in
    let size = c.in_ok-gone_scopes.size in
    let present : c.as_slice.result.now ≡ scope_ids m.scopes = c.as_slice.ensures.value ∙ c.in_ok-ids.ensures.of_scopes ∙ ap scope_ids c.scopes.ensures in
    let also : c.as_slice-2.result.now ≡ collection_ids m.scopes = c.as_slice-2.ensures.value ∙ c.in_ok-ids.ensures.of_collections ∙ ap collection_ids c.scopes.ensures in
    let ids : IdsAt (scope_ids m.scopes) (drop text bytes) gone size = subst (λ l. IdsAt l (drop text bytes) gone size) present c.in_ok-gone_scopes.ensures.found in
    let p = err_from_is_err_and c.from_residual-in_err-gone.result c.from_residual-in_err-gone.ensures.1 in
    rw (p.1, p.2) (collections_fault bytes c.as_slice-2.result.now gone m text size c.in_err-gone.field-0.0 c.in_ok-manifest.ensures.found.0 ids also c.in_err-gone.ensures.breaks)

pub overflow_add-result-2 : goal.overflow_add-result-2
overflow_add-result-2 c =
    let bytes = c.args.bytes.now in
    let text = c.in_ok-manifest.text in
    let size = c.in_ok-gone_scopes.size in
    let first : text ≤ length bytes = text_within bytes c.in_ok-manifest.manifest text c.in_ok-manifest.ensures.found.0 in
    let second : text + size ≤ length bytes = ids_within c.as_slice.result.now bytes c.in_ok-gone_scopes.gone_scopes.items text size first c.in_ok-gone_scopes.ensures.found in
    let third : text + size + c.in_ok-gone.last ≤ length bytes = ids_within c.as_slice-2.result.now bytes c.in_ok-gone.gone.items (text + size) c.in_ok-gone.last second c.in_ok-gone.ensures.found in
    omega arith

pub returns-clause-found : goal.returns-clause-found
returns-clause-found c =
    let bytes = c.args.bytes.now in
    let m = c.in_ok-manifest.manifest in
    let text = c.in_ok-manifest.text in
    let gone = c.in_ok-gone_scopes.gone_scopes.items in
    let size = c.in_ok-gone_scopes.size in
    let more = c.in_ok-gone.gone.items in
    let last = c.in_ok-gone.last in
    let present : c.as_slice.result.now ≡ scope_ids m.scopes = c.as_slice.ensures.value ∙ c.in_ok-ids.ensures.of_scopes ∙ ap scope_ids c.scopes.ensures in
    let also : c.as_slice-2.result.now ≡ collection_ids m.scopes = c.as_slice-2.ensures.value ∙ c.in_ok-ids.ensures.of_collections ∙ ap collection_ids c.scopes.ensures in
    let ids : IdsAt (scope_ids m.scopes) (drop text bytes) gone size = subst (λ l. IdsAt l (drop text bytes) gone size) present c.in_ok-gone_scopes.ensures.found in
    let others : IdsAt (collection_ids m.scopes) (drop (text + size) bytes) more last = subst (λ l. IdsAt l (drop (text + size) bytes) more last) also c.in_ok-gone.ensures.found in
    let made : c.with_dropped-manifest.result ≡ with_gone m gone more = c.with_dropped-manifest.ensures ∙ ap₂ (λ x y. with_gone m x y) c.from_vec.ensures c.from_vec-2.ensures in
    subst (λ k. IsAt bytes k (text + size + last)) (sym made) (state_found bytes m text size last gone more c.in_ok-manifest.ensures.found.0 ids others)
