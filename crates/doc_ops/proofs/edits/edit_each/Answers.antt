use Rattle.std.proofs.Common.{subst, []}
use Rattle.doc_step.specs.Parts.{edits_from}
use Rattle.doc_ops.specs.declared.edits.Outcome.{Outcome}
use Rattle.doc_ops.specs.Planning.{setting_of}
use Rattle.doc_ops.specs.Edits.{drafted, FoldsTo}
use Rattle.doc_ops.proofs.Storing.{edits_stored, edits_refused}
use Rattle.doc_ops.proofs.edits.edit_each.Goals as goal

pub store-requires : goal.store-requires
store-requires c =
    let found = c.in-Ok.ensures c.args.specs.now c.begun_value-text.ensures in
    (subst (λ (o : Outcome). FoldsTo found.0 (edits_from c.args.doc_flags 0 found.0 [] c.args.specs.now) o) c.in-All.is (c.in_ok-draft.ensures found.0 found.2)).1

pub returns-in_ok-store-in-All : goal.returns-in_ok-store-in-All
returns-in_ok-store-in-All c =
    let found = c.in-Ok.ensures c.args.specs.now c.begun_value-text.ensures in
    let folds = subst (λ (o : Outcome). FoldsTo found.0 (edits_from c.args.doc_flags 0 found.0 [] c.args.specs.now) o) c.in-All.is (c.in_ok-draft.ensures found.0 found.2) in
    edits_stored (setting_of c.args.setting) c.args.request.now c.args.specs.now c.args.expiry c.args.doc_flags _ found.0 (drafted c.in-All.draft found.0) c.in-All.told c.in_ok-store-in-All.field-0
    found.1 folds.0 (c.in_ok-store-in-All.ensures found.0 found.2)

pub returns-in_ok-told-in-RefusedAt : goal.returns-in_ok-told-in-RefusedAt
returns-in_ok-told-in-RefusedAt c =
    let found = c.in-Ok.ensures c.args.specs.now c.begun_value-text.ensures in
    let folds = subst (λ (o : Outcome). FoldsTo found.0 (edits_from c.args.doc_flags 0 found.0 [] c.args.specs.now) o) c.in-RefusedAt.is (c.in_ok-draft.ensures found.0 found.2) in
    edits_refused (setting_of c.args.setting) c.args.request.now c.args.specs.now c.args.expiry c.args.doc_flags _ found.0 c.in-RefusedAt.place c.in-RefusedAt.status c.in_ok-told-in-RefusedAt.told c.part_failed.result
    found.1 folds c.in_ok-told-in-RefusedAt.ensures c.part_failed.ensures
