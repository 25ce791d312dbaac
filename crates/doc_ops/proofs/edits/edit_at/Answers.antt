use Rattle.std.proofs.Common.{refl, [], ◌∷◌}
use Rattle.doc_ops.specs.Planning.{setting_of}
use Rattle.doc_ops.specs.Edits.{drafted}
use Rattle.doc_ops.proofs.Editing.{any_doc}
use Rattle.doc_ops.proofs.Storing.{edit_stored, edit_refused}
use Rattle.doc_ops.proofs.edits.edit_at.Goals as goal

pub returns-in-Err-edit_one : goal.returns-in-Err-edit_one
returns-in-Err-edit_one c =
    let found = c.in-Ok.ensures (c.args.spec.now ∷ []) c.begun_for-text.ensures in
    edit_refused (setting_of c.args.setting) c.args.request.now c.args.spec.now c.args.expiry c.args.doc_flags _ found.0 c.in-Err-edit_one.refused found.1
    (c.in-Err-edit_one.ensures found.0 found.2.value found.2.xattrs)

pub store-requires : goal.store-requires
store-requires c = c.take_made-number.ensures.json tt (c.in-Ok-edit_one.ensures (any_doc c.in-Ok.begun.value.now c.in-Ok.begun.xattrs.now) refl refl).0

pub returns : goal.returns
returns c =
    let found = c.in-Ok.ensures (c.args.spec.now ∷ []) c.begun_for-text.ensures in
    edit_stored (setting_of c.args.setting) c.args.request.now c.args.spec.now c.args.expiry c.args.doc_flags _ found.0 (drafted c.take_made-number.new.draft found.0)
    c.in-Ok-edit_one.made c.take_made-number.result c.in_ok-told.told c.in_ok-store.field-0
    found.1 (c.in-Ok-edit_one.ensures found.0 found.2.value found.2.xattrs).1 (c.take_made-number.ensures.taken found.0) c.take_made-number.ensures.number
    c.in_ok-told.ensures (c.in_ok-store.ensures found.0 found.2)
