use Rattle.doc_ops.proofs.Answered.{attributes_make}
use Rattle.doc_ops.proofs.edits.edit_attributes.Goals as goal

pub returns : goal.returns
returns c doc v =
    attributes_make c.args.spec.now c.args.doc_flags c.makes_several-several.result doc c.args.section.now c.as_slice-path.result.now c.as_slice.result.now c.edit.result
    c.requires.attributes c.requires.known c.makes_several-several.ensures v c.as_slice-path.ensures c.as_slice.ensures c.edit.ensures
