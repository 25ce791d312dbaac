use Rattle.std.proofs.Common.{◌∙◌}
use Rattle.doc_ops.proofs.Answered.{value_makes}
use Rattle.doc_ops.proofs.edits.edit_value.Goals as goal

pub returns : goal.returns
returns c doc v =
    value_makes c.args.spec.now c.args.doc_flags c.path_flags-flags.result doc c.args.value.now c.as_slice-path.result.now c.as_slice.result.now c.edit.result
    c.requires.value (c.path_flags-flags.ensures ∙ c.makes_several.ensures) v c.as_slice-path.ensures c.as_slice.ensures c.edit.ensures.edited c.edit.ensures.refused
