use Rattle.std.proofs.Common.{◌∙◌}
use Rattle.xattr_body.specs.Pairs.{pairs_in}
use Rattle.xattr_edit.proofs.Steps.{edit_told}
use Rattle.xattr_edit.proofs.editing.edit_object.Goals as goal

pub returns : goal.returns
returns c =
    edit_told c.args.opcode c.path_flags.result c.args.several (pairs_in c.args.section.now) c.as_slice.result.now c.args.path.now c.args.value.now c.edit.result (c.as_slice.ensures ∙ c.in_ok-object.ensures) c.path_flags.ensures
    c.edit.ensures.edited c.edit.ensures.refused
