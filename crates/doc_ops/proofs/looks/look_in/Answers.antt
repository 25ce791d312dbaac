use Rattle.std.proofs.Common.{sym, ◌∙◌}
use Rattle.doc_ops.proofs.Answered.{value_piece}
use Rattle.doc_ops.proofs.looks.look_in.Goals as goal

pub returns-else-is_attribute : goal.returns-else-is_attribute
returns-else-is_attribute c =
    let v = sym c.is_attribute.ensures ∙ c.if-is_attribute.false in
    value_piece c.args.doc.now c.args.spec.now c.args.texts.now c.as_slice-path.result.now c.look_judged.result v
    c.as_slice-path.ensures (c.requires.value v).0 c.look_judged.ensures.found c.look_judged.ensures.refused
