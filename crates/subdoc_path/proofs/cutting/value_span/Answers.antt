use Rattle.std.proofs.Common.{◌∙◌, ap, List, arith}
use Rattle.std.proofs.Common.{get_or, length}
use Rattle.json_spell.specs.declared.node.Node.{Node}
use Rattle.subdoc_path.proofs.Trailing.{cut_there, cut_is, one_document}
use Rattle.subdoc_path.proofs.cutting.value_span.Goals as goal

pub returns-in-Some : goal.returns-in-Some
returns-in-Some c d trail t is r i =
    let q = c.requires in
    let e = one_document c.args.text.now c.args.spans.now q.0 d q.3 is q.4 in
    cut_is c.args.text.now c.args.spans.now d trail t c.args.at c.in-Some.node.now is e r i (c.in-Some.ensures.lookup.1 ∙ ap (λ (l : List Node). get_or l c.args.at c.in-Some.node.now) c.nodes.ensures)

pub returns-in-None : goal.returns-in-None
returns-in-None c d trail t is r i =
    let q = c.requires in
    let e = one_document c.args.text.now c.args.spans.now q.0 d q.3 is q.4 in
    absurd (omega (arith, cut_there c.args.text.now c.args.spans.now d trail t c.args.at e r i, c.in-None.ensures.lookup.3, ap (λ (l : List Node). length l) c.nodes.ensures))
