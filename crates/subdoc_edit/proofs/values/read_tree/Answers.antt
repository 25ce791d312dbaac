use Rattle.std.proofs.Common.{List, subst}
use Rattle.json_spell.specs.declared.node.Node.{Node}
use Rattle.subdoc_edit.specs.GivenDepths.{IsDepth}
use Rattle.subdoc_edit.proofs.GivenTrees.{root_there, tree_read, tree_deep}
use Rattle.subdoc_edit.proofs.values.read_tree.Goals as goal

pub value_span-span-requires : goal.value_span-span-requires
value_span-span-requires c = root_there c.args.value.now c.in-Json.spans c.in-Json.ensures.answer

pub returns-in-Json : goal.returns-in-Json
returns-in-Json c =
    let deep : IsDepth c.in-Json.spans c.depth_of-depth.result.0 c.depth_of-depth.result.1.now =
    subst (λ (l : List Node). IsDepth l c.depth_of-depth.result.0 c.depth_of-depth.result.1.now) c.nodes.ensures c.depth_of-depth.ensures.depth in
    tree_read c.args.value.now c.in-Json.spans c.depth_of-depth.result.1.now c.value_span-span.result c.depth_of-depth.result.0 c.in-Json.ensures.answer c.value_span-span.ensures deep

pub returns-in-Deep : goal.returns-in-Deep
returns-in-Deep c = tree_deep c.args.value.now c.in-Deep.field-0 c.in-Deep.ensures.answer
