use Rattle.std.proofs.Common.{List, get_or, sym, ap, ◌∙◌}
use Rattle.json_spell.specs.declared.node.Node.{Node}
use Rattle.subdoc_edit.proofs.GivenTrees.{root_there, leaf_read, leaf_refused}
use Rattle.subdoc_edit.proofs.values.leaf_of.Goals as goal

pub value_span-span-requires : goal.value_span-span-requires
value_span-span-requires c = root_there c.args.value.now c.args.spans.now c.requires

pub returns-then-holds_others : goal.returns-then-holds_others
returns-then-holds_others c =
    leaf_refused c.args.value.now c.args.spans.now c.in-Some.node.now c.requires (c.in-Some.ensures.lookup.1 ∙ ap (λ (l : List Node). get_or l 0 c.in-Some.node.now) c.nodes.ensures)
    (sym c.holds_others.ensures ∙ c.if-holds_others.true)

pub returns : goal.returns
returns c =
    leaf_read c.args.value.now c.args.spans.now c.value_span-span.result c.in-Some.node.now c.requires (c.in-Some.ensures.lookup.1 ∙ ap (λ (l : List Node). get_or l 0 c.in-Some.node.now) c.nodes.ensures)
    c.value_span-span.ensures (sym c.holds_others.ensures ∙ c.if-holds_others.false)
