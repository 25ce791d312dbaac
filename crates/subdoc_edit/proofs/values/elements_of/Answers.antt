use Rattle.std.proofs.Common.{arith}
use Rattle.json_model.specs.declared.kinds.Kind.TheVariants as kinds
use Rattle.json_spell.specs.declared.node.Node.{Node}
use Rattle.subdoc_edit.proofs.GivenParts.{elements_read, elements_none}
use Rattle.subdoc_edit.proofs.values.elements_of.Goals as goal

-- what stands for a node where there is none
abbrev none : Node
none = record { kind = kinds.Object; from = 0; to = 0; key_from = 0; key_to = 0; children = 0; after = 0 }

pub returns-in-empty-inner : goal.returns-in-empty-inner
returns-in-empty-inner c = elements_none c.args.value.now c.args.nodes.now none c.requires c.in-len1-up.len_at_least (omega (arith, c.in-empty-inner.len_below))

pub overflow_sub-result : goal.overflow_sub-result
overflow_sub-result c =
    (elements_read c.args.value.now c.args.nodes.now c.pass-parts.result.rest.now none c.pass-parts.result.depth c.pass-parts.result.end c.requires c.in-len1-up.len_at_least c.in-len1-up-inner.len_at_least c.pass-parts.ensures.passed).some_before

pub overflow_sub-result-2 : goal.overflow_sub-result-2
overflow_sub-result-2 c =
    (elements_read c.args.value.now c.args.nodes.now c.pass-parts.result.rest.now none c.pass-parts.result.depth c.pass-parts.result.end c.requires c.in-len1-up.len_at_least c.in-len1-up-inner.len_at_least c.pass-parts.ensures.passed).some_end

pub returns : goal.returns
returns c =
    let e = elements_read c.args.value.now c.args.nodes.now c.pass-parts.result.rest.now none c.pass-parts.result.depth c.pass-parts.result.end c.requires c.in-len1-up.len_at_least c.in-len1-up-inner.len_at_least c.pass-parts.ensures.passed in
    (e.parts, e.are, e.gives)
