use Rattle.std.proofs.Common.{◌≡◌, ◌-◌, ◌<◌, rules, arith}
use Rattle.json_model.specs.declared.kinds.Kind.TheVariants as kinds
use Rattle.json_model.specs.declared.kinds.Shape.TheVariants as shapes
use Rattle.json_model.specs.declared.asked.Part.TheVariants.{Last}
use Rattle.json_model.specs.Spelled.{count}
use Rattle.subdoc_path.proofs.Following.{described, no_parts, inside, element_found}
use Rattle.subdoc_path.proofs.finding.to_last.Goals as goal

pub returns-then-node-eq0 : goal.returns-then-node-eq0
returns-then-node-eq0 c place key t s f =
    let d = described c.args.text.now c.args.nodes.now place c.args.at key t c.in-Some.node.now s c.in-Some.ensures.lookup.1 in
    let k : c.in-Some.node.now.kind ≡ kinds.Array = search rules in
    no_parts Last c.in-Some.node.now c.args.at t f d k c.if-node-eq0.true

pub element-requires : goal.element-requires
element-requires c =
    let r = c.requires in
    let d = described c.args.text.now c.args.nodes.now r.0 c.args.at r.1 r.2 c.in-Some.node.now r.3 c.in-Some.ensures.lookup.1 in
    let k : c.in-Some.node.now.kind ≡ kinds.Array = search rules in
    let i = inside Last c.args.text.now c.args.nodes.now r.0 c.args.at r.1 r.2 c.in-Some.node.now r.3 r.4 d k c.if-node-eq0.false in
    let less : c.in-Some.node.now.children - 1 < count i.parts = omega (arith, i.count_is) in
    (c.args.text.now, i.at, shapes.Array, i.parts, i.stands, less)

pub returns : goal.returns
returns c place key t s f =
    let d = described c.args.text.now c.args.nodes.now place c.args.at key t c.in-Some.node.now s c.in-Some.ensures.lookup.1 in
    let k : c.in-Some.node.now.kind ≡ kinds.Array = search rules in
    let i = inside Last c.args.text.now c.args.nodes.now place c.args.at key t c.in-Some.node.now s f d k c.if-node-eq0.false in
    let less : c.in-Some.node.now.children - 1 < count i.parts = omega (arith, i.count_is) in
    element_found Last c.args.text.now c.args.nodes.now c.args.at c.in-Some.node.now t i (c.in-Some.node.now.children - 1) c.element.result less (omega (arith, i.count_is)) (c.element.ensures c.args.text.now i.at shapes.Array i.parts i.stands less)
