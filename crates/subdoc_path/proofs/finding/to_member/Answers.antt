use Rattle.std.proofs.Common.{◌≡◌, rules}
use Rattle.json_model.specs.declared.kinds.Kind.TheVariants as kinds
use Rattle.json_model.specs.declared.asked.Part.TheVariants.{Member}
use Rattle.subdoc_path.proofs.Following.{described, no_parts, inside, part_none, member_found}
use Rattle.subdoc_path.proofs.finding.to_member.Goals as goal

pub returns-then-node-eq0 : goal.returns-then-node-eq0
returns-then-node-eq0 c place key t s f =
    let d = described c.args.text.now c.args.nodes.now place c.args.at key t c.in-Some.node.now s c.in-Some.ensures.lookup.1 in
    let k : c.in-Some.node.now.kind ≡ kinds.Object = search rules in
    no_parts (Member c.args.name.now) c.in-Some.node.now c.args.at t f d k c.if-node-eq0.true

pub member-requires : goal.member-requires
member-requires c =
    let r = c.requires in
    let d = described c.args.text.now c.args.nodes.now r.0 c.args.at r.1 r.2 c.in-Some.node.now r.3 c.in-Some.ensures.lookup.1 in
    let k : c.in-Some.node.now.kind ≡ kinds.Object = search rules in
    let i = inside (Member c.args.name.now) c.args.text.now c.args.nodes.now r.0 c.args.at r.1 r.2 c.in-Some.node.now r.3 r.4 d k c.if-node-eq0.false in
    (i.at, i.parts, i.stands, i.after_is)

pub returns-in-Some-member : goal.returns-in-Some-member
returns-in-Some-member c place key t s f =
    let d = described c.args.text.now c.args.nodes.now place c.args.at key t c.in-Some.node.now s c.in-Some.ensures.lookup.1 in
    let k : c.in-Some.node.now.kind ≡ kinds.Object = search rules in
    let i = inside (Member c.args.name.now) c.args.text.now c.args.nodes.now place c.args.at key t c.in-Some.node.now s f d k c.if-node-eq0.false in
    member_found c.args.name.now c.args.text.now c.args.nodes.now c.args.at c.in-Some.node.now t i c.in-Some-member.next (c.in-Some-member.ensures i.at i.parts i.stands i.after_is)

pub returns-in-None-member : goal.returns-in-None-member
returns-in-None-member c place key t s f =
    let d = described c.args.text.now c.args.nodes.now place c.args.at key t c.in-Some.node.now s c.in-Some.ensures.lookup.1 in
    let k : c.in-Some.node.now.kind ≡ kinds.Object = search rules in
    let i = inside (Member c.args.name.now) c.args.text.now c.args.nodes.now place c.args.at key t c.in-Some.node.now s f d k c.if-node-eq0.false in
    part_none (Member c.args.name.now) c.args.text.now c.args.nodes.now c.args.at c.in-Some.node.now t i (c.in-None-member.ensures i.at i.parts i.stands i.after_is)
