use Rattle.std.proofs.Common.{arith}
use Rattle.manifest_rules.proofs.Rising.{merged_all}
use Rattle.manifest_rules.proofs.ids.merged.Goals as goal

pub returns : goal.returns
returns c = merged_all c.args.ids.now c.args.others.now c.loop-id.left.now c.loop-id.all.items c.extend_from_slice.new.self.items c.loop-id.id-index c.loop-id.invariant (omega arith) c.in_ok-extend_from_slice.ensures.items
