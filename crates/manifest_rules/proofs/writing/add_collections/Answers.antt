use Rattle.std.proofs.Common.{rules}
use Rattle.manifest_rules.specs.Text.{collection_text}
use Rattle.manifest_rules.proofs.Commas.{one_more}
use Rattle.manifest_rules.proofs.writing.add_collections.Goals as goal

pub loop-at-preserved : goal.loop-at-preserved
loop-at-preserved c =
    one_more collection_text c.args.collections.now c.loop-at.at c.index-collections-at.result c.args.out.now.items c.loop-at.out.items c.add_comma.new.out.items c.add_collection.new.out.items
    c.loop-at-test.true c.index-collections-at.is c.loop-at.invariant c.in_ok-add_comma.ensures (search rules)
