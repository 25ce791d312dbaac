use Rattle.std.specs.Prelude.{map as list_map}
use Rattle.std.proofs.Common.{sym, ◌∙◌}
use Rattle.durability_core.specs.Tracking.{is_ready_by}
use Rattle.durability_core.specs.Reaches.{known_of}
use Rattle.durability_core.proofs.Committed.{counts_more}
use Rattle.durability_core.proofs.tracking.ready_count.Goals as goal

pub loop-count-preserved : goal.loop-count-preserved
loop-count-preserved c =
    let len = c.len-count-end.ensures in
    counts_more (is_ready_by c.args.chain.now c.args.own (list_map known_of c.args.known.now))
    c.args.waiting.now c.loop-count.count (rw len at c.loop-count-test.true)
    (sym c.is_ready_at.ensures ∙ c.if-not-is_ready_at.false) c.loop-count.invariant
