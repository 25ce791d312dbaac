use Rattle.std.specs.Prelude.{map as list_map}
use Rattle.std.proofs.Common.{sym, ◌∙◌}
use Rattle.durability_core.specs.Tracking.{is_ready_by}
use Rattle.durability_core.specs.Reaches.{known_of}
use Rattle.durability_core.proofs.Committed.{first_is_ready, first_is_not}
use Rattle.durability_core.proofs.tracking.ready_position.Goals as goal

pub returns-in-Some : goal.returns-in-Some
returns-in-Some c =
    first_is_ready (is_ready_by c.args.chain.now c.args.own (list_map known_of c.args.known.now))
    c.args.waiting.now c.in-Some.first.now c.in-Some.ensures
    (sym c.is_ready.ensures ∙ c.if-is_ready.true)

pub returns-in_default : goal.returns-in_default
returns-in_default c =
    first_is_not (is_ready_by c.args.chain.now c.args.own (list_map known_of c.args.known.now))
    c.args.waiting.now c.in-Some.first.now c.in-Some.ensures
    (sym c.is_ready.ensures ∙ c.if-is_ready.false)
