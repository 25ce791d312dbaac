use Rattle.std.specs.Prelude.{map as list_map}
use Rattle.std.proofs.Common.{sym, ◌∙◌}
use Rattle.durability_core.specs.Tracking.{is_ready_by}
use Rattle.durability_core.specs.Reaches.{known_of}
use Rattle.durability_core.proofs.Committed.{ready_there, none_there}
use Rattle.durability_core.proofs.tracking.is_ready_at.Goals as goal

pub returns-in-Some : goal.returns-in-Some
returns-in-Some c =
    c.is_ready.ensures
    ∙ ready_there (is_ready_by c.args.chain.now c.args.own (list_map known_of c.args.known.now))
    c.args.waiting.now c.args.index c.in-Some.prepare.now (sym c.in-Some.ensures)

pub returns-in-None : goal.returns-in-None
returns-in-None c =
    none_there (is_ready_by c.args.chain.now c.args.own (list_map known_of c.args.known.now))
    c.args.waiting.now c.args.index (sym c.in-None.ensures)
