use Rattle.durability_core.proofs.Reached.{raised_there}
use Rattle.durability_core.proofs.places.raise.Goals as goal

pub returns-then-place-known : goal.returns-then-place-known
returns-then-place-known c =
    raised_there c.args.known.now c.args.place c.args.mem c.args.disk
    (record { mem = c.max.result; disk = c.max-then-place-known.result })
    c.max.ensures c.max-then-place-known.ensures
