use Rattle.std.specs.Prelude.{None}
use Rattle.std.proofs.Common.{sym, ◌∙◌}
use Rattle.durability_core.proofs.Counts.{named_read, named_past}
use Rattle.durability_core.proofs.chain.Chain.is_named.Goals as goal

pub returns-in-Some : goal.returns-in-Some
returns-in-Some c =
    let read = c.in-Some.ensures.lookup.3.1 None in
    let names = c.as_slice.ensures in
    c.is_some.ensures
    ∙ named_read c.args.place c.args.self.now.names c.in-Some.name.now (rw names at read)

pub returns-in-None : goal.returns-in-None
returns-in-None c =
    let past = c.in-None.ensures.lookup.3 in
    let names = c.as_slice.ensures in
    sym (named_past c.args.place c.args.self.now.names (rw names at past))
