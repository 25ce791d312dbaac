use Rattle.std.specs.Prelude.{true}
use Rattle.std.proofs.Common.{sym, subst}
use Rattle.copy_memory.specs.Moving.{GoesOn}
use Rattle.copy_memory.specs.Remembers.{Remembers}
use Rattle.copy_memory.specs.contracts.memory.Memory.{the_view}
use Rattle.copy_memory.proofs.Moves.{taken_memory}
use Rattle.copy_memory.proofs.memory.Memory.take.Goals as goal

pub returns-clause-ok : goal.returns-clause-ok
returns-clause-ok c = λ copy r passive disk.
    c.acknowledge_reserved.ensures (record copy { log = c.args.content; accepted = c.args.term; whole = true; anew = true })
    (taken_memory (the_view c.self.inside) copy c.args.term c.args.content _ _ _ c.length-self-inside.ensures c.reserve.ensures.items passive
    (subst (λ m. GoesOn m c.args.term c.args.content) (sym c.self.view_is) c.requires.on)
    (subst (λ m. Remembers m copy) (sym c.self.view_is) r)) disk
