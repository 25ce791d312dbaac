use Rattle.std.specs.Prelude.{true}
use Rattle.std.proofs.Common.{sym, subst}
use Rattle.copy_memory.specs.Remembers.{Remembers}
use Rattle.copy_memory.specs.contracts.memory.Memory.{the_view}
use Rattle.copy_memory.proofs.Moves.{whole_memory}
use Rattle.copy_memory.proofs.memory.Memory.make_whole.Goals as goal

pub returns-clause-ok : goal.returns-clause-ok
returns-clause-ok c = λ copy r passive disk.
    c.acknowledge_reserved.ensures (record copy { whole = true })
    (whole_memory (the_view c.self.inside) copy _ _ c.reserve.ensures.items passive (subst (λ m. Remembers m copy) (sym c.self.view_is) r)) disk
