use Rattle.std.proofs.Common.{sym, subst}
use Rattle.copy_memory.specs.Remembers.{Remembers}
use Rattle.copy_memory.specs.contracts.memory.Memory.{the_view}
use Rattle.copy_memory.proofs.Moves.{leaves_memory}
use Rattle.copy_memory.proofs.memory.Memory.leave.Goals as goal

pub returns : goal.returns
returns c = λ copy r.
    leaves_memory (the_view c.self.inside) copy c.args.role c.requires (subst (λ m. Remembers m copy) (sym c.self.view_is) r)
