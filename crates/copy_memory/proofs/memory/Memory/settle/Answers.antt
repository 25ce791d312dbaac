use Rattle.std.proofs.Common.{ap}
use Rattle.copy_memory.specs.Shown.{ShownMemory}
use Rattle.copy_memory.proofs.Settles.{ends_own}
use Rattle.copy_memory.proofs.memory.Memory.settle.Goals as goal

pub returns-clause-ok : goal.returns-clause-ok
returns-clause-ok c =
    ends_own c.settle_by.result c.args.self.now c.settle_by.new.self c.self.inside.core.place c.self.inside.core.length c.args.on_disk
    (ap (λ (x : ShownMemory). x.core.place) c.self.view_is) (ap (λ (x : ShownMemory). x.core.length) c.self.view_is)
    c.settle_by.ensures.ok c.settle_by.ensures.rise
