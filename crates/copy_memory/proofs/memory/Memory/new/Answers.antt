use Rattle.copy_memory.proofs.Begun.{begins_memory}
use Rattle.copy_memory.proofs.memory.Memory.new.Goals as goal

pub returns : goal.returns
returns c = λ copy begins. begins_memory c.args.core c.args.number c.args.content c.new.result _ _ copy c.new.ensures c.new-2.ensures.items c.requires.passive begins
