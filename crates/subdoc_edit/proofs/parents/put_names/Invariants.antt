use Rattle.std.proofs.Common.{take}
use Rattle.subdoc_edit.proofs.ParentsNames.{Named}
use Rattle.subdoc_edit.proofs.parents.put_names.Given as goal

abbrev pub invariant-loop-part : goal.invariant-loop-part
invariant-loop-part l = Named (take l.part-index l.parts) l.fn.out.items l.out.items
