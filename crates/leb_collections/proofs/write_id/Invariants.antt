use Rattle.leb_collections.proofs.Writing.{IsWrittenTo}
use Rattle.leb_collections.proofs.write_id.Given as goal

abbrev pub invariant-loop-rest : goal.invariant-loop-rest
invariant-loop-rest l = IsWrittenTo l.id l.fn.out l.out l.used l.rest

abbrev pub decreases-loop-rest : goal.decreases-loop-rest
decreases-loop-rest l = l.rest
