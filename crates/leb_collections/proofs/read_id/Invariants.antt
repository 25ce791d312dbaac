use Rattle.leb_collections.proofs.Reading.{IsReadTo}
use Rattle.leb_collections.proofs.read_id.Given as goal

abbrev pub invariant-loop-place : goal.invariant-loop-place
invariant-loop-place l = IsReadTo l.bytes l.place l.id
