use Rattle.std.proofs.Common.{arith}
use Rattle.leb_collections.proofs.Writing.{written_more, written}
use Rattle.leb_collections.proofs.Laws.{unique, id_bytes_shortest}
use Rattle.leb_collections.proofs.write_id.Goals as goal

pub loop-rest-preserved : goal.loop-rest-preserved
loop-rest-preserved c =
    rw c.continued.ensures (written_more c.args.id c.args.out.now c.loop-rest.out c.loop-rest.used c.loop-rest.rest (omega arith) (omega arith) c.loop-rest-test.true c.loop-rest.invariant)

pub returns-clause-spelled : goal.returns-clause-spelled
returns-clause-spelled c =
    written c.args.id c.args.out.now c.loop-rest.out c.loop-rest.used c.loop-rest.rest (omega arith) (omega arith) c.loop-rest-test.false c.loop-rest.invariant

pub returns-clause-writes : goal.returns-clause-writes
returns-clause-writes c = unique c.args.id _ _ (returns-clause-spelled c) (id_bytes_shortest c.args.id (omega arith))
