use Rattle.std.proofs.Common.{arith, sym}
use Rattle.xattr_body.proofs.Pairs.{sized_by}
use Rattle.xattr_body.proofs.reading.sized_at.Goals as goal

pub returns-in-Some : goal.returns-in-Some
returns-in-Some c = sized_by (λ x. (x.0.now, x.1.now)) c.args.bytes.now c.in-Some.rest.now c.in-Some.size c.slice_at.result (λ i. omega (arith, c.type_inv.bytes i)) (sym c.in-Some.ensures) c.slice_at.ensures
