use Rattle.std.specs.Prelude.{nat_eq}
use Rattle.std.proofs.Common.{ap, arith}
use Rattle.vb_log.specs.Held.{pending_size, waiting_size}
use Rattle.vb_log.proofs.Prepared.{found_size, others_size}
use Rattle.vb_log.proofs.undecided.Undecided.size_at.Goals as goal

pub size_of-requires : goal.size_of-requires
size_of-requires c =
    let whole = found_size (λ p. nat_eq p.position c.args.of) c.args.self.now in
    let is = ap pending_size c.in-Some.ensures.value in
    let view = ap waiting_size c.self.view_is in
    let size = c.self.invariant.0 in
    omega arith

pub returns-in-Some-clause-others : goal.returns-in-Some-clause-others
returns-in-Some-clause-others c =
    let less = others_size c.args.of c.args.self.now c.in-Some.ensures.rise in
    let is = ap pending_size c.in-Some.ensures.value in
    omega (arith, c.size_of.ensures)

pub returns-in-None-clause-others : goal.returns-in-None-clause-others
returns-in-None-clause-others c =
    let less = others_size c.args.of c.args.self.now c.in-None.ensures.rise in
    let is = ap pending_size c.in-None.ensures.value in
    omega arith
