use Rattle.std.proofs.Common.{arith, ◌∙◌, sym}
use Rattle.std.proofs.lemmas.Bool.Decides.{nat_tests}
use Rattle.doc_ops.proofs.Counting.{read_more, read_no_more, read_whole}
use Rattle.doc_ops.proofs.counter.number_of.Goals as goal

pub returns-in_err-number : goal.returns-in_err-number
returns-in_err-number c =
    c.from_residual.ensures ∙ sym (read_no_more c.args.text.now c.loop-byte.byte-index c.loop-byte.number (omega arith) c.loop-byte.invariant c.in_err-number.ensures)

pub loop-byte-preserved : goal.loop-byte-preserved
loop-byte-preserved c = read_more c.args.text.now c.loop-byte.byte-index c.loop-byte.number c.in_ok-number.number (omega arith) c.loop-byte.invariant c.in_ok-number.ensures

pub returns : goal.returns
returns c = sym (read_whole c.args.text.now c.loop-byte.byte-index c.loop-byte.number (grind (arith, nat_tests, c.if-is_empty.ensures)) (omega arith) (omega arith) c.loop-byte.invariant)
