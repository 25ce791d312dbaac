use Rattle.std.proofs.Common.{arith}
use Rattle.std.proofs.lemmas.Result.{err_from_is_err_and}
use Rattle.kv_script.proofs.Numbers.{number_more, number_stops}
use Rattle.kv_script.proofs.promotions.numbers_at.Goals as goal

pub loop-word-preserved : goal.loop-word-preserved
loop-word-preserved c =
    rw c.in-Ok-push.ensures.items
    (number_more c.args.words.now c.loop-word.numbers.items c.loop-word.word-index _ c.in_ok-number.number (omega arith) c.loop-word.invariant c.in_ok-number.ensures)

pub returns-in_err-number : goal.returns-in_err-number
returns-in_err-number c =
    let p = err_from_is_err_and c.from_residual.result c.from_residual.ensures.1 in
    rw (p.1, p.2) (number_stops c.args.words.now c.loop-word.word-index _ _ (omega arith) c.in_err-number.ensures)
