use Rattle.kv_script.proofs.Reread.{marked, no_comment}
use Rattle.kv_script.proofs.reading.read_line.Goals as goal

pub returns-then-is_comment-clause-line : goal.returns-then-is_comment-clause-line
returns-then-is_comment-clause-line c = marked c.args.line.now (c.is_comment.ensures.0 c.if-is_comment.true)

pub returns-else-is_comment-clause-bad : goal.returns-else-is_comment-clause-bad
returns-else-is_comment-clause-bad c =
    no_comment c.spelled.result c.args.line.now (λ e. let yes = c.is_comment.ensures.1 e in cc (yes, c.if-is_comment.false)) c.spelled.ensures
