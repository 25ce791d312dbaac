use Rattle.kv_script.proofs.Same.{line_feeds_are_in_comments}
use Rattle.kv_script.proofs.laws.line_feeds_are_in_comments.Goals as goal

pub returns : goal.returns
returns c = line_feeds_are_in_comments
