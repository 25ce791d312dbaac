use Rattle.std.proofs.Common.{drop}
use Rattle.json_model.specs.declared.TheConstants.{MOST_DEEP}
use Rattle.json_model.specs.Spelled.{Document, IsText}
use Rattle.subdoc_path.proofs.Placing.{Ongoing}
use Rattle.subdoc_path.proofs.leading.follow.Given as goal

abbrev pub invariant-loop-followed : goal.invariant-loop-followed
invariant-loop-followed l = (d : Document) → IsText MOST_DEEP d l.text → Ongoing l.text d l.parts l.followed l.at (drop l.followed l.parts)
