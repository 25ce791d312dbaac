use Rattle.leb_collections.proofs.Laws.{prefix_free}
use Rattle.leb_collections.proofs.no_spelling_begins_another.Goals as goal

pub returns : goal.returns
returns c = prefix_free
