use Rattle.leb_collections.proofs.Laws.{exists, unique}
use Rattle.leb_collections.proofs.one_spelling.Goals as goal

pub returns : goal.returns
returns c = record { exists = exists; unique = unique }
