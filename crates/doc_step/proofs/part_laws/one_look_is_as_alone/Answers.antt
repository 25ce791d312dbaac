use Rattle.doc_step.proofs.part_laws.one_look_is_as_alone.Goals as goal
use Rattle.doc_step.proofs.Among.{look_among}

-- src/part_laws.rt:97:1
pub returns-clause-found : goal.returns-clause-found
returns-clause-found c = look_among
