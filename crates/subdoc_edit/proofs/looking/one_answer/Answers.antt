use Rattle.subdoc_edit.proofs.Once.{looks_once}
use Rattle.subdoc_edit.proofs.looking.one_answer.Goals as goal

pub returns : goal.returns
returns c = looks_once
