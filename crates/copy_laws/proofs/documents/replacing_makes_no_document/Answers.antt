use Rattle.copy_laws.proofs.Lasting.{replace_makes_none}
use Rattle.copy_laws.proofs.documents.replacing_makes_no_document.Goals as goal

pub returns : goal.returns
returns g c = replace_makes_none
