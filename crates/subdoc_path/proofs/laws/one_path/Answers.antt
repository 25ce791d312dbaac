use Rattle.subdoc_path.proofs.Spelling.{one_spelled}
use Rattle.subdoc_path.proofs.laws.one_path.Goals as goal

pub returns : goal.returns
returns c bytes p q a b = one_spelled p q bytes a.spelled b.spelled
