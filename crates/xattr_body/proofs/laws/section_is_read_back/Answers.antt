use Rattle.xattr_body.proofs.Fronts.{read_back, its_pairs}
use Rattle.xattr_body.proofs.Sections.{one_list}
use Rattle.xattr_body.proofs.laws.section_is_read_back.Goals as goal

pub returns-clause-read : goal.returns-clause-read
returns-clause-read c = read_back

pub returns-clause-its_pairs : goal.returns-clause-its_pairs
returns-clause-its_pairs c = its_pairs

pub returns-clause-one_list : goal.returns-clause-one_list
returns-clause-one_list c = one_list
