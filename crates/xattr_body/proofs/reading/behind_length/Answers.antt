use Rattle.xattr_body.proofs.Sections.{none_behind}
use Rattle.xattr_body.proofs.reading.behind_length.Goals as goal

pub returns-in-None : goal.returns-in-None
returns-in-None c = none_behind c.args.bytes.now c.in-None.ensures
