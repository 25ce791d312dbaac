use Rattle.xattr_body.proofs.Sections.{section_long}
use Rattle.xattr_body.proofs.laws.size_fits.Goals as goal

pub returns : goal.returns
returns c = section_long
