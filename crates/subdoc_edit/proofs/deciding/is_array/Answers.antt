use Rattle.subdoc_edit.proofs.Pieces.{standing_within}
use Rattle.subdoc_edit.proofs.Decisions.{array_yes, array_no}
use Rattle.subdoc_edit.proofs.deciding.is_array.Goals as goal

pub kind_at-requires : goal.kind_at-requires
kind_at-requires c = standing_within c.args.text.now c.args.at c.requires

pub returns-in-Array : goal.returns-in-Array
returns-in-Array c t s = array_yes t c.kind_at.result s.fits (c.kind_at.ensures t s) c.in-Array.is

pub returns-in_default : goal.returns-in_default
returns-in_default c t s = array_no t c.kind_at.result (c.kind_at.ensures t s) c.in_default.not-Array
