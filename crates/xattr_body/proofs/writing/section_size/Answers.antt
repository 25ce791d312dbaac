use Rattle.xattr_body.proofs.Going.{empty_is, not_empty}
use Rattle.xattr_body.proofs.Sections.{size_none, size_some}
use Rattle.xattr_body.proofs.writing.section_size.Goals as goal

pub returns-then-is_empty : goal.returns-then-is_empty
returns-then-is_empty c =
    let pairs = c.pairs-pairs.result.now in
    size_none c.args.xattrs.now pairs c.pairs-pairs.ensures (empty_is pairs c.if-is_empty.ensures)

pub returns : goal.returns
returns c =
    let pairs = c.pairs-pairs.result.now in
    size_some c.args.xattrs.now pairs c.pairs_size.result c.saturating_add.result c.pairs-pairs.ensures (not_empty pairs c.if-is_empty.ensures) c.pairs_size.ensures c.saturating_add.ensures
