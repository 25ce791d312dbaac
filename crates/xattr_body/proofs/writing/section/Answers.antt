use Rattle.std.proofs.Common.{List, length, ◌<◌, ◌^◌, sym, subst}
use Rattle.xattr_body.specs.Section.{Pair, pairs_bytes}
use Rattle.xattr_body.proofs.Sections.{section_long}
use Rattle.xattr_body.proofs.writing.section.Goals as goal

pub spelled-requires : goal.spelled-requires
spelled-requires c = subst (λ (l : List Pair). length (pairs_bytes l) < 2 ^ 32) (sym c.pairs.ensures) (section_long c.args.xattrs.now c.requires)
