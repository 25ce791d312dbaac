use Rattle.std.proofs.Common.{sym, subst}
use Rattle.vb_log.specs.Contents.{IsWhole}
use Rattle.vb_core.proofs.Tails.{none_whole}
use Rattle.vb_core.proofs.opening.begin_anew.Goals as goal

pub returns-clause-whole : goal.returns-clause-whole
returns-clause-whole c = subst IsWhole (sym c.in_ok-empty.ensures) none_whole
