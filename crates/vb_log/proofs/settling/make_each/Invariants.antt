use Rattle.std.proofs.Common.{drop}
use Rattle.vb_log.proofs.Commits.{Making}
use Rattle.vb_log.proofs.settling.make_each.Given as goal

-- the changes of the keys so far are made
abbrev pub invariant-loop-key : goal.invariant-loop-key
invariant-loop-key l = Making l.manifest l.fn.items l.fn.waiting.items l.keys l.fn.position l.items l.waiting.items (drop l.key-index l.keys) l.last l.counted
