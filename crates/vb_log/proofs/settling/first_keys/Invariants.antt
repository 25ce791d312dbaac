use Rattle.std.proofs.Common.{◌≡◌, take}
use Rattle.vb_log.specs.Contents.{keys_waiting}
use Rattle.vb_log.proofs.settling.first_keys.Given as goal

-- the keys of the changes so far are copied
abbrev pub invariant-loop-change : goal.invariant-loop-change
invariant-loop-change l = l.keys.items ≡ keys_waiting (take l.change-index l.first)
