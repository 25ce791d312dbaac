use Rattle.std.proofs.Common.{◌≡◌, ◌≤◌, ◌-◌, ◌++◌, false, length, take, drop}
use Rattle.kv_request.specs.Multi.{name_spelt}
use Rattle.kv_request.proofs.multi.name_spelt.Given as goal

-- the bytes so far are of the name, and what follows is walked with the backticks counted
abbrev pub invariant-loop-length : goal.invariant-loop-length
invariant-loop-length l = record {
  within : l.length ≤ length l.path;
  spelt : take l.length l.path ++ name_spelt l.quoted (drop l.length l.path) ≡ name_spelt false l.path;
}

abbrev pub decreases-loop-length : goal.decreases-loop-length
decreases-loop-length l = length l.path - l.length
