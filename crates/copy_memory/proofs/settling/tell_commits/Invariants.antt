use Rattle.std.proofs.Common.{◌≡◌, ◌++◌, ◌+◌, ◌*◌, take, length}
use Rattle.std.specs.VecDeque.{deque_capacity, deque_len}
use Rattle.copy_memory.specs.Sending.{commits_to_each}
use Rattle.copy_memory.proofs.settling.tell_commits.Given as goal

-- the messages of each Commit so far are there
abbrev pub invariant-loop-prepare : goal.invariant-loop-prepare
invariant-loop-prepare l = record {
  messages : l.unspoken.items ≡ l.fn.unspoken.items ++ commits_to_each l.from.0 l.from.1 l.from.2 l.others l.behind (take l.prepare-index l.settled);
  position : l.position ≡ l.behind + l.prepare-index;
  len : deque_len l.unspoken ≡ deque_len l.fn.unspoken + l.prepare-index * length l.others;
  room : deque_capacity l.unspoken ≡ deque_capacity l.fn.unspoken;
}
