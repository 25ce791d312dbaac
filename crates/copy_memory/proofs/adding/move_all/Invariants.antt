use Rattle.std.proofs.Common.{◌≡◌, ◌++◌, ◌+◌, ◌≤◌, length}
use Rattle.std.specs.VecDeque.{deque_capacity, deque_len}
use Rattle.copy_memory.proofs.adding.move_all.Given as goal

abbrev pub invariant-loop-sent : goal.invariant-loop-sent
invariant-loop-sent l = record {
  messages : l.unspoken.items ++ l.told.items ≡ l.initial.unspoken.items ++ l.initial.told.items;
  room : deque_capacity l.unspoken ≡ deque_capacity l.initial.unspoken;
  enough : deque_len l.unspoken + length l.told.items ≤ deque_capacity l.unspoken;
}

abbrev pub decreases-loop-sent : goal.decreases-loop-sent
decreases-loop-sent l = length l.told.items
