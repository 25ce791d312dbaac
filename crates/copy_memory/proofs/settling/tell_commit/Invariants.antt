use Rattle.std.proofs.Common.{◌≡◌, ◌++◌, ◌+◌, take}
use Rattle.std.specs.VecDeque.{deque_capacity, deque_len}
use Rattle.vb_log.specs.declared.entry.Entry.TheVariants as Entry
use Rattle.copy_memory.specs.Sending.{entry_to_each}
use Rattle.copy_memory.proofs.settling.tell_commit.Given as goal

-- the message to each place so far is there
abbrev pub invariant-loop-to : goal.invariant-loop-to
invariant-loop-to l = record {
  messages : l.unspoken.items ≡ l.fn.unspoken.items ++ entry_to_each l.from.0 l.from.1 l.from.2 (take l.to-index l.others) l.position (Entry.Commit l.prepare);
  len : deque_len l.unspoken ≡ deque_len l.fn.unspoken + l.to-index;
  room : deque_capacity l.unspoken ≡ deque_capacity l.fn.unspoken;
}
