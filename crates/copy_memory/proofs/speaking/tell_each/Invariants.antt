use Rattle.std.proofs.Common.{◌≡◌, ◌++◌, ◌+◌, take}
use Rattle.std.proofs.Common.{map as list_map}
use Rattle.std.specs.VecDeque.{deque_capacity, deque_len}
use Rattle.copy_memory.specs.Sending.{kept_to}
use Rattle.repl_wire.specs.declared.message.Message.TheVariants as Message
use Rattle.copy_memory.proofs.speaking.tell_each.Given as goal

abbrev pub invariant-loop-to : goal.invariant-loop-to
invariant-loop-to l = record {
  messages : l.unspoken.items ≡ l.initial.unspoken.items ++ list_map (kept_to l.from.0 l.from.1 (Message.Ack l.told.0 l.told.1 l.told.2)) (take l.to-index l.others);
  room : deque_capacity l.unspoken ≡ deque_capacity l.initial.unspoken;
  many : deque_len l.unspoken ≡ deque_len l.initial.unspoken + l.to-index;
}
