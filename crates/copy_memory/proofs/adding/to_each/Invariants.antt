use Rattle.std.proofs.Common.{◌≡◌, take}
use Rattle.std.proofs.Common.{map as list_map}
use Rattle.copy_memory.specs.Sending.{kept_to}
use Rattle.repl_wire.specs.declared.message.Message.TheVariants as messages
use Rattle.copy_memory.proofs.adding.to_each.Given as goal

abbrev pub invariant-loop-to : goal.invariant-loop-to
invariant-loop-to l =
    l.told.items ≡ list_map (kept_to l.from.0 l.from.1 (messages.Entry l.from.2 l.position l.entry)) (take l.to-index l.others)
