use Rattle.std.proofs.Common.{◌≡◌, ◌+◌, take}
use Rattle.copy_memory.specs.Tickets.{standing}
use Rattle.copy_memory.proofs.settling.stand_all.Given as goal

-- the tickets of the prepares so far stand
abbrev pub invariant-loop-prepare : goal.invariant-loop-prepare
invariant-loop-prepare l = record {
  tickets : l.tickets ≡ standing l.term l.behind (take l.prepare-index l.settled) l.fn.tickets;
  position : l.position ≡ l.behind + l.prepare-index;
}
