use Rattle.std.proofs.Common.{◌≡◌, length}
use Rattle.vb_log.proofs.PendingBytes.{PendingRead}
use Rattle.vb_log.proofs.pending.pending_at.Given as goal

abbrev pub invariant-loop : goal.invariant-loop
invariant-loop l = record {
  read : PendingRead l.bounds l.bytes l.count l.prepares l.before l.left;
  counted : length l.prepares ≡ l.counter;
}
