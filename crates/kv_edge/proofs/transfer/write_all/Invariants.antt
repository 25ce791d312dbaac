use Rattle.std.proofs.Common.{length, take, ◌-◌, ◌≤◌}
use Rattle.kv_edge.specs.Edge.{PutAll}
use Rattle.kv_edge.proofs.transfer.write_all.Given as goal

-- the bytes before `at` were written, and no fault was forgotten
abbrev pub invariant-loop-at : goal.invariant-loop-at
invariant-loop-at g l = record {
  within : l.at ≤ length l.piece;
  written : PutAll (g.K.Sink.written l.fn.sink) (g.K.Sink.written l.sink) (take l.at l.piece);
  counted : g.K.Sink.faults l.fn.sink ≤ g.K.Sink.faults l.sink;
}

abbrev pub decreases-loop-at : goal.decreases-loop-at
decreases-loop-at g l = length l.piece - l.at
