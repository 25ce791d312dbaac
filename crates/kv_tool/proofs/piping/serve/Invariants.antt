use Rattle.std.proofs.Common.{◌≡◌, ◌-◌, ◌≤◌, length}
use Rattle.magma_store.specs.Counting.{CountsStore}
use Rattle.kv_tool.specs.declared.piping.TheConstants.{INPUT_LIMIT}
use Rattle.kv_tool.specs.Course.{Knowledge, Begins, IsKnown}
use Rattle.kv_tool.specs.Outcomes.{Seen}
use Rattle.kv_tool.proofs.Ending.{Pauses}
use Rattle.kv_tool.proofs.piping.serve.Given as goal

-- all that was taken is fed, all that could be answered is answered, and no fault was forgotten
abbrev pub invariant-loop-buffer : goal.invariant-loop-buffer
invariant-loop-buffer g l = record {
  pauses : (seen : Seen) (begin : Knowledge) → Begins seen.disk_before begin → IsKnown g.D.Disk.states g.D.Disk.counts seen.faults_before l.fn.connection.vb begin
      → Pauses g.D.Disk.states g.D.Disk.counts l.now
      (record seen { left_before = g.S.Source.left l.fn.source; left_now = g.S.Source.left l.source; written_before = g.K.Sink.written l.fn.sink; written_now = g.K.Sink.written l.sink })
      l.connection;
  held : length l.connection.session.held ≤ l.connection.fed;
  fed : l.connection.fed ≤ INPUT_LIMIT;
  size : length l.buffer ≡ 65536;
  reads_counted : g.S.Source.faults l.fn.source ≤ g.S.Source.faults l.source;
  writes_counted : g.K.Sink.faults l.fn.sink ≤ g.K.Sink.faults l.sink;
  disk_counted : CountsStore ⊥ (g.D.Disk.counts l.fn.connection.vb.store.disk) (g.D.Disk.counts l.connection.vb.store.disk);
}

abbrev pub decreases-loop-buffer : goal.decreases-loop-buffer
decreases-loop-buffer g l = INPUT_LIMIT - l.connection.fed
