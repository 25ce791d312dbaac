use Rattle.std.proofs.Common.{◌≡◌, ◌+◌, ◌-◌, ◌≤◌, length, drop}
use Rattle.magma_store.specs.Counting.{CountsStore}
use Rattle.kv_tool.specs.Outcomes.{Seen}
use Rattle.kv_tool.specs.Progress.{Progress}
use Rattle.kv_tool.proofs.connection.Connection.take_piece.Given as goal

-- the bytes before `at` are fed, and no fault was forgotten
abbrev pub invariant-loop-count : goal.invariant-loop-count
invariant-loop-count g l = record {
  progress : (seen : Seen) → Progress g.D.Disk.states g.D.Disk.counts l.now (record seen { written_now = g.K.Sink.written l.fn.sink }) l.piece l.fn.self
      → Progress g.D.Disk.states g.D.Disk.counts l.now (record seen { written_now = g.K.Sink.written l.sink }) (drop l.at l.piece) l.self;
  within : l.at ≤ length l.piece;
  held : length l.self.session.held ≤ l.self.fed;
  fed : l.self.fed ≡ l.fn.self.fed + l.at;
  counted : g.K.Sink.faults l.fn.sink ≤ g.K.Sink.faults l.sink;
  disk_counted : CountsStore ⊥ (g.D.Disk.counts l.fn.self.vb.store.disk) (g.D.Disk.counts l.self.vb.store.disk);
}

-- what is left of the piece, and what is held
abbrev pub decreases-loop-count : goal.decreases-loop-count
decreases-loop-count g l = length l.piece - l.at + length l.self.session.held
