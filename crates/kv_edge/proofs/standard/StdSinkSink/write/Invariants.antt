use Rattle.std.proofs.Common.{◌≡◌}
use Rattle.std.specs.Io.KnownBytes.{Keeps}
use Rattle.kv_edge.proofs.standard.StdSinkSink.write.Given as goal

-- no call failed, and the writer has what it had
abbrev pub invariant-loop : goal.invariant-loop
invariant-loop g l = (l.self-inside.faults ≡ l.fn.self.faults) × Keeps l.fn.self.known (g.W.Write.contents l.self-inside.writer)
