use Rattle.std.proofs.Common.{◌++◌, take}
use Rattle.kv_edge.proofs.Known.{took_more}
use Rattle.kv_edge.proofs.transfer.read_all.Goals as goal

pub returns-in-Err-clause-bytes : goal.returns-in-Err-clause-bytes
returns-in-Err-clause-bytes g c =
    (c.loop-buffer.bytes.items ++ take c.in-Got.count c.read.new.buf, took_more _ _ _ _ _ c.loop-buffer.invariant.taken c.in-Got.ensures.bytes)
