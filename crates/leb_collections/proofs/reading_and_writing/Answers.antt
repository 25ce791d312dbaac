use Rattle.leb_collections.proofs.Laws.{id_bytes_shortest}
use Rattle.leb_collections.proofs.Functions.{id_at_reads, id_at_told}
use Rattle.leb_collections.proofs.reading_and_writing.Goals as goal

pub returns : goal.returns
returns c = record { reads = id_at_reads; told = id_at_told; writes = id_bytes_shortest }
