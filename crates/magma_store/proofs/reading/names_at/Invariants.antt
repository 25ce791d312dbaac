use Rattle.std.proofs.Common.{◌≡◌, length}
use Rattle.magma_store.proofs.Parts.{NamesRead}
use Rattle.magma_store.proofs.reading.names_at.Given as goal

abbrev pub invariant-loop : goal.invariant-loop
invariant-loop l = record {
  read : NamesRead l.count l.bytes l.names l.left;
  counted : length l.names ≡ l.counter;
}
