use Rattle.std.proofs.Common.{◌≡◌, length, drop}
use Rattle.manifest_rules.proofs.Faults.{IdsRead}
use Rattle.manifest_rules.proofs.state.read_ids.Given as goal

abbrev pub invariant-loop : goal.invariant-loop
invariant-loop l = record {
  read : IdsRead l.present.items (drop l.start l.bytes) l.count l.ids.items l.left;
  counted : length l.ids.items ≡ l.counter;
}
