use Rattle.std.proofs.Common.{◌≡◌, length}
use Rattle.vb_log.proofs.ItemBytes.{ItemsRead}
use Rattle.vb_log.proofs.spelt_items.items_at.Given as goal

abbrev pub invariant-loop : goal.invariant-loop
invariant-loop l = record {
  read : ItemsRead l.manifest l.bounds l.bytes l.count l.items l.left;
  counted : length l.items ≡ l.counter;
}
