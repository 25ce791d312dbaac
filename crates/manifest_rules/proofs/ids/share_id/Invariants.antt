use Rattle.std.proofs.Common.{◌≡◌, take, false, nat_eq}
use Rattle.std.specs.List.{list_any}
use Rattle.manifest_rules.proofs.ids.share_id.Given as goal

abbrev pub invariant-loop-id : goal.invariant-loop-id
invariant-loop-id l = list_any (λ id. list_any (nat_eq id) l.others) (take l.id-index l.ids) ≡ false
