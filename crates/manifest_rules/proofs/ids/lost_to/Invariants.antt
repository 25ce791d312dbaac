use Rattle.std.proofs.Common.{◌≡◌, take}
use Rattle.manifest_rules.specs.Rules.{lost}
use Rattle.manifest_rules.proofs.ids.lost_to.Given as goal

abbrev pub invariant-loop-id : goal.invariant-loop-id
invariant-loop-id l = l.found.items ≡ lost (take l.id-index l.ids) l.others
